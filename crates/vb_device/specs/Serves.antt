-- A device serves the next chain of a queue: it takes the chain, and uses it at once (profile).
use Rattle.std.specs.Prelude.{◌≡◌, ℕ, ◌==◌, MatchBool, Option, Some, None, Result, Ok, Err}
use Rattle.vb_virtio.specs.declared.layout.TheConstants.{STATISTICS_QUEUE}
use Rattle.vb_virtio.specs.declared.refusals.Refusal.{Refusal}
use Rattle.vb_virtio.specs.Queues.{Request}
use Rattle.vb_ram.specs.Pages.{Pages}
use Rattle.vb_ram.specs.Part.{Part}
use Rattle.vb_device.specs.Conditions.{serve_refusal, taken_at}
use Rattle.vb_device.specs.Takes.{TakesBy}
use Rattle.vb_device.specs.Finishes.{Uses}

-- The first taken chain of a queue is used, and so its pages lose the frames that visits would take
-- from them, whatever the pace; a buffer of statistics stays taken.
abbrev pub UsesFirst : ℕ → Pages → Pages → Part → Part → Type 0
UsesFirst q m1 m2 p1 p2 =
    MatchBool (q == STATISTICS_QUEUE)
    ((m2 ≡ m1) × (p2 ≡ p1))
    ((r : Request) × (taken_at q 0 p1 ≡ Some r) × Uses q 0 r m1 m2 p1 p2 (Ok r.head))

-- What follows a take, by its answer.
abbrev pub FollowsTake : ℕ → Pages → Pages → Part → Part → Result (Option ℕ) Refusal → Type 0
FollowsTake q m1 m2 p1 p2 (Ok (Some head)) = UsesFirst q m1 m2 p1 p2
FollowsTake q m1 m2 p1 p2 _ = (m2 ≡ m1) × (p2 ≡ p1)

-- One chain is served: where no chain of the queue is taken, the answer is that of a take.
pub record ServesBy (q : ℕ) (m1 m2 : Pages) (p1 p2 : Part)
    (result : Result (Option ℕ) Refusal) : Type 0 where
  pub refused : (why : Refusal) → serve_refusal q p1 ≡ Some why →
      (result ≡ Err why) × (p2 ≡ p1) × (m2 ≡ m1)
  pub serves : serve_refusal q p1 ≡ None →
      (part : Part) × TakesBy q m1 m1 p1 part result × FollowsTake q m1 m2 part p2 result
