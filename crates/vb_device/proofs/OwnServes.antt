-- A device that keeps frames of its own serves a chain as the one that it wraps.
use Rattle.std.specs.Prelude.{◌≡◌, ℕ, ◌==◌, Bool, true, false, List, MatchBool, Option, Some, None}
use Rattle.std.{proofs.Common.ap, specs.Prelude.{Result, Ok, Err}}
use Rattle.vb_virtio.specs.declared.layout.TheConstants.{STATISTICS_QUEUE}
use Rattle.vb_virtio.specs.declared.refusals.Refusal.{Refusal}
use Rattle.vb_virtio.specs.Queues.{Request}
use Rattle.vb_ram.specs.{Pages.Pages, Part.Part}
use Rattle.vb_device.specs.Calls.{FollowsTake, ServesBy, Uses}
use Rattle.vb_device.specs.Conditions.{taken_at}
use Rattle.vb_device.proofs.OwnFrames.{keeping, takes_keeping, settles_keeping}

first_keeping : (b : Bool) (q : ℕ) (m1 m2 : Pages) (own : List ℕ) (p1 p2 : Part)
    → MatchBool b ((m2 ≡ m1) × (p2 ≡ p1))
    ((r : Request) × (taken_at q 0 p1 ≡ Some r) × Uses q 0 r m1 m2 p1 p2 (Ok r.head))
    → MatchBool b ((m2 ≡ m1) × (keeping own p2 ≡ keeping own p1))
    ((r : Request) × (taken_at q 0 (keeping own p1) ≡ Some r)
    × Uses q 0 r m1 m2 (keeping own p1) (keeping own p2) (Ok r.head))
first_keeping true q m1 m2 own p1 p2 f = (f.0, ap (keeping own) f.1)
first_keeping false q m1 m2 own p1 p2 f =
    (f.0, f.1, settles_keeping q 0 f.0 m1 m2 own p1 p2 (Ok f.0.head) f.2)

follows_keeping : (q : ℕ) (m1 m2 : Pages) (own : List ℕ) (p1 p2 : Part)
    (result : Result (Option ℕ) Refusal) → FollowsTake q m1 m2 p1 p2 result
    → FollowsTake q m1 m2 (keeping own p1) (keeping own p2) result
follows_keeping q m1 m2 own p1 p2 (Ok (Some head)) f =
    first_keeping (q == STATISTICS_QUEUE) q m1 m2 own p1 p2 f
follows_keeping q m1 m2 own p1 p2 (Ok None) f = (f.0, ap (keeping own) f.1)
follows_keeping q m1 m2 own p1 p2 (Err why) f = (f.0, ap (keeping own) f.1)

pub serves_keeping : (q : ℕ) (m1 m2 : Pages) (own : List ℕ) (p1 p2 : Part)
    (result : Result (Option ℕ) Refusal) → ServesBy q m1 m2 p1 p2 result
    → ServesBy q m1 m2 (keeping own p1) (keeping own p2) result
serves_keeping q m1 m2 own p1 p2 result s = record {
  refused = λ why e. let r = s.refused why e in (r.0, ap (keeping own) r.1, r.2);
  serves = λ e. let did = s.serves e in (
    keeping own did.0,
    takes_keeping q m1 m1 own p1 did.0 result did.1,
    follows_keeping q m1 m2 own did.0 p2 result did.2,
  );
}
