-- Which entries are a reap of a used deflate that names a page, and which aren't.
use Rattle.std.{proofs.Common.{[], map, refl, ◌∷◌, ◌≡◌}, specs.Prelude.{None, Option, Some}}
use Rattle.vb_model.proofs.{AskedTests.not_reaped, SafeFacts.{goes, made, request_16}}
use Rattle.vb_model.{proofs.Samples.{page_16_at, ready, request}, specs.GuestRun.{Called, Entry}}
use Rattle.vb_model.{specs.Courses.{Course, ReapedAt}, proofs.AskedFacts.{coming_back, back, reaps}}
use Rattle.vb_virtio.specs.Queues.{Deflating, Inflating, Reporting_free, queue_of}
use Rattle.vb_model.specs.Guest.{Guest}
use Rattle.vb_model.specs.declared.calls.Actor.TheVariants.{Processor, Worker}
use Rattle.vb_model.specs.declared.{calls.Call.TheVariants.Reap, places.Place.TheVariants.Taking}
use Rattle.vb_model.specs.declared.replies.Reply.TheVariants.{NotUsed, Reaped}

abbrev given_back : Course
given_back = goes (coming_back Taking ready) (Reap 1) (Reaped 0 1) (back ready)

reaps_page_16 : ReapedAt Deflating given_back 16 0
reaps_page_16 =
    reaps Deflating given_back 0 (coming_back Taking ready) (Processor 0 0) refl refl refl

-- the guest goes on as it was
abbrev with_entry : Guest → Option Entry → Course
with_entry g own = record { first = g; entries = own ∷ []; after = g ∷ [] }

-- made by any actor, and whatever its claims were given
reaped_by_the_worker : ReapedAt Deflating
    (with_entry (coming_back Taking ready) (Some (Called (Worker 0) (Reap 1) [] (Reaped 0 1)))) 16 0
reaped_by_the_worker =
    reaps Deflating _ 0 (coming_back Taking ready) (Worker 0) refl refl refl

not_page_17 : ReapedAt Deflating given_back 17 0 → ⊥
not_page_17 = not_reaped Deflating given_back 17 0 refl

-- none is another guest's reap, one of another queue, one that was answered otherwise, or one while
-- another request is the first used one
abbrev behind_another : Guest
behind_another = record (page_16_at Taking ready)
    { deflate = record { posted = []; taken = []; done = request 1 (17 ∷ []) 0 ∷ request_16 ∷ [] } }

abbrev NotReaped : Guest → Option Entry → Type 0
NotReaped g own = ReapedAt Deflating (with_entry g own) 16 0 → ⊥

none_reaped : NotReaped (coming_back Taking ready) None
    × NotReaped (coming_back Taking ready) (made (Reap 0) (Reaped 0 1))
    × NotReaped (coming_back Taking ready) (made (Reap 1) NotUsed)
    × NotReaped behind_another (made (Reap 1) (Reaped 0 1))
none_reaped = (
  not_reaped Deflating _ 16 0 refl,
  not_reaped Deflating _ 16 0 refl,
  not_reaped Deflating _ 16 0 refl,
  not_reaped Deflating _ 16 0 refl,
)

-- the queue of each kind
queues : map queue_of (Inflating ∷ Deflating ∷ Reporting_free ∷ []) ≡ 0 ∷ 1 ∷ 4 ∷ []
queues = refl
