-- Worked facts of the words about courses: which entry is a call, where a page is, and which entry
-- brought it there.
use Rattle.std.proofs.Common.{◌≡◌, ◌+◌, ℕ, [], arith, refl, ◌∷◌}
use Rattle.std.specs.Prelude.{None, Some}
use Rattle.vb_model.{proofs.Samples.{page_16_at, ready}}
use Rattle.vb_model.specs.Courses.{BringsTo, Course, IsAt, IsCall, guest_after}
use Rattle.vb_model.specs.{Guest.Guest, Pages.place_of, declared.places.Place.Place}
use Rattle.vb_model.specs.{GuestRun.{Called, Looked}}
use Rattle.vb_model.specs.declared.calls.Actor.TheVariants.{Processor, Worker}
use Rattle.vb_model.specs.declared.calls.Call.TheVariants.{Inflate, Reap, Work}
use Rattle.vb_model.specs.declared.calls.Claim.TheVariants.{Gave}
use Rattle.vb_model.specs.declared.places.Place.TheVariants.{Free as FreePlace, Giving, Lent}
use Rattle.vb_model.specs.declared.places.Place.TheVariants.{Reserved, Used}
use Rattle.vb_model.specs.declared.replies.Reply.TheVariants.{Idle, Posted, Reaped}

-- page 16 is offered, a look and another's event leave it so, it is lent, and lent still
abbrev offered_and_lent : Course
offered_and_lent = record {
  first = page_16_at FreePlace ready;
  entries = Some (Called (Processor 0 0) (Inflate 1) [] (Posted 0 1)) ∷ Some (Looked 0 0) ∷ None
      ∷ Some (Called (Worker 1) (Reap 0) (Gave 4 ∷ []) (Reaped 0 1))
      ∷ Some (Called (Processor 0 0) Work [] Idle) ∷ [];
  after = page_16_at Giving ready ∷ page_16_at Giving ready ∷ page_16_at Giving ready
      ∷ page_16_at Lent ready ∷ page_16_at Lent ready ∷ [];
}

-- by whomever, with whatever claims
its_calls : IsCall offered_and_lent 0 (Inflate 1) (Posted 0 1)
    × IsCall offered_and_lent 3 (Reap 0) (Reaped 0 1) × IsCall offered_and_lent 4 Work Idle
its_calls = ((Processor 0 0, [], refl), (Worker 1, Gave 4 ∷ [], refl), (Processor 0 0, [], refl))

-- another call, another reply, a look, another's event, and none
not_its_calls : (IsCall offered_and_lent 0 (Inflate 2) (Posted 0 1) → ⊥)
    × (IsCall offered_and_lent 0 (Inflate 1) (Posted 1 1) → ⊥)
    × (IsCall offered_and_lent 1 Work Idle → ⊥) × (IsCall offered_and_lent 2 Work Idle → ⊥)
    × (IsCall offered_and_lent 3 Work Idle → ⊥) × (IsCall offered_and_lent 5 Work Idle → ⊥)
not_its_calls = grind arith

brought : BringsTo offered_and_lent 16 Giving 0 × BringsTo offered_and_lent 16 Lent 3
brought = (
  (page_16_at FreePlace ready, page_16_at Giving ready, refl, refl, (λ e. cc), refl),
  (page_16_at Giving ready, page_16_at Lent ready, refl, refl, (λ e. cc), refl),
)

brings : (c : Course) (page : ℕ) (place : Place) (i : ℕ) (before after : Guest) → guest_after c i ≡ Some before
    → guest_after c (i + 1) ≡ Some after → ¬ IsAt before page place → IsAt after page place → BringsTo c page place i
brings c page place i before after first then elsewhere there = (before, after, first, then, elsewhere, there)

-- where it was there before, is at another place, or is another page; and no entry past the last
not_brought : (BringsTo offered_and_lent 16 Giving 1 → ⊥) × (BringsTo offered_and_lent 16 Giving 2 → ⊥)
    × (BringsTo offered_and_lent 16 Lent 0 → ⊥) × (BringsTo offered_and_lent 16 Giving 3 → ⊥)
    × (BringsTo offered_and_lent 17 Giving 0 → ⊥) × (BringsTo offered_and_lent 16 Lent 4 → ⊥)
    × (BringsTo offered_and_lent 16 Lent 5 → ⊥)
not_brought = grind arith

at_its_place : (g : Guest) (page : ℕ) (place : Place) → place_of g.places page ≡ place → IsAt g page place
at_its_place g page place e = e

-- a page past the last counts as reserved
places : IsAt (page_16_at Lent ready) 16 Lent × IsAt (page_16_at Lent ready) 17 FreePlace
    × IsAt ready 15 Reserved × IsAt ready 64 Reserved × (IsAt (page_16_at Lent ready) 16 Giving → ⊥)
    × (IsAt ready 16 Used → ⊥)
places = grind arith
