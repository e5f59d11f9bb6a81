-- What a guest's history is: it begins with a new guest, has a state for each entry, each that the
-- entry leads to, and ends in the last.
use Rattle.std.proofs.Common.{◌≡◌, ℕ, List, [], ◌∷◌, refl, ap, arith}
use Rattle.std.specs.Prelude.{Option, Some, None}
use Rattle.vb_model.specs.GuestRun.{Entry, Called, Looked, Leads, last_guest, all_entries}
use Rattle.vb_model.specs.declared.calls.Actor.TheVariants.{Balancer, Processor}
use Rattle.vb_model.{specs.declared.calls.Call.Call, specs.declared.replies.Reply.Reply}
use Rattle.vb_model.specs.declared.calls.Call.TheVariants.{SetTarget, Work}
use Rattle.vb_virtio.specs.declared.refusals.Refusal.TheVariants.{NotReady}
use Rattle.vb_model.specs.GuestRun.{IsHistory}
use Rattle.vb_model.specs.declared.replies.Reply.TheVariants.{Done, Idle, Refused}
use Rattle.vb_model.{specs.Guest.{Config, Guest, fresh}, specs.Histories.{IsSafeCourse, IsSafeHistory}}
use Rattle.vb_model.{proofs.Histories.history_is_safe, proofs.Samples.{config, ready, down}}

abbrev Same : ℕ → ℕ → Type 0
Same a b = a ≡ b

abbrev by_processor : Call → Reply → Entry
by_processor call reply = Called (Processor 0 0) call [] reply

-- ---- entries lead from state to state

abbrev aims : Option Entry
aims = Some (Called Balancer (SetTarget 3) [] Done)

two_calls : Leads ready (aims ∷ Some (by_processor Work Idle) ∷ [])
    (record ready { target = 3 } ∷ record ready { target = 3 } ∷ [])
two_calls = ((refl, (refl, (refl, refl))), ((refl, (refl, (refl, refl))), tt))

an_end_elsewhere : Leads ready (aims ∷ []) (ready ∷ []) → ⊥
an_end_elsewhere (step, end) =
    let e : Same 0 3 = ap (λ (g : Guest). g.target) step.1.1.1 in omega arith

-- each goes on where the one before it ended
a_start_elsewhere : (floor spare : ℕ) (new : Guest) → Leads ready (aims
    ∷ Some (Looked floor spare) ∷ []) (record ready { target = 3 } ∷ new ∷ []) → new.target ≡ 3
a_start_elsewhere floor spare new (step, (look, end)) = ap (λ (g : Guest). g.target) look.1

-- another's event leaves the guest as it was
anothers_event : (new : Guest) → Leads ready (None ∷ []) (new ∷ []) → new ≡ ready
anothers_event new (same, end) = same

another_state : Leads ready (None ∷ []) (down ∷ []) → ⊥
another_state (same, end) = let e : Same 0 15 = ap (λ (g : Guest). g.status) same in omega arith

no_state : Leads ready (None ∷ []) [] → ⊥
no_state l = l

one_state_too_many : Leads ready [] (ready ∷ []) → ⊥
one_state_too_many l = l

-- ---- histories

ends_with_the_last : (last_guest down (ready ∷ down ∷ []) ≡ down) × (last_guest ready [] ≡ ready)
ends_with_the_last = (refl, refl)

-- a history begins with a guest as it is plugged in, with the target kept
empty_history : IsHistory config 0 [] down
empty_history = ([], tt, refl)

target_kept : IsHistory config 7 [] (record down { target = 7 })
target_kept = ([], tt, refl)

ends_elsewhere : IsSafeHistory config 0 [] ready → ⊥
ends_elsewhere h = grind arith

of_another_target : IsSafeHistory config 7 [] down → ⊥
of_another_target h = grind arith

no_step_of_the_guest : IsSafeHistory config 0 (by_processor Work Done ∷ []) down → ⊥
no_step_of_the_guest h = grind arith

one_that_is : IsSafeHistory config 0 (by_processor Work (Refused NotReady) ∷ []) down
one_that_is = history_is_safe config 0 (by_processor Work (Refused NotReady) ∷ []) down
    (down ∷ [], ((refl, (refl, refl, refl)), tt), refl)

-- each entry of a history is the guest's own
all_its_own : all_entries (Looked 16 32 ∷ by_processor Work Idle ∷ [])
    ≡ Some (Looked 16 32) ∷ Some (by_processor Work Idle) ∷ []
all_its_own = refl

-- the course that is promised to be safe is the history's own
its_own_course : (entries : List Entry) (last : Guest) (h : IsSafeHistory config 0 entries last)
    → IsSafeCourse
    (record { first = fresh config 0; entries = all_entries entries; after = h.after })
its_own_course entries last h = h.safe

-- and of any sizes and target it leads from the guest as plugged in to the last one
of_any_guest : (sizes : Config) (target : ℕ) (entries : List Entry) (last : Guest)
    (h : IsSafeHistory sizes target entries last)
    → Leads (fresh sizes target) (all_entries entries) h.after
    × (last_guest (fresh sizes target) h.after ≡ last)
    × IsSafeCourse
    (record { first = fresh sizes target; entries = all_entries entries; after = h.after })
of_any_guest sizes target entries last h = (h.leads, h.ends, h.safe)
