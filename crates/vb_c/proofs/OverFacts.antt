-- What the calls of a balloon over regions answer in C, worked out: each refusal, and what it leaves.
use Rattle.std.proofs.Common.{◌≡◌, refl, ap, arith, inl, inr, ℕ, ◌∙◌, true, false, []}
use Rattle.std.proofs.Common.{Option, Some, None, Result, Err}
use Rattle.vb_status.specs.declared.bits.StatusFault.{StatusFault, TheVariants.ClearsBit}
use Rattle.vb_core.specs.declared.kinds.Kind.TheVariants.{Inflate}
use Rattle.vb_core.{specs.declared.device.Denial.Denial, specs.Devices.{new_device, placed}}
use Rattle.vb_core.specs.declared.device.Denial.TheVariants.{Misplaced}
use Rattle.vb_core.specs.declared.saved.StateDenial.TheVariants.{BadLength}
use Rattle.vb_monitor.{specs.declared.balloon.Balloon.Balloon}
use Rattle.vb_monitor.{specs.declared.placing.RestoreDenial.TheVariants.State, specs.Places.Lies}
use Rattle.vb_c.specs.Places.{code_of_restore, StartsOver, MapsAnew, PlacesOver, PlacesOverFor}
use Rattle.vb_c.{specs.Codes.{code_in, number_in}, specs.Places.{SetsStatus, RestoresOver}}
use Rattle.vb_c.proofs.Samples.{Same, settings, begun, ready, two, first_alone, half, balloon}
use Rattle.vb_c.proofs.Samples.{a_buffer}

abbrev held_of : Balloon → ℕ
held_of b = b.held.statistics

abbrev changed : Balloon
changed = record balloon { held = a_buffer 5 }

-- ---- a start

abbrev made_of : Option Balloon → Balloon
made_of None = balloon
made_of (Some b) = b

started : StartsOver settings two balloon (record { device = new_device settings; held = a_buffer 0 }) 0
started = record { made = λ b e. (refl, ap made_of e); denied = λ e. absurd cc }

not_over_half_a_page : StartsOver settings half balloon balloon 7
not_over_half_a_page = record { made = λ b e. absurd cc; denied = λ e. (refl, refl) }

started_although_refused : StartsOver settings half balloon (record { device = new_device settings; held = a_buffer 0 }) 7 → ⊥
started_although_refused h = let e : Same 0 4 = ap held_of (h.denied refl).1 in omega arith

held_still : StartsOver settings two balloon (record { device = new_device settings; held = a_buffer 4 }) 0 → ⊥
held_still h = let e : Same 4 0 = ap held_of (h.made _ refl).1 in omega arith

refused_although_possible : (b : Balloon) → StartsOver settings two balloon b 7 → ⊥
refused_although_possible b h = let e : Same 7 0 = (h.made _ refl).0 in omega arith

-- ---- other regions

abbrev shorter : Balloon
shorter = record balloon { device = record begun { settings = record settings { memory_end = 0x15000 } } }

mapped : MapsAnew first_alone balloon shorter 0
mapped = record { mapped = λ e. (refl, refl); denied = λ e. absurd cc }

abbrev end_of : Balloon → ℕ
end_of b = b.device.settings.memory_end

not_mapped : MapsAnew first_alone balloon balloon 0 → ⊥
not_mapped h = let e : Same 0x20000 0x15000 = ap end_of (h.mapped refl).1 in omega arith

half_refused : MapsAnew half balloon balloon 7
half_refused = record { mapped = λ e. absurd cc; denied = λ e. (refl, refl) }

mapped_although_refused : MapsAnew half balloon shorter 7 → ⊥
mapped_although_refused h = let e : Same 0x15000 0x20000 = ap end_of (h.denied refl).1 in omega arith

-- ---- places

-- where its table lies in the hole a queue isn't placed, though it would be in one region
in_the_hole : Lies two (placed 0x15000 0x100 0x200 8) → ⊥
in_the_hole (inl e) = let n : Same 8 0 = e in omega arith
in_the_hole (inr h) = let e : false ≡ true = h.table 0x15000 (omega arith) (omega arith) in absurd cc

abbrev number_of : Result (Unit {0}) Denial → ℕ
number_of answer = code_in answer

placed_in_the_hole : (b : Balloon) → PlacesOver Inflate two 0x15000 0x100 0x200 8 balloon b 0 → ⊥
unfolding lib.Count.ones
placed_in_the_hole b h =
    let e : Same 0 6 = h.code ∙ ap number_of (h.misplaced refl in_the_hole).0 in omega arith

changed_although_misplaced : PlacesOver Inflate two 0x15000 0x100 0x200 8 balloon changed 6 → ⊥
unfolding lib.Count.ones
changed_although_misplaced h = let e : Same 5 4 = ap held_of (h.misplaced refl in_the_hole).1 in omega arith

refused_of_the_hole : PlacesOver Inflate two 0x15000 0x100 0x200 8 balloon balloon 6
unfolding lib.Count.ones
refused_of_the_hole = record {
  answer = Err Misplaced;
  denied = λ why e. absurd cc;
  misplaced = λ e away. (refl, refl);
  placed_so = λ e lies. absurd (in_the_hole lies);
  code = refl;
}

-- a queue without descriptors has no place, and lies anywhere
of_none : (b : Balloon) → PlacesOver Inflate two 0 0x100 0x200 9 balloon b 0 → ⊥
unfolding lib.Count.ones
of_none b h = let e : Same 0 6 = h.code ∙ ap number_of (h.denied Misplaced refl).0 in omega arith

place_of_no_kind : PlacesOverFor None two 0 0x100 0x200 8 balloon balloon 5
place_of_no_kind = (refl, refl)

place_of_no_kind_changes : PlacesOverFor None two 0 0x100 0x200 8 balloon changed 5 → ⊥
place_of_no_kind_changes h = let e : Same 5 4 = ap held_of h.1 in omega arith

-- ---- the status

-- DRIVER_OK: each queue is looked at; not so where it was set before
became_ready : SetsStatus 15 balloon (record balloon { device = record begun { status = 15 } }) 1 0
became_ready = record { denied = λ why e. absurd cc; accepted = λ e. (refl, refl, refl) }

not_looked_at : (b : Balloon) → SetsStatus 15 balloon b 0 0 → ⊥
not_looked_at b h = let e : Same 0 1 = (h.accepted refl).1 in omega arith

looked_at_again : (b : Balloon) → SetsStatus 15 (record balloon { device = ready }) b 1 0 → ⊥
looked_at_again b h = let e : Same 1 0 = (h.accepted refl).1 in omega arith

-- a reset empties the set, and the buffer isn't held any longer
set_kept_over_a_reset : (b : Balloon) → SetsStatus 0 balloon b 0 0 → ⊥
set_kept_over_a_reset b h = let e : Same 0 2 = (h.accepted refl).1 in omega arith

held_over_a_reset : SetsStatus 0 balloon (record balloon { device = record begun { status = 0 } }) 2 0 → ⊥
held_over_a_reset h = let e : Same 4 0 = ap held_of (h.accepted refl).2 in omega arith

abbrev number_at : Option StatusFault → ℕ
number_at None = 0
number_at (Some why) = number_in (Err why)

-- a bit that is cleared: 1, and nothing is changed
bit_cleared : SetsStatus 3 balloon balloon 0 1
bit_cleared = record { denied = λ why e. (ap number_at e, refl, refl); accepted = λ e. absurd cc }

changed_although_refused : SetsStatus 3 balloon changed 0 1 → ⊥
changed_although_refused h = let e : Same 5 4 = ap held_of (h.denied ClearsBit refl).2 in omega arith

looked_at_although_refused : SetsStatus 3 balloon balloon 1 1 → ⊥
looked_at_although_refused h = let e : Same 1 0 = (h.denied ClearsBit refl).1 in omega arith

-- ---- a saved balloon

-- no byte is no state
restored_from_nothing : RestoresOver two [] balloon balloon 9
restored_from_nothing = record { answer = Err (State BadLength); restores = (refl, refl); code = refl }

changed_by_nothing : RestoresOver two [] balloon changed 9 → ⊥
changed_by_nothing h = let e : Same 5 4 = ap held_of h.restores.1 in omega arith

succeeds_from_nothing : (b : Balloon) → RestoresOver two [] balloon b 0 → ⊥
succeeds_from_nothing b h = let e : Same 0 9 = h.code ∙ ap code_of_restore h.restores.0 in omega arith
