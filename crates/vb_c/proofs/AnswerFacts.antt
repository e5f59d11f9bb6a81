-- What calls of each kind of queue answer in C where the core refuses or accepts, worked out: the
-- core's own answer, and a state that stays where nothing is done.
use Rattle.std.proofs.Common.{◌≡◌, ◌∙◌, refl, ap, arith, ℕ, List, [], ◌∷◌, ◌++◌, drop, length, Some, None, Ok}
use Rattle.vb_core.specs.declared.kinds.Kind.TheVariants.{Inflate, Statistics}
use Rattle.vb_core.specs.declared.device.Denial.TheVariants.{NoQueue, Misplaced}
use Rattle.vb_core.specs.declared.{device.Device.Device, saved.Saved.Saved, format.TheConstants.SAVED_LENGTH}
use Rattle.vb_core.specs.{Devices.placed, Saved.save_denial, Format.{FitsSaved, saved_bytes}}
use Rattle.vb_monitor.specs.{Places.Lies, declared.balloon.Balloon.Balloon}
use Rattle.vb_c.specs.{Marks.{marked_of, MarksFor}, Registers.Places}
use Rattle.vb_c.specs.{Places.PlacesOver, Saving.Saves}
use Rattle.vb_c.specs.declared.marks.VbMarked.{VbMarked}
use Rattle.vb_c.proofs.Samples.{Same, begun, two, balloon}
use Rattle.vb_c.proofs.Samples.{a_buffer}

abbrev target_of : Device → ℕ
target_of d = d.target

abbrev changed : Device → Device
changed d = record d { target = 1 }

-- ---- what names no pages by numbers is no set's kind, and answers 5

abbrev first_word : List ℕ → ℕ
first_word [] = 0
first_word (w ∷ ws) = w

marks_succeed : (new : List ℕ) (pages : ℕ) → MarksFor (Some Statistics) [] (1 ∷ []) new (record { code = 0; pages = pages }) → ⊥
marks_succeed new pages (answer, by, is) =
    let e : Same 0 5 = ap (λ (c : VbMarked). c.code) (is ∙ ap marked_of (by.denied NoQueue refl).0) in omega arith

marks_change : (c : VbMarked) → MarksFor (Some Statistics) [] (1 ∷ []) (3 ∷ []) c → ⊥
marks_change c (answer, by, is) = let e : Same 3 1 = ap first_word (by.denied NoQueue refl).1 in omega arith

-- ---- what is refused leaves the device as it was

place_changes : Places Inflate 0 0x100 0x200 9 begun (changed begun) 6 → ⊥
unfolding lib.Count.ones
place_changes h = let e : Same 1 0 = ap target_of (h.denied Misplaced refl).1 in omega arith

place_over_changes : PlacesOver Inflate two 0 0x100 0x200 9 balloon (record balloon { held = a_buffer 5 }) 6 → ⊥
unfolding lib.Count.ones
place_over_changes h = let e : Same 5 4 = ap (λ (b : Balloon). b.held.statistics) (h.denied Misplaced refl).1 in omega arith

-- ---- a queue that lies in memory is placed, and nothing else is changed

abbrev placed_there : Balloon
placed_there = record balloon { device = record begun { inflate = placed 0 0x100 0x200 8 } }

is_placed : Lies two (placed 0 0x100 0x200 8) → PlacesOver Inflate two 0 0x100 0x200 8 balloon placed_there 0
unfolding lib.Count.ones
is_placed lies = record {
  answer = Ok tt;
  denied = λ why e. absurd cc;
  misplaced = λ e away. absurd (away lies);
  placed_so = λ e there. (refl, refl);
  code = refl;
}

not_placed : Lies two (placed 0 0x100 0x200 8) → PlacesOver Inflate two 0 0x100 0x200 8 balloon balloon 0 → ⊥
unfolding lib.Count.ones
not_placed lies h =
    let e : Same 0 8 = ap (λ (b : Balloon). b.device.inflate.size) (h.placed_so refl lies).1 in omega arith

-- ---- a state that has room and may be one is saved: its bytes, and after them what was there

is_saved : (s : Saved) (old : List ℕ) → save_denial s (length old) ≡ None → FitsSaved s →
    Saves s old (saved_bytes s ++ drop SAVED_LENGTH old) 0
is_saved s old e fits = record { denied = λ why f. absurd cc; saved = λ f. (refl, fits, refl) }

refused_although_it_fits : (s : Saved) (old new : List ℕ) → save_denial s (length old) ≡ None → Saves s old new 9 → ⊥
refused_although_it_fits s old new e h = let code : Same 9 0 = (h.saved e).0 in omega arith
