-- What the calls of a device answer in C, worked out: each refusal, and what it leaves.
use Rattle.std.proofs.Common.{refl, ap, arith, ℕ, List, [], ◌∷◌, None}
use Rattle.vb_core.specs.declared.kinds.Kind.TheVariants.{Inflate}
use Rattle.vb_core.specs.declared.device.Denial.TheVariants.{BadArgument, Misplaced}
use Rattle.vb_core.{specs.declared.device.Device.Device, specs.Devices.{new_device, placed}}
use Rattle.vb_c.specs.declared.marks.VbMarked.{VbMarked}
use Rattle.vb_c.specs.Marks.{MarksFor}
use Rattle.vb_c.{specs.Registers.{Starts, WritesStatus, Places, PlacesFor}, proofs.Samples.Same}
use Rattle.vb_c.proofs.Samples.{settings, no_settings, begun, ready}

abbrev target_of : Device → ℕ
target_of d = d.target

abbrev changed : Device → Device
changed d = record d { target = 1 }

-- ---- no queue

marks_of_no_kind : MarksFor None [] (1 ∷ []) (1 ∷ []) (record { code = 5; pages = 0 })
marks_of_no_kind = (refl, refl)

abbrev first_word : List ℕ → ℕ
first_word [] = 0
first_word (w ∷ ws) = w

marks_of_no_kind_changes : MarksFor None [] (1 ∷ []) (3 ∷ []) (record { code = 5; pages = 0 }) → ⊥
marks_of_no_kind_changes h = let e : Same 3 1 = ap first_word h.1 in omega arith

marks_of_no_kind_succeeds : MarksFor None [] [] [] (record { code = 0; pages = 0 }) → ⊥
marks_of_no_kind_succeeds h = let e : Same 0 5 = ap (λ (m : VbMarked). m.code) h.0 in omega arith

-- ---- a start

started : Starts settings begun (new_device settings) 0
started = record { made = λ e. (refl, refl); denied = λ e. absurd cc }

not_started : Starts no_settings begun begun 7
not_started = record { made = λ e. absurd cc; denied = λ e. (refl, refl) }

started_although_refused : Starts no_settings begun (new_device no_settings) 7 → ⊥
started_although_refused h = let e : Same 0 11 = ap (λ (d : Device). d.status) (h.denied refl).1 in omega arith

left_as_it_was : Starts settings begun begun 0 → ⊥
left_as_it_was h = let e : Same 11 0 = ap (λ (d : Device). d.status) (h.made refl).1 in omega arith

refused_although_possible : (d : Device) → Starts settings begun d 7 → ⊥
refused_although_possible d h = let e : Same 7 0 = (h.made refl).0 in omega arith

-- ---- the status, features

became_ready : WritesStatus 15 begun (record begun { status = 15 }) 0
became_ready = record { denied = λ why e. absurd cc; accepted = λ e. (refl, refl) }

-- a bit that is cleared is refused with 1
cleared : WritesStatus 3 begun (record begun { status = 3 }) 1 → ⊥
cleared h = let e : Same 3 11 = ap (λ (d : Device). d.status) (h.denied _ refl).1 in omega arith

clears_although_refused : (d : Device) → WritesStatus 3 begun d 0 → ⊥
clears_although_refused d h = let e : Same 0 1 = (h.denied _ refl).0 in omega arith

not_written : WritesStatus 15 begun begun 0 → ⊥
not_written h = let e : Same 11 15 = ap (λ (d : Device). d.status) (h.accepted refl).1 in omega arith

-- ACKNOWLEDGE comes first, or else 2 is answered
out_of_order : (d : Device) → WritesStatus 2 (new_device settings) d 1 → ⊥
out_of_order d h = let e : Same 1 2 = (h.denied _ refl).0 in omega arith

-- ---- places

placed_so : Places Inflate 0 0x100 0x200 8 begun (record begun { inflate = placed 0 0x100 0x200 8 }) 0
unfolding lib.Count.ones
placed_so = record { denied = λ why e. absurd cc; placed_so = λ e. (refl, refl) }

in_another_queue : Places Inflate 0 0x100 0x200 8 begun (record begun { deflate = placed 0 0x100 0x200 8 }) 0 → ⊥
unfolding lib.Count.ones
in_another_queue h = let e : Same 0 8 = ap (λ (d : Device). d.inflate.size) (h.placed_so refl).1 in omega arith

-- an available ring is at an even address, and a used one at a multiple of four
at_an_even_address : Places Inflate 0 0x102 0x200 8 begun (record begun { inflate = placed 0 0x102 0x200 8 }) 0
unfolding lib.Count.ones
at_an_even_address = record { denied = λ why e. absurd cc; placed_so = λ e. (refl, refl) }

not_placed_there : Places Inflate 0 0x102 0x200 8 begun begun 0 → ⊥
unfolding lib.Count.ones
not_placed_there h = let e : Same 0 8 = ap (λ (d : Device). d.inflate.size) (h.placed_so refl).1 in omega arith

used_at_one : (d : Device) → Places Inflate 0 0x100 0x202 8 begun d 0 → ⊥
unfolding lib.Count.ones
used_at_one d h = let e : Same 0 6 = (h.denied Misplaced refl).0 in omega arith

-- nine is no size, and once DRIVER_OK is set no queue is placed
of_nine : (d : Device) → Places Inflate 0 0x100 0x200 9 begun d 0 → ⊥
unfolding lib.Count.ones
of_nine d h = let e : Same 0 6 = (h.denied Misplaced refl).0 in omega arith

once_ready : (d : Device) → Places Inflate 0 0x100 0x200 8 ready d 0 → ⊥
once_ready d h = let e : Same 0 7 = (h.denied BadArgument refl).0 in omega arith

place_of_no_kind : PlacesFor None 0 0x100 0x200 8 begun begun 5
place_of_no_kind = (refl, refl)

place_of_no_kind_changes : PlacesFor None 0 0x100 0x200 8 begun (changed begun) 5 → ⊥
place_of_no_kind_changes h = let e : Same 1 0 = ap target_of h.1 in omega arith
