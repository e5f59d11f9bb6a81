-- Devices that wait for a guest, and frames that back the pages of one, worked out.
use Rattle.std.proofs.Common.{◌≡◌, ℕ, true, false, List, [], ◌∷◌, Option, Some, None, refl, arith}
use Rattle.{vb_model.specs.Guest.{Guest, fresh}, vb_ram.specs.Part.no_part}
use Rattle.vb_slot.specs.{Alone.AreBehind, Spare.{IsSpare, IsNew, config_of}}

sizes_are : config_of (record { pages = 64; queue_size = 8; processors = 2 }) true
    ≡ record { pages = 64; queue_size = 8; processors = 2; paced = true }
sizes_are = refl

-- ---- a device that no guest has

spare : IsSpare [] no_part
spare = record { unused = record { no_memory = refl; no_frames = refl }; keeps = refl; own = refl }

spare_with_memory : IsSpare (None ∷ []) no_part → ⊥
spare_with_memory is = (let wrong : None ∷ [] ≡ [] = is.unused.no_memory in absurd cc)

spare_with_a_frame : IsSpare [] (record no_part { loose = 3 ∷ [] }) → ⊥
spare_with_a_frame is = (let wrong : 3 ∷ [] ≡ [] = is.unused.no_frames in absurd cc)

spare_that_keeps : IsSpare [] (record no_part { keeps = true }) → ⊥
spare_that_keeps is = (let wrong : true ≡ false = is.keeps in absurd cc)

spare_with_one_of_its_own : IsSpare [] (record no_part { own = 3 ∷ [] }) → ⊥
spare_with_one_of_its_own is = (let wrong : 3 ∷ [] ≡ [] = is.own in absurd cc)

-- one that keeps frames may be new, but none of them is out
new : IsNew [] (record no_part { keeps = true })
new = (record { no_memory = refl; no_frames = refl }, refl)

new_with_a_frame_out : IsNew [] (record no_part { keeps = true; own = 3 ∷ [] }) → ⊥
new_with_a_frame_out is = (let wrong : 3 ∷ [] ≡ [] = is.1 in absurd cc)

-- ---- frames that back pages

abbrev guest : List (Option ℕ) → Guest
guest frames = record (fresh (record { pages = 64; queue_size = 8; processors = 1; paced = false }) 0)
    { frames = frames }

behind_its_page : AreBehind (5 ∷ []) (guest (None ∷ Some 5 ∷ [])) × AreBehind [] (guest (None ∷ []))
behind_its_page = (λ n. grind arith, λ n. refl)

none_behind_none : AreBehind [] (guest (Some 5 ∷ [])) → ⊥
none_behind_none behind = omega (arith, behind 5)

each_behind_one : AreBehind (5 ∷ 6 ∷ []) (guest (Some 5 ∷ None ∷ [])) → ⊥
each_behind_one behind = omega (arith, behind 6)

behind_two_pages : AreBehind (5 ∷ []) (guest (Some 5 ∷ Some 5 ∷ [])) → ⊥
behind_two_pages behind = omega (arith, behind 5)
