-- Frames that back pages, slots and spare devices of a host, worked out.
use Rattle.std.proofs.Common.{◌≡◌, ℕ, true, false, List, [], ◌∷◌, map, refl, arith}
use Rattle.std.specs.Prelude.{Bool, Option, Some, None, if◌then◌else◌}
use Rattle.vb_model.specs.Guest.{Guest, fresh}
use Rattle.vb_world.specs.Hosts.{backing_at, backing_of, StandsAt, AreSpares}

abbrev guest : List (Option ℕ) → Guest
guest frames = record (fresh (record { pages = 4; queue_size = 8; processors = 1; paced = false }) 0)
    { frames = frames }

-- frames 5 and 6 each back one page of two guests, and 7 backs two
counts : map (λ n. backing_of n (Some (guest (Some 5 ∷ Some 7 ∷ [])) ∷ None ∷ Some (guest (Some 6 ∷ Some 7 ∷ [])) ∷ []))
    (4 ∷ 5 ∷ 6 ∷ 7 ∷ []) ≡ 0 ∷ 1 ∷ 1 ∷ 2 ∷ []
counts = refl

-- each page of one guest counts
twice_of_one : map (λ n. backing_at n (Some (guest (Some 5 ∷ None ∷ Some 5 ∷ Some 6 ∷ [])))) (5 ∷ 6 ∷ [])
    ≡ 2 ∷ 1 ∷ []
twice_of_one = refl

nobody_has_none : backing_at 5 None ≡ 0
nobody_has_none = refl

-- a slot represents a guest, and nothing for nobody
abbrev Stand : ℕ → Guest → Type 0
Stand s g = s ≡ g.target

stands : StandsAt Stand (Some 0) (Some (guest []))
stands = refl

nothing_stands : StandsAt Stand None None
nothing_stands = tt

a_guest_without_slot : StandsAt Stand None (Some (guest [])) → ⊥
a_guest_without_slot stands = stands

a_slot_without_guest : StandsAt Stand (Some 0) None → ⊥
a_slot_without_guest stands = stands

for_another : StandsAt Stand (Some 1) (Some (guest [])) → ⊥
for_another stands = omega (arith, stands)

-- spare devices are in order, each of its pace
abbrev Spare : ℕ → Bool → Type 0
Spare d paced = d ≡ (if paced then 1 else 0)

spares : AreSpares Spare (1 ∷ 0 ∷ []) (true ∷ false ∷ [])
spares = (refl, (refl, tt))

one_too_many : AreSpares Spare (1 ∷ 0 ∷ []) (true ∷ []) → ⊥
one_too_many spares = spares.1

one_too_few : AreSpares Spare (1 ∷ []) (true ∷ false ∷ []) → ⊥
one_too_few spares = spares.1

another_order : AreSpares Spare (1 ∷ 0 ∷ []) (false ∷ true ∷ []) → ⊥
another_order spares = omega (arith, spares.0)

-- the second is of its pace, too
second_of_another_pace : AreSpares Spare (1 ∷ 1 ∷ []) (true ∷ false ∷ []) → ⊥
second_of_another_pace spares = omega (arith, spares.1.0)
