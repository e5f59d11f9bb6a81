-- Worked facts of what a frame shows by the bytes that it holds.
use Rattle.std.proofs.Common.{◌≡◌, ℕ, List, [], ◌∷◌, ap, arith, replicate, refl, map}
use Rattle.std.{specs.Prelude.slice_index, proofs.lemmas.List.length-replicate}
use Rattle.vb_virtio.specs.Memory.{zero_page}
use Rattle.vb_ram.{specs.Blank.{shown, HoldsPage}, proofs.Contents.zero_page-at}

-- what is held is first, and zeros after it
nothing_held : shown [] ≡ zero_page
nothing_held = refl

three_held : map (slice_index (shown (7 ∷ 0 ∷ 9 ∷ []))) (0 ∷ 1 ∷ 2 ∷ 3 ∷ 4095 ∷ [])
    ≡ 7 ∷ 0 ∷ 9 ∷ 0 ∷ 0 ∷ []
unfolding zero_page
three_held = refl

-- bytes that differ show others
a_zero_is_no_one : shown (1 ∷ []) ≡ zero_page → ⊥
a_zero_is_no_one same =
    omega (arith, ap (λ (bytes : List ℕ). slice_index bytes 0) same, zero_page-at 0)

-- a page fits, with room for it, and no more does
a_page_fits : HoldsPage (replicate 4096 0) 4096
a_page_fits = record { few = omega (arith, length-replicate {A = ℕ} 4096 0); room = omega arith }

too_many : HoldsPage (replicate 4097 0) 5000 → ⊥
too_many holds = omega (arith, holds.few, length-replicate {A = ℕ} 4097 0)

no_room : HoldsPage [] 4095 → ⊥
no_room holds = omega (arith, holds.room)
