-- Which blocks a report names, what each of them is to the device, and which may be given back,
-- worked out.
use Rattle.std.proofs.Common.{◌≡◌, ◌++◌, true, false, [], ◌∷◌, map, refl, arith, ℕ}
use Rattle.std.specs.Prelude.{replicate}
use Rattle.vb_model.specs.Pages.{block_at}
use Rattle.vb_pages.specs.{PageState.{PageState, HasRoomIn}, declared.block.FreeBlock.FreeBlock}
use Rattle.vb_report.specs.Blocks.{HaveRoom, blocks_to_report, pieces_of}

-- ---- which blocks

-- of 64 pages, 16 are reserved and all others free, page 31 in a processor's list
abbrev all_free : PageState
all_free = record {
  free = record {
    areas = replicate 16 false ++ (replicate 15 true ++ (false ∷ replicate 32 true));
    lists = (31 ∷ []) ∷ [];
    reserved = 16;
  };
  held = [];
}

-- from page 0 and from page 16 on there are two, from page 17 on one, from page 33 on none
from_a_page : map (λ from. blocks_to_report all_free from 16) (0 ∷ 16 ∷ 17 ∷ 33 ∷ [])
    ≡ (block_at 16 4 ∷ block_at 32 5 ∷ []) ∷ (block_at 16 4 ∷ block_at 32 5 ∷ [])
    ∷ (block_at 32 5 ∷ []) ∷ [] ∷ []
from_a_page = refl

-- as many as there is room for
room_for : map (blocks_to_report all_free 0) (0 ∷ 1 ∷ 2 ∷ [])
    ≡ [] ∷ (block_at 16 4 ∷ []) ∷ (block_at 16 4 ∷ block_at 32 5 ∷ []) ∷ []
room_for = refl

-- a held page parts a block, and its parts are too small
abbrev one_held : PageState
one_held = record all_free {
  free = record all_free.free { areas = replicate 24 false ++ replicate 40 true; lists = [] };
  held = block_at 16 3 ∷ [];
}

too_small : blocks_to_report one_held 0 16 ≡ block_at 32 5 ∷ []
too_small = refl

-- ---- their bytes, in the same order

in_order : pieces_of (block_at 16 4 ∷ block_at 32 5 ∷ [])
    ≡ record { addr = 65536; len = 65536; writable = true }
    ∷ record { addr = 131072; len = 131072; writable = true } ∷ []
in_order = refl

-- ---- which may be given back: pages 20 to 23 are free, and page 30 is held

abbrev taken : PageState
taken = record {
  free = record {
    areas = replicate 20 false ++ (replicate 4 true ++ replicate 40 false);
    lists = (28 ∷ []) ∷ [];
    reserved = 16;
  };
  held = block_at 30 0 ∷ [];
}

abbrev at : ℕ → ℕ → FreeBlock
at start order = record { start = start; order = order }

-- no block, and those whose pages were all taken
none : HaveRoom taken []
none = record { each = λ k d lt. absurd (omega (arith, lt)); apart = tt }

-- each of these, after one that may: a reserved page, one past the end, no start of a block, a free
-- page of the areas and of a list, and one that is held
behind_one : (start order : ℕ) → HaveRoom taken (at 16 0 ∷ at start order ∷ [])
    → HasRoomIn taken (block_at start order)
behind_one start order h = h.each 1 (at start order) (omega arith)

not_taken : (HaveRoom taken (at 16 0 ∷ at 8 3 ∷ []) → ⊥) × (HaveRoom taken (at 16 0 ∷ at 64 0 ∷ []) → ⊥)
    × (HaveRoom taken (at 16 0 ∷ at 17 1 ∷ []) → ⊥) × (HaveRoom taken (at 16 0 ∷ at 22 0 ∷ []) → ⊥)
    × (HaveRoom taken (at 16 0 ∷ at 28 1 ∷ []) → ⊥) × (HaveRoom taken (at 16 0 ∷ at 30 1 ∷ []) → ⊥)
not_taken = (
  λ h. omega (arith, (behind_one 8 3 h).1),
  λ h. omega (arith, (behind_one 64 0 h).2),
  λ h. (let e : false ≡ true = (behind_one 17 1 h).0.1 in cc),
  λ h. (let e : true ≡ false = ((behind_one 22 0 h).3 22 (omega arith) (omega arith)).0 in cc),
  λ h. (let e : true ≡ false = ((behind_one 28 1 h).3 28 (omega arith) (omega arith)).0 in cc),
  λ h. (let e : true ≡ false = ((behind_one 30 1 h).3 30 (omega arith) (omega arith)).1 in cc),
)

-- nor two that share a page, though they start at different ones
one_page_of_both : (HaveRoom taken (at 24 1 ∷ at 25 0 ∷ []) → ⊥)
    × (HaveRoom taken (at 25 0 ∷ at 32 0 ∷ at 24 1 ∷ []) → ⊥)
one_page_of_both = (
  λ h. (let e : false ≡ true = h.apart.1.0 in cc),
  λ h. (let e : false ≡ true = h.apart.0 in cc),
)
