-- Blocks that are reported, and where their bytes are, worked out.
use Rattle.std.specs.Prelude.{replicate}
use Rattle.std.proofs.Common.{◌≡◌, true, false, List, [], ◌∷◌, map, refl, arith}
use Rattle.vb_model.specs.Pages.{block_at}
use Rattle.vb_pages.specs.PageState.{PageState}
use Rattle.vb_pages.specs.{Areas.{with_pages, without_pages}, declared.block.FreeBlock.FreeBlock}
use Rattle.vb_report.specs.Blocks.{blocks_of, is_covered, without_blocks, with_blocks, piece_of}
use Rattle.vb_report.specs.Blocks.{HasOrder}

abbrev two : List FreeBlock
two = record { start = 2; order = 1 } ∷ record { start = 6; order = 0 } ∷ []

as_blocks : blocks_of two ≡ block_at 2 1 ∷ block_at 6 0 ∷ []
as_blocks = refl

covered : map (λ page. is_covered page two) (1 ∷ 2 ∷ 3 ∷ 4 ∷ 6 ∷ 7 ∷ [])
    ≡ false ∷ true ∷ true ∷ false ∷ true ∷ false ∷ []
covered = refl

-- 4096 bytes a page, for the device to write
bytes : map piece_of (block_at 6 0 ∷ block_at 16 4 ∷ [])
    ≡ record { addr = 24576; len = 4096; writable = true }
    ∷ record { addr = 65536; len = 65536; writable = true } ∷ []
bytes = refl

-- lists are drained before blocks leave, and not before they come back
abbrev listed : PageState
listed = record {
  free = record {
    areas = false ∷ false ∷ true ∷ true ∷ false ∷ false ∷ true ∷ [];
    lists = (5 ∷ []) ∷ [];
    reserved = 2;
  };
  held = [];
}

left : without_blocks two listed ≡ record listed {
  free = record {
    areas = false ∷ false ∷ false ∷ false ∷ false ∷ true ∷ false ∷ [];
    lists = [] ∷ [];
    reserved = 2;
  };
}
unfolding with_pages without_pages
left = refl

come : with_blocks two (record listed { free = record listed.free { areas = replicate 7 false } })
    ≡ listed
unfolding with_pages
come = refl

largest : HasOrder (record { start = 0; order = 9 })
largest = omega arith

too_large : HasOrder (record { start = 0; order = 10 }) → ⊥
too_large has = omega (arith, has)
