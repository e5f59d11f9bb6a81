-- Held blocks: a table by page, seen as blocks by rising start.
use Rattle.std.specs.Prelude.{ℕ, suc, List, [], ◌∷◌, Option, Some, None}
use Rattle.vb_model.specs.Pages.{Block}
use Rattle.vb_pages.specs.Areas.{block_at}

-- n pages, and the held blocks by rising start
pub record HeldBlocks : Type 0 where
  pub pages : ℕ
  pub blocks : List Block

-- the blocks of a table, by rising start
abbrev pub blocks_from : ℕ → List (Option ℕ) → List Block
blocks_from first [] = []
blocks_from first (None ∷ table) = blocks_from (suc first) table
blocks_from first (Some order ∷ table) = block_at first order ∷ blocks_from (suc first) table

unfoldable pub blocks_of : List (Option ℕ) → List Block
blocks_of table = blocks_from 0 table
