-- Which pages some blocks have.
use Rattle.std.proofs.Common.{◌≡◌, ℕ, Bool, true, false, List, [], ◌∷◌, ◌++◌, inl, inr, refl, ◌∙◌}
use Rattle.std.proofs.lemmas.{Bool.{or_cases, false_from_ne_true}, List.Folds.list_any-append}
use Rattle.std.specs.{List.list_any, Prelude.{◌||◌, All}}
use Rattle.std.proofs.{Common.{ap, arith}, lemmas.List.Elements.{All-head, All-tail}}
use Rattle.vb_virtio.specs.Tests.{is_in, one_if, AllDistinct}
use Rattle.vb_virtio.proofs.Distinct.{distinct_list, distinct_once, times-some}
use Rattle.vb_virtio.proofs.Tables.{count_by-cons}
use Rattle.vb_model.proofs.PageSteps.{covers_is}
use Rattle.vb_model.{proofs.Blocks.times_in_blocks, specs.Pages.{Block, covers, pages_of_all}}
use Rattle.vb_pages.specs.declared.block.FreeBlock.{FreeBlock}
use Rattle.vb_report.specs.Blocks.{block_of, blocks_of, is_covered}

in_blocks : (p : ℕ) (bs : List Block) → is_in p (pages_of_all bs) ≡ list_any (covers p) bs
in_blocks p [] = refl
in_blocks p (b ∷ bs) = grind (arith, list_any-append, covers_is, in_blocks p bs)

-- a page is among those of the blocks exactly where one of them covers it
pub in_covered : (p : ℕ) (bs : List FreeBlock)
    → is_in p (pages_of_all (blocks_of bs)) ≡ is_covered p bs
in_covered p bs = in_blocks p (blocks_of bs)

-- one more block
pub covered_more : (p : ℕ) (bs : List FreeBlock) (b : FreeBlock)
    → is_covered p (bs ++ b ∷ []) ≡ (is_covered p bs || covers p (block_of b))
covered_more p [] b = ends (covers p (block_of b)) where
  ends : (v : Bool) → (v || false) ≡ v
  ends true = refl
  ends false = refl
covered_more p (x ∷ bs) b = grind (arith, covered_more p bs b)

-- a block that covers the page, and what is known of it
pub covering : (P : FreeBlock → Type 0) (p : ℕ) (bs : List FreeBlock) → All P bs
    → is_covered p bs ≡ true → (b : FreeBlock) × P b × (covers p (block_of b) ≡ true)
covering P p [] all h = absurd cc
covering P p (b ∷ bs) all h = elim (or_cases (covers p (block_of b)) (is_covered p bs) h) [
  | inl here ↦ (b, All-head P b bs all, here)
  | inr there ↦ covering P p bs (All-tail P b bs all) there
]

-- of distinct pages, those of the first block and those of the others
pub distinct_rest : (b : Block) (bs : List Block) → AllDistinct (pages_of_all (b ∷ bs))
    → AllDistinct (pages_of_all bs)
distinct_rest b bs h = distinct_once (pages_of_all bs) (λ p. omega (
  arith,
  distinct_list (pages_of_all (b ∷ bs)) p h,
  times_in_blocks p (b ∷ bs),
  times_in_blocks p bs,
  count_by-cons (covers p) b bs,
))

pub distinct_apart : (p : ℕ) (b : Block) (bs : List Block) → AllDistinct (pages_of_all (b ∷ bs))
    → covers p b ≡ true → list_any (covers p) bs ≡ false
distinct_apart p b bs h c = false_from_ne_true (list_any (covers p) bs) (λ t.
    let one : one_if (covers p b) ≡ 1 = ap one_if c in omega (
      arith,
      times-some p (pages_of_all bs) (in_blocks p bs ∙ t),
      distinct_list (pages_of_all (b ∷ bs)) p h,
      times_in_blocks p (b ∷ bs),
      times_in_blocks p bs,
      count_by-cons (covers p) b bs,
    ))
