-- Maximal blocks of a set, and the test that finds them.
use Rattle.std.proofs.Common.{◌≡◌, ℕ, zero, suc, ◌+◌, ◌-◌, ◌%◌, ◌^◌, ◌<◌, ◌≤◌, Bool, true, List}
use Rattle.std.proofs.lemmas.Bool.{cases_lt, and_parts, and_from, eqb-true, not-true}
use Rattle.std.specs.List.{list_all, list_any, range_with_len}
use Rattle.std.proofs.lemmas.{Bool.{not_from_false, false_from_ne_true, both_ways}, Nat.pow_pos}
use Rattle.std.{proofs.Common.{inl, inr, refl, sym, ◌∙◌, arith}, specs.Prelude.not}
use Rattle.vb_virtio.proofs.Tables.{list_all-at}
use Rattle.vb_model.proofs.Blocks.{any_in_range}
use Rattle.vb_model.specs.Pages.{Block, size, pages_of, is_aligned, around, is_whole, is_maximal}
use Rattle.vb_pages.proofs.Aligned.{aligned_step, aligned_same, aligned_down, end_aligned}
use Rattle.vb_pages.proofs.{Aligned.floor_aligned, Sets.in_block, TilesLemmas.any_range}
use Rattle.vb_pages.specs.Areas.{has, IsBlock, LiesIn, LiesWithin, IsMaximal}

-- of two aligned blocks round one page, the smaller lies within the larger
pub nested : (s j t k p : ℕ) → s % 2 ^ j ≡ 0 → t % 2 ^ k ≡ 0 → j ≤ k → s ≤ p → p < s + 2 ^ j
    → t ≤ p → p < t + 2 ^ k → (t ≤ s) × (s + 2 ^ j ≤ t + 2 ^ k)
nested s j t k p sa ta jk a b c d = let td : t % 2 ^ j ≡ 0 = aligned_down t j k jk ta in
    let te : (t + 2 ^ k) % 2 ^ j ≡ 0 = end_aligned t j k jk ta in grind (arith, aligned_step)

pub aligned_is : (b : Block) → is_aligned b ≡ true → b.start % 2 ^ b.order ≡ 0
aligned_is b h = eqb-true (b.start % 2 ^ b.order) 0 h

-- no two maximal blocks are round one page
pub overlap_same : (set : List Bool) (a b : Block) (p : ℕ) → IsMaximal set a → IsMaximal set b
    → a.start ≤ p → p < a.start + size a → b.start ≤ p → p < b.start + size b
    → (a.start ≡ b.start) × (a.order ≡ b.order)
overlap_same set a b p x y al ah bl bh =
    let ax : a.start % 2 ^ a.order ≡ 0 = aligned_is a x.is_block.1 in
    let by : b.start % 2 ^ b.order ≡ 0 = aligned_is b y.is_block.1 in
    elim (cases_lt b.order a.order) [
      | inl l ↦
          let w = nested b.start b.order a.start a.order p by ax (omega arith) bl bh al ah in
          let o : a.order ≤ b.order = y.alone a x.is_block x.inside w in absurd (omega arith)
      | inr g ↦
          let w = nested a.start a.order b.start b.order p ax by g al ah bl bh in grind arith
    ]

-- ---- the test and the fact

all_range : (test : ℕ → Bool) (a n : ℕ) → ((p : ℕ) → a ≤ p → p < a + n → test p ≡ true)
    → list_all test (range_with_len a n) ≡ true
all_range test a zero h = refl
all_range test a (suc n) h =
    and_from (test a) (list_all test (range_with_len (a + 1) n)) (h a (omega arith) (omega arith))
    (all_range test (a + 1) n (λ p l u. h p (omega arith) (omega arith)))

module _ (test : ℕ → Bool) (set : List Bool) (same : (p : ℕ) → test p ≡ has set p) where
  whole_inside : (b : Block) → is_whole test b ≡ true → LiesIn set b
  whole_inside b h p l u = sym (same p) ∙ list_all-at test (pages_of b) p
      (and_parts (is_aligned b) (list_all test (pages_of b)) h).1 (in_block b.start b.order p l u)

  inside_whole : (b : Block) → is_aligned b ≡ true → LiesIn set b → is_whole test b ≡ true
  inside_whole b aligned inside = and_from (is_aligned b) (list_all test (pages_of b)) aligned
      (all_range test b.start (size b) (λ p l u. same p ∙ inside p l u))

  larger_round : (b c : Block) → IsBlock c → LiesIn set c → LiesWithin b c
      → is_whole test (around b.start c.order) ≡ true
  larger_round b c blk inside w = let m : ℕ = 2 ^ c.order in
      let pos : 0 < m = pow_pos c.order in
      let some : 0 < 2 ^ b.order = pow_pos b.order in
      grind (arith, aligned_same, floor_aligned, inside_whole)

  pub maximal_is : (b : Block) → b.order ≤ 9 → is_maximal test b ≡ true → IsMaximal set b
  maximal_is b small h =
      let parts = and_parts (is_whole test b)
      (not (list_any (λ order. is_whole test (around b.start order))
      (range_with_len (suc b.order) (9 - b.order)))) h in record {
        is_block = (small, (and_parts (is_aligned b) (list_all test (pages_of b)) parts.0).0);
        inside = whole_inside b parts.0;
        alone = λ c blk inside w. elim (cases_lt b.order c.order) [
          | inr g ↦ g
          | inl l ↦
              let nine : c.order ≤ 9 = blk.0 in
              let any = any_in_range (λ order. is_whole test (around b.start order)) c.order
              (suc b.order) (9 - b.order) (omega arith) (omega arith)
              (larger_round b c blk inside w) in absurd (both_ways _ (not-true _ parts.1) any)
        ];
      }

  pub is_maximal_by : (b : Block) → IsMaximal set b → is_maximal test b ≡ true
  is_maximal_by b x =
      let any = list_any (λ order. is_whole test (around b.start order))
      (range_with_len (suc b.order) (9 - b.order)) in
      and_from (is_whole test b) (not any) (inside_whole b x.is_block.1 x.inside)
      (not_from_false any (false_from_ne_true any (λ h. none h)))
    where
      none : list_any (λ order. is_whole test (around b.start order))
          (range_with_len (suc b.order) (9 - b.order)) ≡ true → ⊥
      none h =
          let q = any_range (λ order. is_whole test (around b.start order)) (suc b.order)
          (9 - b.order) h in
          let nine : b.order ≤ 9 = x.is_block.0 in
          let k : ℕ = q.0 in
          let low : suc b.order ≤ k = q.1 in
          let high : k < suc b.order + (9 - b.order) = q.2 in
          let c : Block = around b.start k in
          let whole : is_whole test c ≡ true = q.3 in
          let aligned : is_aligned c ≡ true =
          (and_parts (is_aligned c) (list_all test (pages_of c)) whole).0 in
          let pos : 0 < 2 ^ k = pow_pos k in
          let some : 0 < 2 ^ b.order = pow_pos b.order in
          let w = nested b.start b.order c.start k b.start (aligned_is b x.is_block.1)
          (aligned_is c aligned) (omega arith) (omega arith) (omega arith) (omega arith)
          (omega arith) in
          let o : k ≤ b.order = x.alone c (omega arith, aligned) (whole_inside c whole) w in
          omega arith
