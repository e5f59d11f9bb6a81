-- Which blocks a report takes, one after the other.
use Rattle.std.proofs.Common.{◌≡◌, ℕ, ◌+◌, ◌^◌, ◌<◌, ◌≤◌, Bool, true, List, [], ◌∷◌, inl, inr, sym}
use Rattle.std.proofs.{Common.{◌∙◌, ap, arith}, lemmas.Bool.{cases_lt, and_parts, and_from, le-leb}}
use Rattle.std.proofs.lemmas.{Bool.{leb-true, false_from_ne_true}, Nat.pow_pos}
use Rattle.std.specs.{List.{range_with_len, flat_map}, Prelude.{◌&&◌, nat_le, filter}}
use Rattle.vb_model.specs.Pages.{Block, is_maximal, blocks_at, blocks_below, maximal_blocks}
use Rattle.vb_pages.{specs.Areas.{has, block_at, IsMaximal, IsLowestFrom}, proofs.Sets.same_bool}
use Rattle.vb_report.proofs.Filtering.{filter_twice, filter_none, filter_same, filter_one}
use Rattle.vb_report.proofs.Maximal.{overlap_same, maximal_is, is_maximal_by}
use Rattle.vb_report.proofs.Filtering.{flat_none, flat_split}

-- ---- the first block from a page on, and the others

-- of order 4 or more, from a page on
abbrev pub is_later : ℕ → Block → Bool
is_later from b = nat_le 4 b.order && nat_le from b.start

module _ (test : ℕ → Bool) (set : List Bool) (same : (p : ℕ) → test p ≡ has set p) where
  -- a maximal block that a report from the page on may name
  may_name : ℕ → Block → Bool
  may_name from b = is_maximal test b && is_later from b

  pub record MayName (from : ℕ) (b : Block) : Type 0 where
    pub maximal : IsMaximal set b
    pub large : 4 ≤ b.order
    pub after : from ≤ b.start

  named_is : (from : ℕ) (b : Block) → b.order ≤ 9 → may_name from b ≡ true → MayName from b
  unfolding may_name
  named_is from b small h = let q = and_parts (is_maximal test b) (is_later from b) h in
      let r = and_parts (nat_le 4 b.order) (nat_le from b.start) q.1 in record {
        maximal = maximal_is test set same b small q.0;
        large = leb-true 4 b.order r.0;
        after = leb-true from b.start r.1;
      }

  is_named : (from : ℕ) (b : Block) → MayName from b → may_name from b ≡ true
  unfolding may_name
  is_named from b x = and_from (is_maximal test b)
      (is_later from b) (is_maximal_by test set same b x.maximal) (and_from (nat_le 4 b.order)
      (nat_le from b.start) (le-leb 4 b.order x.large) (le-leb from b.start x.after))

  listed : (from n : ℕ) → filter (is_later from) (maximal_blocks n test)
      ≡ filter (may_name from) (flat_map blocks_at (range_with_len 0 n))
  unfolding may_name
  listed from n = filter_twice (is_later from) (is_maximal test) (blocks_below n)

  pub none_named : (from n : ℕ) → ((b : Block) → MayName from b → ⊥)
      → filter (is_later from) (maximal_blocks n test) ≡ []
  none_named from n never = listed from n ∙ flat_none (may_name from) blocks_at 0 n
      (λ s l u. filter_none (may_name from) (block_at s) 0 10
      (λ k a e. false_from_ne_true (may_name from (block_at s k))
      (λ h. never (block_at s k) (named_is from (block_at s k) (omega arith) h))))

  -- one block of those that start at its first page
  module _ (from s k n : ℕ) (low : IsLowestFrom set 4 from (block_at s k)) where
    end : ℕ
    end = s + 2 ^ k

    small : k ≤ 9
    small = low.maximal.is_block.0

    long : 0 < 2 ^ k
    long = pow_pos k

    before : (r : ℕ) → r < s → filter (may_name from) (blocks_at r) ≡ []
    before r l = filter_none (may_name from) (block_at r) 0 10
        (λ j a e. false_from_ne_true (may_name from (block_at r j)) (λ h.
        let x = named_is from (block_at r j) (omega arith) h in
        let o : s ≤ r = low.lowest (block_at r j) x.maximal x.large x.after in omega arith))

    not_after : (r : ℕ) → r ≤ s → filter (may_name end) (blocks_at r) ≡ []
    unfolding end
    not_after r l = grind (arith, named_is, long)

    just_one : filter (may_name from) (blocks_at s) ≡ block_at s k ∷ []
    just_one = let fine = small in
        filter_one (may_name from) (block_at s) k 0 10 (omega arith) (omega arith)
        (is_named from (block_at s k)
        (record { maximal = low.maximal; large = low.sufficient; after = low.after }))
        (λ j a e d. false_from_ne_true (may_name from (block_at s j)) (λ h.
        let x = named_is from (block_at s j) (omega arith) h in
        let pos : 0 < 2 ^ j = pow_pos j in
        let some = long in
        let o = overlap_same set (block_at s j) (block_at s k) s x.maximal low.maximal (omega arith)
        (omega arith) (omega arith) (omega arith) in d o.1))

    later : (r : ℕ) → s < r → filter (may_name from) (blocks_at r) ≡ filter (may_name end) (blocks_at r)
    unfolding end
    later r l = filter_same (may_name from) (may_name end) (block_at r) 0 10 (λ j a e.
        same_bool (may_name from (block_at r j)) (may_name end (block_at r j)) (λ h.
        let x = named_is from (block_at r j) (omega arith) h in
        is_named end (block_at r j) (record {
          maximal = x.maximal;
          large = x.large;
          after = elim (cases_lt r (s + 2 ^ k)) [
            | inr g ↦ g
            | inl u ↦
                let pos : 0 < 2 ^ j = pow_pos j in
                let o = overlap_same set (block_at r j) (block_at s k) r x.maximal low.maximal
                (omega arith) (omega arith) (omega arith) u in
                let eq : r ≡ s = o.0 in absurd (omega arith)
          ];
        })) (λ h.
        grind (arith, named_is, is_named)))

    pub first_named : s < n → filter (is_later from) (maximal_blocks n test)
        ≡ block_at s k ∷ filter (is_later (s + 2 ^ k)) (maximal_blocks n test)
    unfolding end
    first_named l = listed from n ∙ (flat_split (may_name from) (may_name end) blocks_at s
        (block_at s k) 0 n (omega arith) (omega arith) (λ r b. before r b)
        (λ r b. not_after r (omega arith)) just_one (not_after s (omega arith)) (λ r b. later r b)
        ∙ ap (λ (bs : List Block). block_at s k ∷ bs) (sym (listed end n)))
