-- The least member by a summary, and what keeps summaries and the count right.
use Rattle.std.proofs.Common.{◌≡◌, ◌≢◌, ℕ, ◌+◌, ◌*◌, ◌/◌, ◌<◌, ◌≤◌, ◌↔◌, Bool, true, false, List}
use Rattle.std.proofs.Common.{Option, None, Some, length, set, replicate, cond, refl, sym, ap, ◌∙◌}
use Rattle.std.proofs.lemmas.List.{get_or-set_same, get_or-set_other, get_or_past, length-set}
use Rattle.std.{proofs.Common.{inl, inr, arith, subst}, specs.Prelude.count_by}
use Rattle.std.{proofs.lemmas.Bool.{cases_lt, false≢true}, proofs.lemmas.Bool.Decides.eqb_tells}
use Rattle.std.proofs.lemmas.List.{length-replicate, get_or-replicate}
use Rattle.std.{proofs.lemmas.List.Sums.sum_by-set, proofs.lemmas.List.Folds.sum_by-replicate}
use mir.Val.{bool_byte}
use Rattle.vb_bits.specs.Sets.{has, HasNoneFrom, HasNoneIn, IsLeastFrom, IsFirstFrom, IsNextInWord}
use Rattle.vb_bits.specs.Levels.{HasSummary}

-- ---- the least member

-- a member is below the bound
member_within : (set : List Bool) (n : ℕ) → has set n ≡ true → n < length set
member_within set n e = grind (arith, cases_lt, get_or_past)

-- a word that the summary has begins below the bound
pub word_within : (level summary : List Bool) (w : ℕ) → HasSummary level summary
    → has summary w ≡ true → 64 * w < length level
word_within level summary w s e = omega (arith, member_within summary w e, s.fewest)

pub first_within : (level summary : List Bool) (start : ℕ) (word : Option ℕ)
    → HasSummary level summary → IsFirstFrom summary start word
    → (w : ℕ) → word ≡ Some w → 64 * w < length level
first_within level summary start word s f w e = grind (arith, word_within)

-- where the summary has no word from one on, the level has no number from its first one on
pub none_in : (level summary : List Bool) (start : ℕ) → HasSummary level summary
    → HasNoneFrom summary start → HasNoneFrom level (64 * start)
none_in level summary start s none n from =
    let after : start ≤ n / 64 = omega arith in (s.tells (n / 64)).0 (none (n / 64) after) n refl

-- the least member of the first word that has one
pub least_in : (level summary : List Bool) (start w : ℕ) (found : Option ℕ)
    → HasSummary level summary → IsLeastFrom summary start w → IsNextInWord level (w * 64) found
    → IsFirstFrom level (64 * start) found
least_in level summary start w None s first none = let row : w * 64 / 64 ≡ w = omega arith in
    let bare : HasNoneIn level w = λ n e. none n (omega arith) (e ∙ sym row) in
    absurd (false≢true (sym ((s.tells w).1 bare) ∙ first.member))
least_in level summary start w (Some found) s first next = let least = next.1 in
    let after : start ≤ w = first.from in
    let from : w * 64 ≤ found = least.from in
    record {
      from = omega arith;
      member = least.member;
      least = λ n later before. elim (cases_lt (n / 64) w) [
        | inl earlier ↦
            let lower : start ≤ n / 64 = omega arith in
            (s.tells (n / 64)).0 (first.least (n / 64) lower earlier) n refl
        | inr here ↦ least.least n (omega arith) before
      ];
    }

-- with no member in what is left of a number's word, the next one is in the words after it
pub after_word : (set : List Bool) (n : ℕ) (found : Option ℕ) → ((m : ℕ) → n ≤ m → m / 64 ≡ n / 64
    → has set m ≡ false) → IsFirstFrom set (64 * (n / 64 + 1)) found → IsFirstFrom set n found
after_word set n found none later = grind arith

-- a set of a single word has no member but in that word
pub single_word : (set : List Bool) (n : ℕ) (found : Option ℕ) → length set ≤ 64
    → IsNextInWord set n found → IsFirstFrom set n found
single_word set n found few next = grind (arith, get_or_past)

-- ---- a number put in or taken out

-- of the word, what is put in elsewhere says nothing
elsewhere : (level : List Bool) (n w : ℕ) (one : Bool) → w ≢ n / 64 → (m : ℕ) → m / 64 ≡ w
    → has (set level n one) m ≡ has level m
elsewhere level n w one ne m row = grind (arith, get_or-set_other)

pub put_summary : (level summary : List Bool) (n : ℕ) (one any : Bool) → HasSummary level summary
    → n < length level → ((any ≡ false) ↔ HasNoneIn (set level n one) (n / 64))
    → HasSummary (set level n one) (set summary (n / 64) any)
put_summary level summary n one any s l told = record {
  enough = omega (arith, s.enough, length-set level n one, length-set summary (n / 64) any);
  fewest = omega (arith, s.fewest, length-set level n one, length-set summary (n / 64) any);
  tells = λ w. elim (eqb_tells w (n / 64)) [
    | inl same ↦
        let there : n / 64 < length summary = omega (arith, s.enough, l) in
        let now : has (set summary (n / 64) any) w ≡ any = ap (λ (k : ℕ). has
        (set summary (n / 64) any) k) same.1 ∙ get_or-set_same summary (n / 64) any false there in (
          λ e. subst (λ (k : ℕ). HasNoneIn (set level n one) k) (sym same.1) (told.0 (sym now ∙ e)),
          λ none. now ∙ told.1 (subst (λ (k : ℕ). HasNoneIn (set level n one) k) same.1 none),
        )
    | inr other ↦ let was = get_or-set_other summary (n / 64) w any false other.1 in (
      λ e m row. elsewhere level n w one other.1 m row ∙ (s.tells w).0 (sym was ∙ e) m row,
      λ none. was ∙ (s.tells w).1
          (λ m row. sym (elsewhere level n w one other.1 m row) ∙ none m row),
    )
  ];
}

pub put_levels : (level summary level2 summary2 : List Bool) (n : ℕ) (one any : Bool)
    → HasSummary level summary → n < length level → level2 ≡ set level n one
    → summary2 ≡ set summary (n / 64) any → ((any ≡ false) ↔ HasNoneIn level2 (n / 64))
    → HasSummary level2 summary2
put_levels level summary level2 summary2 n one any s l e f told =
    grind (
      arith,
      put_summary level summary n one any s l (subst (λ (xs : List Bool). (any ≡ false) ↔ HasNoneIn xs (n / 64)) e told),
    )

-- 1 for a member
abbrev pub weight : Bool → ℕ
weight b = cond b 1 0

pub weight_is : (b : Bool) → bool_byte b ≡ weight b
weight_is true = refl
weight_is false = refl

pub put_count : (level : List Bool) (n : ℕ) (one : Bool) → n < length level
    → count_by (λ b. b) (set level n one) + weight (has level n)
    ≡ count_by (λ b. b) level + weight one
put_count level n one l = sum_by-set weight level n one false l

-- ---- all numbers, and none

pub full_summary : (a b : ℕ) → a ≤ 64 * b → 64 * b < a + 64
    → HasSummary (replicate a true) (replicate b true)
full_summary a b enough fewest = let low = length-replicate {A = Bool} a true in
    let high = length-replicate {A = Bool} b true in
    record {
      enough = omega (arith, low, high);
      fewest = omega (arith, low, high);
      tells = λ w. elim (cases_lt w b) [
        | inl below ↦
            let there : 64 * w < a = omega arith in
            let row : 64 * w / 64 ≡ w = omega arith in (
              λ e. absurd (false≢true (sym e ∙ get_or-replicate b w true false below)),
              λ none. absurd (false≢true (sym (none (64 * w) row)
                  ∙ get_or-replicate a (64 * w) true false there)),
            )
        | inr past ↦ (
          λ _ m row. get_or_past (replicate a true) m false (omega arith),
          λ _. get_or_past (replicate b true) w false (omega arith),
        )
      ];
    }

pub count_full : (n : ℕ) → count_by (λ b. b) (replicate n true) ≡ n
count_full n = sum_by-replicate weight n true ∙ omega arith

pub full_levels : (level summary level2 summary2 : List Bool) → HasSummary level summary
    → level2 ≡ replicate (length level) true → summary2 ≡ replicate (length summary) true
    → HasSummary level2 summary2
full_levels level summary level2 summary2 s e f =
    grind (arith, full_summary (length level) (length summary) s.enough s.fewest)
