-- Words and their members, the next member of a word, and levels of summaries, worked out.
use Rattle.std.proofs.Common.{◌≡◌, ℕ, zero, suc, ◌/◌, ◌%◌, ◌<◌, ◌≤◌, Bool, true, false, List, []}
use Rattle.std.proofs.Common.{◌∷◌, ◌++◌, Some, None, arith, length, refl, replicate}
use Rattle.std.proofs.lemmas.List.{get_or-replicate, get_or_append_left, length-replicate}
use Rattle.std.specs.Prelude.{slice_index, count_by, ◌↔◌}
use Rattle.vb_virtio.specs.Tests.{has_bit}
use Rattle.vb_bits.proofs.Words.{cleared, zero_bit}
use Rattle.vb_bits.specs.Sets.{has, HasNoneFrom, IsLeastFrom, IsNextInWord, HasNoneIn}
use Rattle.vb_bits.specs.{Words.{IsLowestFrom, AreWordsOf}, Levels.{HasSummary, IsSummed}}

no : true ≡ false → ⊥
no e = cc

-- ---- bits of words

-- no bits need no word
no_words_for_none : AreWordsOf 0 (0 ∷ []) → ⊥
no_words_for_none are = omega (arith, are.fewest)

-- as many words as the bits need; bits below the bound may be 1
words_of_bits : AreWordsOf 0 [] × AreWordsOf 1 (0 ∷ []) × AreWordsOf 65 (0 ∷ 0 ∷ [])
words_of_bits = (
  cleared 0 0 (omega arith) (omega arith),
  cleared 1 1 (omega arith) (omega arith),
  cleared 65 2 (omega arith) (omega arith),
)

word_of_64 : AreWordsOf 64 (6 ∷ [])
word_of_64 = record {
  enough = omega arith;
  fewest = omega arith;
  clear = λ n from. past (n / 64) (n % 64) (omega (arith, from));
} where
  past : (w b : ℕ) → 0 < w → has_bit (slice_index (6 ∷ []) w) b ≡ false
  past zero b lt = absurd (omega (arith, lt))
  past (suc w) b lt = zero_bit b

-- a bit before the first that is asked for, the bit after the last of a word, and one that is 0
not_lowest : (IsLowestFrom 6 2 1 → ⊥) × (IsLowestFrom 0x10000000000000000 0 64 → ⊥)
    × (IsLowestFrom 4 1 1 → ⊥)
not_lowest = (
  λ is. omega (arith, is.from),
  λ is. omega (arith, is.within),
  λ is. (let wrong : false ≡ true = is.one in cc),
)

-- ---- members

abbrev set : List Bool
set = false ∷ true ∷ false ∷ true ∷ []

-- a number that is no member, and numbers past the last member, and from it on
not_a_member : (IsLeastFrom set 2 2 → ⊥) × HasNoneFrom set 4 × (HasNoneFrom set 3 → ⊥)
not_a_member =
    (λ is. (let wrong : false ≡ true = is.member in cc), past, λ none. no (none 3 (omega arith)))
  where
    past : (n : ℕ) → 4 ≤ n → has set n ≡ false
    past zero from = absurd (omega (arith, from))
    past (suc zero) from = absurd (omega (arith, from))
    past (suc (suc zero)) from = absurd (omega (arith, from))
    past (suc (suc (suc zero))) from = absurd (omega (arith, from))
    past (suc (suc (suc (suc k)))) from = refl

-- ---- the next member in a word

-- 64 numbers that are no members, and one that is: in the next word
abbrev next_word : List Bool
next_word = replicate 64 false ++ true ∷ []

none_before : (n k : ℕ) (more : List Bool) → k < n → has (replicate n false ++ more) k ≡ false
none_before n k more lt = grind (arith, get_or_append_left, get_or-replicate, length-replicate)

none_in_word : IsNextInWord next_word 2 None
none_in_word m from same = none_before 64 m (true ∷ []) (omega (arith, same))

next_in_word : IsNextInWord set 2 (Some 3) × IsNextInWord next_word 64 (Some 64)
next_in_word = ((refl, next), (refl, at_once)) where
  next : IsLeastFrom set 2 3
  next = record { from = omega arith; member = refl; least = below } where
    below : (m : ℕ) → 2 ≤ m → m < 3 → has set m ≡ false
    below zero from to = refl
    below (suc zero) from to = absurd (omega (arith, from))
    below (suc (suc zero)) from to = refl
    below (suc (suc (suc m))) from to = absurd (omega (arith, to))

  at_once : IsLeastFrom next_word 64 64
  at_once = record {
    from = omega arith;
    member = refl;
    least = λ m from to. absurd (omega (arith, from, to));
  }

-- none though there is one, one of the next word, one before the number, and one after another
not_next_in_word : (IsNextInWord set 2 None → ⊥) × (IsNextInWord next_word 2 (Some 64) → ⊥)
    × (IsNextInWord set 2 (Some 1) → ⊥) × (IsNextInWord set 0 (Some 3) → ⊥)
not_next_in_word = (
  λ none. no (none 3 (omega arith) refl),
  λ next. omega (arith, next.0),
  λ next. omega (arith, next.1.from),
  λ next. no (next.1.least 1 (omega arith) (omega arith)),
)

-- a member is the next one from itself on
next_is_itself : IsNextInWord set 1 None → ⊥
next_is_itself next = let wrong : true ≡ false = next 1 (omega arith) refl in cc

-- ---- summaries

no_words : HasNoneIn set 1 × (HasNoneIn set 0 → ⊥) × (HasNoneIn next_word 1 → ⊥)
no_words = (none, λ has_none. no (has_none 3 refl), λ has_none. no (has_none 64 refl)) where
  none : (n : ℕ) → n / 64 ≡ 1 → has set n ≡ false
  none zero e = absurd (omega (arith, e))
  none (suc zero) e = absurd (omega (arith, e))
  none (suc (suc zero)) e = absurd (omega (arith, e))
  none (suc (suc (suc zero))) e = absurd (omega (arith, e))
  none (suc (suc (suc (suc k)))) e = refl

-- four numbers of which two are members: their one word has some, and so has the word of that
one_word : HasSummary set (true ∷ [])
one_word = record { enough = omega arith; fewest = omega arith; tells = tells } where
  past : (w n : ℕ) → n / 64 ≡ suc w → has set n ≡ false
  past w zero e = absurd (omega (arith, e))
  past w (suc zero) e = absurd (omega (arith, e))
  past w (suc (suc zero)) e = absurd (omega (arith, e))
  past w (suc (suc (suc zero))) e = absurd (omega (arith, e))
  past w (suc (suc (suc (suc k)))) e = refl

  tells : (w : ℕ) → (has (true ∷ []) w ≡ false → HasNoneIn set w) × (HasNoneIn set w → has (true ∷ []) w ≡ false)
  tells zero = ((λ e. absurd (no e)), (λ none. absurd (no (none 1 refl))))
  tells (suc w) = ((λ e n is. past w n is), (λ none. refl))

-- a word too few, and a word with no member that is said to have some
no_summary : (HasSummary (replicate 65 false) (false ∷ []) → ⊥) × (HasSummary (false ∷ []) (true ∷ []) → ⊥)
no_summary = (
  λ summary. omega (arith, summary.enough),
  λ summary. no ((summary.tells 0).1 (λ n is. none n)),
) where
  none : (n : ℕ) → has (false ∷ []) n ≡ false
  none zero = refl
  none (suc n) = refl

-- two words for 128 numbers, and one for 64
whole_words : (level summary : List Bool) → length level ≡ 128 → length summary ≡ 2
    → ((w : ℕ) → (has summary w ≡ false) ↔ HasNoneIn level w) → HasSummary level summary
whole_words level summary long short tells =
    record { enough = omega (arith, long, short); fewest = omega (arith, long, short); tells = tells }

no_word_more : HasSummary (replicate 64 false) (false ∷ false ∷ []) → ⊥
no_word_more summary = omega (arith, summary.fewest)

-- 262,144 numbers at most
summed : (members words groups : List Bool) → length members ≡ 262144 → HasSummary members words
    → HasSummary words groups → IsSummed members words groups (count_by (λ b. b) members)
summed members words groups long first second =
    record { few = omega (arith, long); first = first; second = second; count = refl }

-- too many numbers, a summary that leaves a member out, one of that which does, and another count
not_summed : ((members words groups : List Bool) (len : ℕ) → length members ≡ 262145
    → IsSummed members words groups len → ⊥)
    × (IsSummed set (false ∷ []) (false ∷ []) 2 → ⊥) × (IsSummed set (true ∷ []) (false ∷ []) 2 → ⊥)
    × (IsSummed set (true ∷ []) (true ∷ []) 3 → ⊥)
not_summed = (
  λ members words groups len e is. omega (arith, e, is.few),
  λ is. no ((is.first.tells 0).0 refl 1 refl),
  λ is. no ((is.second.tells 0).0 refl 0 refl),
  λ is. omega (arith, is.count),
)
