-- Sets, words and their summaries, worked out.
use Rattle.std.proofs.Common.{◌≡◌, ℕ, zero, suc, ◌<◌, ◌≤◌, true, false, List, [], ◌∷◌, map, refl}
use Rattle.std.{proofs.Common.arith, specs.Prelude.{Bool, Some, None}}
use Rattle.vb_bits.specs.declared.{word.TheConstants.WORD_BITS, set.TheConstants.MAX_BOUND}
use Rattle.vb_bits.specs.{Sets.{has, IsFirstFrom}, Words.{in_words, flags_of, AreWordsOf}}
use Rattle.vb_bits.specs.{Words.IsLowestFrom, Levels.HasSummary}

numbers : WORD_BITS ∷ MAX_BOUND ∷ [] ≡ 64 ∷ 262144 ∷ []
numbers = refl

-- ---- bits of words: bit 1 of word 0, and bit 0 of word 1

bits : map (in_words (2 ∷ 1 ∷ [])) (0 ∷ 1 ∷ 63 ∷ 64 ∷ 65 ∷ 128 ∷ [])
    ≡ false ∷ true ∷ false ∷ true ∷ false ∷ false ∷ []
bits = refl

flags : flags_of 3 (6 ∷ []) ≡ false ∷ true ∷ true ∷ []
unfolding flags_of
flags = refl

past_the_bound : AreWordsOf 1 (2 ∷ []) → ⊥
past_the_bound are = (let wrong : true ≡ false = are.clear 1 (omega arith) in absurd cc)

a_word_too_many : AreWordsOf 64 (0 ∷ 0 ∷ []) → ⊥
a_word_too_many are = omega (arith, are.fewest)

a_word_too_few : AreWordsOf 65 (0 ∷ []) → ⊥
a_word_too_few are = omega (arith, are.enough)

second_bit : IsLowestFrom 6 1 1
second_bit = record { from = omega arith; within = omega arith; one = refl; lowest = λ k from to. absurd (omega (arith, from, to)) }

not_the_third : IsLowestFrom 6 1 2 → ⊥
not_the_third is = (let wrong : true ≡ false = is.lowest 1 (omega arith) (omega arith) in absurd cc)

-- ---- sets

abbrev set : List Bool
set = false ∷ true ∷ false ∷ true ∷ []

members : map (has set) (0 ∷ 1 ∷ 3 ∷ 4 ∷ []) ≡ false ∷ true ∷ true ∷ false ∷ []
members = refl

first : IsFirstFrom set 2 (Some 3)
first = record { from = omega arith; member = refl; least = below } where
  below : (m : ℕ) → 2 ≤ m → m < 3 → has set m ≡ false
  below zero from to = refl
  below (suc zero) from to = absurd (omega (arith, from))
  below (suc (suc zero)) from to = refl
  below (suc (suc (suc m))) from to = absurd (omega (arith, to))

not_one_before : IsFirstFrom set 2 (Some 1) → ⊥
not_one_before is = omega (arith, is.from)

not_a_later_one : IsFirstFrom set 1 (Some 3) → ⊥
not_a_later_one is = (let wrong : true ≡ false = is.least 1 (omega arith) (omega arith) in absurd cc)

there_is_one : IsFirstFrom set 2 None → ⊥
there_is_one none = (let wrong : true ≡ false = none 3 (omega arith) in absurd cc)

-- ---- summaries

no_member_left_out : HasSummary set (false ∷ []) → ⊥
no_member_left_out summary = (let wrong : true ≡ false = (summary.tells 0).0 refl 1 refl in absurd cc)

as_short_as_may_be : HasSummary set (true ∷ false ∷ []) → ⊥
as_short_as_may_be summary = omega (arith, summary.fewest)
