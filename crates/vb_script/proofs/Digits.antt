-- The number that a prefix of some digits shows, and what is left of them.
use Rattle.std.proofs.Common.{◌≡◌, ℕ, ◌+◌, ◌-◌, ◌*◌, ◌^◌, ◌<◌, ◌≤◌, List, [], ◌∷◌, length, get_or}
use Rattle.std.proofs.{Common.{drop, ap, sym, ◌∙◌, arith}, Math.Seq.drop-cons, lemmas.List.drop_all}
use Rattle.vb_script.specs.Numbers.{IsDecimal, IsDigit, decimal_value, with_digits}

-- more digits make no number smaller
pub le-with_digits : (n : ℕ) (digits : List ℕ) → n ≤ with_digits n digits
le-with_digits n [] = omega arith
le-with_digits n (digit ∷ digits) =
    let more = le-with_digits (n * 10 + (digit - 48)) digits in omega (arith, more)

-- where the next byte is no digit, or makes the number too large, the word shows no number
pub no_number : (word : List ℕ) (i value : ℕ) → decimal_value word ≡ with_digits value (drop i word)
    → i < length word → (IsDigit (get_or word i 0) × (value * 10 + (get_or word i 0 - 48) < 2 ^ 32)
    → ⊥) → IsDecimal word × (decimal_value word < 2 ^ 32) → ⊥
no_number word i value e lt refused h6 = grind (arith, drop-cons, le-with_digits)

-- at the end of a word its number is the one that all its digits show
pub whole_number : (word : List ℕ) (i value : ℕ) → decimal_value word
    ≡ with_digits value (drop i word) → length word ≤ i → value ≡ decimal_value word
whole_number word i value e past =
    sym (e ∙ ap (λ rest. with_digits value rest) (drop_all i word past))
