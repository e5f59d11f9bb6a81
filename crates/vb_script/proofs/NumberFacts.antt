-- Which words are digits, decimal numbers, bytes and feature bits, and which bad line a fault names.
use Rattle.std.proofs.Common.{◌≡◌, ℕ, true, false, List, [], ◌∷◌, length, codes, refl, arith}
use Rattle.{std.specs.List.AllPass, hex.specs.Hex.{decode_pairs, is_hex_digit}}
use Rattle.vb_script.specs.declared.reading.ScriptFault.TheVariants.{BadLine, Memory}
use Rattle.vb_script.specs.{Numbers.{IsDigit, IsDecimal, IsByteWord, ShowsBits}, Scripts.IfBadLine}

-- `0` and `9` are digits, and their neighbours `/` and `:` aren't
digits : IsDigit 48 × IsDigit 57 × (IsDigit 47 → ⊥) × (IsDigit 58 → ⊥)
digits = (
  (omega arith, omega arith),
  (omega arith, omega arith),
  λ is. omega (arith, is.0),
  λ is. omega (arith, is.1),
)

-- one digit is enough; no word without one, and none with another byte, first or last
decimals : IsDecimal (codes "0") × IsDecimal (codes "09")
    × (IsDecimal [] → ⊥) × (IsDecimal (codes "/0") → ⊥) × (IsDecimal (codes "0:") → ⊥)
decimals = (
  (omega arith, λ k d lt. grind arith),
  (omega arith, λ k d lt. grind arith),
  λ is. omega (arith, is.0),
  λ is. omega (arith, (is.1 0 0 (omega arith)).0),
  λ is. omega (arith, (is.1 1 0 (omega arith)).1),
)

-- digits of either case that show one byte to a page of them: no digit, an odd number of them, a byte
-- too many, and another byte among them
byte_words : (word : List ℕ) → IsByteWord (codes "aF")
    × (length word ≡ 8192 → AllPass is_hex_digit word → IsByteWord word)
    × (IsByteWord [] → ⊥) × (IsByteWord (codes "abc") → ⊥) × (length word ≡ 8194 → IsByteWord word → ⊥)
    × (IsByteWord (codes "ag") → ⊥) × (IsByteWord (codes "ga") → ⊥)
byte_words word = (
  (omega arith, omega arith, refl, λ k d lt. grind arith),
  λ long pass. (omega (arith, long), omega (arith, long), rw long refl, pass),
  λ is. omega (arith, is.0),
  λ is. omega (arith, is.2),
  λ long is. omega (arith, is.1, long),
  λ is. (let wrong : false ≡ true = is.3 1 0 (omega arith) in absurd cc),
  λ is. (let wrong : false ≡ true = is.3 0 0 (omega arith) in absurd cc),
)

-- 16 digits, the highest bits first; no bits of another byte's digits, and none of 14 or 18 digits
bits : (bits : ℕ) → (ShowsBits (codes "0000000100000027") bits → bits ≡ 4294967335)
    × ShowsBits (codes "8000000000000001") 9223372036854775809
    × (ShowsBits (codes "00000001000000") bits → ⊥) × (ShowsBits (codes "000000010000000000") bits → ⊥)
    × (ShowsBits (codes "000000010000000g") bits → ⊥)
unfolding decode_pairs
bits b = (
  λ is. grind (arith, is),
  (128 ∷ 0 ∷ 0 ∷ 0 ∷ 0 ∷ 0 ∷ 0 ∷ 1 ∷ [], refl, refl),
  λ is. (let e = is.1 in absurd cc),
  λ is. (let e = is.1 in absurd cc),
  λ is. (let e = is.1 in absurd cc),
)

-- of a bad line this holds of its number, and of an allocation failure nothing
of_a_bad_line : (IfBadLine (BadLine 7) (λ number. number ≡ 8) → ⊥)
    × IfBadLine (BadLine 7) (λ number. number ≡ 7) × IfBadLine Memory (λ number. ⊥)
of_a_bad_line = (λ wrong. omega (arith, wrong), refl, tt)
