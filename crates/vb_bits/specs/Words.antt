-- Numbers as bits of words.
use Rattle.std.specs.Prelude.{◌≡◌, ℕ, ◌+◌, ◌*◌, ◌/◌, ◌%◌, ◌<◌, ◌≤◌, Bool, true, false, List, length}
use Rattle.std.specs.Prelude.{map, slice_index}
use Rattle.std.specs.List.{range_with_len}
use Rattle.vb_virtio.specs.Tests.{has_bit}
use Rattle.vb_bits.specs.declared.word.TheConstants.{WORD_BITS}

-- whether the number's bit is 1: bit b of word w represents 64 w + b
abbrev pub in_words : List ℕ → ℕ → Bool
in_words words n = has_bit (slice_index words (n / WORD_BITS)) (n % WORD_BITS)

-- a flag for each number below the bound
unfoldable pub flags_of : ℕ → List ℕ → List Bool
flags_of bound words = map (in_words words) (range_with_len 0 bound)

-- just the words of n numbers; the bits past the bound are 0
pub record AreWordsOf (bound : ℕ) (words : List ℕ) : Type 0 where
  pub enough : bound ≤ WORD_BITS * length words
  pub fewest : WORD_BITS * length words < bound + WORD_BITS
  pub clear : (n : ℕ) → bound ≤ n → in_words words n ≡ false

-- of a word's bits from this one on, the lowest that is 1
pub record IsLowestFrom (word bit found : ℕ) : Type 0 where
  pub from : bit ≤ found
  pub within : found < WORD_BITS
  pub one : has_bit word found ≡ true
  pub lowest : (k : ℕ) → bit ≤ k → k < found → has_bit word k ≡ false
