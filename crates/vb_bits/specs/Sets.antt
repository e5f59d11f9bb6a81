-- Sets of numbers below a bound: a flag for each number.
use Rattle.std.specs.Prelude.{◌≡◌, ℕ, ◌/◌, ◌<◌, ◌≤◌, Bool, true, false, List, slice_index_or}
use Rattle.std.specs.Prelude.{Option, MatchOption}
use Rattle.vb_bits.specs.declared.word.TheConstants.{WORD_BITS}

-- whether the number is in the set; none past the bound is
abbrev pub has : List Bool → ℕ → Bool
has set n = slice_index_or set n false

-- no number from this one on is in the set
abbrev pub HasNoneFrom : List Bool → ℕ → Type 0
HasNoneFrom set start = (n : ℕ) → start ≤ n → has set n ≡ false

-- the least member from a number on
pub record IsLeastFrom (set : List Bool) (start n : ℕ) : Type 0 where
  pub from : start ≤ n
  pub member : has set n ≡ true
  pub least : (m : ℕ) → start ≤ m → m < n → has set m ≡ false

-- the least member from a number on, if there is one
abbrev pub IsFirstFrom : List Bool → ℕ → Option ℕ → Type 0
IsFirstFrom set start found = MatchOption found (HasNoneFrom set start) (IsLeastFrom set start)

-- of the members in a number's word, the least one from the number on, if there is one
abbrev pub IsNextInWord : List Bool → ℕ → Option ℕ → Type 0
IsNextInWord set n found = MatchOption found
    ((m : ℕ) → n ≤ m → m / WORD_BITS ≡ n / WORD_BITS → has set m ≡ false)
    (λ m. (m / WORD_BITS ≡ n / WORD_BITS) × IsLeastFrom set n m)

-- no number of this word is in the set
abbrev pub HasNoneIn : List Bool → ℕ → Type 0
HasNoneIn set word = (n : ℕ) → n / WORD_BITS ≡ word → has set n ≡ false
