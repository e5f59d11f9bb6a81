-- Levels of numbers, where each has a number for each word of the one below it.
use Rattle.std.specs.Prelude.{◌≡◌, ℕ, ◌+◌, ◌*◌, ◌<◌, ◌≤◌, ◌↔◌, Bool, false, List, length, count_by}
use Rattle.vb_bits.specs.declared.set.TheConstants.{MAX_BOUND}
use Rattle.vb_bits.specs.declared.word.TheConstants.{WORD_BITS}
use Rattle.vb_bits.specs.Sets.{has, HasNoneIn}

-- the summary of a level has just those of its words that have a member
pub record HasSummary (level summary : List Bool) : Type 0 where
  pub enough : length level ≤ WORD_BITS * length summary
  pub fewest : WORD_BITS * length summary < length level + WORD_BITS
  pub tells : (w : ℕ) → (has summary w ≡ false) ↔ HasNoneIn level w

-- the members, their summary, its summary, and how many members there are
pub record IsSummed (members words groups : List Bool) (len : ℕ) : Type 0 where
  pub few : length members ≤ MAX_BOUND
  pub first : HasSummary members words
  pub second : HasSummary words groups
  pub count : len ≡ count_by (λ b. b) members
