use Rattle.std.{proofs.Common.{◌≡◌, ◌*◌, ◌+◌, ◌<◌, ◌≤◌, ℕ, max, arith}, specs.Int.div_ceil}
use Rattle.vb_pages.proofs.TableLemmas.{member_listed, listed_number, length-set_of_order}
use Rattle.vb_pages.proofs.table.Table.bits.Goals as goal

-- words of 64 bits that hold n numbers
count_is : (words numbers : ℕ) → 0 < words → max 1 numbers ≤ 64 * words
    → 64 * words < max 1 numbers + 64 → words ≡ max 1 (div_ceil numbers 64)
count_is words numbers some enough fewest = omega arith

pub returns-clause-words : goal.returns-clause-words
returns-clause-words c = grind (arith, length-set_of_order, count_is)

pub returns-clause-bits : goal.returns-clause-bits
returns-clause-bits c = grind (arith, member_listed, listed_number)
