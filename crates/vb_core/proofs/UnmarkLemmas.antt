-- The pages of one set leave another one, word by word.
use Rattle.std.proofs.Common.{◌≡◌, ◌∙◌, ℕ, ◌+◌, ◌-◌, ◌*◌, ◌/◌, ◌%◌, ◌^◌, ◌<◌, ◌≤◌, Bool, true, false, cond}
use Rattle.std.proofs.Common.{not, ◌&&◌, ◌||◌, List, length, get_or, arith, ap, sym, refl, min, eqb, ltb, count_by}
use Rattle.std.{proofs.lemmas.Bool.Decides.nat_tests, specs.List.range_with_len}
use Rattle.vb_virtio.specs.Tests.{has_bit}
use Rattle.vb_core.specs.Ballooned.{is_ballooned, is_changed, Puts, Loses}
use Rattle.vb_core.proofs.MarkLemmas.{put_both, put_none}

-- the page is one of the first n words of a set
abbrev pub is_below : List ℕ → ℕ → ℕ → Bool
is_below pages n p = ltb (p / 64) n && is_ballooned pages p

abbrev pub changes : List ℕ → List ℕ → ℕ
changes old new = count_by (is_changed old new) (range_with_len 0 (64 * length old))

-- the pages of the first n words have left
pub record LosesFirst (pages old new : List ℕ) (n left : ℕ) : Type 0 where
  pub gone : Puts (is_below pages n) false old new (changes old new)
  pub count : left ≡ min (changes old new) (2 ^ 64 - 1)

none_below : (pages : List ℕ) (p : ℕ) → is_below pages 0 p ≡ false
none_below pages p = grind (arith, nat_tests)

pub lose_none : (pages old : List ℕ) → LosesFirst pages old old 0 0
lose_none pages old =
    let none = put_none (is_below pages 0) false old (none_below pages) in
    record { gone = grind (arith, none); count = grind (arith, none.count) }

same_word : (pages : List ℕ) (n p : ℕ) →
    is_below pages (n + 1) p ≡ (is_below pages n p || (eqb (p / 64) n && has_bit (get_or pages n 0) (p % 64)))
same_word pages n p = grind (arith, nat_tests)

-- one more word
pub lose_more : (pages old set new : List ℕ) (n left gone : ℕ) → LosesFirst pages old set n left →
    Puts (λ p. eqb (p / 64) n && has_bit (get_or pages n 0) (p % 64)) false set new gone →
    LosesFirst pages old new (n + 1) (min (left + gone) (2 ^ 64 - 1))
lose_more pages old set new n left gone before one =
    let both = put_both (is_below pages n) (λ p. eqb (p / 64) n && has_bit (get_or pages n 0) (p % 64))
    (is_below pages (n + 1)) false old set new (changes old set) gone before.gone one (same_word pages n) in
    record { gone = grind (arith, both); count = omega (arith, both.count, before.count) }
