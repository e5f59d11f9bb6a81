-- The set of the pages in the balloon, as words: page p is in it where bit p % 64 of word p / 64 is
-- 1 (VIRTIO 1.1, 5.5.6).
use Rattle.std.specs.Prelude.{◌≡◌, ℕ, ◌*◌, ◌-◌, ◌^◌, min, Bool, true, false, not, nat_le, List, []}
use Rattle.std.specs.Prelude.{◌∷◌, length}
use Rattle.std.specs.Prelude.{if◌then◌else◌, count_by, Option, Some, None, Result, Err, IsOkAnd}
use Rattle.std.specs.List.{range_with_len, list_any}
use Rattle.vb_virtio.specs.Tests.{is_in}
use Rattle.vb_bits.specs.declared.word.TheConstants.{WORD_BITS}
use Rattle.vb_bits.specs.Words.{in_words}
use Rattle.vb_core.specs.declared.kinds.Kind.{Kind}
use Rattle.vb_core.specs.declared.kinds.Kind.TheVariants.{Inflate, Deflate, Statistics, Hint}
use Rattle.vb_core.specs.declared.kinds.Kind.TheVariants.{Report}
use Rattle.vb_core.specs.declared.ballooned.Marking.{Marking}
use Rattle.vb_core.specs.declared.ballooned.Marking.TheVariants.{Enter, Leave}
use Rattle.vb_core.specs.declared.runs.Run.{Run}
use Rattle.vb_core.specs.declared.device.Denial.{Denial}
use Rattle.vb_core.specs.declared.device.Denial.TheVariants.{NoQueue, BadArgument}
use Rattle.vb_core.specs.Runs.{pages_of_runs}
use Rattle.vb_core.specs.Devices.{◌⇛◌, first_denial}
use Rattle.vb_core.specs.Name.{is_request}

-- The page is in the set. None after the words is.
abbrev pub is_ballooned : List ℕ → ℕ → Bool
is_ballooned set page = in_words set page

-- The pages that a set has bits for, of n words.
abbrev pub pages_with_bits : ℕ → List ℕ
pages_with_bits words = range_with_len 0 (WORD_BITS * words)

-- How many pages are in the set.
abbrev pub ballooned_count : List ℕ → ℕ
ballooned_count set = count_by (is_ballooned set) (pages_with_bits (length set))

-- The page is in just one of two sets.
abbrev pub is_changed : List ℕ → List ℕ → ℕ → Bool
is_changed old new page =
    if is_ballooned old page then not (is_ballooned new page) else is_ballooned new page

-- Marked pages enter the set; else they leave it.
abbrev pub is_entering : Marking → Bool
is_entering Enter = true
is_entering Leave = false

-- Pages that pass a test are in the new set, or none of them is; all others are in it where they
-- are in the old one; and n pages are in just one of both.
pub record Puts (test : ℕ → Bool) (inside : Bool) (old new : List ℕ) (changed : ℕ) : Type 0 where
  pub words : length new ≡ length old
  pub pages : (p : ℕ) → is_ballooned new p ≡ (if test p then inside else is_ballooned old p)
  pub count : changed ≡ count_by (is_changed old new) (pages_with_bits (length old))

-- The pages of one set are in the new set no more, and all others are in it where they are in the
-- old one; and how many left it, as far as 64 bits say it.
pub record Loses (pages old new : List ℕ) (left : ℕ) : Type 0 where
  pub words : length new ≡ length old
  pub gone : (p : ℕ) →
      is_ballooned new p ≡ (if is_ballooned pages p then false else is_ballooned old p)
  pub count : left ≡ min (count_by (is_changed old new) (pages_with_bits (length old))) (2 ^ 64 - 1)

-- The kind's requests put pages in; else they take pages out.
abbrev pub puts_in : Kind → Bool
puts_in Inflate = true
puts_in Deflate = false
puts_in Statistics = false
puts_in Hint = false
puts_in Report = false

-- What is refused, with n words: what isn't a request, and a page that has no bit.
abbrev pub mark_denial : Kind → List Run → ℕ → Option Denial
mark_denial kind runs words =
    first_denial
    ((not (is_request kind) ⇛ NoQueue)
    ∷ (list_any (λ p. nat_le (WORD_BITS * words) p) (pages_of_runs runs) ⇛ BadArgument)
    ∷ [])

-- The pages of all runs are put in, or taken out.
pub record MarksBy (kind : Kind) (runs : List Run) (old new : List ℕ) (result : Result ℕ Denial) :
    Type 0 where
  pub denied : (why : Denial) → mark_denial kind runs (length old) ≡ Some why →
      (result ≡ Err why) × (new ≡ old)
  pub marked : mark_denial kind runs (length old) ≡ None →
      IsOkAnd result (Puts (λ p. is_in p (pages_of_runs runs)) (puts_in kind) old new)
