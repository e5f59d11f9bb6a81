-- Pages that are put into a set, or taken out of it.
use Rattle.std.proofs.Common.{true, false, cond, not, ◌&&◌, ◌||◌, List, [], ◌∷◌, length, get_or}
use Rattle.std.proofs.Common.{set, refl, sym, ap, ◌∙◌, arith, eqb, ltb, leb, min, max, bit_and}
use Rattle.std.proofs.lemmas.Bool.{cases_lt, le-leb, lt-leb, lt-ltb, le-ltb, eq-eqb, ne_eqb}
use Rattle.std.specs.Int.{bit_not, w64}
use Rattle.std.proofs.lemmas.List.{get_or-set_same, get_or-set_other, length-set}
use Rattle.std.proofs.lemmas.{List.Folds.{list_any-append, list_any_more, list_any_at}, Nat.xor_lt}
use Rattle.std.{proofs.lemmas.Bool.{or_from, both_ways}, specs.List.{range_with_len, list_any}}
use Rattle.std.proofs.lemmas.Nat.Bits.{bit_at_and, bit_at_or, bit_at_xor, bit_at_not, bit_at-lt}
use Rattle.std.proofs.Common.{bit_or, bit_xor, count_by, count_ones, if◌then◌else◌, take, ◌==◌}
use Rattle.vb_virtio.proofs.Ranges.{is_in-range, outside-range}
use Rattle.vb_virtio.specs.Tests.{has_bit, is_in, one_if}
use Rattle.vb_core.specs.Runs.{pages_of_run, pages_of_runs}
use Rattle.vb_core.proofs.CountLemmas.{count_add, count_none, count_few, count_word}
use Rattle.vb_core.specs.{Ballooned.{is_ballooned, is_changed, Puts}, declared.runs.Run.Run}
use Rattle.std.proofs.Common.{◌≡◌, ◌≢◌, ℕ, zero, suc, ◌+◌, ◌-◌, ◌*◌, ◌/◌, ◌%◌, ◌^◌, ◌<◌, ◌≤◌, Bool}

-- ---- what a change is

-- whether one of two is true, and not both
abbrev differ : Bool → Bool → Bool
differ x y = if x then not y else y

differ_self : (x : Bool) → differ x x ≡ false
differ_self true = refl
differ_self false = refl

-- two changes to the same value are one
both : (t1 t2 inside x : Bool) → cond t2 inside (cond t1 inside x) ≡ cond (t1 || t2) inside x
both t1 t2 inside x = grind arith

adds : (t1 t2 inside x y z : Bool) → y ≡ cond t1 inside x → z ≡ cond t2 inside y
    → one_if (differ x y) + one_if (differ y z) ≡ one_if (differ x z)
adds t1 t2 inside x y z e f = grind arith

-- nothing is put anywhere
pub put_none : (test : ℕ → Bool) (inside : Bool) (a : List ℕ) → ((p : ℕ) → test p ≡ false)
    → Puts test inside a a 0
put_none test inside a none = grind (arith, count_none)

-- pages that pass one test are put there, and then pages that pass another
pub put_both : (t1 t2 t3 : ℕ → Bool) (inside : Bool) (a b c : List ℕ) (m n : ℕ)
    → Puts t1 inside a b m → Puts t2 inside b c n → ((p : ℕ) → t3 p ≡ (t1 p || t2 p))
    → Puts t3 inside a c (m + n)
put_both t1 t2 t3 inside a b c m n one two e = record {
  words = two.words ∙ one.words;
  pages = λ p. two.pages p ∙ ap (λ (x : Bool). cond (t2 p) inside x) (one.pages p)
      ∙ both (t1 p) (t2 p) inside (is_ballooned a p)
      ∙ ap (λ (x : Bool). cond x inside (is_ballooned a p)) (sym (e p));
  count =
      let same : count_by (is_changed b c) (range_with_len 0 (64 * length b))
      ≡ count_by (is_changed b c) (range_with_len 0 (64 * length a)) =
      ap (λ (k : ℕ). count_by (is_changed b c) (range_with_len 0 (64 * k))) one.words in
      let sum = count_add (is_changed a b) (is_changed b c) (is_changed a c) 0 (64 * length a)
      (λ p. adds (t1 p) (t2 p) inside (is_ballooned a p) (is_ballooned b p) (is_ballooned c p)
      (one.pages p) (two.pages p)) in omega (arith, one.count, two.count, same, sum);
}

-- what is put there passes some other test alike
pub put_as : (test other : ℕ → Bool) (inside : Bool) (a b : List ℕ) (n : ℕ)
    → Puts test inside a b n → ((p : ℕ) → other p ≡ test p) → Puts other inside a b n
put_as test other inside a b n s e = grind arith

-- no more pages change than there are numbers below a bound, where none from it on passes
pub put_few : (test : ℕ → Bool) (inside : Bool) (a b : List ℕ) (n bound : ℕ)
    → Puts test inside a b n → ((p : ℕ) → bound ≤ p → test p ≡ false) → n ≤ bound
put_few test inside a b n bound s none = grind (arith, count_few)

-- ---- bits of a word

or_digit : (d e : ℕ) → d < 2 → e < 2 → eqb (max d e) 1 ≡ cond (eqb e 1) true (eqb d 1)
or_digit d e l m = grind arith

pub or_bit : (x y b : ℕ) → has_bit (bit_or x y) b ≡ cond (has_bit y b) true (has_bit x b)
or_bit x y b = grind (arith, eqb, bit_at_or, or_digit)

without_digit : (d e : ℕ) → d < 2 → e < 2 → eqb (min d (1 - e)) 1 ≡ cond (eqb e 1) false (eqb d 1)
without_digit d e l m = grind arith

pub without_bit : (x y b : ℕ) → y < 2 ^ 64 → b < 64
    → has_bit (bit_and x (bit_not w64 y)) b ≡ cond (has_bit y b) false (has_bit x b)
without_bit x y b fits l = search (arith, bit_at_and, bit_at_not, without_digit, bit_at-lt)

xor_digit : (d e : ℕ) → d < 2 → e < 2 → eqb ((d + e) % 2) 1 ≡ differ (eqb d 1) (eqb e 1)
xor_digit d e l m = grind arith

xor_bit : (x y b : ℕ) → has_bit (bit_xor x y) b ≡ differ (has_bit x b) (has_bit y b)
xor_bit x y b = grind (arith, eqb, bit_at_xor, xor_digit)

-- ---- one word of a set

-- a word that has the bits of a mask all 1, or all 0, and the others as before
abbrev HasBits : ℕ → Bool → ℕ → ℕ → Type 0
HasBits mask inside old new =
    (b : ℕ) → b < 64 → has_bit new b ≡ cond (has_bit mask b) inside (has_bit old b)

-- the pages of a word that a mask has are put there
pub put_word : (a : List ℕ) (w mask word : ℕ) (inside : Bool) → w < length a
    → get_or a w 0 < 2 ^ 64 → word < 2 ^ 64 → HasBits mask inside (get_or a w 0) word
    → Puts (λ p. eqb (p / 64) w && has_bit mask (p % 64)) inside a (set a w word)
    (count_ones (bit_xor (get_or a w 0) word))
put_word a w mask word inside l small fits bits = record {
  words = length-set a w word;
  pages = grind (arith, in_same, in_other);
  count = sym (count_word (is_changed a (set a w word)) (bit_xor (get_or a w 0) word) w (length a)
      (xor_lt 64 (get_or a w 0) word small fits) l (grind (arith, get_or-set_same, xor_bit))
      (λ p ne. ap (λ (x : Bool). differ (is_ballooned a p) x) (in_other p ne)
      ∙ differ_self (is_ballooned a p)));
} where
  in_same : (p : ℕ) → p / 64 ≡ w → is_ballooned (set a w word) p ≡ has_bit word (p % 64)
  in_same p e = ap (λ (k : ℕ). has_bit (get_or (set a w word) k 0) (p % 64)) e
      ∙ ap (λ (x : ℕ). has_bit x (p % 64)) (get_or-set_same a w word 0 l)

  was : (p : ℕ) → p / 64 ≡ w → is_ballooned a p ≡ has_bit (get_or a w 0) (p % 64)
  was p e = ap (λ (k : ℕ). has_bit (get_or a k 0) (p % 64)) e

  in_other : (p : ℕ) → p / 64 ≢ w → is_ballooned (set a w word) p ≡ is_ballooned a p
  in_other p ne = ap (λ (x : ℕ). has_bit x (p % 64)) (get_or-set_other a w (p / 64) word 0 ne)

-- ---- the pages of runs

-- a test of pages, run by run
pub any_of_runs : (test : ℕ → Bool) (runs : List Run)
    → list_any test (pages_of_runs runs) ≡ list_any (λ run. list_any test (pages_of_run run)) runs
any_of_runs test [] = refl
any_of_runs test (run ∷ runs) = grind (arith, list_any-append, any_of_runs test runs)

-- a page is in a run between its ends
pub in_run : (run : Run) (p : ℕ)
    → is_in p (pages_of_run run) ≡ (leb run.first p && ltb p (run.first + run.count))
in_run run p = grind (arith, is_in-range, outside-range)

-- some page from a bound on is in the run where its last one is
pub reaches : (bound first count : ℕ) → 0 < count
    → list_any (λ p. leb bound p) (range_with_len first count) ≡ leb bound (first + count - 1)
reaches bound first zero some = absurd (omega arith)
reaches bound first (suc zero) some = grind (arith, leb bound)
reaches bound first (suc (suc count)) some =
    grind (arith, leb bound first, reaches bound (first + 1) (suc count) (omega arith), leb bound)

-- the last page of a run has a bit exactly if all of its pages do
pub last_has_bit : (run : Run) (words last : ℕ) → 0 < run.count → last ≡ run.first + run.count - 1
    → ltb (last / 64) words ≡ not (list_any (λ p. leb (64 * words) p) (pages_of_run run))
last_has_bit run words last some e = ends ∙ ap (λ (n : ℕ). not (leb (64 * words) n)) e
    ∙ ap not (sym (reaches (64 * words) run.first run.count some))
  where
    ends : ltb (last / 64) words ≡ not (leb (64 * words) last)
    ends = grind arith

-- a run without a page reaches nothing
pub none_reaches : (test : ℕ → Bool) (run : Run) → run.count ≡ 0
    → list_any test (pages_of_run run) ≡ false
none_reaches test run e = ap (λ (n : ℕ). list_any test (range_with_len run.first n)) e

-- ---- the bits of a run in a word

pub run_bit : (run : Run) (start b : ℕ)
    → cond (ltb b (run.first - start)) false (ltb b (run.first + run.count - start))
    ≡ is_in (start + b) (pages_of_run run)
run_bit run start b = grind (arith, in_run, ltb, leb, lt-ltb, lt-leb, le-ltb, le-leb)

-- ---- the words of a run, one after the other

-- the pages of a run that are in the words before one
abbrev pub is_before : Run → ℕ → ℕ → Bool
is_before run w p = is_in p (pages_of_run run) && ltb (p / 64) w

-- those in one word more
pub one_word_more : (run : Run) (w mask : ℕ)
    → ((b : ℕ) → b < 64 → has_bit mask b ≡ is_in (64 * w + b) (pages_of_run run)) → (p : ℕ)
    → is_before run (w + 1) p ≡ (is_before run w p || (eqb (p / 64) w && has_bit mask (p % 64)))
one_word_more run w mask e p = grind (arith, ltb, eqb, lt-ltb, le-ltb, eq-eqb, ne_eqb)

-- before the first word of a run none of its pages is
pub none_before : (run : Run) (p : ℕ) → is_before run (run.first / 64) p ≡ false
none_before run p = grind (arith, cases_lt, ltb, in_run, lt-leb, le-ltb)

-- and after its last word none does
pub all_before : (run : Run) (w last p : ℕ) → last / 64 + 1 ≡ w
    → last ≡ run.first + run.count - 1 → is_in p (pages_of_run run) ≡ is_before run w p
all_before run w last p e f = grind (arith, cases_lt, lt-ltb, in_run, leb, ltb, le-ltb)

-- no page of a run is past a bound after its end
pub none_past : (run : Run) (bound p : ℕ) → run.first + run.count ≤ bound → bound ≤ p
    → is_in p (pages_of_run run) ≡ false
none_past run bound p l m = grind (arith, in_run, leb, ltb, le-ltb)

-- one word more
pub put_more : (run : Run) (w mask : ℕ) (inside : Bool) (a b c : List ℕ) (m n : ℕ)
    → Puts (is_before run w) inside a b m
    → Puts (λ p. eqb (p / 64) w && has_bit mask (p % 64)) inside b c n
    → ((i : ℕ) → i < 64 → has_bit mask i ≡ is_in (64 * w + i) (pages_of_run run))
    → Puts (is_before run (w + 1)) inside a c (m + n)
put_more run w mask inside a b c m n one two e = search (arith, put_both, one_word_more)

-- no more pages change than there are numbers up to the run's end
pub put_in_run : (run : Run) (w : ℕ) (inside : Bool) (a b : List ℕ) (n bound : ℕ)
    → Puts (is_before run w) inside a b n → run.first + run.count ≤ bound → n ≤ bound
put_in_run run w inside a b n bound s l = put_few (is_before run w) inside a b n bound s (λ p from.
    ap (λ (x : Bool). x && ltb (p / 64) w) (none_past run bound p l from))

-- ---- runs, one after the other

-- a page of one run is a page of all
pub some_past : (test : ℕ → Bool) (runs : List Run) (k : ℕ) (d : Run) → k < length runs
    → list_any test (pages_of_run (get_or runs k d)) ≡ true
    → list_any test (pages_of_runs runs) ≡ true
some_past test runs k d l e = grind (arith, any_of_runs, list_any_at)

pub none_of_one : (test : ℕ → Bool) (runs : List Run) (k : ℕ) (d : Run) → k < length runs
    → list_any test (pages_of_runs runs) ≡ false
    → list_any test (pages_of_run (get_or runs k d)) ≡ false
none_of_one test runs k d l none = grind (arith, both_ways, some_past)

pub one_run_more : (runs : List Run) (k p : ℕ) (d : Run) → k < length runs
    → is_in p (pages_of_runs (take (k + 1) runs))
    ≡ (is_in p (pages_of_runs (take k runs)) || is_in p (pages_of_run (get_or runs k d)))
one_run_more runs k p d l = grind (
  arith,
  any_of_runs (λ m. m == p) (take (k + 1) runs),
  list_any_more (λ run. is_in p (pages_of_run run)) runs k d l,
  any_of_runs (λ m. m == p) (take k runs),
)

-- what was put there of the first runs, whose pages are below a bound
pub record PutsFirst (runs : List Run) (k : ℕ) (inside : Bool) (old new : List ℕ) (n : ℕ) :
    Type 0 where
  pub put : Puts (λ p. is_in p (pages_of_runs (take k runs))) inside old new n
  pub small : (p : ℕ) → 8589934592 ≤ p → is_in p (pages_of_runs (take k runs)) ≡ false

pub put_no_run : (runs : List Run) (inside : Bool) (a : List ℕ) → PutsFirst runs 0 inside a a 0
put_no_run runs inside a = search (arith, put_none)

pub put_next_run : (runs : List Run) (k : ℕ) (d : Run) (inside : Bool) (a b c : List ℕ) (m n : ℕ)
    → k < length runs → PutsFirst runs k inside a b m
    → Puts (λ p. is_in p (pages_of_run (get_or runs k d))) inside b c n → ((p : ℕ) → 8589934592 ≤ p
    → is_in p (pages_of_run (get_or runs k d)) ≡ false) → PutsFirst runs (k + 1) inside a c (m + n)
put_next_run runs k d inside a b c m n l first next small = record {
  put = put_both (λ p. is_in p (pages_of_runs (take k runs))) (λ p. is_in p
      (pages_of_run (get_or runs k d))) (λ p. is_in p (pages_of_runs (take (k + 1) runs)))
      inside a b c m n first.put next (λ p. one_run_more runs k p d l);
  small = λ p from. one_run_more runs k p d l ∙ or_from (is_in p (pages_of_runs (take k runs)))
      (is_in p (pages_of_run (get_or runs k d))) (first.small p from) (small p from);
}

pub put_in_runs : (runs : List Run) (k : ℕ) (inside : Bool) (a b : List ℕ) (n : ℕ)
    → PutsFirst runs k inside a b n → n ≤ 8589934592
put_in_runs runs k inside a b n s =
    put_few (λ p. is_in p (pages_of_runs (take k runs))) inside a b n 8589934592 s.put s.small
