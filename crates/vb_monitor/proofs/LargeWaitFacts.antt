-- What of a part goes with its large pages and what waits, worked out: pages 18 to 23 are given up,
-- of large pages of four, so that number 5 goes, and of number 4 two pages wait.
use Rattle.std.proofs.Common.{◌≡◌, ◌∙◌, ◌⊎◌, refl, ap, subst, arith, inl, inr, ℕ, ◌+◌, ◌*◌, ◌<◌, ◌≤◌, Bool, true, false, []}
use Rattle.std.specs.Prelude.{◌||◌}
use Rattle.std.proofs.lemmas.Bool.{cases_order}
use Rattle.vb_core.specs.Ballooned.{is_ballooned}
use Rattle.vb_monitor.specs.declared.{large.Large.Large, cuts.Cut.Cut, regions.Region.Region}
use Rattle.vb_monitor.specs.Large.{Begins, Here, After, Stops, Past, Before, GoesWith, RowGoes, outside, all_wait, LargeBy, AreWholePages}
use Rattle.vb_monitor.proofs.{Samples.Same, LargeLemmas.{between_is, between_says}}

-- four large pages of 16 KiB from page 16 on
abbrev region : Region
region = record { guest = 0x10000; length = 0x10000; in_file = 0x20000 }

abbrev cut : ℕ → ℕ → Cut
cut offset len = record { region = 3; offset = offset; in_file = 0x20000 + offset; length = len }

abbrev part : Cut
part = cut 0x2000 0x6000

abbrev answer : ℕ → ℕ → ℕ → Large
answer offset len waiting = record { cut = cut offset len; waiting = waiting }

abbrev Is : Large → Type 0
Is result = LargeBy 0x4000 region part [] result

-- ---- which large pages go

five_goes : GoesWith 4 18 24 [] 5
five_goes = record {
  page = 20;
  there = refl;
  of_part = refl;
  given = λ p there.
      let says = between_says 20 24 p there in
      ap (λ (b : Bool). b || is_ballooned [] p) (between_is 18 24 p (omega (arith, says.0)) says.1);
}

four_waits : GoesWith 4 18 24 [] 4 → ⊥
four_waits h = let e : false ≡ true = h.given 16 refl in absurd cc

-- the next one has none of its pages
six_waits : GoesWith 4 18 24 [] 6 → ⊥
six_waits h =
    let there = between_says 24 28 h.page h.there in
    let of_part = between_says 18 24 h.page h.of_part in omega (arith, there.0, of_part.1)

within : (n : ℕ) → GoesWith 4 18 24 [] n → (n ≡ 4) ⊎ (n < 4) ⊎ (4 < n) → (5 ≤ n) × (n < 6)
within n g (inl e) = absurd (four_waits (subst (λ (k : ℕ). GoesWith 4 18 24 [] k) e g))
within n g (inr (inl l)) =
    let there = between_says (4 * n) (4 * (n + 1)) g.page g.there in
    let of_part = between_says 18 24 g.page g.of_part in absurd (omega (arith, l, there.1, of_part.0))
within n g (inr (inr m)) =
    let there = between_says (4 * n) (4 * (n + 1)) g.page g.there in
    let of_part = between_says 18 24 g.page g.of_part in (m, omega (arith, there.0, of_part.1))

just_five : RowGoes 4 18 24 [] 5 6
just_five = record {
  some = omega arith;
  go = λ n low high. subst (λ (k : ℕ). GoesWith 4 18 24 [] k) (omega (arith, low, high)) five_goes;
  others = λ n g. within n g (cases_order n 4);
}

-- no row is empty, nor one of a page that waits
of_none : RowGoes 4 18 24 [] 5 5 → ⊥
of_none h = absurd (omega (arith, h.some))

of_four_too : RowGoes 4 18 24 [] 4 6 → ⊥
of_four_too h = four_waits (h.go 4 (omega arith) (omega arith))

of_six_too : RowGoes 4 18 24 [] 5 7 → ⊥
of_six_too h = six_waits (h.go 6 (omega arith) (omega arith))

-- and none leaves out one that goes, at either end
begins_past : (end : ℕ) → RowGoes 4 18 24 [] 6 end → ⊥
begins_past end h = let e = h.others 5 five_goes in omega (arith, e.0)

ends_before : RowGoes 4 18 24 [] 3 5 → ⊥
ends_before h = let e = h.others 5 five_goes in omega (arith, e.1)

-- ---- the answer

goes : Is (answer 0x4000 0x4000 2)
unfolding lib.Count.ones
goes = inl (record {
  low = 5;
  high = 6;
  row = just_five;
  region = refl;
  begins = refl;
  ends = refl;
  in_file = refl;
  waiting = refl;
})

abbrev waiting_of : ℕ → ℕ → ℕ
waiting_of low high = outside 18 24 (4 * low) (4 * high)

two_wait : (low high : ℕ) → low ≡ 5 → high ≡ 6 → waiting_of low high ≡ 2
two_wait low high e f = ap (λ (k : ℕ). waiting_of k high) e ∙ ap (λ (k : ℕ). waiting_of 5 k) f

abbrev length_of : Large → ℕ
length_of l = l.cut.length

one_waits : Is (answer 0x4000 0x4000 1) → ⊥
unfolding lib.Count.ones
one_waits (inl g) =
    let e : Same 1 (waiting_of g.low g.high) = g.waiting in
    let is = two_wait g.low g.high (omega (arith, g.begins)) (omega (arith, g.ends)) in omega (arith, e, is)
one_waits (inr w) = let e : Same 0x4000 0 = ap length_of w.all in omega arith

all_of_it_waits : Is (answer 0x4000 0x4000 6) → ⊥
unfolding lib.Count.ones
all_of_it_waits (inl g) =
    let e : Same 6 (waiting_of g.low g.high) = g.waiting in
    let is = two_wait g.low g.high (omega (arith, g.begins)) (omega (arith, g.ends)) in omega (arith, e, is)
all_of_it_waits (inr w) = let e : Same 0x4000 0 = ap length_of w.all in omega arith

of_another_region : Is (record (answer 0x4000 0x4000 2) { cut = record (cut 0x4000 0x4000) { region = 2 } }) → ⊥
unfolding lib.Count.ones
of_another_region (inl g) = let e : Same 2 3 = g.region in omega arith
of_another_region (inr w) = let e : Same 0x4000 0 = ap length_of w.all in omega arith

of_another_file : Is (record (answer 0x4000 0x4000 2) { cut = record (cut 0x4000 0x4000) { in_file = 0x4000 } }) → ⊥
unfolding lib.Count.ones
of_another_file (inl g) = let e : Same 0x4000 0x24000 = g.in_file in omega arith
of_another_file (inr w) = let e : Same 0x4000 0 = ap length_of w.all in omega arith

begins_early : (waiting : ℕ) → Is (answer 0 0x8000 waiting) → ⊥
unfolding lib.Count.ones
begins_early waiting (inl g) = four_waits (g.row.go 4 (omega (arith, g.begins)) (omega (arith, g.ends)))
begins_early waiting (inr w) = let e : Same 0x8000 0 = ap length_of w.all in omega arith

ends_late : (waiting : ℕ) → Is (answer 0x4000 0x8000 waiting) → ⊥
unfolding lib.Count.ones
ends_late waiting (inl g) = six_waits (g.row.go 6 (omega (arith, g.begins)) (omega (arith, g.ends)))
ends_late waiting (inr w) = let e : Same 0x8000 0 = ap length_of w.all in omega arith

-- bytes that are no whole large page
half_of_it : (waiting : ℕ) → Is (answer 0x4000 0x2000 waiting) → ⊥
unfolding lib.Count.ones
half_of_it waiting (inl g) = omega (arith, g.begins, g.ends)
half_of_it waiting (inr w) = let e : Same 0x2000 0 = ap length_of w.all in omega arith

from_its_half : (waiting : ℕ) → Is (answer 0x6000 0x2000 waiting) → ⊥
unfolding lib.Count.ones
from_its_half waiting (inl g) = omega (arith, g.begins)
from_its_half waiting (inr w) = let e : Same 0x2000 0 = ap length_of w.all in omega arith

nothing_goes : Is (all_wait part) → ⊥
unfolding lib.Count.ones
nothing_goes (inl g) = omega (arith, g.begins, g.ends, g.row.some)
nothing_goes (inr w) = w.none 5 five_goes

-- ---- where none goes: of pages 18 and 19 both wait

abbrev two_pages : Cut
two_pages = cut 0x2000 0x2000

none_goes : (n : ℕ) → GoesWith 4 18 20 [] n → ⊥
none_goes n g =
    let there = between_says (4 * n) (4 * (n + 1)) g.page g.there in
    let of_part = between_says 18 20 g.page g.of_part in
    let four : n ≡ 4 = omega (arith, there.0, there.1, of_part.0, of_part.1) in
    let e : false ≡ true = (subst (λ (k : ℕ). GoesWith 4 18 20 [] k) four g).given 16 refl in absurd cc

both_wait : LargeBy 0x4000 region two_pages [] (all_wait two_pages)
unfolding lib.Count.ones
both_wait = inr (record { none = none_goes; all = refl })

one_of_two : LargeBy 0x4000 region two_pages [] (record (all_wait two_pages) { waiting = 1 }) → ⊥
unfolding lib.Count.ones
one_of_two (inl g) = omega (arith, g.begins, g.ends, g.row.some)
one_of_two (inr w) = let e : Same 1 2 = ap (λ (l : Large). l.waiting) w.all in omega arith

-- ---- whole pages of the machine

whole : AreWholePages 0x4000 region (cut 0xc000 0x4000)
whole = record { offset = refl; length = refl; in_file = refl; inside = omega arith }

begins_within_one : AreWholePages 0x4000 region (record (cut 0x6000 0x4000) { in_file = 0x24000 }) → ⊥
begins_within_one h = let e : Same 0x2000 0 = h.offset in omega arith

ends_within_one : AreWholePages 0x4000 region (cut 0x4000 0x2000) → ⊥
ends_within_one h = let e : Same 0x2000 0 = h.length in omega arith

stands_within_one : AreWholePages 0x4000 region (record (cut 0x4000 0x4000) { in_file = 0x26000 }) → ⊥
stands_within_one h = let e : Same 0x2000 0 = h.in_file in omega arith

past_its_end : AreWholePages 0x4000 region (cut 0xc000 0x8000) → ⊥
past_its_end h = absurd (omega (arith, h.inside))

-- ---- the ends of a row: it begins at the first large page where that goes, and after it where it
-- doesn't; it ends after the last one where that goes, and before it where it doesn't

begins_here : Begins (Unit {0}) 5 5
begins_here = Here refl tt

begins_after : Begins ⊥ 5 6
begins_after = After refl (λ goes. goes)

not_after_one_that_goes : Begins (Unit {0}) 5 6 → ⊥
not_after_one_that_goes (Here e goes) = let other : Same 6 5 = e in omega arith
not_after_one_that_goes (After e none) = none tt

not_at_one_that_waits : Begins ⊥ 5 5 → ⊥
not_at_one_that_waits (Here e goes) = goes
not_at_one_that_waits (After e none) = let is : Same 5 6 = e in omega arith

stops_after : Stops (Unit {0}) 5 6
stops_after = Past refl tt

stops_before : Stops ⊥ 5 5
stops_before = Before refl (λ goes. goes)

not_before_one_that_goes : Stops (Unit {0}) 5 5 → ⊥
not_before_one_that_goes (Past e goes) = let other : Same 5 6 = e in omega arith
not_before_one_that_goes (Before e none) = none tt

not_after_one_that_waits : Stops ⊥ 5 6 → ⊥
not_after_one_that_waits (Past e goes) = goes
not_after_one_that_waits (Before e none) = let is : Same 6 5 = e in omega arith
