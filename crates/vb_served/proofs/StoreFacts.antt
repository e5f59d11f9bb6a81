-- Memory that a device owns, and what accesses make of it, worked out.
use Rattle.std.proofs.Common.{◌≡◌, refl, ap, arith, ℕ, List, [], ◌∷◌, length, Option, Some, None}
use Rattle.vb_ram.specs.Pages.{Page, Pages, byte_at}
use Rattle.vb_monitor.specs.declared.{regions.Spot.Spot, cuts.Cut.Cut}
use Rattle.vb_monitor.specs.Accesses.{Full, ReadWord, CopyBytes, Discard, WriteNumber, WriteWord}
use Rattle.vb_monitor.specs.Accesses.{TellPages, TellFigures, TellId}
use Rattle.vb_core.specs.declared.kinds.Kind.TheVariants.{Inflate, Deflate, Hint, Report}
use Rattle.vb_core.specs.declared.{runs.Run.Run, name.Named.Named, statistics.Statistic.Statistic}
use Rattle.std.proofs.Common.{Bool, true, false}
use Rattle.vb_served.specs.Store.{Store, After, pages_of_cut}

abbrev pub Same : ℕ → ℕ → Type 0
Same a b = a ≡ b

-- page 0 has frame 7, page 1 none, page 2, which is ballooned, frame 9: of each the first bytes are
-- said
abbrev pub mem : Pages
mem = Some (record { number = 7; bytes = 5 ∷ 6 ∷ [] }) ∷ None
    ∷ Some (record { number = 9; bytes = 8 ∷ [] }) ∷ []

abbrev pub old : Store
old = record {
  mem = mem;
  loose = 3 ∷ [];
  ballooned = false ∷ false ∷ true ∷ [];
  last = record { free = Some 70; total = None };
}

abbrev at : ℕ → Spot
at offset = record { region = 0; offset = offset }

-- ---- what is read

word_there : After old (ReadWord (at 0) 0x605) old
unfolding byte_at
word_there = (refl, refl)

highest_first : After old (ReadWord (at 0) 0x506) old → ⊥
unfolding byte_at
highest_first h = let e : Same 0x506 0x605 = h.0 in omega arith

zeros_where_no_frame_is : After old (CopyBytes (at 0x1000) (0 ∷ 0 ∷ [])) old
unfolding byte_at
zeros_where_no_frame_is = (refl, refl)

across_a_border : After old (CopyBytes (at 0x1fff) (0 ∷ 8 ∷ [])) old
unfolding byte_at
across_a_border = (refl, refl)

abbrev second_of : List ℕ → ℕ
second_of [] = 9
second_of (n ∷ []) = 9
second_of (n ∷ m ∷ ns) = m

zeros_past_a_border : After old (CopyBytes (at 0x1fff) (0 ∷ 0 ∷ [])) old → ⊥
unfolding byte_at
zeros_past_a_border h = let e : Same 0 8 = ap second_of h.0 in omega arith

zeros_past_the_end : After old (CopyBytes (at 0x3000) (0 ∷ [])) old
unfolding byte_at
zeros_past_the_end = (refl, refl)

a_read_that_discards : After old (ReadWord (at 0) 0x605) (record old { loose = [] }) → ⊥
a_read_that_discards h =
    let e : Same 0 1 = ap (λ (s : Store). length s.loose) h.1 in omega arith

a_fence_that_discards : After old Full (record old { loose = [] }) → ⊥
a_fence_that_discards h =
    let e : Same 0 1 = ap (λ (s : Store). length s.loose) h in omega arith

-- ---- what is discarded

abbrev pub cut : ℕ → ℕ → Cut
cut offset length = record { region = 0; offset = offset; in_file = 0; length = length }

pages_1_and_2 : pages_of_cut (cut 0x1000 0x2000) ≡ 1 ∷ 2 ∷ []
pages_1_and_2 = refl

abbrev pub without : Option Page → List ℕ → Store
without third loose = record {
  mem = Some (record { number = 7; bytes = 5 ∷ 6 ∷ [] }) ∷ None ∷ third ∷ [];
  loose = loose;
  ballooned = false ∷ false ∷ true ∷ [];
  last = record { free = Some 70; total = None };
}

-- a page without a frame gives none, and one past the end none
loses_one : After old (Discard (cut 0x1000 0x3000)) (without None (3 ∷ 9 ∷ []))
loses_one = (refl, refl, refl, refl)

its_frame_is_lost : After old (Discard (cut 0x2000 0x1000)) (without None (3 ∷ [])) → ⊥
its_frame_is_lost h = let e : Same 1 2 = ap (λ (l : List ℕ). length l) h.1 in omega arith

abbrev first_of : List ℕ → ℕ
first_of [] = 0
first_of (n ∷ ns) = n

in_front_of_the_others : After old (Discard (cut 0x2000 0x1000)) (without None (9 ∷ 3 ∷ [])) → ⊥
in_front_of_the_others h = let e : Same 9 3 = ap first_of h.1 in omega arith

abbrev third_of : Pages → Option Page
third_of [] = None
third_of (a ∷ []) = None
third_of (a ∷ b ∷ []) = None
third_of (a ∷ b ∷ c ∷ m) = c

it_keeps_its_frame : After old (Discard (cut 0x2000 0x1000))
    (record old { loose = 3 ∷ 9 ∷ [] }) → ⊥
it_keeps_its_frame h = let e = ap third_of h.0 in absurd cc

-- ---- what is told

abbrev pages : ℕ → ℕ → List Run
pages first count = record { first = first; count = count } ∷ []

abbrev one : Named
one = record { runs = 1; pages = 1; skipped = 0 }

abbrev flags : Bool → Bool → Bool → Store
flags a b c = record old { ballooned = a ∷ b ∷ c ∷ [] }

inflated : After old (TellPages Inflate (pages 0 2) one) (flags true true true)
inflated = refl

deflated : After old (TellPages Deflate (pages 2 1) one) (flags false false false)
deflated = refl

past_the_end : After old (TellPages Inflate (pages 3 9) one) old
past_the_end = refl

reported : After old (TellPages Report (pages 0 2) one) old
reported = refl

hinted : After old (TellPages Hint (pages 0 2) one) old
hinted = refl

an_id : After old (TellId 2) old
an_id = refl

an_id_that_discards : After old (TellId 2) (record old { loose = [] }) → ⊥
an_id_that_discards h = let e : Same 0 1 = ap (λ (s : Store). length s.loose) h in omega arith

abbrev first_flag : List Bool → Bool
first_flag [] = false
first_flag (b ∷ bs) = b

of_others : After old (TellPages Inflate (pages 1 1) one) (flags true true true) → ⊥
of_others h = let e = ap (λ (s : Store). first_flag s.ballooned) h in absurd cc

not_put_in : After old (TellPages Inflate (pages 0 1) one) old → ⊥
not_put_in h = let e = ap (λ (s : Store). first_flag s.ballooned) h in absurd cc

told_and_discarded : After old (TellPages Inflate (pages 0 1) one)
    (record (flags true false true) { loose = [] }) → ⊥
told_and_discarded h = let e : Same 0 1 = ap (λ (s : Store). length s.loose) h in omega arith

-- the last figure of each tag counts, other tags are skipped, and what isn't said is known no more
abbrev figure : ℕ → ℕ → Statistic
figure tag value = record { tag = tag; value = value }

abbrev value_of : Option ℕ → ℕ
value_of None = 0
value_of (Some n) = n

abbrev knows : Option ℕ → Option ℕ → Store
knows free total = record old { last = record { free = free; total = total } }

figures_told : After old (TellFigures (figure 4 8 ∷ figure 9 5 ∷ figure 5 6 ∷ figure 4 7 ∷ []))
    (knows (Some 7) (Some 6))
figures_told = refl

none_told : After old (TellFigures []) (knows None None)
none_told = refl

the_first_counts : After old (TellFigures (figure 4 8 ∷ figure 4 7 ∷ [])) (knows (Some 8) None) → ⊥
the_first_counts h =
    let e : Same 8 7 = ap (λ (s : Store). value_of s.last.free) h in omega arith

what_was_known_stays : After old (TellFigures []) old → ⊥
what_was_known_stays h =
    let e : Same 70 0 = ap (λ (s : Store). value_of s.last.free) h in omega arith

figures_alone : After old (TellFigures []) (record (flags true true true)
    { last = record { free = None; total = None } }) → ⊥
figures_alone h = let e = ap (λ (s : Store). first_flag s.ballooned) h in absurd cc

fence_that_forgets : After old Full (knows None None) → ⊥
fence_that_forgets h =
    let e : Same 0 70 = ap (λ (s : Store). value_of s.last.free) h in omega arith

discarded_and_marked : After old (Discard (cut 0x2000 0x1000))
    (record (without None (3 ∷ 9 ∷ [])) { ballooned = true ∷ [] }) → ⊥
discarded_and_marked h = let e = ap first_flag h.2 in absurd cc

-- ---- what is written

written : (new : Store) → After old (WriteWord (at 0) 0x302) new → byte_at new.mem 0 0 ≡ 2
written new h = (h.put (record { page = omega arith; bytes = omega arith }) refl).written 0
    (omega arith)

nothing_without_a_frame : (new : Store) → After old (WriteNumber (at 0x1000) 7) new →
    new.mem ≡ mem
nothing_without_a_frame new h = h.bare refl

nothing_across_a_border : (new : Store) → After old (WriteNumber (at 0xffe) 7) new →
    new.mem ≡ mem
nothing_across_a_border new h = h.kept (λ c. let e = c.bytes in omega (arith, e))

nothing_past_the_end : (new : Store) → After old (WriteWord (at 0x3000) 7) new → new.mem ≡ mem
nothing_past_the_end new h = h.kept (λ c. let e = c.page in omega (arith, e))

no_flag_changes : (new : Store) → After old (WriteWord (at 0) 7) new →
    new.ballooned ≡ false ∷ false ∷ true ∷ []
no_flag_changes new h = h.ballooned

nothing_is_forgotten : (new : Store) → After old (WriteWord (at 0) 7) new →
    new.last ≡ record { free = Some 70; total = None }
nothing_is_forgotten new h = h.last

no_frame_is_lost : (new : Store) → After old (WriteWord (at 0) 7) new → new.loose ≡ 3 ∷ []
no_frame_is_lost new h = h.loose
