-- Who is helped, and when.
use Rattle.std.proofs.Common.{◌≡◌, ◌⊎◌, inl, inr, ℕ, ◌+◌, ◌-◌, ◌*◌, ◌<◌, ◌≤◌, Bool, true, false, not, ◌&&◌, ◌==◌, nat_lt, nat_le, if◌then◌else◌, List, length, Option, Some, None, refl, sym, subst, arith}
use Rattle.vb_host.specs.declared.event.Event.{Event}
use Rattle.vb_host.specs.declared.event.Event.TheVariants.{Overdraws, Prefers, Defers}
use Rattle.vb_host.specs.declared.relief.Look.{Look}
use Rattle.vb_host.specs.declared.relief.Stand.{Stand}
use Rattle.vb_host.specs.declared.seat.Seat.{Seat}
use Rattle.vb_host.specs.Lending.{Lending, may_overdraw, shown_owed, test_at}
use Rattle.vb_host.specs.Line.{IsFirst}
use Rattle.vb_host.specs.Relief.{DefersForAnother, FirstIsNoted, HeadIsNoted, MovesAreNoted, NobodyIsHurried, OverdrawsIfPossible, PrefersTheFirst}
use Rattle.vb_host.specs.Relief.{alone, count, deferral, due_relief, first_from, is_due_to_defer, is_just_preferred, overdraft_relief, place_of, stands_still, turn_of}
use Rattle.vb_host.specs.Seats.{is_preferred, may_defer}
use Rattle.vb_host.proofs.Lined.{first_found, lined_all}
use Rattle.vb_host.proofs.Sound.{and_left, and_right, eq_true, le_true, lt_true}

-- ---- which of the four

-- what is due, by what is so
abbrev due_by : Bool → Bool → Bool → Event → Event → Option Event → Option Event
due_by d s p D P O = if d then Some D else if not s then None else if not p then Some P else O

some_by : (d s p : Bool) (D P e : Event) (O : Option Event) → due_by d s p D P O ≡ Some e → (d ≡ true) ⊎ (s ≡ true)
some_by true s p D P e O h = inl refl
some_by false true p D P e O h = inr refl
some_by false false p D P e O h = absurd (cc)

which_by : (d s p : Bool) (D P e : Event) (O : Option Event) → due_by d s p D P O ≡ Some e → ((d ≡ true) × (D ≡ e)) ⊎ ((P ≡ e) ⊎ (O ≡ Some e))
which_by true s p D P e O h = inl (refl, cc)
which_by false false p D P e O h = absurd (cc)
which_by false true false D P e O h = inr (inl (cc))
which_by false true true D P e O h = inr (inr h)

which : (k : Look) (x : Stand) (l : Lending) (e : Event) → due_relief k x l ≡ Some e
    → ((is_due_to_defer k x l.seats ≡ true) × (deferral x l.seats ≡ e)) ⊎ ((Prefers (place_of (alone k x) l.seats) ≡ e) ⊎ (overdraft_relief x.first l ≡ Some e))
which k x l e h = which_by (is_due_to_defer k x l.seats) (stands_still k x) (is_just_preferred (alone k x) l.seats) (deferral x l.seats) (Prefers (place_of (alone k x) l.seats)) e (overdraft_relief x.first l) h

-- ---- when

defers_when : (k : Look) (x : Stand) (seats : List Seat) → is_due_to_defer k x seats ≡ true → (k.awaits ≡ 0) × (0 < x.head) × (x.head_since + 1000 * k.patience ≤ k.time) × (1 < count may_defer seats)
defers_when k x seats e = let three = and_left ((k.awaits == 0) && nat_lt 0 x.head && nat_le (x.head_since + 1000 * k.patience) k.time) _ e in
    let two = and_left ((k.awaits == 0) && nat_lt 0 x.head) _ three in (
      eq_true k.awaits 0 (and_left (k.awaits == 0) _ two),
      lt_true 0 x.head (and_right (k.awaits == 0) _ two),
      le_true _ k.time (and_right ((k.awaits == 0) && nat_lt 0 x.head) _ three),
      lt_true 1 (count may_defer seats) (and_right ((k.awaits == 0) && nat_lt 0 x.head && nat_le (x.head_since + 1000 * k.patience) k.time) _ e),
    )

pub nobody_is_hurried : NobodyIsHurried
nobody_is_hurried k x l e h = elim (some_by (is_due_to_defer k x l.seats) (stands_still k x) (is_just_preferred (alone k x) l.seats) (deferral x l.seats) (Prefers (place_of (alone k x) l.seats)) e (overdraft_relief x.first l) h) [
  | inl d ↦ (let w = defers_when k x l.seats d in (w.0, inr w.2))
  | inr s ↦ (eq_true k.awaits 0 (and_left (k.awaits == 0) _ s), inl (le_true _ k.time (and_right (k.awaits == 0) _ s)))
]

-- ---- who

deferral_by : (b : Bool) (n m k : ℕ) → (if b then Prefers n else Defers m) ≡ Prefers k → n ≡ k
deferral_by true n m k e = cc
deferral_by false n m k e = absurd (cc)

no_overdraft : (b : Bool) (m n : ℕ) → (if b then Some (Overdraws m) else None) ≡ Some (Prefers n) → ⊥
no_overdraft true m n e = absurd (cc)
no_overdraft false m n e = absurd (cc)

place_by : (missing first count n : ℕ) (b c : Bool) → nat_lt 0 missing ≡ b → nat_lt 0 (if b then first else 0) ≡ c → (if c then (if b then first else 0) - 1 else count) ≡ n → (n ≡ count) ⊎ ((0 < missing) × (first ≡ n + 1))
place_by missing first count n true true e f h = let some = lt_true 0 first f in inr (lt_true 0 missing e, omega (arith, some, h))
place_by missing first count n true false e f h = inl (sym h)
place_by missing first count n false true e f h = absurd (omega (arith, lt_true 0 0 f))
place_by missing first count n false false e f h = inl (sym h)

pub prefers_the_first : PrefersTheFirst
prefers_the_first k x l n h = elim (which k x l (Prefers n) h) [
  | inl d ↦ inl (sym (deferral_by (test_at is_preferred l.seats (x.head - 1)) (length l.seats) (x.head - 1) n d.1))
  | inr r ↦ of_rest k x l n r
] where
  of_rest : (k : Look) (x : Stand) (l : Lending) (n : ℕ) → (Prefers (place_of (alone k x) l.seats) ≡ Prefers n) ⊎ (overdraft_relief x.first l ≡ Some (Prefers n)) → (n ≡ length l.seats) ⊎ ((0 < k.missing) × (x.first ≡ n + 1))
  of_rest k x l n r = elim r [
    | inl p ↦ place_by k.missing x.first (length l.seats) n (nat_lt 0 k.missing) (nat_lt 0 (alone k x)) refl refl (cc)
    | inr o ↦ absurd (no_overdraft (nat_lt 0 x.first && may_overdraw l (x.first - 1)) (x.first - 1) n o)
  ]

no_deferral : (b : Bool) (n m k : ℕ) → (if b then Prefers n else Defers m) ≡ Overdraws k → ⊥
no_deferral true n m k e = absurd (cc)
no_deferral false n m k e = absurd (cc)

overdraft_by : (first n : ℕ) (l : Lending) (b c : Bool) → nat_lt 0 first ≡ b → may_overdraw l (first - 1) ≡ c → (if b && c then Some (Overdraws (first - 1)) else None) ≡ Some (Overdraws n) → (first ≡ n + 1) × (may_overdraw l n ≡ true)
overdraft_by first n l true true e f h = let same : first - 1 ≡ n = cc in (omega (arith, lt_true 0 first e, same), subst (λ (k : ℕ). may_overdraw l k ≡ true) same f)
overdraft_by first n l true false e f h = absurd (cc)
overdraft_by first n l false c e f h = absurd (cc)

pub overdraws_if_possible : OverdrawsIfPossible
overdraws_if_possible k x l n h = elim (which k x l (Overdraws n) h) [
  | inl d ↦ absurd (no_deferral (test_at is_preferred l.seats (x.head - 1)) (length l.seats) (x.head - 1) n d.1)
  | inr r ↦ of_rest k x l n r
] where
  of_rest : (k : Look) (x : Stand) (l : Lending) (n : ℕ) → (Prefers (place_of (alone k x) l.seats) ≡ Overdraws n) ⊎ (overdraft_relief x.first l ≡ Some (Overdraws n)) → (x.first ≡ n + 1) × (may_overdraw l n ≡ true)
  of_rest k x l n r = elim r [
    | inl p ↦ absurd (cc)
    | inr o ↦ overdraft_by x.first n l (nat_lt 0 x.first) (may_overdraw l (x.first - 1)) refl refl o
  ]

defers_by : (b : Bool) (head n m : ℕ) (seats : List Seat) → test_at is_preferred seats (head - 1) ≡ b → 0 < head → (if b then Prefers m else Defers (head - 1)) ≡ Defers n → (head ≡ n + 1) × (test_at is_preferred seats n ≡ false)
defers_by true head n m seats e w h = absurd (cc)
defers_by false head n m seats e w h = let same : head - 1 ≡ n = cc in (omega (arith, w, same), subst (λ (k : ℕ). test_at is_preferred seats k ≡ false) same e)

no_defers : (b : Bool) (m n : ℕ) → (if b then Some (Overdraws m) else None) ≡ Some (Defers n) → ⊥
no_defers true m n e = absurd (cc)
no_defers false m n e = absurd (cc)

pub defers_for_another : DefersForAnother
defers_for_another k x l n h = elim (which k x l (Defers n) h) [
  | inl d ↦ (let w = defers_when k x l.seats d.0 in let r = defers_by (test_at is_preferred l.seats (x.head - 1)) x.head n (length l.seats) l.seats refl w.1 d.1 in (r.0, r.1, w.3))
  | inr r ↦ of_rest k x l n r
] where
  of_rest : (k : Look) (x : Stand) (l : Lending) (n : ℕ) → (Prefers (place_of (alone k x) l.seats) ≡ Defers n) ⊎ (overdraft_relief x.first l ≡ Some (Defers n))
      → (x.head ≡ n + 1) × (test_at is_preferred l.seats n ≡ false) × (1 < count may_defer l.seats)
  of_rest k x l n r = elim r [
    | inl p ↦ absurd (cc)
    | inr o ↦ absurd (no_defers (nat_lt 0 x.first && may_overdraw l (x.first - 1)) (x.first - 1) n o)
  ]

-- ---- what is noted

pub first_is_noted : FirstIsNoted
first_is_noted now x seats n l h = sym (first_found 0 n seats l (subst (λ (xs : List Seat). IsFirst xs n) (sym (lined_all seats)) h))

pub head_is_noted : HeadIsNoted
head_is_noted now x seats n l h = sym (first_found 1 n seats l h)

moves_by : (b c : Bool) (a f l first lent now : ℕ) → (a == first) ≡ b → (f == lent) ≡ c
    → ((if b && c then l else now) ≡ now) ⊎ (((if b && c then l else now) ≡ l) × (first ≡ a) × (lent ≡ f))
moves_by true true a f l first lent now e g = inr (refl, sym (eq_true a first e), sym (eq_true f lent g))
moves_by true false a f l first lent now e g = inl refl
moves_by false c a f l first lent now e g = inl refl

pub moves_are_noted : MovesAreNoted
moves_are_noted now x seats = (
  moves_by _ _ x.first x.lent x.since (first_from 0 seats) (shown_owed seats) now refl refl,
  moves_by _ _ x.head x.turn x.head_since (first_from 1 seats) (turn_of (first_from 1 seats) seats) now refl refl,
)
