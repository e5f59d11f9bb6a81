-- Grants, one after another, until nobody is granted.
use Rattle.std.proofs.Common.{◌≡◌, ℕ, zero, suc, ◌+◌, ◌≤◌, ◌<◌, Bool, true, false, not, ◌&&◌, ◌||◌, ◌==◌, nat_lt, nat_le, ◌*◌, if◌then◌else◌, List, [], ◌∷◌, length, get_or, inl, inr, ◌⊎◌, min, refl, ap, sym, subst, ◌∙◌, arith}
use Rattle.std.proofs.lemmas.Bool.Decides.{nat_tests}
use Rattle.std.specs.List.{list_all}
use Rattle.vb_host.specs.declared.event.Event.TheVariants.{Grants, Overdraws}
use Rattle.vb_host.specs.declared.seat.Seat.{Seat}
use Rattle.vb_host.specs.Lending.{Lending, owed, each_at, value_at, test_at, held_at, turn_at, last_turn, next_turn, is_first, may_grant}
use Rattle.vb_host.specs.Lending.{may_overdraw, may_join_at, joined_at, line_at, pages_at, rank_at, happens}
use Rattle.vb_host.specs.Line.{ByGrants, Stays, Granted, GrantsNone, IsFirst, IsNextGrant}
use Rattle.vb_host.specs.Seats.{apart, grown, newcomer, asked, waits, covers, granting, is_done, line_rank, place_in_line, queued, rank}
use Rattle.vb_host.proofs.Lines.{is_the_first, first_is, place_within, turn_place}
use Rattle.vb_host.proofs.Lists.{test_implies, waits_at}
use Rattle.vb_host.proofs.Places.{value_none, test_none, test_is}
use Rattle.vb_host.proofs.Sound.{and_left, and_right, le_true, lt_true}

-- how many wait
abbrev pub how_many : List Seat → ℕ
how_many [] = 0
how_many (s ∷ seats) = (if waits s then 1 else 0) + how_many seats

one : (s : Seat) (b : Bool) → b ≡ true → 1 ≤ (if b then 1 else 0)
one s true e = omega arith
one s false e = absurd (cc)

pub fewer : (n : ℕ) (xs : List Seat) → test_at waits xs n ≡ true → how_many (each_at n granting xs) < how_many xs
fewer n [] e = absurd (cc)
fewer zero (x ∷ xs) e = omega (arith, one x (waits x) e)
fewer (suc n) (x ∷ xs) e = omega (arith, fewer n xs e)

pub covered_waits : (s : Seat) → covers s ≡ true → waits s ≡ true
covered_waits s e = and_left (waits s) _ e

grant_waits : (xs : List Seat) (n : ℕ) (a b c : Bool) → test_at covers xs n ≡ a → is_first xs n ≡ b → (a || (b && c)) ≡ true → test_at waits xs n ≡ true
grant_waits xs n true b c e f g = test_implies covers waits n xs covered_waits e
grant_waits xs n false true c e f g = waits_at xs n (and_left (nat_lt 0 (held_at xs n)) _ f)
grant_waits xs n false false c e f g = absurd (cc)

pub may_waits : (l : Lending) (n : ℕ) → may_grant l n ≡ true → test_at waits l.seats n ≡ true
may_waits l n e = grant_waits l.seats n (test_at covers l.seats n) (is_first l.seats n) _ refl refl e

waits_there : (n : ℕ) (xs : List Seat) → test_at waits xs n ≡ true → n < length xs
waits_there n [] e = absurd (cc)
waits_there zero (x ∷ xs) e = omega arith
waits_there (suc n) (x ∷ xs) e = let rest = waits_there n xs e in omega (arith, rest)

pub grant_there : (l : Lending) (n : ℕ) → may_grant l n ≡ true → n < length l.seats
grant_there l n e = waits_there n l.seats (may_waits l n e)

grants_at : (b : Bool) (xs ys : List Seat) → b ≡ true → (if b then ys else xs) ≡ ys
grants_at true xs ys e = refl
grants_at false xs ys e = absurd (cc)

-- as code does it
pub as_set : (l : Lending) (n : ℕ) (ys : List Seat) → may_grant l n ≡ true → ys ≡ each_at n granting l.seats → happens l (Grants n) ≡ record l { seats = ys }
as_set l n ys e f = ap (λ (xs : List Seat). record l { seats = xs }) (grants_at (may_grant l n) l.seats (each_at n granting l.seats) e ∙ sym f)

-- ---- the one that is granted next

pub or_left : (a b : Bool) → a ≡ true → (a || b) ≡ true
or_left true b e = refl
or_left false b e = absurd (cc)

or_right : (a b c : Bool) → b ≡ true → c ≡ true → (a || (b && c)) ≡ true
or_right true b c e f = refl
or_right false true c e f = f
or_right false false c e f = e

le_by : (a b : ℕ) → a ≤ b → nat_le a b ≡ true
le_by a b h = grind (arith, nat_tests)

pub next_may : (l : Lending) (n : ℕ) → IsNextGrant l n → may_grant l n ≡ true
next_may l n e = elim e [
  | inl covered ↦ or_left (test_at covers l.seats n) _ covered.0
  | inr first ↦ or_right (test_at covers l.seats n) (is_first l.seats n) _ (is_the_first l.seats n first.1) (le_by _ _ first.2)
]

pub next_is_covered : (l : Lending) (n : ℕ) → test_at covers l.seats n ≡ true → ((k : ℕ) → k < n → test_at covers l.seats k ≡ false) → IsNextGrant l n
next_is_covered l n e h = inl (e, h)

pub next_is_first : (l : Lending) (n : ℕ) → ((k : ℕ) → test_at covers l.seats k ≡ false) → IsFirst l.seats n → nat_le (owed l.seats + value_at asked l.seats n) l.frames ≡ true → IsNextGrant l n
next_is_first l n c f e = inr (c, f, le_true _ _ e)

-- ---- one more

pub one_more : (l m : Lending) (n : ℕ) → ByGrants l m → IsNextGrant m n → ByGrants l (happens m (Grants n))
one_more _ _ n (Stays l) e = Granted l (happens l (Grants n)) n e (Stays (happens l (Grants n)))
one_more _ _ n (Granted l m k f b) e = Granted l (happens m (Grants n)) k f (one_more (happens l (Grants k)) m n b e)

pub none_nobody : (l : Lending) → ((n : ℕ) → test_at covers l.seats n ≡ false) → ((n : ℕ) → held_at l.seats n ≡ 0) → GrantsNone l
none_nobody l c h = record { none_covered = c; no_room = inl h }

pub none_room : (l : Lending) (n : ℕ) → ((n : ℕ) → test_at covers l.seats n ≡ false) → IsFirst l.seats n → l.frames < owed l.seats + value_at asked l.seats n → GrantsNone l
none_room l n c f h = record { none_covered = c; no_room = inr (n, f, h) }

-- as code does it
pub grants_one : (l m : Lending) (n : ℕ) (ys : List Seat) → ByGrants l m → IsNextGrant m n → ys ≡ each_at n granting m.seats → ByGrants l (record m { seats = ys })
grants_one l m n ys b e f = subst (λ (x : Lending). ByGrants l x) (as_set m n ys (next_may m n e) f) (one_more l m n b e)

pub more_grants : (l m n : Lending) → ByGrants l m → ByGrants m n → ByGrants l n
more_grants _ _ n (Stays l) b = b
more_grants _ _ n (Granted l m k e a) b = Granted l n k e (more_grants (happens l (Grants k)) m n a b)

-- ---- the tests as code makes them

or_none : (t f r : Bool) → t ≡ false → f ≡ true → r ≡ (t || (f && r))
or_none true f r e g = absurd (cc)
or_none false true r e g = refl
or_none false false r e g = absurd (cc)

or_neither : (t f r : Bool) → t ≡ false → f ≡ false → f ≡ (t || (f && r))
or_neither true f r e g = absurd (cc)
or_neither false true r e g = absurd (cc)
or_neither false false r e g = refl

none_of : (t f r : Bool) → t ≡ false → f ≡ false → false ≡ (t || (f && r))
none_of true f r e g = absurd (cc)
none_of false true r e g = absurd (cc)
none_of false false r e g = refl

first_none : (xs : List Seat) (n : ℕ) → length xs ≤ n → is_first xs n ≡ false
first_none xs n h = and_false (nat_lt 0 (held_at xs n)) _ (nobody _ (value_none (λ s. s.held) n xs h)) where
  and_false : (a b : Bool) → a ≡ false → (a && b) ≡ false
  and_false true b e = absurd (cc)
  and_false false b e = refl

  nobody : (a : ℕ) → a ≡ 0 → nat_lt 0 a ≡ false
  nobody a e = rw e refl

pub grant_beyond : (l : Lending) (n : ℕ) → length l.seats ≤ n → false ≡ may_grant l n
grant_beyond l n h = none_of (test_at covers l.seats n) (is_first l.seats n) _ (test_none covers n l.seats h) (first_none l.seats n h)

pub grant_covered : (l : Lending) (n : ℕ) (d : Seat) → n < length l.seats → covers (get_or l.seats n d) ≡ true → true ≡ may_grant l n
grant_covered l n d h e = sym (or_left (test_at covers l.seats n) _ (test_is covers n l.seats d h ∙ e))

pub grant_by_room : (l : Lending) (n : ℕ) (d : Seat) → n < length l.seats → covers (get_or l.seats n d) ≡ false → is_first l.seats n ≡ true
    → nat_le (owed l.seats + value_at asked l.seats n) l.frames ≡ may_grant l n
grant_by_room l n d h e f = or_none (test_at covers l.seats n) (is_first l.seats n) _ (test_is covers n l.seats d h ∙ e) f

pub grant_by_turn : (l : Lending) (n : ℕ) (d : Seat) → n < length l.seats → covers (get_or l.seats n d) ≡ false → is_first l.seats n ≡ false
    → is_first l.seats n ≡ may_grant l n
grant_by_turn l n d h e f = or_neither (test_at covers l.seats n) (is_first l.seats n) _ (test_is covers n l.seats d h ∙ e) f

none_in_row : (a b c : Bool) → a ≡ false → false ≡ ((a && b) && c)
none_in_row true b c e = absurd (cc)
none_in_row false b c e = refl

pub draw_beyond : (l : Lending) (n : ℕ) → length l.seats ≤ n → false ≡ may_overdraw l n
draw_beyond l n h = none_in_row (is_first l.seats n) _ _ (first_none l.seats n h)

pub draw_waits : (l : Lending) (n : ℕ) → may_overdraw l n ≡ true → is_first l.seats n ≡ true
draw_waits l n e = and_left (is_first l.seats n) _ (and_left (is_first l.seats n && list_all is_done l.seats) _ e)

pub draw_there : (l : Lending) (n : ℕ) → may_overdraw l n ≡ true → n < length l.seats
draw_there l n e = waits_there n l.seats (waits_at l.seats n (and_left (nat_lt 0 (held_at l.seats n)) _ (draw_waits l n e)))

-- ---- what is granted, and what isn't

grants_not : (b : Bool) (xs ys : List Seat) → b ≡ false → (if b then ys else xs) ≡ xs
grants_not true xs ys e = absurd (cc)
grants_not false xs ys e = refl

pub grant_done : (l : Lending) (n : ℕ) (ys : List Seat) → may_grant l n ≡ true → ys ≡ each_at n granting l.seats → record l { seats = ys } ≡ happens l (Grants n)
grant_done l n ys e f = sym (as_set l n ys e f)

pub grant_not : (l : Lending) (n : ℕ) → may_grant l n ≡ false → l ≡ happens l (Grants n)
grant_not l n e = sym (ap (λ (xs : List Seat). record l { seats = xs }) (grants_not (may_grant l n) l.seats (each_at n granting l.seats) e))

pub draw_done : (l : Lending) (n : ℕ) (ys : List Seat) → may_overdraw l n ≡ true → ys ≡ each_at n granting l.seats → record l { seats = ys } ≡ happens l (Overdraws n)
draw_done l n ys e f = sym (ap (λ (xs : List Seat). record l { seats = xs }) (grants_at (may_overdraw l n) l.seats (each_at n granting l.seats) e ∙ sym f))

pub draw_not : (l : Lending) (n : ℕ) → may_overdraw l n ≡ false → l ≡ happens l (Overdraws n)
draw_not l n e = sym (ap (λ (xs : List Seat). record l { seats = xs }) (grants_not (may_overdraw l n) l.seats (each_at n granting l.seats) e))

-- ---- in turn

by_test : (l : Lending) (n : ℕ) (a b c : Bool) → test_at covers l.seats n ≡ a → is_first l.seats n ≡ b → nat_le (owed l.seats + value_at asked l.seats n) l.frames ≡ c → (a || (b && c)) ≡ true
    → (test_at covers l.seats n ≡ true) ⊎ (IsFirst l.seats n × (owed l.seats + value_at asked l.seats n ≤ l.frames))
by_test l n true b c e f g h = inl e
by_test l n false true true e f g h = inr (first_is l.seats n f, le_true _ _ g)
by_test l n false true false e f g h = absurd (cc)
by_test l n false false c e f g h = absurd (cc)

pub in_turn : (l : Lending) (n : ℕ) → may_grant l n ≡ true → (test_at covers l.seats n ≡ true) ⊎ (IsFirst l.seats n × (owed l.seats + value_at asked l.seats n ≤ l.frames))
in_turn l n e = by_test l n (test_at covers l.seats n) (is_first l.seats n) (nat_le (owed l.seats + value_at asked l.seats n) l.frames) refl refl refl e

turns_within : (xs : List Seat) (n : ℕ) → turn_at xs n ≤ last_turn xs
turns_within [] n = omega arith
turns_within (x ∷ xs) zero = omega arith
turns_within (x ∷ xs) (suc n) = omega (arith, turns_within xs n)

last_or : (last : ℕ) (b : Bool) → nat_lt last 18446744073709551615 ≡ b → (last < min (last + 1) 18446744073709551615) ⊎ (min (last + 1) 18446744073709551615 ≡ 18446744073709551615)
last_or last true e = let f : last < 18446744073709551615 = grind (arith, nat_tests) in inl (omega (arith, f))
last_or last false e = let f : 18446744073709551615 ≤ last = grind (arith, nat_tests) in inr (omega (arith, f))

pub turns_rise : (xs : List Seat) (n : ℕ) → (turn_at xs n < next_turn xs) ⊎ (next_turn xs ≡ 18446744073709551615)
turns_rise xs n = elim (last_or (last_turn xs) (nat_lt (last_turn xs) 18446744073709551615) refl) [
  | inl less ↦ inl (omega (arith, less, turns_within xs n))
  | inr end ↦ inr end
]

pub ranks_within : (xs : List Seat) (n : ℕ) → rank_at xs n ≤ 18446744073709551617 * line_at xs n + (turn_at xs n + 1)
ranks_within [] n = omega arith
ranks_within (x ∷ xs) zero = within_by (line_rank x) (place_in_line x) x.turn (place_within x) where
  within_by : (a p t : ℕ) → p ≤ t + 1 → 18446744073709551617 * a + p ≤ 18446744073709551617 * a + (t + 1)
  within_by a p t l = omega (arith, l)
ranks_within (x ∷ xs) (suc n) = ranks_within xs n

pub queued_place : (turn : ℕ) (s : Seat) → s.preferred ≡ 0 → waits s ≡ true → place_in_line (queued turn s) ≡ turn + 1
queued_place turn s e w = turn_place (queued turn s) e ∙ ap (λ (k : ℕ). k + 1) (taken (waits s) turn w) where
  taken : (b : Bool) (turn : ℕ) → b ≡ true → (if b then turn else 0) ≡ turn
  taken true turn e = refl
  taken false turn e = absurd (cc)

after_by : (a b r t turn p : ℕ) → r ≤ 18446744073709551617 * a + (t + 1) → a ≡ b → t < turn → p ≡ turn + 1 → r < 18446744073709551617 * b + p
after_by a b r t turn p l e h f = omega (arith, l, e, h, f)

pub comes_last : (xs : List Seat) (n : ℕ) (s : Seat) → s.preferred ≡ 0 → waits s ≡ true → line_at xs n ≡ line_rank (queued (next_turn xs) s)
    → (rank_at xs n < rank (queued (next_turn xs) s)) ⊎ (next_turn xs ≡ 18446744073709551615)
comes_last xs n s e w h = elim (turns_rise xs n) [
  | inl less ↦ inl (after_by (line_at xs n) (line_rank (queued (next_turn xs) s)) (rank_at xs n) (turn_at xs n) (next_turn xs) (place_in_line (queued (next_turn xs) s)) (ranks_within xs n) h less (queued_place (next_turn xs) s e w))
  | inr end ↦ inr end
]

-- ---- memory joins a guest

and_five : (a b c d e : Bool) → a ≡ false → false ≡ ((((a && b) && c) && d) && e)
and_five true b c d e h = absurd (cc)
and_five false b c d e h = refl

and_second : (a b c d e : Bool) → b ≡ false → false ≡ ((((a && b) && c) && d) && e)
and_second true true c d e h = absurd (cc)
and_second true false c d e h = refl
and_second false b c d e h = refl

not_below : (a b : ℕ) → b ≤ a → nat_lt a b ≡ false
not_below a b h = grind (arith, nat_tests)

below : (a b : ℕ) → a < b → nat_lt a b ≡ true
below a b h = grind (arith, nat_tests)

pub join_beyond : (xs : List Seat) (n m : ℕ) → length xs ≤ n → false ≡ may_join_at xs n m
join_beyond xs n m h = and_five (nat_lt n (length xs)) _ _ _ _ (not_below n (length xs) h)

pub join_from_beyond : (xs : List Seat) (n m : ℕ) → length xs ≤ m → false ≡ may_join_at xs n m
join_from_beyond xs n m h = and_second (nat_lt n (length xs)) (nat_lt m (length xs)) _ _ _ (not_below m (length xs) h)

pub record CanJoin (xs : List Seat) (n m : ℕ) : Type 0 where
  pub place : n < length xs
  pub from : m < length xs
  pub few : pages_at xs n + pages_at xs m < 4294967296

pub can_join : (xs : List Seat) (n m : ℕ) → may_join_at xs n m ≡ true → CanJoin xs n m
can_join xs n m e =
    let a = and_left (((nat_lt n (length xs) && nat_lt m (length xs)) && not (n == m)) && (value_at apart xs m == 0)) _ e in
    let b = and_left ((nat_lt n (length xs) && nat_lt m (length xs)) && not (n == m)) _ a in
    let c = and_left (nat_lt n (length xs) && nat_lt m (length xs)) _ b in
    record {
      place = lt_true _ _ (and_left (nat_lt n (length xs)) _ c);
      from = lt_true _ _ (and_right (nat_lt n (length xs)) _ c);
      few = lt_true _ _ (and_right (((nat_lt n (length xs) && nat_lt m (length xs)) && not (n == m)) && (value_at apart xs m == 0)) _ e);
    }

pub join_done : (xs ys : List Seat) (n m : ℕ) → may_join_at xs n m ≡ true → ys ≡ each_at m (λ _. newcomer 0) (each_at n (grown (pages_at xs m)) xs) → ys ≡ joined_at n m xs
join_done xs ys n m e f = f ∙ sym (grants_at (may_join_at xs n m) xs (each_at m (λ _. newcomer 0) (each_at n (grown (pages_at xs m)) xs)) e)

pub join_not : (xs : List Seat) (n m : ℕ) → may_join_at xs n m ≡ false → xs ≡ joined_at n m xs
join_not xs n m e = sym (grants_not (may_join_at xs n m) xs (each_at m (λ _. newcomer 0) (each_at n (grown (pages_at xs m)) xs)) e)

and_third : (a b c d e : Bool) → c ≡ false → false ≡ ((((a && b) && c) && d) && e)
and_third true true true d e h = absurd (cc)
and_third true true false d e h = refl
and_third true false c d e h = refl
and_third false b c d e h = refl

and_fourth : (a b c d e : Bool) → d ≡ false → false ≡ ((((a && b) && c) && d) && e)
and_fourth true true true true e h = absurd (cc)
and_fourth true true true false e h = refl
and_fourth true true false d e h = refl
and_fourth true false c d e h = refl
and_fourth false b c d e h = refl

and_all : (a b c d e : Bool) → a ≡ true → b ≡ true → c ≡ true → d ≡ true → e ≡ ((((a && b) && c) && d) && e)
and_all true true true true e f g h i = refl
and_all true true true false e f g h i = absurd (cc)
and_all true true false d e f g h i = absurd (cc)
and_all true false c d e f g h i = absurd (cc)
and_all false b c d e f g h i = absurd (cc)

same_not : (n m : ℕ) → n ≡ m → not (n == m) ≡ false
same_not n m e = grind (arith, nat_tests)

apart_not : (n m : ℕ) → (n ≡ m → ⊥) → not (n == m) ≡ true
apart_not n m e = grind (arith, nat_tests)

some_none : (n : ℕ) → 0 < n → (n == 0) ≡ false
some_none n e = grind (arith, nat_tests)

zero_is : (n : ℕ) → n ≤ 0 → (n == 0) ≡ true
zero_is n e = grind (arith, nat_tests)

pub join_itself : (xs : List Seat) (n m : ℕ) → n ≡ m → false ≡ may_join_at xs n m
join_itself xs n m e = and_third (nat_lt n (length xs)) (nat_lt m (length xs)) (not (n == m)) _ _ (same_not n m e)

pub join_bottom : (xs : List Seat) (n m : ℕ) → 0 < value_at apart xs m → false ≡ may_join_at xs n m
join_bottom xs n m e = and_fourth (nat_lt n (length xs)) (nat_lt m (length xs)) (not (n == m)) (value_at apart xs m == 0) _ (some_none _ e)

pub join_few : (xs : List Seat) (n m : ℕ) → n < length xs → m < length xs → (n ≡ m → ⊥) → value_at apart xs m ≤ 0
    → nat_lt (pages_at xs n + pages_at xs m) 4294967296 ≡ may_join_at xs n m
join_few xs n m h k d e = and_all (nat_lt n (length xs)) (nat_lt m (length xs)) (not (n == m)) (value_at apart xs m == 0) _ (below n (length xs) h) (below m (length xs) k) (apart_not n m d) (zero_is _ e)
