-- Of all guests one is preferred, and while it waits, none that comes after it in its line is lent more.
use Rattle.std.proofs.Common.{◌≡◌, ℕ, zero, suc, ◌+◌, ◌*◌, ◌<◌, ◌≤◌, inl, Bool, true, false, ◌==◌, ◌&&◌, if◌then◌else◌, List, [], ◌∷◌, length, map, refl, subst, sym, ◌∙◌, arith}
use Rattle.vb_host.specs.declared.event.Event.{Event}
use Rattle.vb_host.specs.declared.event.Event.TheVariants.{Hears, Grants, Overdraws, Wants, Targets, Arrives, Joins, TakesOver, Uncounts, Budget, Prefers, Defers}
use Rattle.vb_host.specs.declared.report.Report.{Report}
use Rattle.vb_host.specs.declared.seat.Seat.{Seat}
use Rattle.vb_host.specs.Lending.{Lending, each_at, happens, held_at, lent_at, line_at, may_grant, may_join_at, may_overdraw, next_turn, pages_at}
use Rattle.vb_host.specs.Lending.{preferred_at, rank_at, room}
use Rattle.vb_host.specs.Line.{IsFirst, IsStep}
use Rattle.vb_host.specs.Promises.{IsStillThere}
use Rattle.vb_host.specs.Seats.{believed, counting, covers, granting, grown, heard, is_stale, lent, line_rank, newcomer, place_in_line, preferring, queued}
use Rattle.vb_host.specs.Seats.{deferring, may_defer, raised, retargeted, served, starting, taken_over, uncounting}
use Rattle.vb_host.specs.Turns.{IsAfter, IsBefore, IsNoPreference}
use Rattle.vb_host.proofs.Grants.{draw_waits, grant_not}
use Rattle.vb_host.proofs.LentBy.{retargets}
use Rattle.vb_host.proofs.Lines.{first_is, first_place, turn_place}
use Rattle.vb_host.proofs.Passing.{lends_no_more_by, none_is_passed, not_after}
use Rattle.vb_host.proofs.Places.{value_elsewhere, value_same}
use Rattle.vb_host.proofs.Sound.{counts, either, eq_false, eq_true, queues}

-- ---- just one

abbrev its_preferred : Seat → ℕ
its_preferred s = s.preferred

none_preferred : (xs : List Seat) (i : ℕ) → preferred_at (map (preferring 0) xs) i ≡ 0
none_preferred [] i = refl
none_preferred (x ∷ xs) zero = refl
none_preferred (x ∷ xs) (suc i) = none_preferred xs i

pub just_one : (l : Lending) (n i : ℕ) → 0 < preferred_at (happens l (Prefers n)).seats i → i ≡ n
just_one l n i h = by_test l n i (i == n) refl h where
  by_test : (l : Lending) (n i : ℕ) (b : Bool) → (i == n) ≡ b → 0 < preferred_at (happens l (Prefers n)).seats i → i ≡ n
  by_test l n i true e h = eq_true i n e
  by_test l n i false e h = absurd (omega (arith, h, value_elsewhere its_preferred n (preferring 1) (map (preferring 0) l.seats) i (eq_false i n e), none_preferred l.seats i))

pub becomes_preferred : (l : Lending) (n : ℕ) → n < length l.seats → preferred_at (happens l (Prefers n)).seats n ≡ 1
becomes_preferred l n h = by_place n l.seats h where
  by_place : (n : ℕ) (xs : List Seat) → n < length xs → preferred_at (each_at n (preferring 1) (map (preferring 0) xs)) n ≡ 1
  by_place n [] h = absurd (omega arith)
  by_place zero (x ∷ xs) h = refl
  by_place (suc n) (x ∷ xs) h = by_place n xs (omega arith)

-- ---- it stays so

pub counts_preferred : (r : Report) (s : Seat) → (counting r s).preferred ≡ s.preferred
counts_preferred r s = counts (λ (x : Seat). x.preferred ≡ s.preferred) r s (λ _ _. refl) (λ _. refl)

pub serves_preferred : (s : Seat) → (served s).preferred ≡ s.preferred
serves_preferred s = either (λ (x : Seat). x.preferred ≡ s.preferred) (covers s) _ _ (λ _. refl) (λ _. refl)

pub raises_preferred : (r : Report) (s : Seat) → (raised r s).preferred ≡ s.preferred
raises_preferred r s = either (λ (x : Seat). x.preferred ≡ s.preferred) ((r.target_number == s.target_number) && (r.read_target == s.target)) _ _ (λ _. refl) (λ _. refl)

pub hears_preferred : (turn : ℕ) (r : Report) (s : Seat) → (heard turn r s).preferred ≡ s.preferred
hears_preferred turn r s = either (λ (x : Seat). x.preferred ≡ s.preferred) (is_stale r s) _ _ (λ _. refl)
    (λ _. let q = believed s r in let e = raises_preferred r (served (counting q s)) ∙ (serves_preferred (counting q s) ∙ counts_preferred q s) in
    queues (λ (x : Seat). x.preferred ≡ s.preferred) turn s (raised r (served (counting q s))) e (λ _. e))

either_same : (b : Bool) (i : ℕ) (xs ys : List Seat) → preferred_at ys i ≡ preferred_at xs i → preferred_at (if b then ys else xs) i ≡ preferred_at xs i
either_same true i xs ys e = e
either_same false i xs ys e = refl

pub stays_preferred : (l : Lending) (e : Event) (i : ℕ) → IsNoPreference e → IsStillThere i e → preferred_at (happens l e).seats i ≡ preferred_at l.seats i
stays_preferred l (Hears n r) i p h = value_same its_preferred n (heard (next_turn l.seats) r) l.seats i (hears_preferred (next_turn l.seats) r)
stays_preferred l (Grants n) i p h = either_same (may_grant l n) i l.seats _ (value_same its_preferred n granting l.seats i (λ _. refl))
stays_preferred l (Overdraws n) i p h = either_same (may_overdraw l n) i l.seats _ (value_same its_preferred n granting l.seats i (λ _. refl))
stays_preferred l (Wants n pages) i p h = value_same its_preferred n (λ s. record s { wanted = pages }) l.seats i (λ _. refl)
stays_preferred l (Targets n) i p h = value_same its_preferred n (retargeted (room l)) l.seats i
    (λ s. retargets (λ (x : Seat). x.preferred ≡ s.preferred) (room l) s refl (λ _. refl))
stays_preferred l (Arrives n pages ballooned) i p h = value_elsewhere its_preferred n (λ _. starting pages ballooned) l.seats i h
stays_preferred l (Joins n m) i p h = either_same (may_join_at l.seats n m) i l.seats _
    (value_elsewhere its_preferred m (λ _. newcomer 0) (each_at n (grown (pages_at l.seats m)) l.seats) i h ∙ value_same its_preferred n (grown (pages_at l.seats m)) l.seats i (λ _. refl))
stays_preferred l (TakesOver n pages r) i p h = value_elsewhere its_preferred n (λ _. queued (next_turn l.seats) (taken_over pages r)) l.seats i h
stays_preferred l (Uncounts n) i p h = value_same its_preferred n uncounting l.seats i (λ _. refl)
stays_preferred l (Budget frames) i p h = refl
stays_preferred l (Prefers n) i p h = absurd p
stays_preferred l (Defers n) i p h = value_same its_preferred n (deferring (next_turn l.seats)) l.seats i
    (λ s. either (λ (x : Seat). x.preferred ≡ s.preferred) (may_defer s) _ _ (λ _. refl) (λ _. refl))

-- ---- it comes first in its line

first_rank : (xs : List Seat) (i : ℕ) → 0 < preferred_at xs i → rank_at xs i ≡ 18446744073709551617 * line_at xs i
first_rank [] i h = absurd (omega arith)
first_rank (x ∷ xs) zero h = rank_of (line_rank x) (place_in_line x) (first_place x h) where
  rank_of : (a p : ℕ) → p ≡ 0 → 18446744073709551617 * a + p ≡ 18446744073709551617 * a
  rank_of a p e = omega (arith, e)
first_rank (x ∷ xs) (suc i) h = first_rank xs i h

later_rank : (xs : List Seat) (j : ℕ) → preferred_at xs j ≡ 0 → 0 < held_at xs j → 18446744073709551617 * line_at xs j < rank_at xs j
later_rank [] j e w = absurd (omega arith)
later_rank (x ∷ xs) zero e w = rank_more (line_rank x) (place_in_line x) x.turn (turn_place x e) where
  rank_more : (a p t : ℕ) → p ≡ t + 1 → 18446744073709551617 * a < 18446744073709551617 * a + p
  rank_more a p t e = omega (arith, e)
later_rank (x ∷ xs) (suc j) e w = later_rank xs j e w

comes_after : (xs : List Seat) (i j : ℕ) → IsBefore xs i j → IsAfter xs i j
comes_after xs i j b w = inl (omega (arith, first_rank xs i b.preferred, later_rank xs j b.other w, b.line))

granted_none : (l : Lending) (n i j : ℕ) (b : Bool) → may_grant l n ≡ b → 0 < held_at l.seats i → IsAfter l.seats i j → lent_at (happens l (Grants n)).seats j ≤ lent_at l.seats j
granted_none l n i j true e w a = lends_no_more_by l n i j w e a (j == n) refl
granted_none l n i j false e w a = subst (λ (k : Lending). lent_at k.seats j ≤ lent_at l.seats j) (grant_not l n e) (omega arith)

drawn_none : (l : Lending) (n i j : ℕ) (b : Bool) → (j == n) ≡ b → may_overdraw l n ≡ true → 0 < held_at l.seats i → IsAfter l.seats i j
    → lent_at (each_at n granting l.seats) j ≤ lent_at l.seats j
drawn_none l n i j true f e w a = absurd (not_after l.seats i j w a (subst (λ (k : ℕ). IsFirst l.seats k) (sym (eq_true j n f)) (first_is l.seats n (draw_waits l n e))))
drawn_none l n i j false f e w a = omega (arith, value_elsewhere lent n granting l.seats j (eq_false j n f))

pub one_proceeds : (l : Lending) (n i j : ℕ) → 0 < held_at l.seats i → IsBefore l.seats i j
    → (lent_at (happens l (Grants n)).seats j ≤ lent_at l.seats j) × (lent_at (happens l (Overdraws n)).seats j ≤ lent_at l.seats j)
one_proceeds l n i j w b = let a = comes_after l.seats i j b in (
  granted_none l n i j (may_grant l n) refl w a,
  either (λ (xs : List Seat). lent_at xs j ≤ lent_at l.seats j) (may_overdraw l n) (each_at n granting l.seats) l.seats (λ e. drawn_none l n i j (j == n) refl e w a) (λ _. omega arith),
)

pub one_proceeds_by_steps : (l m : Lending) (e : Event) (i j : ℕ) → IsStep l e m → 0 < held_at m.seats i → IsBefore (happens l e).seats i j
    → lent_at m.seats j ≤ lent_at (happens l e).seats j
one_proceeds_by_steps l m e i j s w b = none_is_passed l m e i j s w (comes_after (happens l e).seats i j b)
