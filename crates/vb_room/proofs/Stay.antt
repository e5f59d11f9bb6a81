-- What keeps the seats those of the guests.
use Rattle.std.proofs.Common.{◌≡◌, ℕ, zero, suc, ◌≤◌, Bool, true, false, if◌then◌else◌, List, [], ◌∷◌, map, refl, ap, sym, subst, ◌∙◌, arith}
use Rattle.std.specs.Prelude.{Some, slice_get}
use Rattle.vb_model.proofs.Fates.{configurations_kept}
use Rattle.vb_model.specs.Guest.{Config, Guest}
use Rattle.vb_model.specs.World.{World}
use Rattle.vb_host.proofs.LentBy.{retargets}
use Rattle.vb_host.proofs.Sound.{either}
use Rattle.vb_host.specs.declared.seat.Seat.{Seat}
use Rattle.vb_host.specs.declared.event.Event.TheVariants.{Hears, Grants, Overdraws, Wants, Targets, Arrives, Joins, TakesOver, Uncounts, Budget, Prefers, Defers}
use Rattle.vb_host.specs.Lending.{each_at, may_grant, may_overdraw, next_turn, room}
use Rattle.vb_host.specs.Seats.{deferring, granting, may_defer, preferring, reclaimed, retargeted, uncounting}
use Rattle.vb_room.specs.Tie.{EventsLeaveSeats, HaveSeats, IsSeatOf, SeatEventsLeaveSeats}

pub events_leave_seats : EventsLeaveSeats
events_leave_seats limited w event reply v seats step lowers have n g at =
    let old = lowers n g at in
    let x = have n old.0 old.1 in
    let config = configurations_kept w event reply v n old.0 g (record { step = step; before = old.1; after = at }) in (
      x.0,
      x.1,
      record {
        pages = x.2.pages ∙ ap (λ (c : Config). c.pages) (sym config);
        reclaimed = λ e. omega (arith, x.2.reclaimed e, old.2);
        held = λ e. omega (arith, x.2.held e, old.3);
      },
    )

-- it has as many pages, also outside, and no more of them are reclaimed
pub record Less (s t : Seat) : Type 0 where
  pub pages : t.pages ≡ s.pages
  pub reclaimed : reclaimed t ≤ reclaimed s
  pub outside : t.outside ≡ s.outside

less_same : (s : Seat) → Less s s
less_same s = record { pages = refl; reclaimed = omega arith; outside = refl }

less_seat : (limited : Bool) (s t : Seat) (g : Guest) → Less s t → IsSeatOf limited s g → IsSeatOf limited t g
less_seat limited s t g l h = record {
  pages = l.pages ∙ h.pages;
  reclaimed = λ e. omega (arith, l.reclaimed, h.reclaimed e);
  held = λ e. omega (arith, l.pages, l.outside, l.reclaimed, h.held e);
}

-- what is at a number, after a change at one, and of all
after : (n : ℕ) (f : Seat → Seat) (xs : List Seat) (m : ℕ) (s : Seat) → ((x : Seat) → Less x (f x)) → slice_get xs m ≡ Some s
    → (t : Seat) × (slice_get (each_at n f xs) m ≡ Some t) × Less s t
after n f [] m s h e = absurd cc
after zero f (x ∷ xs) zero s h e = (f x, refl, let same : x ≡ s = cc in subst (λ (y : Seat). Less y (f x)) same (h x))
after zero f (x ∷ xs) (suc m) s h e = (s, e, less_same s)
after (suc n) f (x ∷ xs) zero s h e = (s, e, less_same s)
after (suc n) f (x ∷ xs) (suc m) s h e = after n f xs m s h e

after_all : (f : Seat → Seat) (xs : List Seat) (m : ℕ) (s : Seat) → ((x : Seat) → Less x (f x)) → slice_get xs m ≡ Some s
    → (t : Seat) × (slice_get (map f xs) m ≡ Some t) × Less s t
after_all f [] m s h e = absurd cc
after_all f (x ∷ xs) zero s h e = (f x, refl, let same : x ≡ s = cc in subst (λ (y : Seat). Less y (f x)) same (h x))
after_all f (x ∷ xs) (suc m) s h e = after_all f xs m s h e

have_at : (limited : ℕ → Bool) (n : ℕ) (f : Seat → Seat) (xs : List Seat) (w : World) → ((x : Seat) → Less x (f x)) → HaveSeats limited xs w
    → HaveSeats limited (each_at n f xs) w
have_at limited n f xs w h have m g at =
    let x = have m g at in
    let y = after n f xs m x.0 h x.1 in
    (y.0, y.1, less_seat (limited m) x.0 y.0 g y.2 x.2)

have_all : (limited : ℕ → Bool) (f : Seat → Seat) (xs : List Seat) (w : World) → ((x : Seat) → Less x (f x)) → HaveSeats limited xs w
    → HaveSeats limited (map f xs) w
have_all limited f xs w h have m g at =
    let x = have m g at in
    let y = after_all f xs m x.0 h x.1 in
    (y.0, y.1, less_seat (limited m) x.0 y.0 g y.2 x.2)

pub have_if : (limited : ℕ → Bool) (b : Bool) (xs ys : List Seat) (w : World) → HaveSeats limited ys w → HaveSeats limited xs w
    → HaveSeats limited (if b then ys else xs) w
have_if limited true xs ys w a c = a
have_if limited false xs ys w a c = c

granting_less : (s : Seat) → Less s (granting s)
granting_less s = record { pages = refl; reclaimed = omega arith; outside = refl }

targets_less : (room : ℕ) (s : Seat) → Less s (retargeted room s)
targets_less room s = retargets (λ (x : Seat). Less s x) room s (less_same s) (λ number. record { pages = refl; reclaimed = omega arith; outside = refl })

prefers_less : (preferred : ℕ) (s : Seat) → Less s (preferring preferred s)
prefers_less preferred s = record { pages = refl; reclaimed = omega arith; outside = refl }

defers_less : (turn : ℕ) (s : Seat) → Less s (deferring turn s)
defers_less turn s = either (λ (x : Seat). Less s x) (may_defer s) _ _ (λ _. record { pages = refl; reclaimed = omega arith; outside = refl }) (λ _. less_same s)

pub seat_events_leave_seats : SeatEventsLeaveSeats
seat_events_leave_seats limited l (Hears n r) w o h = absurd o
seat_events_leave_seats limited l (Grants n) w o h = have_if limited (may_grant l n) l.seats _ w (have_at limited n granting l.seats w granting_less h) h
seat_events_leave_seats limited l (Overdraws n) w o h = have_if limited (may_overdraw l n) l.seats _ w (have_at limited n granting l.seats w granting_less h) h
seat_events_leave_seats limited l (Wants n pages) w o h = have_at limited n (λ s. record s { wanted = pages }) l.seats w (λ s. record { pages = refl; reclaimed = omega arith; outside = refl }) h
seat_events_leave_seats limited l (Targets n) w o h = have_at limited n (retargeted (room l)) l.seats w (targets_less (room l)) h
seat_events_leave_seats limited l (Arrives n pages ballooned) w o h = absurd o
seat_events_leave_seats limited l (Joins n m) w o h = absurd o
seat_events_leave_seats limited l (TakesOver n pages r) w o h = absurd o
seat_events_leave_seats limited l (Uncounts n) w o h = have_at limited n uncounting l.seats w (λ s. record { pages = refl; reclaimed = omega arith; outside = refl }) h
seat_events_leave_seats limited l (Budget frames) w o h = h
seat_events_leave_seats limited l (Prefers n) w o h =
    have_at limited n (preferring 1) (map (preferring 0) l.seats) w (prefers_less 1) (have_all limited (preferring 0) l.seats w (prefers_less 0) h)
seat_events_leave_seats limited l (Defers n) w o h = have_at limited n (deferring (next_turn l.seats)) l.seats w (defers_less (next_turn l.seats)) h
