-- What a host and its lender keep, where the host asks first.
use Rattle.std.proofs.Common.{Bool, List, [], ap, arith, false, inl, inr, refl, suc, sym, subst, true, zero, ℕ, ◌∙◌, ◌∷◌, ◌<◌, ◌≤◌, ◌≡◌, ◌≢◌, replicate}
use Rattle.std.proofs.lemmas.Bool.{cases_eq}
use Rattle.std.specs.Prelude.{None, Option, Some, count_by, is_some, slice_get}
use Rattle.vb_model.proofs.Changes.{Change, New, Restarted, Retargeted, Stepped, Untouched, changes}
use Rattle.vb_model.proofs.Fates.{configurations_kept}
use Rattle.vb_model.specs.Guest.{Config, Guest, backed_count}
use Rattle.vb_model.specs.HostEvents.{WorldStep}
use Rattle.vb_model.specs.World.{World, guest_at}
use Rattle.vb_model.specs.declared.calls.Event.{Event}
use Rattle.vb_model.specs.declared.calls.Event.TheVariants.{Plug}
use Rattle.vb_model.specs.declared.replies.Reply.{Reply}
use Rattle.vb_virtio.proofs.Tables.{count_by-cons}
use Rattle.vb_host.specs.declared.event.Event.{Event as SeatEvent}
use Rattle.vb_host.specs.declared.event.Event.TheVariants.{Hears, Grants, Overdraws, Wants, Targets, Arrives, Joins, TakesOver, Uncounts, Budget, Prefers, Defers}
use Rattle.vb_host.specs.declared.seat.Seat.{Seat}
use Rattle.vb_host.specs.Lending.{each_at, happens, may_join_at, next_turn, pages_at, value_at}
use Rattle.vb_host.specs.Seats.{grown, heard, lent, newcomer, queued, reclaimed, starting, taken_over}
use Rattle.vb_room.proofs.Bare.{AllBare}
use Rattle.vb_room.proofs.Called.{step_so}
use Rattle.vb_room.proofs.Owed.{IsWithin, lends_within}
use Rattle.vb_room.proofs.Roomy.{comes}
use Rattle.vb_room.proofs.Seats.{value_of}
use Rattle.vb_room.proofs.Stay.{have_if, seat_events_leave_seats}
use Rattle.vb_room.specs.Beside.{Both, EventIsAsked, IsTrue, LoanIsAsked}
use Rattle.vb_room.specs.Tie.{HaveSeats, IsSeatOf, counted, reclaimed_at}

-- ---- events of the lender

elsewhere : (n m : ℕ) (f : Seat → Seat) (xs : List Seat) → m ≢ n → slice_get (each_at n f xs) m ≡ slice_get xs m
elsewhere n m f [] d = refl
elsewhere zero zero f (x ∷ xs) d = absurd (d refl)
elsewhere zero (suc m) f (x ∷ xs) d = refl
elsewhere (suc n) zero f (x ∷ xs) d = refl
elsewhere (suc n) (suc m) f (x ∷ xs) d = elsewhere n m f xs (λ e. d (ap suc e))

here_changed : (n : ℕ) (f : Seat → Seat) (xs : List Seat) (s : Seat) → slice_get xs n ≡ Some s → slice_get (each_at n f xs) n ≡ Some (f s)
here_changed n f [] s e = absurd cc
here_changed zero f (x ∷ xs) s e = ap (λ (y : Seat). Some (f y)) (let same : x ≡ s = cc in same)
here_changed (suc n) f (x ∷ xs) s e = here_changed n f xs s e

-- a place without a guest may change in any way
no_guest_there : (limited : ℕ → Bool) (n : ℕ) (f : Seat → Seat) (xs : List Seat) (w : World) → guest_at w.guests n ≡ None
    → HaveSeats limited xs w → HaveSeats limited (each_at n f xs) w
no_guest_there limited n f xs w none have m g at = elim (cases_eq m n) [
  | inl same ↦ absurd (let e : None ≡ Some g = sym none ∙ (ap (guest_at w.guests) (sym same) ∙ at) in cc)
  | inr other ↦ let x = have m g at in (x.0, elsewhere n m f xs other ∙ x.1, x.2)
]

-- what is so of the guest at a place is so of its seat
told_seat : (limited : ℕ → Bool) (n : ℕ) (f : Seat → Seat) (xs : List Seat) (w : World) → IsTrue (limited n) n w (each_at n f xs)
    → (s : Seat) (g : Guest) → slice_get xs n ≡ Some s → guest_at w.guests n ≡ Some g → IsSeatOf (limited n) (f s) g
told_seat limited n f xs w t s g here there =
    let now = here_changed n f xs s here in record {
      pages = sym (value_of (λ x. x.pages) (each_at n f xs) n (f s) now) ∙ t.pages g there;
      reclaimed = λ e. omega (arith, value_of reclaimed (each_at n f xs) n (f s) now, t.reclaimed e g there);
      held = λ e. omega (arith, value_of lent (each_at n f xs) n (f s) now, t.held e g there);
    }

told : (limited : ℕ → Bool) (n : ℕ) (f : Seat → Seat) (xs : List Seat) (w : World) → IsTrue (limited n) n w (each_at n f xs)
    → HaveSeats limited xs w → HaveSeats limited (each_at n f xs) w
told limited n f xs w t have m g at = elim (cases_eq m n) [
  | inl same ↦
      let x = have m g at in
      let here = ap (slice_get xs) (sym same) ∙ x.1 in
      let own = told_seat limited n f xs w t x.0 g here (ap (guest_at w.guests) (sym same) ∙ at) in
      (f x.0, ap (slice_get (each_at n f xs)) same ∙ here_changed n f xs x.0 here, subst (λ (k : ℕ). IsSeatOf (limited k) (f x.0) g) (sym same) own)
  | inr other ↦ let x = have m g at in (x.0, elsewhere n m f xs other ∙ x.1, x.2)
]

pub lends_have : (limited : ℕ → Bool) (b : Both) (e : SeatEvent) → LoanIsAsked limited e b → HaveSeats limited b.lending.seats b.world
    → HaveSeats limited (happens b.lending e).seats b.world
lends_have limited b (Hears n r) asked have = told limited n (heard (next_turn b.lending.seats) r) b.lending.seats b.world asked have
lends_have limited b (Grants n) asked have = seat_events_leave_seats limited b.lending (Grants n) b.world tt have
lends_have limited b (Overdraws n) asked have = seat_events_leave_seats limited b.lending (Overdraws n) b.world tt have
lends_have limited b (Wants n pages) asked have = seat_events_leave_seats limited b.lending (Wants n pages) b.world tt have
lends_have limited b (Targets n) asked have = seat_events_leave_seats limited b.lending (Targets n) b.world tt have
lends_have limited b (Arrives n pages ballooned) asked have = no_guest_there limited n (λ _. starting pages ballooned) b.lending.seats b.world asked have
lends_have limited b (Joins n m) asked have = have_if limited (may_join_at b.lending.seats n m) b.lending.seats _ b.world
    (no_guest_there limited m (λ _. newcomer 0) _ b.world asked.1
    (no_guest_there limited n (grown (pages_at b.lending.seats m)) b.lending.seats b.world asked.0 have)) have
lends_have limited b (TakesOver n pages r) asked have =
    told limited n (λ _. queued (next_turn b.lending.seats) (taken_over pages r)) b.lending.seats b.world asked.0 have
lends_have limited b (Uncounts n) asked have = seat_events_leave_seats limited b.lending (Uncounts n) b.world tt have
lends_have limited b (Budget frames) asked have = seat_events_leave_seats limited b.lending (Budget frames) b.world tt have
lends_have limited b (Prefers n) asked have = seat_events_leave_seats limited b.lending (Prefers n) b.world tt have
lends_have limited b (Defers n) asked have = seat_events_leave_seats limited b.lending (Defers n) b.world tt have

pub stays_within : (limited : ℕ → Bool) (b : Both) (e : SeatEvent) → LoanIsAsked limited e b → IsWithin b.lending b.world.frames
    → IsWithin (happens b.lending e) b.world.frames
stays_within limited b (Hears n r) asked h = lends_within b.lending (Hears n r) b.world.frames h tt
stays_within limited b (Grants n) asked h = lends_within b.lending (Grants n) b.world.frames h tt
stays_within limited b (Overdraws n) asked h = lends_within b.lending (Overdraws n) b.world.frames h tt
stays_within limited b (Wants n pages) asked h = lends_within b.lending (Wants n pages) b.world.frames h tt
stays_within limited b (Targets n) asked h = lends_within b.lending (Targets n) b.world.frames h tt
stays_within limited b (Arrives n pages ballooned) asked h = lends_within b.lending (Arrives n pages ballooned) b.world.frames h tt
stays_within limited b (Joins n m) asked h = lends_within b.lending (Joins n m) b.world.frames h tt
stays_within limited b (TakesOver n pages r) asked h = record { owed = asked.1; budget = h.budget }
stays_within limited b (Uncounts n) asked h = record { owed = asked; budget = h.budget }
stays_within limited b (Budget frames) asked h = record { owed = h.owed; budget = asked }
stays_within limited b (Prefers n) asked h = lends_within b.lending (Prefers n) b.world.frames h tt
stays_within limited b (Defers n) asked h = lends_within b.lending (Defers n) b.world.frames h tt

-- ---- events of the host

-- the seat of a guest, whose pages stay
seat_stays : (limited : ℕ → Bool) (seats : List Seat) (n : ℕ) (old new : Guest) → (s : Seat) × (slice_get seats n ≡ Some s) × IsSeatOf (limited n) s old
    → new.config.pages ≡ old.config.pages → (limited n ≡ false → reclaimed_at seats n ≤ counted old → reclaimed_at seats n ≤ counted new)
    → (limited n ≡ true → backed_count old ≤ value_at lent seats n → backed_count new ≤ value_at lent seats n)
    → (s : Seat) × (slice_get seats n ≡ Some s) × IsSeatOf (limited n) s new
seat_stays limited seats n old new x pages more fewer =
    let back = value_of reclaimed seats n x.0 x.1 in
    let own = value_of lent seats n x.0 x.1 in (
      x.0,
      x.1,
      record {
        pages = x.2.pages ∙ sym pages;
        reclaimed = λ e. omega (arith, back, more e (omega (arith, back, x.2.reclaimed e)));
        held = λ e. omega (arith, own, fewer e (omega (arith, own, x.2.held e)));
      },
    )

seat_there : (f : Seat → ℕ) (seats : List Seat) (n : ℕ) → 0 < value_at f seats n → (s : Seat) × (slice_get seats n ≡ Some s)
seat_there f [] n l = absurd (omega (arith, l))
seat_there f (x ∷ xs) zero l = (x, refl)
seat_there f (x ∷ xs) (suc n) l = seat_there f xs n l

none_backed : (n : ℕ) → count_by (λ (frame : Option ℕ). is_some frame) (replicate n None) ≡ 0
none_backed zero = refl
none_backed (suc n) = omega (arith, count_by-cons (λ (frame : Option ℕ). is_some frame) None (replicate n None), none_backed n)

new_seat : (limited : ℕ → Bool) (seats : List Seat) (n pages : ℕ) (g : Guest) → g.config.pages ≡ pages → 0 < pages → backed_count g ≡ 0
    → pages_at seats n ≡ pages → (limited n ≡ false → reclaimed_at seats n ≡ 0)
    → (s : Seat) × (slice_get seats n ≡ Some s) × IsSeatOf (limited n) s g
new_seat limited seats n pages g own some bare has none =
    let x = seat_there (λ s. s.pages) seats n (omega (arith, some, has)) in (
      x.0,
      x.1,
      record {
        pages = omega (arith, value_of (λ s. s.pages) seats n x.0 x.1, has, own);
        reclaimed = λ e. omega (arith, value_of reclaimed seats n x.0 x.1, none e);
        held = λ e. omega (arith, bare);
      },
    )

pub plays_have : (limited : ℕ → Bool) (w : World) (event : Event) (reply : Reply) (v : World) (seats : List Seat) → AllBare w → WorldStep w event reply v
    → EventIsAsked limited event reply w v seats → HaveSeats limited seats w → HaveSeats limited seats v
plays_have limited w event reply v seats bare step asked have n g there = by (changes w event reply v n g step there) where
  by : Change w event reply n g → (s : Seat) × (slice_get seats n ≡ Some s) × IsSeatOf (limited n) s g
  by (Untouched at) = have n g at
  by (Retargeted old target at e) = seat_stays limited seats n old g (have n old at) (ap (λ (x : Guest). x.config.pages) e)
      (λ f l. omega (arith, l, ap counted e)) (λ f l. omega (arith, l, ap backed_count e))
  by (Stepped old call claims on at gives s) =
      let own = subst (λ (x : Event). EventIsAsked limited x reply w v seats) on asked in
      let made = subst (λ (x : Event). WorldStep w x reply v) on step in
      let so = step_so w n call reply v old g bare made at there in
      let config = configurations_kept w event reply v n old g (record { step = step; before = at; after = there }) in
      seat_stays limited seats n old g (have n old at) (ap (λ (c : Config). c.pages) config)
      (λ f l. omega (arith, own.asked f old at, so.least)) (λ f l. own.held f g there)
  by (Restarted old on at e) =
      let own = subst (λ (x : Event). EventIsAsked limited x reply w v seats) on asked in
      let config = configurations_kept w event reply v n old g (record { step = step; before = at; after = there }) in
      seat_stays limited seats n old g (have n old at) (ap (λ (c : Config). c.pages) config)
      (λ f l. omega (arith, own.asked f)) (λ f l. own.held f g there)
  by (New config none e) =
      let c = comes event w reply v n g step none there in
      let a = subst (λ (x : Event). EventIsAsked limited x reply w v seats) c.event_is asked in
      let own = subst (λ (x : Reply). EventIsAsked limited (Plug c.size) x w v seats) c.reply_is a in
      new_seat limited seats n c.size.pages g c.pages c.some (ap backed_count e ∙ none_backed config.pages) own.0 own.1
