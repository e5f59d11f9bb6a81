-- What is read off a run that is promised to be safe: its end, its replies, and that it is safe.
use Rattle.std.proofs.Common.{List, [], ap, arith, false, inl, refl, replicate, subst, sym, true, ℕ}
use Rattle.std.{proofs.Common.{◌++◌, ◌∙◌, ◌∷◌, ◌≡◌, ◌≢◌}, specs.Prelude.{None, Option, Some}}
use Rattle.vb_model.proofs.{AskedFacts.{back, giving, handed_out}, Changes.same_some, Samples.down}
use Rattle.vb_model.proofs.{Performed.performed, Samples.{page_16_at, ready, request, untold}}
use Rattle.vb_model.specs.{Guest.{Guest, unbacked}, GuestRun.{Alone, AreOwn, Entry, InOneLife}}
use Rattle.vb_model.specs.{GuestRun.{IsOwnEntry, Leads, OwnStep}, Histories.IsSafeCourse, Safe.Safe}
use Rattle.vb_model.specs.{HostEvents.WorldStep, Run.{History, Steps, last_world}, Safe.{IsSafeOf, IsSafeRun, part}}
use Rattle.vb_model.specs.Courses.{ReadsGiveLastWrites}
use Rattle.vb_model.specs.{Safe.NoFrameTwice, SafeLaws.LivesAreAlone, World.{World, guest_at, made}}
use Rattle.vb_model.specs.declared.calls.Call.TheVariants.{Alloc, Inflate, Init, Reset, Sweep, Work}
use Rattle.vb_model.specs.declared.calls.Event.{Event, TheVariants.{Frames as CountFrames, Restart}}
use Rattle.vb_model.specs.declared.calls.Event.TheVariants.{Guest as OnGuest, Unplug}
use Rattle.vb_model.specs.declared.{places.Place.TheVariants.{Lent, Used}, replies.Reply.Reply}
use Rattle.vb_model.specs.declared.replies.Reply.TheVariants.{Done, Frames, Idle, Page, Posted}
use Rattle.vb_model.specs.declared.replies.Reply.TheVariants.{Swept}

-- ---- a run of no events ends where it began

pub empty_run : (w v : World) → IsSafeRun w [] [] v → v ≡ w
empty_run w v s = grind arith

-- ---- a run of one event has one reply, that event's, and ends after it

-- what is promised of one event with its reply
record IsOne (w : World) (event : Event) (reply : Reply) (v : World) : Type 0 where
  pub step : WorldStep w event reply v
  pub safe : Safe w (event ∷ []) (reply ∷ []) (v ∷ [])

one : (w : World) (event : Event) (reply : Reply) (v : World)
    → IsSafeRun w (event ∷ []) (reply ∷ []) v → IsOne w event reply v
one w event reply v s = search (arith)

abbrev world : ℕ → World
world frames = made frames []

abbrev Same : ℕ → ℕ → Type 0
Same a b = a ≡ b

no_reply : (v : World) → IsSafeRun (world 64) (CountFrames ∷ []) [] v → ⊥
no_reply v s = grind arith

abbrev free_frames : Reply → ℕ
free_frames (Frames used free) = free
free_frames reply = 0

another_reply : (v : World) → IsSafeRun (world 64) (CountFrames ∷ []) (Frames 0 63 ∷ []) v → ⊥
another_reply v s = grind arith

another_end : IsSafeRun (world 64) (CountFrames ∷ []) (Frames 0 64 ∷ []) (world 63) → ⊥
another_end s = grind arith

-- ---- a frame that backs two pages, of two guests or of one, of a rogue guest too, in each state

abbrev at : Guest → World
at g = record { frames = 64; guests = Some g ∷ []; spares = []; vacated = None }

abbrev stands : Guest → History
stands g = record { first = at g; events = []; replies = []; after = [] }

abbrev frame_5 : ℕ → Guest
frame_5 page = record ready { frames = replicate page None ++ (Some 5 ∷ []) }

two_guests : NoFrameTwice (record {
  frames = 64;
  guests = Some (frame_5 16) ∷ None ∷ Some (frame_5 16) ∷ [];
  spares = [];
  vacated = None;
}) → ⊥
two_guests s = let e = s 5 0 16 2 16 (record { guest = frame_5 16; is_there = refl; has = refl })
    (record { guest = frame_5 16; is_there = refl; has = refl }) in omega (arith, e.0)

abbrev twice : Guest → Guest
twice g = record g { frames = Some 5 ∷ None ∷ Some 5 ∷ [] }

one_guest : IsSafeOf (stands (twice ready)) → ⊥
one_guest s =
    let e = s.no_frame_twice 0 (at (twice ready)) refl 5 0 0 0 2
    (record { guest = twice ready; is_there = refl; has = refl })
    (record { guest = twice ready; is_there = refl; has = refl }) in omega (arith, e.1)

abbrev rogue : Guest
rogue = record (twice down) { rogue = true }

frame_twice_later : IsSafeOf (record {
  first = at down;
  events = CountFrames ∷ [];
  replies = Frames 0 64 ∷ [];
  after = at rogue ∷ [];
}) → ⊥
frame_twice_later s =
    let e = s.no_frame_twice 1 (at rogue) refl 5 0 0 0 2
    (record { guest = rogue; is_there = refl; has = refl })
    (record { guest = rogue; is_there = refl; has = refl }) in omega (arith, e.1)

-- ---- each life of an honest guest is a safe course

-- what is promised of one event of a life
record IsOneStep (n : ℕ) (w : World) (event : Event) (reply : Reply) (v : World) (g new : Guest) :
    Type 0 where
  own : Option Entry
  is : IsOwnEntry n w event reply v own
  step : OwnStep g own new

one_step : (n : ℕ) (w : World) (event : Event) (reply : Reply) (v : World) (g new : Guest)
    → guest_at v.guests n ≡ Some new
    → Alone n w (event ∷ []) (reply ∷ []) (v ∷ []) g → IsOneStep n w event reply v g new
one_step n w event reply v g new at own = by own.entries own.guests own.are own.leads where
  by : (entries : List (Option Entry)) (guests : List Guest) → AreOwn n w (event ∷ []) (reply
      ∷ []) (v ∷ []) entries guests → Leads g entries guests → IsOneStep n w event reply v g new
  by [] guests are leads = absurd are
  by (o ∷ entries) [] are leads = absurd are
  by (o ∷ p ∷ entries) (x ∷ guests) are leads = absurd are.2
  by (o ∷ []) (x ∷ y ∷ guests) are leads = absurd are.2
  by (o ∷ []) (x ∷ []) are leads = let same : x ≡ new = same_some x new (sym are.1 ∙ at) in
      record { own = o; is = are.0; step = subst (λ (y : Guest). OwnStep g o y) same leads.0 }

-- the run of one event of guest 0
abbrev goes : Guest → Event → Reply → Guest → History
goes g event reply new =
    record { first = at g; events = event ∷ []; replies = reply ∷ []; after = at new ∷ [] }

of_one : (g : Guest) (event : Event) (reply : Reply) (new : Guest) → event ≢ Restart 0
    → event ≢ Unplug 0 → new.rogue ≡ false → LivesAreAlone (goes g event reply new)
    → IsOneStep 0 (at g) event reply (at new) g new
of_one g event reply new on still honest s = one_step 0 (at g) event reply (at new) g new refl
    (s 0 0 1 (at g) g new refl refl (refl, honest) (on, still, tt)).0

-- a state is safe by itself
lent_but_not_ballooned : IsSafeOf (stands (page_16_at Lent ready)) → ⊥
lent_but_not_ballooned s =
    let e : false ≡ true =
    ((s.lives 0 0 0 (at (page_16_at Lent ready)) (at (page_16_at Lent ready))
    (page_16_at Lent ready) (page_16_at Lent ready) refl refl refl refl refl tt).3.both_agree 0 (page_16_at Lent ready) refl 16).1 (inl refl) in
    cc

-- a call is answered as no run of the guest's own has it, in a later life too
not_its_own : LivesAreAlone (goes ready (OnGuest 0 Work) Done ready) → ⊥
not_its_own s = by o.own o.is o.step where
  o : IsOneStep 0 (at ready) (OnGuest 0 Work) Done (at ready) ready ready
  o = of_one ready (OnGuest 0 Work) Done ready (λ e. cc) (λ e. cc) refl s

  by : (own : Option Entry) → IsOwnEntry 0 (at ready) (OnGuest 0 Work) Done (at ready) own
      → OwnStep ready own ready → ⊥
  by own is step = let made = subst (λ (x : Option Entry). OwnStep ready x ready) is.3 step in
      let wrong : Done ≡ Idle = (performed Work ready is.1 Done ready made.1).1.0 in cc

abbrev restarted : History
restarted = record {
  first = at ready;
  events = Restart 0 ∷ OnGuest 0 Work ∷ [];
  replies = Done ∷ Done ∷ [];
  after = at down ∷ at down ∷ [];
}

not_its_own_later : LivesAreAlone restarted → ⊥
not_its_own_later s = by o.own o.is o.step where
  o : IsOneStep 0 (at down) (OnGuest 0 Work) Done (at down) down down
  o = one_step 0 (at down) (OnGuest 0 Work) Done (at down) down down refl
      (s 0 1 1 (at down) down down refl refl (refl, refl) ((λ e. cc), (λ e. cc), tt)).0

  by : (own : Option Entry) → IsOwnEntry 0 (at down) (OnGuest 0 Work) Done (at down) own
      → OwnStep down own down → ⊥
  by own is step = let made = subst (λ (x : Option Entry). OwnStep down x down) is.3 step in cc

-- another's event changes the guest
changed_by_another : LivesAreAlone (goes ready CountFrames (Frames 0 64) down) → ⊥
changed_by_another s = by o.own o.is o.step where
  o : IsOneStep 0 (at ready) CountFrames (Frames 0 64) (at down) ready down
  o = of_one ready CountFrames (Frames 0 64) down (λ e. cc) (λ e. cc) refl s

  by : (own : Option Entry) → own ≡ None → OwnStep ready own down → ⊥
  by own is step =
      let same : down ≡ ready = subst (λ (x : Option Entry). OwnStep ready x down) is step in
      let e : Same 0 15 = ap (λ (g : Guest). g.status) same in omega arith

-- a reset that is done leaves the guest ready
reset_but_ready : LivesAreAlone (goes ready (OnGuest 0 Reset) Done ready) → ⊥
reset_but_ready s = by o.own o.is o.step where
  o : IsOneStep 0 (at ready) (OnGuest 0 Reset) Done (at ready) ready ready
  o = of_one ready (OnGuest 0 Reset) Done ready (λ e. cc) (λ e. cc) refl s

  by : (own : Option Entry) → IsOwnEntry 0 (at ready) (OnGuest 0 Reset) Done (at ready) own
      → OwnStep ready own ready → ⊥
  by own is step = let made = subst (λ (x : Option Entry). OwnStep ready x ready) is.3 step in
      let status : Same 15 0 =
      ap (λ (g : Guest). g.status) (performed Reset ready is.1 Done ready made.1).1.1 in omega arith

-- a reset ends no life, and what comes after it goes on from what it left
a_reset_is_no_end : InOneLife 1 (OnGuest 1 Reset ∷ OnGuest 1 (Init 0) ∷ [])
a_reset_is_no_end = ((λ e. cc), (λ e. cc), ((λ e. cc), (λ e. cc), tt))

-- a used page that a used inflate request names, ballooned as such a page is, loses its frame by a
-- sweep; nothing but safety forbids that
abbrev named : Guest
named = record (page_16_at Used down) {
  inflate = record { posted = []; taken = []; done = request 0 (16 ∷ []) 0 ∷ [] };
  ballooned = replicate 16 false ++ (true ∷ []);
  status = 15;
  features = 0x100000027;
  frames = replicate 16 None ++ (Some 5 ∷ []);
}

is_a_step : WorldStep (at named) (OnGuest 0 (Sweep 16)) (Swept true) (at (unbacked (16 ∷ []) named))
is_a_step = ([], unbacked (16 ∷ []) named, tt, (refl, (refl, refl)), refl)

abbrev SameFrame : Option ℕ → Option ℕ → Type 0
SameFrame a b = a ≡ b

isnt_safe : IsSafeRun (at named) (OnGuest 0 (Sweep 16) ∷ []) (Swept true ∷ [])
    (at (unbacked (16 ∷ []) named)) → ⊥
isnt_safe s =
    let safe = (one (at named) (OnGuest 0 (Sweep 16)) (Swept true)
    (at (unbacked (16 ∷ []) named)) s).safe in
    let life = safe.lives 0 0 1 (at named) (at (unbacked (16 ∷ []) named)) named
    (unbacked (16 ∷ []) named) refl refl refl refl refl ((λ e. cc), (λ e. cc), tt) in
    by life.0 life.1 life.2 life.3
  where
    by : (entries : List (Option Entry)) (guests : List Guest) → AreOwn 0 (at named)
        (OnGuest 0 (Sweep 16) ∷ []) (Swept true ∷ []) (at (unbacked (16 ∷ []) named) ∷ []) entries
        guests → IsSafeCourse (record { first = named; entries = entries; after = guests }) → ⊥
    by [] guests are course = absurd are
    by (o ∷ entries) [] are course = absurd are
    by (o ∷ entries) (x ∷ guests) are course =
        let e : SameFrame None (Some 5) =
        course.keeps_frame 0 16 5 named (unbacked (16 ∷ []) named) refl (sym are.1) refl refl refl in
        cc

-- ---- over more events, of another guest

abbrev beside : Guest → World
beside g = record { frames = 64; guests = Some ready ∷ Some g ∷ []; spares = []; vacated = None }

-- a page is offered after another's event, and handed out by the next event
abbrev at_once : History
at_once = record {
  first = beside (back untold);
  events = Restart 0 ∷ OnGuest 1 (Inflate 1) ∷ OnGuest 1 (Alloc 0 0) ∷ [];
  replies = Done ∷ Posted 0 1 ∷ Page 16 ∷ [];
  after = beside (back untold) ∷ beside (giving untold) ∷ beside (handed_out untold) ∷ [];
}

handed_out_at_once : IsSafeOf at_once → ⊥
handed_out_at_once s = by own.0 own.1 own.2 own.3 where
  own : (entries : List (Option Entry)) × (guests : List Guest)
      × AreOwn 1 (beside (back untold)) at_once.events at_once.replies at_once.after entries guests
      × IsSafeCourse (record { first = back untold; entries = entries; after = guests })
  own = s.lives 1 0 3 (beside (back untold)) (beside (handed_out untold)) (back untold)
      (handed_out untold) refl refl refl refl refl ((λ e. cc), (λ e. cc), ((λ e. cc), (λ e. cc), ((λ e. cc), (λ e. cc), tt)))

  by : (entries : List (Option Entry)) (guests : List Guest)
      → AreOwn 1 (beside (back untold)) at_once.events at_once.replies at_once.after entries guests
      → IsSafeCourse (record { first = back untold; entries = entries; after = guests }) → ⊥
  by [] guests are safe = absurd are
  by (o ∷ entries) [] are safe = absurd are
  by (o ∷ []) (x ∷ guests) are safe = absurd are.2
  by (o ∷ p ∷ entries) (x ∷ []) are safe = absurd are.2
  by (o ∷ p ∷ []) (x ∷ y ∷ guests) are safe = absurd are.2.2
  by (o ∷ p ∷ q ∷ entries) (x ∷ y ∷ []) are safe = absurd are.2.2
  by (o ∷ p ∷ q ∷ entries) (x ∷ y ∷ z ∷ guests) are safe =
      let a = safe.told_first 16 1 2 (omega arith)
      (back untold, giving untold, sym are.1, sym are.2.1, (λ e. cc), refl)
      (giving untold, handed_out untold, sym are.2.1, sym are.2.2.1, (λ e. cc), refl) in
      omega (arith, a.since, a.later, a.before)

-- ---- two events of any kind in any world: each is a step, the second goes on where the first one
-- ended, and the run ends after it

abbrev TwoSteps : World → Event → Reply → Event → Reply → World → Type 0
TwoSteps w first answer second reply x = (v : World) × WorldStep w first answer v
    × WorldStep v second reply x

two_steps : (w : World) (first : Event) (answer : Reply) (second : Event) (reply : Reply)
    (x : World) → IsSafeRun w (first ∷ second ∷ []) (answer ∷ reply ∷ []) x
    → TwoSteps w first answer second reply x
two_steps w first answer second reply x s = by s.after s.steps s.ends where
  by : (after : List World) → Steps w (first ∷ second ∷ []) (answer ∷ reply ∷ []) after
      → last_world w after ≡ x → TwoSteps w first answer second reply x
  by [] steps ends = absurd steps
  by (v ∷ []) steps ends = absurd steps.1
  by (v ∷ y ∷ []) steps ends =
      (v, steps.0, subst (λ (z : World). WorldStep v second reply z) ends steps.1.0)
  by (v ∷ y ∷ z ∷ after) steps ends = absurd steps.1.1

-- and what the second one was to a guest whose life it is in is a safe course, for any guest
one_event_of_a_life : (n : ℕ) (w v x : World) (first second : Event) (answer reply : Reply)
    (g new : Guest) → Safe w (first ∷ second ∷ []) (answer ∷ reply ∷ []) (v ∷ x ∷ [])
    → guest_at v.guests n ≡ Some g → guest_at x.guests n ≡ Some new → new.rogue ≡ false
    → second ≢ Restart n → second ≢ Unplug n
    → (entries : List (Option Entry)) × (guests : List Guest)
    × AreOwn n v (second ∷ []) (reply ∷ []) (x ∷ []) entries guests
    × IsSafeCourse (record { first = g; entries = entries; after = guests })
one_event_of_a_life n w v x first second answer reply g new s there then_there honest on still =
    s.lives n 1 1 v x g new refl there refl then_there honest (on, still, tt)

-- the law says of such an event that it leads the guest by itself, too, and that reads give the
-- last writes
one_event_alone : (n : ℕ) (w v x : World) (first second : Event) (answer reply : Reply)
    (g new : Guest) → LivesAreAlone (record {
      first = w;
      events = first ∷ second ∷ [];
      replies = answer ∷ reply ∷ [];
      after = v ∷ x ∷ [];
    }) → guest_at v.guests n ≡ Some g → guest_at x.guests n ≡ Some new → new.rogue ≡ false
    → second ≢ Restart n → second ≢ Unplug n
    → (own : Alone n v (second ∷ []) (reply ∷ []) (x ∷ []) g)
    × IsSafeCourse (record { first = g; entries = own.entries; after = own.guests })
    × ReadsGiveLastWrites (record { first = g; entries = own.entries; after = own.guests })
one_event_alone n w v x first second answer reply g new law there then_there honest on still =
    law n 1 1 v g new refl there (then_there, honest) (on, still, tt)

-- n entries of a list, from one on
part_of_five : part {A = ℕ} 1 3 (5 ∷ 6 ∷ 7 ∷ 8 ∷ 9 ∷ []) ∷ part {A = ℕ} 3 4 (5 ∷ 6 ∷ 7 ∷ 8 ∷ 9 ∷ [])
    ∷ [] ≡ (6 ∷ 7 ∷ 8 ∷ []) ∷ (8 ∷ 9 ∷ []) ∷ []
part_of_five = refl
