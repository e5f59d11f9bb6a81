-- A device's round over notices: what accesses make of it is what came to it in vb_core's words.
use Rattle.std.proofs.Common.{◌≡◌, ◌∙◌, ◌⊎◌, inl, inr, ap, sym, subst, refl, arith, ℕ, Bool, true, false}
use Rattle.std.proofs.Common.{List, [], ◌∷◌, ◌++◌, Option, Some, None}
use Rattle.std.specs.Prelude.{◌==◌, ◌&&◌}
use Rattle.std.proofs.lemmas.{List.append-nil, Bool.Decides.nat_tests}
use Rattle.vb_core.specs.declared.{kinds.Kind.Kind, device.Device.Device, device.Denial.Denial}
use Rattle.vb_core.specs.declared.kinds.Kind.TheVariants.{Inflate, Deflate, Statistics, Hint, Report}
use Rattle.vb_core.specs.declared.{hints.Round.Round, ring.Virtqueue.Virtqueue}
use Rattle.vb_core.specs.{Rings.used_entry, Using.use_denial, Devices.ring_of}
use Rattle.vb_core.specs.Hints.{RoundEvent, Reads, heard, no_round, is_open}
use Rattle.vb_core.specs.Hints.{round_after, round_after_all, IsHeard}
use Rattle.vb_core.proofs.HintLemmas.{was_heard}
use Rattle.vb_monitor.specs.Accesses.{Access, ReadWord, CopyBytes, Acquire, Release, Full}
use Rattle.vb_monitor.specs.Accesses.{TellPages, TellFigures, TellId, Pause, Discard, WriteNumber, WriteWord}
use Rattle.vb_monitor.specs.declared.{regions.{Region.Region, Spot.Spot}, giving.UsedSpots.UsedSpots}
use Rattle.vb_monitor.specs.declared.outcome.{Budget.Budget, HeldChain.HeldChain, Outcome.Outcome, Tally.Tally}
use Rattle.vb_monitor.specs.{Ends.{Whole, FlagsAt}, Giving.{used_spots, UsedAt, GivesBackBy, with_given, after_use}}
use Rattle.vb_monitor.specs.{HeldBack.{AsksForFlags, GivesHeldAlone}, Machine.whole, Regions.spot}
use Rattle.vb_monitor.specs.Notices.{Serves, GivesHeldBack, only_asked}
use Rattle.vb_monitor.specs.{SoFar.{Each, hears, round_so_far}, Turns.HintsInRound}
use Rattle.vb_monitor.specs.Rounds.{event_of, events_of, events_before, HintsHeard}
use Rattle.vb_monitor.specs.Rounds.{Deed, Comes, Hears, DiscardsHints, Notices, GivesBack, IsLife, AreHeard}
use Rattle.vb_monitor.specs.Snapshots.{snapshot_of, may_discard}
use Rattle.vb_monitor.proofs.{TurnEnds.{round_on, moves}, TurnLaws.{each_so, hints_in_round, round_left}}
use Rattle.vb_monitor.proofs.HeldBackLemmas.{then_ends, gives_held}

-- ---- what accesses make of a round

-- one access, and what comes after it
one_event : (x : Access) (es : List RoundEvent) (r : Round) →
    round_after_all (event_of x ++ es) r ≡ round_after_all es (hears x r)
one_event (TellId id) es r = refl
one_event Pause es r = refl
one_event (ReadWord at answer) es r = refl
one_event (CopyBytes at answer) es r = refl
one_event Acquire es r = refl
one_event Release es r = refl
one_event Full es r = refl
one_event (TellPages kind runs named) es r = refl
one_event (TellFigures figures) es r = refl
one_event (Discard cut) es r = refl
one_event (WriteNumber at number) es r = refl
one_event (WriteWord at word) es r = refl

on_events : (log : List Access) (r : Round) → round_on r log ≡ round_after_all (events_of log) r
on_events [] r = refl
on_events (x ∷ xs) r = on_events xs (hears x r) ∙ sym (one_event x (events_of xs) r)

all_events : (es more : List RoundEvent) (r : Round) →
    round_after_all (es ++ more) r ≡ round_after_all more (round_after_all es r)
all_events [] more r = refl
all_events (e ∷ es) more r = all_events es more (round_after e r)

-- the last of them is first
so_far : (log : List Access) (r : Round) →
    round_so_far r log ≡ round_after_all (events_before log) r
so_far [] r = refl
so_far (x ∷ xs) r = ap (λ (q : Round). hears x q) (so_far xs r)
    ∙ (sym (one_event x [] (round_after_all (events_before xs) r))
    ∙ (ap (λ (es : List RoundEvent). round_after_all es (round_after_all (events_before xs) r))
    (append-nil (event_of x)) ∙ sym (all_events (events_before xs) (event_of x) r)))

-- what is shown stays
shown_then : (x : Access) (r : Round) → (hears x r).shown ≡ r.shown
shown_then (TellId id) r = refl
shown_then Pause r = refl
shown_then (ReadWord at answer) r = refl
shown_then (CopyBytes at answer) r = refl
shown_then Acquire r = refl
shown_then Release r = refl
shown_then Full r = refl
shown_then (TellPages kind runs named) r = refl
shown_then (TellFigures figures) r = refl
shown_then (Discard cut) r = refl
shown_then (WriteNumber at number) r = refl
shown_then (WriteWord at word) r = refl

shown_so_far : (log : List Access) (r : Round) → (round_so_far r log).shown ≡ r.shown
shown_so_far [] r = refl
shown_so_far (x ∷ xs) r = shown_then x (round_so_far r xs) ∙ shown_so_far xs r

pub noticed_round : (regions : List Region) (kind : Kind) (budget : Budget) (d1 d2 : Device)
    (outcome : Outcome) (log : List Access) → Serves regions kind budget d1 d2 outcome log →
    d2.round ≡ round_after_all (events_of log) d1.round
noticed_round regions kind budget d1 d2 outcome log h =
    round_left regions kind budget d1 d2 outcome log h ∙ on_events log d1.round

-- ---- a held chain that is given back

flags_leave : (w : Whole) (d : Device) (t : Tally) (o : Option Spot) (log : List Access) →
    FlagsAt w d t None false o log → w.device ≡ d
flags_leave w d t None log h = h.device
flags_leave w d t (Some at) log h = h.then_stops.device

used_leaves : (w : Whole) (held : HeldChain) (d1 : Device) (o : Option UsedSpots)
    (log : List Access) → UsedAt w (then_ends w (after_use w.kind d1) (with_given (only_asked held)))
    (after_use w.kind d1) (only_asked held) (used_entry (ring_of w.kind d1) held.head) o log →
    w.device.round ≡ d1.round
used_leaves w held d1 None log h =
    ap (λ (d : Device). d.round) h.device ∙ (moves w.kind d1).used_round
used_leaves w held d1 (Some spots) log h = ap (λ (d : Device). d.round)
    (flags_leave w (after_use w.kind d1) (with_given (only_asked held))
    (spot w.regions (ring_of w.kind (after_use w.kind d1)).avail 2) h.rest h.goes_on)
    ∙ (moves w.kind d1).used_round

gives_leave : (w : Whole) (held : HeldChain) (d1 : Device) (denial : Option Denial)
    (log : List Access) → GivesBackBy denial w (then_ends w) d1 (only_asked held) held.head log →
    w.device.round ≡ d1.round
gives_leave w held d1 (Some why) log h = ap (λ (d : Device). d.round) h.device
gives_leave w held d1 None log h =
    used_leaves w held d1 (used_spots w.regions (used_entry (ring_of w.kind d1) held.head)) log h

flags_none : (regions : List Region) (r : Virtqueue) (log : List Access) →
    (log ≡ []) ⊎ AsksForFlags regions r log → events_of log ≡ []
flags_none regions r log (inl none) = ap events_of none
flags_none regions r log (inr asks) = ap events_of asks.asks

held_none : (regions : List Region) (head : ℕ) (r : Virtqueue) (log : List Access) →
    GivesHeldAlone regions head r log → events_of log ≡ []
held_none regions head r log (inl none) = ap events_of none
held_none regions head r log (inr gives) =
    ap events_of gives.asks ∙ flags_none regions r gives.rest gives.then_flags

pub given_round : (regions : List Region) (kind : Kind) (held : HeldChain) (d1 d2 : Device)
    (outcome : Outcome) (log : List Access) → GivesHeldBack regions kind held d1 d2 outcome log →
    d2.round ≡ round_after_all (events_of log) d1.round
given_round regions kind held d1 d2 outcome log h =
    gives_leave (whole regions kind d2 outcome) held d1 (use_denial kind held.head d1) log h
    ∙ ap (λ (es : List RoundEvent). round_after_all es d1.round) (sym (held_none regions held.head
    (ring_of kind d1) log (gives_held regions kind held d1 d2 outcome log h)))

-- ---- what is heard

same_number : (a b : ℕ) → (a == b) ≡ true → a ≡ b
same_number a b e = grind (arith, nat_tests)

open_heard : (d : Device) (history : List RoundEvent) (before : List Access) →
    d.round ≡ round_after_all history no_round → is_open (round_so_far d.round before) ≡ true →
    IsHeard d.round.shown (history ++ events_before before)
open_heard d history before e o =
    let all = history ++ events_before before in
    let same : round_so_far d.round before ≡ round_after_all all no_round =
    so_far before d.round
    ∙ (ap (λ (r : Round). round_after_all (events_before before) r) e
    ∙ sym (all_events history (events_before before) no_round)) in
    subst (λ (id : ℕ). IsHeard id all)
    (ap (λ (r : Round). r.shown) (sym same) ∙ shown_so_far before d.round)
    (was_heard all no_round refl (ap (λ (r : Round). is_open r) (sym same) ∙ o))

heard_by : (d : Device) (history : List RoundEvent) (before : List Access) (o : Bool) →
    (none : Type 0) → (o ≡ false → none) → d.round ≡ round_after_all history no_round →
    is_open (round_so_far d.round before) ≡ o → (none → ⊥) →
    IsHeard d.round.shown (history ++ events_before before)
heard_by d history before true none closed e is some = open_heard d history before e is
heard_by d history before false none closed e is some = absurd (some (closed refl))

heard_so : (d : Device) (history : List RoundEvent) → d.round ≡ round_after_all history no_round →
    (before : List Access) (x : Access) → HintsInRound d before x → HintsHeard d history before x
heard_so d history e before (TellPages Hint runs named) h = λ some.
    heard_by d history before (is_open (round_so_far d.round before)) (runs ≡ []) h e refl some
heard_so d history e before (TellPages Inflate runs named) h = tt
heard_so d history e before (TellPages Deflate runs named) h = tt
heard_so d history e before (TellPages Statistics runs named) h = tt
heard_so d history e before (TellPages Report runs named) h = tt
heard_so d history e before (ReadWord at answer) h = tt
heard_so d history e before (CopyBytes at answer) h = tt
heard_so d history e before Acquire h = tt
heard_so d history e before Release h = tt
heard_so d history e before Full h = tt
heard_so d history e before (TellFigures figures) h = tt
heard_so d history e before (TellId id) h = tt
heard_so d history e before Pause h = tt
heard_so d history e before (Discard cut) h = tt
heard_so d history e before (WriteNumber at number) h = tt
heard_so d history e before (WriteWord at word) h = tt

-- what may be discarded is of the round that was shown as it was told
both_true : (a b : Bool) → (a && b) ≡ true → (a ≡ true) × (b ≡ true)
both_true true b e = (refl, e)
both_true false b e = absurd (grind arith)

discarded_heard : (history : List RoundEvent) (told now : Device) →
    now.round ≡ round_after_all history no_round →
    may_discard (snapshot_of Hint told) Hint now ≡ true → IsHeard told.round.shown history
discarded_heard history told now e may =
    let both = both_true (is_open now.round) (told.round.shown == now.round.shown) may in
    subst (λ (id : ℕ). IsHeard id history)
    (ap (λ (r : Round). r.shown) (sym e) ∙ sym (same_number told.round.shown now.round.shown both.1))
    (was_heard history no_round refl (ap (λ (r : Round). is_open r) (sym e) ∙ both.0))

-- ---- over a life

held_silent : (may : List Access → Access → Type 0) (regions : List Region) (head : ℕ)
    (r : Virtqueue) (log : List Access) →
    ((before : List Access) (at : Spot) (n : ℕ) → may before (WriteNumber at n)) →
    ((before : List Access) → may before Release) →
    ((before : List Access) (at : Spot) (n : ℕ) → may before (WriteWord at n)) →
    ((before : List Access) → may before Full) →
    ((before : List Access) (at : Spot) (n : ℕ) → may before (ReadWord at n)) →
    GivesHeldAlone regions head r log → Each may [] log
held_silent may regions head r log number release word full read (inl none) =
    subst (λ (l : List Access). Each may [] l) (sym none) tt
held_silent may regions head r log number release word full read (inr gives) =
    subst (λ (l : List Access). Each may [] l) (sym gives.asks)
    (number _ _ _, (number _ _ _, (release _, (word _ _ _, flags_silent _ gives.rest gives.then_flags))))
  where
    flags_silent : (before : List Access) (rest : List Access) →
        (rest ≡ []) ⊎ AsksForFlags regions r rest → Each may before rest
    flags_silent before rest (inl none) = subst (λ (l : List Access). Each may before l) (sym none) tt
    flags_silent before rest (inr asks) =
        subst (λ (l : List Access). Each may before l) (sym asks.asks) (full _, (read _ _ _, tt))

pub all_heard : (history : List RoundEvent) (r : Round) (deeds : List Deed) →
    r ≡ round_after_all history no_round → IsLife r deeds → AreHeard history deeds
all_heard history r [] e h = tt
all_heard history r (Comes event ∷ deeds) e h =
    all_heard (history ++ event ∷ []) (round_after event r) deeds
    (ap (λ (q : Round). round_after event q) e ∙ sym (all_events history (event ∷ []) no_round)) h.1
all_heard history r (Hears id ∷ deeds) e h =
    all_heard (history ++ Reads id ∷ []) (heard id r) deeds
    (ap (λ (q : Round). heard id q) e ∙ sym (all_events history (Reads id ∷ []) no_round)) h
all_heard history r (DiscardsHints told now ∷ deeds) e h =
    (discarded_heard history told now (h.0 ∙ e) h.1, all_heard history r deeds e h.2)
all_heard history r (Notices regions kind budget before after outcome log ∷ deeds) e h =
    let at_first = h.0 ∙ e in (
      each_so _ _ [] log (heard_so before history at_first)
          (hints_in_round regions kind budget before after outcome log h.1),
      all_heard (history ++ events_of log) after.round deeds
          (noticed_round regions kind budget before after outcome log h.1
          ∙ (ap (λ (q : Round). round_after_all (events_of log) q) at_first
          ∙ sym (all_events history (events_of log) no_round))) h.2,
    )
all_heard history r (GivesBack regions kind held before after outcome log ∷ deeds) e h =
    let at_first = h.0 ∙ e in (
      held_silent (HintsHeard before history) regions held.head (ring_of kind before) log
          (λ b at n. tt) (λ b. tt) (λ b at n. tt) (λ b. tt) (λ b at n. tt)
          (gives_held regions kind held before after outcome log h.1),
      all_heard (history ++ events_of log) after.round deeds
          (given_round regions kind held before after outcome log h.1
          ∙ (ap (λ (q : Round). round_after_all (events_of log) q) at_first
          ∙ sym (all_events history (events_of log) no_round))) h.2,
    )
