-- What is done to give a chain back that is held.
use Rattle.std.proofs.Common.{◌≡◌, ◌⊎◌, inl, inr, sym, ap, subst, refl, arith, ℕ, ◌≤◌}
use Rattle.std.proofs.Common.{false, List, [], ◌∷◌, length, Option, Some, None}
use Rattle.vb_core.specs.{Rings.used_entry, Using.use_denial, declared.device.Denial.Denial}
use Rattle.vb_core.specs.declared.{device.Device.Device, kinds.Kind.Kind, ring.Virtqueue.Virtqueue}
use Rattle.vb_core.specs.Devices.{ring_of}
use Rattle.vb_monitor.proofs.TurnEnds.{moves}
use Rattle.vb_monitor.specs.{Accesses.{Access, ReadWord, Full}, HeldBack.AsksForFlags}
use Rattle.vb_monitor.specs.{HeldBack.GivesHeldAlone, Ends.{Whole, FlagsAt}, Giving.Then}
use Rattle.vb_monitor.specs.Giving.{used_spots, UsedAt, GivesBackBy, with_given, after_use}
use Rattle.vb_monitor.specs.Notices.{GivesHeldBack, AfterGiven, ServesPublished, only_asked}
use Rattle.vb_monitor.specs.{Machine.whole, Regions.spot}
use Rattle.vb_monitor.specs.declared.{giving.UsedSpots.UsedSpots, outcome.Outcome.Outcome}
use Rattle.vb_monitor.specs.declared.outcome.{HeldChain.HeldChain, Tally.Tally}
use Rattle.vb_monitor.specs.declared.{regions.Region.Region, regions.Spot.Spot}

abbrev pub then_ends : Whole → Then
then_ends w = AfterGiven w (ServesPublished 0 w)

flags : (w : Whole) (d1 : Device) (t : Tally) (o : Option Spot) (log : List Access) →
    spot w.regions (ring_of w.kind d1).avail 2 ≡ o →
    FlagsAt w (after_use w.kind d1) t None false o log →
    (log ≡ []) ⊎ AsksForFlags w.regions (ring_of w.kind d1) log
flags w d1 t None log e h = inl h.nothing
flags w d1 t (Some at) log e h = inr (record {
  at = at;
  flags = h.flags;
  place = e;
  asks = subst (λ (l : List Access). log ≡ Full ∷ ReadWord at h.flags ∷ l) h.then_stops.nothing
      h.asks;
})

used : (w : Whole) (held : HeldChain) (d1 : Device) (o : Option UsedSpots) (log : List Access)
    → used_spots w.regions (used_entry (ring_of w.kind d1) held.head) ≡ o → UsedAt w
    (then_ends w (after_use w.kind d1) (with_given (only_asked held)))
    (after_use w.kind d1) (only_asked held) (used_entry (ring_of w.kind d1) held.head) o log
    → GivesHeldAlone w.regions held.head (ring_of w.kind d1) log
used w held d1 None log e h = inl h.nothing
used w held d1 (Some spots) log e h = inr (record {
  spots = spots;
  rest = h.rest;
  place = e;
  asks = h.asks;
  then_flags = flags w d1 (with_given (only_asked held))
      (spot w.regions (ring_of w.kind (after_use w.kind d1)).avail 2) h.rest
      (ap (λ (r : Virtqueue). spot w.regions r.avail 2) (sym (moves w.kind d1).used_ring)) h.goes_on;
})

gives : (w : Whole) (held : HeldChain) (d1 : Device) (denial : Option Denial)
    (log : List Access) → GivesBackBy denial w (then_ends w) d1 (only_asked held) held.head log →
    GivesHeldAlone w.regions held.head (ring_of w.kind d1) log
gives w held d1 (Some why) log h = inl h.nothing
gives w held d1 None log h =
    used w held d1 (used_spots w.regions (used_entry (ring_of w.kind d1) held.head)) log refl h

pub gives_held : (regions : List Region) (kind : Kind) (held : HeldChain) (d1 d2 : Device)
    (outcome : Outcome) (log : List Access) → GivesHeldBack regions kind held d1 d2 outcome log →
    GivesHeldAlone regions held.head (ring_of kind d1) log
gives_held regions kind held d1 d2 outcome log h =
    gives (whole regions kind d2 outcome) held d1 (use_denial kind held.head d1) log h

-- ---- how many

flags_few : (regions : List Region) (r : Virtqueue) (log : List Access) →
    (log ≡ []) ⊎ AsksForFlags regions r log → length log ≤ 2
flags_few regions r log (inl none) =
    subst (λ (l : List Access). length l ≤ 2) (sym none) (omega arith)
flags_few regions r log (inr asks) =
    subst (λ (l : List Access). length l ≤ 2) (sym asks.asks) (omega arith)

held_few : (regions : List Region) (head : ℕ) (r : Virtqueue) (log : List Access) →
    GivesHeldAlone regions head r log → length log ≤ 6
held_few regions head r log (inl none) =
    subst (λ (l : List Access). length l ≤ 6) (sym none) (omega arith)
held_few regions head r log (inr gives) =
    let few = flags_few regions r gives.rest gives.then_flags in
    subst (λ (l : List Access). length l ≤ 6) (sym gives.asks) (omega (arith, few))

pub few_to_give : (regions : List Region) (kind : Kind) (held : HeldChain) (d1 d2 : Device)
    (outcome : Outcome) (log : List Access) → GivesHeldBack regions kind held d1 d2 outcome log →
    length log ≤ 6
few_to_give regions kind held d1 d2 outcome log h =
    held_few regions held.head (ring_of kind d1) log
    (gives_held regions kind held d1 d2 outcome log h)
