-- What notices are to a device's rounds of free page hints over its whole life (VIRTIO 1.2,
-- 5.5.6.6).
use Rattle.std.specs.Prelude.{◌≡◌, ◌≢◌, ℕ, true, false, List, [], ◌∷◌, ◌++◌}
use Rattle.vb_core.specs.declared.kinds.Kind.{Kind}
use Rattle.vb_core.specs.declared.kinds.Kind.TheVariants.{Inflate, Deflate, Statistics, Hint}
use Rattle.vb_core.specs.declared.kinds.Kind.TheVariants.{Report}
use Rattle.vb_core.specs.declared.{device.Device.Device, hints.Round.Round}
use Rattle.vb_core.specs.Hints.{RoundEvent, Reads, heard, round_after, is_reading, IsHeard}
use Rattle.vb_monitor.specs.declared.regions.Region.{Region}
use Rattle.vb_monitor.specs.declared.outcome.{Budget.Budget, HeldChain.HeldChain, Outcome.Outcome}
use Rattle.vb_monitor.specs.Accesses.{Access, ReadWord, CopyBytes, Acquire, Release, Full}
use Rattle.vb_monitor.specs.Accesses.{TellPages, TellFigures, TellId, Pause, Discard, WriteNumber}
use Rattle.vb_monitor.specs.Accesses.{WriteWord}
use Rattle.vb_monitor.specs.Notices.{Serves, GivesHeldBack}
use Rattle.vb_monitor.specs.SoFar.{Each}
use Rattle.vb_monitor.specs.Snapshots.{snapshot_of, may_discard}

-- ---- one notice

-- What an access is to a round: an id that is told was read.
abbrev pub event_of : Access → List RoundEvent
event_of (TellId id) = Reads id ∷ []
event_of Pause = []
event_of (ReadWord at answer) = []
event_of (CopyBytes at answer) = []
event_of Acquire = []
event_of Release = []
event_of Full = []
event_of (TellPages kind runs named) = []
event_of (TellFigures figures) = []
event_of (Discard cut) = []
event_of (WriteNumber at number) = []
event_of (WriteWord at word) = []

-- What accesses are, in their order.
abbrev pub events_of : List Access → List RoundEvent
events_of [] = []
events_of (x ∷ xs) = event_of x ++ events_of xs

-- What accesses are of which the last one is first: the events in their order all the same.
abbrev pub events_before : List Access → List RoundEvent
events_before [] = []
events_before (x ∷ xs) = events_before xs ++ event_of x

-- Pages are told as hinted only of a round that was heard: the one whose id the device shows. What
-- came to the device before is its history, and the ids that the notice told before.
abbrev pub HintsHeard : Device → List RoundEvent → List Access → Access → Type 0
HintsHeard d history before (TellPages Hint runs named) =
    runs ≢ [] → IsHeard d.round.shown (history ++ events_before before)
HintsHeard d history before (TellPages Inflate runs named) = Unit {0}
HintsHeard d history before (TellPages Deflate runs named) = Unit {0}
HintsHeard d history before (TellPages Statistics runs named) = Unit {0}
HintsHeard d history before (TellPages Report runs named) = Unit {0}
HintsHeard d history before (ReadWord at answer) = Unit {0}
HintsHeard d history before (CopyBytes at answer) = Unit {0}
HintsHeard d history before Acquire = Unit {0}
HintsHeard d history before Release = Unit {0}
HintsHeard d history before Full = Unit {0}
HintsHeard d history before (TellFigures figures) = Unit {0}
HintsHeard d history before (TellId id) = Unit {0}
HintsHeard d history before Pause = Unit {0}
HintsHeard d history before (Discard cut) = Unit {0}
HintsHeard d history before (WriteNumber at number) = Unit {0}
HintsHeard d history before (WriteWord at word) = Unit {0}

-- ---- a life

-- What comes to a device: a call of the host or a reset; a notice, which makes another device of it
-- by these accesses; or a held chain that is given back, likewise. The host calls between the steps
-- of a notice too, of which two come by themselves then: an id is read; and a part is discarded of
-- hints that were told of a device as it was told, over the device as it is now.
pub data Deed : Type 0 where
  Comes : (event : RoundEvent) → Deed
  Hears : (id : ℕ) → Deed
  DiscardsHints : (told now : Device) → Deed
  Notices : (regions : List Region) (kind : Kind) (budget : Budget) (before after : Device)
      (outcome : Outcome) (log : List Access) → Deed
  GivesBack : (regions : List Region) (kind : Kind) (held : HeldChain) (before after : Device)
      (outcome : Outcome) (log : List Access) → Deed

-- These come one after the other to a device whose round is this at first: each finds the round as
-- the one before left it. Ids are read by notices alone, and what hints named is discarded where it
-- may be.
abbrev pub IsLife : Round → List Deed → Type 0
IsLife r [] = Unit {0}
IsLife r (Comes event ∷ deeds) = (is_reading event ≡ false) × IsLife (round_after event r) deeds
IsLife r (Hears id ∷ deeds) = IsLife (heard id r) deeds
IsLife r (DiscardsHints told now ∷ deeds) =
    (now.round ≡ r) × (may_discard (snapshot_of Hint told) Hint now ≡ true) × IsLife r deeds
IsLife r (Notices regions kind budget before after outcome log ∷ deeds) =
    (before.round ≡ r) × Serves regions kind budget before after outcome log
    × IsLife after.round deeds
IsLife r (GivesBack regions kind held before after outcome log ∷ deeds) =
    (before.round ≡ r) × GivesHeldBack regions kind held before after outcome log
    × IsLife after.round deeds

-- In each notice pages are told as hinted only of a round that was heard, where this came before;
-- and they are discarded only while the round is heard whose id was shown as they were told.
abbrev pub AreHeard : List RoundEvent → List Deed → Type 0
AreHeard history [] = Unit {0}
AreHeard history (Comes event ∷ deeds) = AreHeard (history ++ event ∷ []) deeds
AreHeard history (Hears id ∷ deeds) = AreHeard (history ++ Reads id ∷ []) deeds
AreHeard history (DiscardsHints told now ∷ deeds) =
    IsHeard told.round.shown history × AreHeard history deeds
AreHeard history (Notices regions kind budget before after outcome log ∷ deeds) =
    Each (HintsHeard before history) [] log × AreHeard (history ++ events_of log) deeds
AreHeard history (GivesBack regions kind held before after outcome log ∷ deeds) =
    Each (HintsHeard before history) [] log × AreHeard (history ++ events_of log) deeds
