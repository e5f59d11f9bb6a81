-- What the exports for notices do: what the device over a running guest's memory does next, as
-- plain data.
use Rattle.std.specs.Prelude.{◌≡◌, ℕ, Bool, true, false, not, ◌&&◌, List, ◌++◌, Option, Some, None}
use Rattle.vb_core.specs.declared.kinds.Kind.{Kind}
use Rattle.vb_core.specs.declared.held.Held.{Held}
use Rattle.vb_core.specs.declared.device.Device.{Device}
use Rattle.vb_core.specs.declared.device.Denial.TheVariants.{BadArgument, NoQueue}
use Rattle.vb_monitor.specs.declared.regions.Region.{Region}
use Rattle.vb_monitor.specs.declared.{cuts.Cut.Cut, room.Room.Room}
use Rattle.vb_monitor.specs.declared.orders.Asked.{Asked}
use Rattle.vb_monitor.specs.declared.orders.Told.TheVariants.{Pages}
use Rattle.vb_monitor.specs.declared.balloon.Balloon.{Balloon}
use Rattle.vb_monitor.specs.declared.outcome.Budget.{Budget}
use Rattle.vb_monitor.specs.declared.outcome.Outcome.{Outcome}
use Rattle.vb_core.specs.Config.{keeps_free}
use Rattle.vb_core.specs.Settings.{holds_chains}
use Rattle.vb_virtio.specs.Tests.{one_if}
use Rattle.vb_monitor.specs.Accesses.{Access}
use Rattle.vb_monitor.specs.Giving.{is_kept, kept_pages}
use Rattle.vb_monitor.specs.declared.outcome.HeldChain.{HeldChain}
use Rattle.vb_monitor.specs.Balloons.{may_look, held_chain, held_after}
use Rattle.vb_monitor.specs.Notices.{Serves, GivesHeldBack}
use Rattle.vb_monitor.specs.Machine.{Fits, waits, Ahead, Awaited, whole, Onward, is_discarding}
use Rattle.vb_monitor.specs.Machine.{outcome_at}
use Rattle.vb_monitor.specs.declared.answers.TheConstants.{STALE}
use Rattle.vb_monitor.specs.declared.snapshot.Snapshot.{Snapshot}
use Rattle.vb_monitor.specs.declared.step.{Discarding.Discarding, Phase.TheVariants.Discards}
use Rattle.vb_monitor.specs.Snapshots.{snapshot_of, IsCurrent, may_discard}
use Rattle.vb_monitor.specs.Orders.{at_once, HasRoom, FillsList}
use Rattle.vb_c.specs.declared.notice.VbNotice.{VbNotice}
use Rattle.vb_monitor.specs.declared.orders.NoticeRoom.{NoticeRoom}
use Rattle.vb_monitor.specs.Codes.{code_of}
use Rattle.vb_c.specs.Notices.{Notice, IsNotice, HasEnded}

abbrev pub held_by : Option Outcome → Kind → Balloon → Held
held_by (Some outcome) kind b = held_after kind outcome b
held_by None kind b = b.held

-- What is held after a step: what the notice came to is noted once it has ended.
abbrev pub held_then : Notice → Balloon → Held
held_then n b = held_by (outcome_at n.step.phase n.step.tally) n.kind b

-- Nothing is done, with this code.
pub record Refuses (code : ℕ) (b1 b2 : Balloon) (r1 r2 : NoticeRoom) (c : VbNotice) : Type 0 where
  pub ended : HasEnded c code
  pub balloon : b2 ≡ b1
  pub room : r2 ≡ r1

-- A notice is handed over, with all that is done before it waits: after that, whatever may still
-- come then, all that could come may come. Parts are left to discard only where the list of those
-- that are discarded now is full. With the pages that are told it says how many of them are kept,
-- and whether they wait for a grant.
pub record HandsOver (n : Notice) (regions : List Region) (room : Room) (b1 b2 : Balloon)
    (cuts : List Cut) (c : VbNotice) : Type 0 where
  pub asked : Asked
  pub notice : Notice
  pub is : IsNotice c asked notice
  pub kind_is : notice.kind ≡ n.kind
  pub step : (after : Device) (outcome : Outcome) (rest : List Access) →
      Ahead (whole regions n.kind after outcome) notice.step b2.device room rest →
      Ahead (whole regions n.kind after outcome) n.step b1.device room
      (at_once asked n.kind c.orders cuts room.runs room.figures rest)
  pub has_room : HasRoom asked c.orders
  pub kept : asked.told ≡ Pages → c.orders.kept ≡
      kept_pages (is_kept n.kind n.step.tally.keeps (keeps_free n.kind b1.device))
      c.orders.named.pages
  pub held_back : asked.told ≡ Pages →
      c.orders.waits ≡ one_if (holds_chains n.kind b1.device.settings)
  pub waits_now : waits notice.step.phase ≡ true
  pub fills : FillsList notice.step.phase c.orders
  pub fits : Fits notice.step.phase
  pub held : b2.held ≡ held_then notice b1
  pub left : c.left ≡ snapshot_of n.kind b2.device

abbrev pub with_device : Device → Balloon → Balloon
with_device d b = record b { device = d }

-- A notice begins: whatever may still come, the whole may come (`from`). It is handed over then.
pub record Begins (from : Device → Outcome → List Access → Type 0) (regions : List Region)
    (kind : Kind) (b1 b2 : Balloon) (r1 r2 : NoticeRoom) (c : VbNotice) : Type 0 where
  pub first : Notice
  pub device : Device
  pub kind_is : first.kind ≡ kind
  pub step : (after : Device) (outcome : Outcome) (room : Room) (log : List Access) →
      Ahead (whole regions kind after outcome) first.step device room log →
      from after outcome log
  pub hands : HandsOver first regions r2.copied (with_device device b1) b2 r2.cuts c
  pub room : r2.copied ≡ r1.copied

abbrev pub BeginsIf : Bool → List Region → Kind → Budget → Balloon → Balloon → NoticeRoom →
    NoticeRoom → VbNotice → Type 0
BeginsIf true regions kind budget b1 b2 r1 r2 c =
    Begins (λ after outcome log. Serves regions kind budget b1.device after outcome log) regions
    kind b1 b2 r1 r2 c
BeginsIf false regions kind budget b1 b2 r1 r2 c = Refuses 1 b1 b2 r1 r2 c

-- The queue of a kind is served; nothing is where a chain of it is held.
abbrev pub BeginsFor : Option Kind → List Region → Budget → Balloon → Balloon → NoticeRoom →
    NoticeRoom → VbNotice → Type 0
BeginsFor None regions budget b1 b2 r1 r2 c = Refuses (code_of NoQueue) b1 b2 r1 r2 c
BeginsFor (Some kind) regions budget b1 b2 r1 r2 c =
    BeginsIf (may_look kind b1) regions kind budget b1 b2 r1 r2 c

-- A chain is given back, where it is held.
abbrev pub GivesHeldOf : Option HeldChain → List Region → Kind → Balloon → Balloon → NoticeRoom →
    NoticeRoom → VbNotice → Type 0
GivesHeldOf None regions kind b1 b2 r1 r2 c = Refuses 1 b1 b2 r1 r2 c
GivesHeldOf (Some held) regions kind b1 b2 r1 r2 c =
    Begins (λ after outcome log. GivesHeldBack regions kind held b1.device after outcome log)
    regions kind b1 b2 r1 r2 c

-- The chain that is held of a kind's queue is given back.
abbrev pub GivesHeldFor : Option Kind → List Region → Balloon → Balloon → NoticeRoom → NoticeRoom →
    VbNotice → Type 0
GivesHeldFor None regions b1 b2 r1 r2 c = Refuses (code_of NoQueue) b1 b2 r1 r2 c
GivesHeldFor (Some kind) regions b1 b2 r1 r2 c =
    GivesHeldOf (held_chain kind b1.held) regions kind b1 b2 r1 r2 c

-- A notice goes on with this answer: where this was done, and whatever may still come then, the
-- whole may come. It is handed over then.
pub record GoesOn (n : Notice) (regions : List Region) (answer : ℕ) (b1 b2 : Balloon)
    (r1 r2 : NoticeRoom) (c : VbNotice) : Type 0 where
  pub next : Notice
  pub device : Device
  pub kind_is : next.kind ≡ n.kind
  pub step : (after : Device) (outcome : Outcome) (before : List ℕ) (done rest : List Access) →
      Awaited n.step.phase n.kind answer before r1.copied done →
      Ahead (whole regions n.kind after outcome) next.step device r2.copied rest →
      Ahead (whole regions n.kind after outcome) n.step b1.device
      (record r1.copied { bytes = before }) (done ++ rest)
  pub hands : HandsOver next regions r2.copied (with_device device b1) b2 r2.cuts c

-- Hints whose round isn't open any longer aren't discarded further: their chain is given back.
pub record LeavesHints (n : Notice) (regions : List Region) (b1 b2 : Balloon) (r1 r2 : NoticeRoom)
    (c : VbNotice) : Type 0 where
  pub next : Notice
  pub device : Device
  pub kind_is : next.kind ≡ n.kind
  pub step : (cut : Cut) (x : Discarding) (after : Device) (outcome : Outcome)
      (log : List Access) → n.step.phase ≡ Discards cut x →
      Ahead (whole regions n.kind after outcome) next.step device r2.copied log →
      Onward x.further (whole regions n.kind after outcome) n.step.tally b1.device x.place
      r1.copied log
  pub hands : HandsOver next regions r2.copied (with_device device b1) b2 r2.cuts c

-- Hints are left, or the notice goes on.
abbrev pub GoesOnUnless : Bool → Notice → List Region → ℕ → Balloon → Balloon → NoticeRoom →
    NoticeRoom → VbNotice → Type 0
GoesOnUnless true n regions answer b1 b2 r1 r2 c = LeavesHints n regions b1 b2 r1 r2 c
GoesOnUnless false n regions answer b1 b2 r1 r2 c = GoesOn n regions answer b1 b2 r1 r2 c

-- What is discarded next may not be any longer.
abbrev pub leaves_hints : Notice → Snapshot → Device → Bool
leaves_hints n s d = not (may_discard s n.kind d) && is_discarding n.step.phase

-- The notice goes on while its device is as the notice left it (`s`); else it ends, and nothing is
-- done.
pub record GoesOnWhile (n : Notice) (s : Snapshot) (regions : List Region) (answer : ℕ)
    (b1 b2 : Balloon) (r1 r2 : NoticeRoom) (c : VbNotice) : Type 0 where
  pub current : IsCurrent s n.kind b1.device →
      GoesOnUnless (leaves_hints n s b1.device) n regions answer b1 b2 r1 r2 c
  pub stale : (¬ IsCurrent s n.kind b1.device) → Refuses STALE b1 b2 r1 r2 c

-- What is no notice goes on by nothing.
abbrev pub GoesOnBy : Option Notice → Snapshot → List Region → ℕ → Balloon → Balloon →
    NoticeRoom → NoticeRoom → VbNotice → Type 0
GoesOnBy None s regions answer b1 b2 r1 r2 c = Refuses (code_of BadArgument) b1 b2 r1 r2 c
GoesOnBy (Some n) s regions answer b1 b2 r1 r2 c =
    GoesOnWhile n s regions answer b1 b2 r1 r2 c
