-- A notice as C keeps it: which notice it is, and what else it says.
use Rattle.std.specs.Prelude.{◌≡◌, ℕ, ◌+◌, ◌-◌, ◌*◌, Bool, true, false, ◌==◌, bit_and}
use Rattle.std.specs.Prelude.{if◌then◌else◌}
use Rattle.std.specs.Prelude.{Option, Some, None}
use Rattle.vb_virtio.specs.Tests.{one_if}
use Rattle.vb_core.specs.declared.kinds.Kind.{Kind}
use Rattle.vb_core.specs.declared.device.Denial.{Denial}
use Rattle.vb_core.specs.declared.device.Denial.TheVariants.{NoQueue, BadArgument, NotReady}
use Rattle.vb_core.specs.declared.device.Denial.TheVariants.{NeedsReset, Misplaced, Broken}
use Rattle.vb_monitor.specs.declared.orders.Told.{Told}
use Rattle.vb_monitor.specs.declared.orders.Told.TheVariants.{Nothing, Pages, Figures, Id}
use Rattle.vb_monitor.specs.declared.orders.Asked.{Asked}
use Rattle.vb_monitor.specs.declared.outcome.{HeldChain.HeldChain, Tally.Tally}
use Rattle.vb_monitor.specs.declared.step.Phase.{Phase}
use Rattle.vb_monitor.specs.declared.step.Phase.TheVariants.{AwaitsIndex, AwaitsEntry}
use Rattle.vb_monitor.specs.declared.step.Phase.TheVariants.{AwaitsDescriptor, AwaitsPart}
use Rattle.vb_monitor.specs.declared.step.Phase.TheVariants.{TellsPages, TellsFigures, TellsId}
use Rattle.vb_monitor.specs.declared.step.Phase.TheVariants.{Discards, Paused}
use Rattle.vb_monitor.specs.declared.step.Phase.TheVariants.{GivesBack, AwaitsFlags, Ended}
use Rattle.vb_monitor.specs.Machine.{row_bytes, may_go_on}
use Rattle.vb_monitor.specs.Codes.{code_of, end_rule}
use Rattle.vb_monitor.specs.Steps.{Step, phase_of, step_of}
use Rattle.vb_core.specs.declared.device.Device.{Device}
use Rattle.vb_monitor.specs.Snapshots.{IsCurrent, may_discard}
use Rattle.vb_c.specs.declared.notice.VbNotice.{VbNotice}
use Rattle.vb_c.specs.Codes.{kind_of_code}

-- ---- which notice it is

-- A notice: whose queue it is of, and where it is.
pub record Notice : Type 0 where
  pub kind : Kind
  pub step : Step

abbrev pub notice_by : Option Kind → Bool → Step → Option Notice
notice_by None goes step = None
notice_by (Some kind) false step = None
notice_by (Some kind) true step = Some (record { kind = kind; step = step })

-- It waits for an answer, or for room for the next part that is discarded; or it pauses, or has
-- ended. Bytes that have no room are copied by no notice.
abbrev pub notice_of : VbNotice → Option Notice
notice_of c = notice_by (kind_of_code c.kind) (may_go_on (phase_of c.step)) (step_of c.step)

-- ---- what else it says

abbrev pub taken_code : Option HeldChain → ℕ
taken_code (Some held) = 0
taken_code None = 1

-- What a notice came to: why its last chain wasn't served; else whether one was.
abbrev pub end_code : Option Denial → Tally → ℕ
end_code (Some why) tally = code_of why
end_code None tally = if tally.given then 0 else taken_code tally.held

-- The driver is told of a change of configuration once a rule is broken.
abbrev pub breaks : Option Denial → Bool
breaks (Some (Broken fault)) = true
breaks (Some NotReady) = false
breaks (Some NeedsReset) = false
breaks (Some NoQueue) = false
breaks (Some Misplaced) = false
breaks (Some BadArgument) = false
breaks None = false

pub record SaysEnd (c : VbNotice) (tally : Tally) (why : Option Denial) (interrupt more : Bool) :
    Type 0 where
  pub code : c.step.code ≡ end_code why tally
  pub rule : c.step.rule ≡ end_rule why
  pub interrupt_is : c.step.interrupt ≡ one_if interrupt
  pub configuration : c.step.configuration ≡ one_if (breaks why)
  pub more_is : c.step.more ≡ one_if more

-- What is said beside the notice itself.
abbrev pub Says : VbNotice → Tally → Phase → Type 0
Says c tally (AwaitsIndex at) = Unit {0}
Says c tally (AwaitsEntry at) = Unit {0}
Says c tally (AwaitsDescriptor at walk) = (c.step.into ≡ 0) × (c.step.length ≡ row_bytes walk)
Says c tally (AwaitsPart at place into len) = Unit {0}
Says c tally (TellsPages place named further) = Unit {0}
Says c tally (TellsFigures head count) = Unit {0}
Says c tally (TellsId head id) = Unit {0}
Says c tally (Paused place) = Unit {0}
Says c tally (Discards cut x) = Unit {0}
Says c tally (GivesBack spots entry) = Unit {0}
Says c tally (AwaitsFlags at why more) = Unit {0}
Says c tally (Ended why interrupt more) = SaysEnd c tally why interrupt more

-- The bits of what needs no answer: pages are told, figures are, an id of hints is, parts are
-- discarded where there are any, and a chain is given back.
abbrev pub told_bits : Told → ℕ
told_bits Nothing = 0
told_bits Pages = 1
told_bits Figures = 2
told_bits Id = 4

abbrev pub asked_bits : Asked → ℕ → ℕ
asked_bits a cuts = told_bits a.told + (if cuts == 0 then 0 else 8) + 16 * one_if a.gives

-- The bits of what is done for an answer: 32 and 64 are an acquire and a full fence, 128 reads a
-- word, 256 copies bytes; after 512 the caller returns, and goes on later.
abbrev pub answer_bits : Phase → ℕ
answer_bits (AwaitsIndex at) = 128
answer_bits (AwaitsEntry at) = 32 + 128
answer_bits (AwaitsDescriptor at walk) = 256
answer_bits (AwaitsPart at place into len) = 256
answer_bits (AwaitsFlags at why more) = 64 + 128
answer_bits (Paused place) = 512
answer_bits (TellsPages place named further) = 0
answer_bits (TellsFigures head count) = 0
answer_bits (TellsId head id) = 0
answer_bits (Discards cut x) = 0
answer_bits (GivesBack spots entry) = 0
answer_bits (Ended why interrupt more) = 0

-- All that is to be done: what needs no answer, and then what the notice waits for.
abbrev pub what_of : Asked → ℕ → Phase → ℕ
what_of a cuts phase = asked_bits a cuts + answer_bits phase

-- The same is to be done, for a queue of the same kind, and the same needs no answer.
pub record IsElse (c1 c2 : VbNotice) : Type 0 where
  pub what : c2.what ≡ c1.what
  pub kind : c2.kind ≡ c1.kind
  pub orders : c2.orders ≡ c1.orders

-- It is this notice, and says all of it, and what was asked before.
pub record IsNotice (c : VbNotice) (a : Asked) (n : Notice) : Type 0 where
  pub read : notice_of c ≡ Some n
  pub says : Says c n.step.tally n.step.phase
  pub what : c.what ≡ what_of a c.orders.cuts n.step.phase

-- It has ended before anything was done, with this code.
pub record HasEnded (c : VbNotice) (code : ℕ) : Type 0 where
  pub what : c.what ≡ 0
  pub phase : c.step.phase ≡ 0
  pub code_is : c.step.code ≡ code
  pub rule : c.step.rule ≡ 0
  pub interrupt : c.step.interrupt ≡ 0
  pub configuration : c.step.configuration ≡ 0
  pub more : c.step.more ≡ 0

-- ---- what a call on its device leaves of it

-- Of the bits of what is to be done, those that still are: all of them, or all but the discards.
abbrev pub still_asked : Bool → ℕ → ℕ
still_asked true what = what
still_asked false what = what - bit_and what 8

-- What is still to be done of a notice is nothing, once its device was reset or its queue changed;
-- and hints are discarded only while their round is open.
pub record Rechecks (kind : Kind) (c : VbNotice) (d : Device) (result : ℕ) : Type 0 where
  pub current : IsCurrent c.left kind d →
      result ≡ still_asked (may_discard c.left kind d) c.what
  pub stale : (¬ IsCurrent c.left kind d) → result ≡ 0

abbrev pub RechecksFor : Option Kind → VbNotice → Device → ℕ → Type 0
RechecksFor None c d result = result ≡ 0
RechecksFor (Some kind) c d result = Rechecks kind c d result
