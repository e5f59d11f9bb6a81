-- What the exports for queues that start and stop answer: what the balloon's own calls answer, as
-- codes.
use Rattle.std.specs.Prelude.{◌≡◌, ℕ, ◌==◌, List, if◌then◌else◌, Option, Some, None}
use Rattle.std.specs.Prelude.{Result, Ok, Err}
use Rattle.vb_core.specs.declared.kinds.Kind.{Kind}
use Rattle.vb_core.specs.declared.starting.QueueStart.{QueueStart}
use Rattle.vb_core.specs.declared.device.Denial.{Denial}
use Rattle.vb_core.specs.declared.device.Denial.TheVariants.{NoQueue}
use Rattle.vb_monitor.specs.declared.regions.Region.{Region}
use Rattle.vb_monitor.specs.declared.balloon.Balloon.{Balloon}
use Rattle.vb_core.specs.Held.{held_of, held_without}
use Rattle.vb_monitor.specs.declared.outcome.HeldChain.{HeldChain}
use Rattle.vb_monitor.specs.Balloons.{held_chain}
use Rattle.vb_monitor.specs.Queues.{StartsBy, StopsBy}
use Rattle.vb_monitor.specs.Codes.{code_of}
use Rattle.vb_c.specs.Codes.{code_in}

abbrev pub StartsFor : Option Kind → List Region → QueueStart → Balloon → Balloon → ℕ → Type 0
StartsFor None regions at b1 b2 result = (result ≡ code_of NoQueue) × (b2 ≡ b1)
StartsFor (Some kind) regions at b1 b2 result =
    (answer : Result (Unit {0}) Denial) × StartsBy kind regions at b1 b2 answer ×
    (result ≡ code_in answer)

-- The code of a stop's answer, and the index that it says: 0 where it is refused.
abbrev pub code_of_stop : Result ℕ Denial → ℕ
code_of_stop (Ok next) = 0
code_of_stop (Err why) = code_of why

abbrev pub next_of : Result ℕ Denial → ℕ
next_of (Ok next) = next
next_of (Err why) = 0

abbrev pub StopsFor : Option Kind → Balloon → Balloon → ℕ → ℕ → Type 0
StopsFor None b1 b2 next result = (result ≡ code_of NoQueue) × (next ≡ 0) × (b2 ≡ b1)
StopsFor (Some kind) b1 b2 next result =
    (answer : Result ℕ Denial) × StopsBy kind b1 b2 answer × (next ≡ next_of answer) ×
    (result ≡ code_of_stop answer)

-- The chain that is held of a kind's queue is forgotten, or there is none.
pub record Forgets (kind : Kind) (b1 b2 : Balloon) (result : ℕ) : Type 0 where
  pub answer : result ≡ (if held_of kind b1.held == 0 then 1 else 0)
  pub left : b2 ≡ record b1 { held = held_without kind b1.held }

abbrev pub ForgetsFor : Option Kind → Balloon → Balloon → ℕ → Type 0
ForgetsFor None b1 b2 result = (result ≡ code_of NoQueue) × (b2 ≡ b1)
ForgetsFor (Some kind) b1 b2 result = Forgets kind b1 b2 result

-- Whether a chain is held of a kind's queue, and then how many pages it names.
abbrev pub SaysHeldBy : Option HeldChain → ℕ → ℕ → Type 0
SaysHeldBy None pages result = (result ≡ 1) × (pages ≡ 0)
SaysHeldBy (Some held) pages result = (result ≡ 0) × (pages ≡ held.pages)

abbrev pub SaysHeld : Option Kind → Balloon → ℕ → ℕ → Type 0
SaysHeld None b pages result = (result ≡ code_of NoQueue) × (pages ≡ 0)
SaysHeld (Some kind) b pages result = SaysHeldBy (held_chain kind b.held) pages result
