-- What the export that begins a round of hints answers.
use Rattle.std.specs.Prelude.{◌≡◌, ℕ, Some, None}
use Rattle.vb_core.specs.declared.kinds.Kind.TheVariants.{Hint}
use Rattle.vb_core.specs.declared.device.Denial.{Denial}
use Rattle.vb_core.specs.declared.device.Device.{Device}
use Rattle.vb_core.specs.Devices.{queue_denial}
use Rattle.vb_core.specs.Hints.{next_id, begun}
use Rattle.vb_monitor.specs.Codes.{code_of}

-- A round begins with the id after the one of the round before; or the queue of hints is refused,
-- nothing is changed, and the id is 0.
pub record BeginsRound (d1 d2 : Device) (id result : ℕ) : Type 0 where
  pub denied : (why : Denial) → queue_denial Hint d1 ≡ Some why →
      (result ≡ code_of why) × (id ≡ 0) × (d2 ≡ d1)
  pub begun_so : queue_denial Hint d1 ≡ None →
      (result ≡ 0) × (id ≡ next_id d1.round.last)
      × (d2 ≡ record d1 { round = begun (next_id d1.round.last) d1.round })
