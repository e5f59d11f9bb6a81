-- What the exports for a device's start, its registers and its configuration space answer.
use Rattle.std.specs.Prelude.{◌≡◌, ℕ, true, false, List, length, Option, Some, None, Err}
use Rattle.vb_core.specs.declared.kinds.Kind.{Kind}
use Rattle.vb_core.specs.declared.device.Denial.{Denial}
use Rattle.vb_core.specs.declared.device.Denial.TheVariants.{BadArgument, NoQueue}
use Rattle.vb_core.specs.declared.device.Device.{Device}
use Rattle.vb_core.specs.declared.settings.Settings.{Settings}
use Rattle.vb_status.specs.declared.bits.StatusFault.{StatusFault}
use Rattle.vb_core.specs.Settings.{are_settings}
use Rattle.vb_core.specs.Devices.{new_device, with_ring, placed, place_denial}
use Rattle.vb_core.specs.Statuses.{status_denial, after_write, negotiate_denial}
use Rattle.vb_core.specs.Config.{config_denies, with_written}
use Rattle.vb_monitor.specs.Codes.{code_of}
use Rattle.vb_c.specs.Codes.{number_in}

-- A device is made of settings that one may have, and else stays as it is.
pub record Starts (settings : Settings) (d1 d2 : Device) (result : ℕ) : Type 0 where
  pub made : are_settings settings ≡ true → (result ≡ 0) × (d2 ≡ new_device settings)
  pub denied : are_settings settings ≡ false → (result ≡ code_of BadArgument) × (d2 ≡ d1)

-- A write of the status is refused, or accepted.
pub record WritesStatus (write : ℕ) (d1 d2 : Device) (result : ℕ) : Type 0 where
  pub denied : (why : StatusFault) → status_denial write d1 ≡ Some why →
      (result ≡ number_in (Err why)) × (d2 ≡ d1)
  pub accepted : status_denial write d1 ≡ None → (result ≡ 0) × (d2 ≡ after_write write d1)

-- A set of features is refused, or accepted.
pub record Negotiates (wanted : ℕ) (d1 d2 : Device) (result : ℕ) : Type 0 where
  pub denied : (why : StatusFault) → negotiate_denial wanted d1 ≡ Some why →
      (result ≡ number_in (Err why)) × (d2 ≡ d1)
  pub accepted : negotiate_denial wanted d1 ≡ None →
      (result ≡ 0) × (d2 ≡ record d1 { features = wanted })

-- A queue's place is refused, or taken.
pub record Places (kind : Kind) (table avail used size : ℕ) (d1 d2 : Device) (result : ℕ) :
    Type 0 where
  pub denied : (why : Denial) → place_denial kind (placed table avail used size) d1 ≡ Some why →
      (result ≡ code_of why) × (d2 ≡ d1)
  pub placed_so : place_denial kind (placed table avail used size) d1 ≡ None →
      (result ≡ 0) × (d2 ≡ with_ring kind (placed table avail used size) d1)

abbrev pub PlacesFor : Option Kind → ℕ → ℕ → ℕ → ℕ → Device → Device → ℕ → Type 0
PlacesFor None table avail used size d1 d2 result = (result ≡ code_of NoQueue) × (d2 ≡ d1)
PlacesFor (Some kind) table avail used size d1 d2 result =
    Places kind table avail used size d1 d2 result

-- A write to the configuration space is refused, or is one of a field that a driver may write.
pub record WritesConfig (offset : ℕ) (bytes : List ℕ) (d1 d2 : Device) (result : ℕ) : Type 0 where
  pub denied : config_denies offset (length bytes) d1 ≡ true →
      (result ≡ code_of BadArgument) × (d2 ≡ d1)
  pub written : config_denies offset (length bytes) d1 ≡ false →
      (result ≡ 0) × (d2 ≡ with_written offset bytes d1)
