-- Writes of the status register and of the features (VIRTIO 1.1, 2.1, 2.2 and 3.1.1): the rules of
-- the definitions, and beside them what the settings ask for.
use Rattle.std.specs.Prelude.{ℕ, Bool, not, ◌&&◌, ◌==◌, if◌then◌else◌, Option, Some, None}
use Rattle.vb_virtio.specs.declared.refusals.Refusal.{Refusal}
use Rattle.vb_virtio.specs.declared.refusals.Refusal.TheVariants.{ClearsBit as ClearsOne}
use Rattle.vb_virtio.specs.declared.refusals.Refusal.TheVariants.{OutOfOrder as BreaksOrder}
use Rattle.vb_virtio.specs.declared.refusals.Refusal.TheVariants.{FeatureNotOffered as OffersNot}
use Rattle.vb_virtio.specs.declared.refusals.Refusal.TheVariants.{NoFeature as LacksFeature}
use Rattle.vb_virtio.specs.Status.{status_refusal, negotiate_refusal, adds, features_ok, contains}
use Rattle.vb_virtio.specs.Features.{must_tell_host}
use Rattle.vb_status.specs.declared.bits.StatusFault.{StatusFault}
use Rattle.vb_status.specs.declared.bits.StatusFault.TheVariants.{ClearsBit, OutOfOrder}
use Rattle.vb_status.specs.declared.bits.StatusFault.TheVariants.{FeatureNotOffered}
use Rattle.vb_status.specs.declared.bits.StatusFault.TheVariants.{MustTellHostMissing}
use Rattle.vb_status.specs.declared.bits.StatusFault.TheVariants.{VersionMissing}
use Rattle.vb_core.specs.declared.device.Device.{Device}
use Rattle.vb_core.specs.Settings.{needs_must_tell, without_later}
use Rattle.vb_core.specs.declared.hints.TheConstants.{STOP}
use Rattle.vb_core.specs.Hints.{showing}
use Rattle.vb_core.specs.Devices.{new_device}

-- The fault that says a refusal of the definitions: no write meets another one than these.
abbrev pub fault_by : Refusal → StatusFault
fault_by ClearsOne = ClearsBit
fault_by BreaksOrder = OutOfOrder
fault_by OffersNot = FeatureNotOffered
fault_by LacksFeature = MustTellHostMissing
fault_by _ = VersionMissing

-- The refusal of the definitions, or else this one.
abbrev pub denied_or : Option StatusFault → Option Refusal → Option StatusFault
denied_or other None = other
denied_or other (Some refusal) = Some (fault_by refusal)

-- A write adds FEATURES_OK without the MUST_TELL_HOST that the settings ask for.
abbrev pub lacks_must_tell : ℕ → Device → Bool
lacks_must_tell write d =
    needs_must_tell d.settings && adds d.status write features_ok
    && not (must_tell_host d.features)

-- What a write of the status is refused for.
abbrev pub status_denial : ℕ → Device → Option StatusFault
status_denial write d =
    denied_or (if lacks_must_tell write d then Some MustTellHostMissing else None)
    (status_refusal d.status d.features write)

-- The device once its driver reset it: settings and target stay, and ids of rounds go on.
abbrev pub reset : Device → Device
reset d =
    record (new_device d.settings) { target = d.target; round = showing STOP d.round }

-- The device after a write that is accepted: one of 0 resets.
abbrev pub after_write : ℕ → Device → Device
after_write write d =
    if write == 0 then reset d else record d { status = write }

-- What a set of features is refused for: the definitions judge all but FREE_PAGE_HINT
-- and PAGE_POISON.
abbrev pub negotiate_denial : ℕ → Device → Option StatusFault
negotiate_denial wanted d =
    denied_or (if contains d.settings.offered wanted then None else Some FeatureNotOffered)
    (negotiate_refusal d.status (without_later wanted))
