-- Writes of the status register, worked out: what is refused, and for what.
use Rattle.std.specs.Prelude.{Some, None, ◌==◌, if◌then◌else◌}
use Rattle.std.proofs.Common.{◌≡◌, ℕ, Bool, false, [], ◌∷◌, ◌++◌, map, refl, ap}
use Rattle.vb_status.specs.declared.bits.StatusFault.TheVariants.{ClearsBit, OutOfOrder}
use Rattle.vb_status.specs.declared.bits.StatusFault.TheVariants.{MustTellHostMissing, VersionMissing}
use Rattle.vb_core.specs.declared.{device.Device.Device}
use Rattle.vb_core.{proofs.Examples.offering, specs.{Devices.new_device, Statuses.{status_denial, reset, after_write}}}

-- a device whose settings ask for MUST_TELL_HOST, or don't (0)
abbrev at_status : ℕ → ℕ → ℕ → Device
at_status must_tell status features =
    record (new_device (record (offering 0x100000027) { needs_must_tell = must_tell }))
    { status = status; features = features }

-- after DRIVER: a reset, one bit less, the same, and FEATURES_OK; not two steps at once, nor a bit that
-- no driver sets
steps : map (λ write. status_denial write (at_status 0 3 0x100000001)) (0 ∷ 1 ∷ 3 ∷ 11 ∷ 15 ∷ 19 ∷ [])
    ≡ None ∷ Some ClearsBit ∷ None ∷ None ∷ Some OutOfOrder ∷ Some OutOfOrder ∷ []
steps = refl

-- FEATURES_OK asks for VERSION_1, and then for what the settings ask for
features : map (λ features. status_denial 11 (at_status 1 3 features)) (0x100000001 ∷ 0x100000000 ∷ 1 ∷ 0 ∷ [])
    ++ map (λ features. status_denial 11 (at_status 0 3 features)) (0x100000000 ∷ 1 ∷ [])
    ≡ None ∷ Some MustTellHostMissing ∷ Some VersionMissing ∷ Some VersionMissing ∷ None ∷ Some VersionMissing ∷ []
features = refl

-- no other write does
once : status_denial 15 (at_status 1 11 0x100000000) ∷ status_denial 3 (at_status 1 1 0) ∷ [] ≡ None ∷ None ∷ []
once = refl

-- ---- a write that is accepted, 143 (FAILED over all others) say, changes the status alone, and one of 0 resets

abbrev written_if : ℕ → Device → Bool → Device
written_if write d resets = if resets then reset d else record d { status = write }

status_alone : (write : ℕ) (d : Device) → (write == 0) ≡ false → after_write write d ≡ record d { status = write }
status_alone write d e = ap (written_if write d) e

failed : (d : Device) → after_write 143 d ≡ record d { status = 143 }
failed d = refl

resets : (d : Device) → after_write 0 d ≡ reset d
resets d = refl
