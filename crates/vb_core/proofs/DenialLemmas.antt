-- What a call that isn't refused has passed.
use Rattle.std.proofs.Common.{arith, ◌≡◌, Bool, true, false, Option, Some, None, refl}
use Rattle.std.specs.Prelude.{not, ◌||◌, if◌then◌else◌}
use Rattle.vb_core.specs.{Devices.{ring_of, call_denial}, Rings.has_place, Settings.are_settings}
use Rattle.vb_core.specs.declared.device.Denial.{Denial, TheVariants.{NoQueue, BadArgument}}
use Rattle.vb_core.specs.declared.device.Denial.TheVariants.{NotReady, NeedsReset, Misplaced}
use Rattle.vb_core.specs.declared.{device.Device.Device, kinds.Kind.Kind}

-- The arguments fit, and the queue has its place.
pub record IsOpen (kind : Kind) (fits : Bool) (d : Device) : Type 0 where
  pub fits_so : fits ≡ true
  pub settings : are_settings d.settings ≡ true
  pub place : has_place d.settings.memory_end (ring_of kind d) ≡ true

abbrev six_causes : Bool → Bool → Bool → Bool → Bool → Bool → Option Denial
six_causes a b c d e f =
    if a then Some NoQueue else (if b then Some BadArgument else (if c then Some NotReady
    else (if d then Some NeedsReset else (if e then Some NoQueue else (if f then Some Misplaced
    else None)))))

passes : (a b c d e f : Bool) → six_causes a b c d e f ≡ None → (b ≡ false) × (f ≡ false)
passes true b c d e f h = absurd cc
passes false true c d e f h = absurd cc
passes false false true d e f h = absurd cc
passes false false false true e f h = absurd cc
passes false false false false true f h = absurd cc
passes false false false false false true h = absurd cc
passes false false false false false false h = (refl, refl)

neither : (a b : Bool) → (not a || not b) ≡ false → (a ≡ true) × (b ≡ true)
neither true true h = (refl, refl)
neither true false h = absurd cc
neither false b h = absurd cc

pub open_call : (kind : Kind) (known fits : Bool) (d : Device) →
    call_denial kind known fits d ≡ None → IsOpen kind fits d
open_call kind known fits d h = grind (arith, passes, neither)
