-- What a refused call says, in the words of the rules.
use Rattle.std.specs.Prelude.{Option, Some, None, Result, Ok, Err}
use Rattle.vb_virtio.specs.declared.refusals.Refusal.{Refusal}
use Rattle.vb_virtio.specs.declared.refusals.Refusal.TheVariants.{ClearsBit, OutOfOrder}
use Rattle.vb_virtio.specs.declared.refusals.Refusal.TheVariants.{FeatureNotOffered, VersionMissing}
use Rattle.vb_virtio.specs.declared.refusals.Refusal.TheVariants.{NoFeature}
use Rattle.vb_status.specs.declared.bits.StatusFault.{StatusFault}
use Rattle.vb_status.specs.declared.bits.StatusFault.TheVariants.{ClearsBit as ClearsOne}
use Rattle.vb_status.specs.declared.bits.StatusFault.TheVariants.{OutOfOrder as BreaksOrder}
use Rattle.vb_status.specs.declared.bits.StatusFault.TheVariants.{FeatureNotOffered as OffersNot}
use Rattle.vb_status.specs.declared.bits.StatusFault.TheVariants.{MustTellHostMissing}
use Rattle.vb_status.specs.declared.bits.StatusFault.TheVariants.{VersionMissing as LacksVersion}

-- Each fault has a refusal of its own. No write of the definitions is refused by NoFeature.
abbrev pub refusal_of_fault : StatusFault → Refusal
refusal_of_fault ClearsOne = ClearsBit
refusal_of_fault BreaksOrder = OutOfOrder
refusal_of_fault OffersNot = FeatureNotOffered
refusal_of_fault MustTellHostMissing = NoFeature
refusal_of_fault LacksVersion = VersionMissing

-- why the call was refused, where it was
abbrev pub answered_refusal : {T : Type 0} → Result T StatusFault → Option Refusal
answered_refusal (Ok x) = None
answered_refusal (Err fault) = Some (refusal_of_fault fault)
