-- What a device refuses by its status, its features and the rules of chains alone (VIRTIO 1.1, 2.1;
-- numbers and order are the profile's).
use Rattle.std.specs.Prelude.{ℕ, not, [], ◌∷◌, Option}
use Rattle.vb_virtio.specs.declared.refusals.Refusal.{Refusal}
use Rattle.vb_virtio.specs.declared.refusals.Refusal.TheVariants.{NoQueue, NotReady, NeedsReset}
use Rattle.vb_virtio.specs.FirstRefusal.{◌⇒◌, first_refusal}
use Rattle.vb_virtio.specs.Queues.{has_chains, lacks_feature}
use Rattle.vb_virtio.specs.Status.{is_not_ready, has_fault, work_causes}
use Rattle.vb_chain.specs.declared.fault.ChainFault.{ChainFault}
use Rattle.vb_chain.specs.declared.fault.ChainFault.TheVariants.{BadHead, BadNext, TooLong}
use Rattle.vb_chain.specs.declared.fault.ChainFault.TheVariants.{Indirect, WrongDirection, OutOfRam}
use Rattle.vb_chain.specs.declared.fault.ChainFault.TheVariants.{IndexJump, BadLength, BadPage}
use Rattle.vb_chain.specs.declared.fault.ChainFault.TheVariants.{ReservedPage}

-- The number of the rule that a chain breaks (profile).
abbrev pub rule_of : ChainFault → ℕ
rule_of BadHead = 1
rule_of BadNext = 2
rule_of TooLong = 3
rule_of Indirect = 4
rule_of WrongDirection = 5
rule_of OutOfRam = 6
rule_of IndexJump = 7
rule_of BadLength = 8
rule_of BadPage = 9
rule_of ReservedPage = 10

-- Why the status alone refuses a call, where it does.
abbrev pub readiness_refusal : ℕ → Option Refusal
readiness_refusal status = first_refusal (work_causes status)

-- Why a queue's number, the status and the features refuse a take, where they do.
abbrev pub take_refusal_by : ℕ → ℕ → ℕ → Option Refusal
take_refusal_by q status features =
    first_refusal
    ((not (has_chains q) ⇒ NoQueue) ∷ (is_not_ready status ⇒ NotReady)
    ∷ (has_fault status ⇒ NeedsReset) ∷ (lacks_feature features q ⇒ NoQueue) ∷ [])
