-- The first refusal whose cause holds.
-- The headline needs `Cause` and `first_refusal`.
use Rattle.std.specs.Prelude.{Bool, List, [], ◌∷◌, if◌then◌else◌, Option, Some, None, Result, Ok}
use Rattle.std.specs.Prelude.{Err}
use Rattle.vb_virtio.specs.declared.refusals.Refusal.{Refusal}

-- a cause to refuse a call: where it holds and none before it does, this is the answer
pub record Cause : Type 0 where
  pub holds : Bool
  pub refusal : Refusal

infix 3 ◌⇒◌
abbrev pub ◌⇒◌ : Bool → Refusal → Cause
holds ⇒ refusal = record { holds = holds; refusal = refusal }

abbrev pub first_refusal : List Cause → Option Refusal
first_refusal [] = None
first_refusal (cause ∷ causes) = if cause.holds then Some cause.refusal else first_refusal causes

-- why a call was refused, where it was
abbrev pub refusal_in : {T : Type 0} → Result T Refusal → Option Refusal
refusal_in (Ok x) = None
refusal_in (Err refusal) = Some refusal
