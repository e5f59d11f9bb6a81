-- Codes of answers and of kinds of queues, as vb.h has them.
use Rattle.std.specs.Prelude.{ℕ, [], ◌∷◌, Option, Some, None, Result, Ok, Err, slice_get}
use Rattle.vb_core.specs.declared.device.Denial.{Denial}
use Rattle.vb_core.specs.declared.kinds.Kind.{Kind}
use Rattle.vb_core.specs.declared.kinds.Kind.TheVariants.{Inflate, Deflate, Statistics, Report}
use Rattle.vb_core.specs.declared.kinds.Kind.TheVariants.{Hint}
use Rattle.vb_status.specs.declared.bits.StatusFault.{StatusFault}
use Rattle.vb_status.specs.declared.bits.StatusFault.TheVariants.{ClearsBit, OutOfOrder}
use Rattle.vb_status.specs.declared.bits.StatusFault.TheVariants.{FeatureNotOffered}
use Rattle.vb_status.specs.declared.bits.StatusFault.TheVariants.{MustTellHostMissing}
use Rattle.vb_status.specs.declared.bits.StatusFault.TheVariants.{VersionMissing}
use Rattle.vb_monitor.specs.Codes.{code_of}

abbrev pub kind_of_code : ℕ → Option Kind
kind_of_code code = slice_get (Inflate ∷ Deflate ∷ Statistics ∷ Report ∷ Hint ∷ []) code

abbrev pub code_of_kind : Option Kind → ℕ
code_of_kind (Some Inflate) = 0
code_of_kind (Some Deflate) = 1
code_of_kind (Some Statistics) = 2
code_of_kind (Some Report) = 3
code_of_kind (Some Hint) = 4
code_of_kind None = 5

-- The code of an answer that has nothing but a denial.
abbrev pub code_in : Result (Unit {0}) Denial → ℕ
code_in (Ok x) = 0
code_in (Err why) = code_of why

-- The number of the rule that a write of the status or of features breaks, and 0 where none is.
abbrev pub number_in : Result (Unit {0}) StatusFault → ℕ
number_in (Ok x) = 0
number_in (Err ClearsBit) = 1
number_in (Err OutOfOrder) = 2
number_in (Err FeatureNotOffered) = 3
number_in (Err MustTellHostMissing) = 4
number_in (Err VersionMissing) = 5
