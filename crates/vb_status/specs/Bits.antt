-- The numbers that a status and a set of features are.
use Rattle.std.specs.Prelude.{ℕ}
use Rattle.vb_status.specs.declared.bits.Status.{Status}
use Rattle.vb_status.specs.declared.bits.Features.{Features}

abbrev pub status_bits : Status → ℕ
status_bits status = status.0

abbrev pub feature_bits : Features → ℕ
feature_bits features = features.0
