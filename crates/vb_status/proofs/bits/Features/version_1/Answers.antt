use Rattle.std.proofs.Common.{◌∙◌}
use Rattle.vb_status.proofs.BitLemmas.{contains_bit}
use Rattle.vb_status.proofs.bits.Features.version_1.Goals as goal

pub returns : goal.returns
returns c = c.contains.ensures tt ∙ contains_bit 32 _
