use Rattle.std.proofs.Common.{refl}
use Rattle.vb_bits.specs.Words.{flags_of}
use Rattle.vb_bits.proofs.level.Level.empty.Goals as goal

pub returns : goal.returns
unfolding flags_of
returns c = refl
