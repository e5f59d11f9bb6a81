use Rattle.std.proofs.Common.{arith}
use Rattle.vb_ram.proofs.Contents.{contents_wrote}
use Rattle.vb_ram.proofs.laws.a_write_replaces_bytes.Goals as goal

pub returns : goal.returns
returns c old new p off bs whole fits w =
    contents_wrote old new p off bs w (omega (arith, whole.sizes p, fits))
