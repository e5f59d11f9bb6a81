use Rattle.std.proofs.Common.{arith}
use Rattle.vb_ram.proofs.Contents.{contents_read}
use Rattle.vb_ram.proofs.laws.a_read_gives_bytes.Goals as goal

pub returns : goal.returns
returns c mem p off out whole fits read =
    contents_read mem p off out (omega (arith, whole.sizes p, fits)) read
