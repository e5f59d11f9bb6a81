use Rattle.vb_monitor.proofs.BufferLemmas.{readable_in}
use Rattle.vb_monitor.proofs.pieces.readable_length.Goals as goal

pub returns : goal.returns
returns c = readable_in c.args.pieces.now c.readable_bytes.result c.readable_bytes.ensures
