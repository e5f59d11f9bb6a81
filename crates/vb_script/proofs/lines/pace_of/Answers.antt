use Rattle.vb_script.specs.Names.{pace_of}
use Rattle.vb_script.proofs.lines.pace_of.Goals as goal

pub returns : goal.returns
unfolding pace_of
returns c = c.find.ensures
