use Rattle.vb_bits.proofs.Words.{bound_is}
use Rattle.vb_bits.proofs.level.Level.bound.Goals as goal

pub returns : goal.returns
returns c = bound_is c.self.inside.bound c.self.inside.words.items c.args.self.now c.self.view_is
