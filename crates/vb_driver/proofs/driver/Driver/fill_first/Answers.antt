use Rattle.std.proofs.Common.{◌∙◌, ap}
use Rattle.{vb_ring.specs.Ends.outstanding, vb_driver.proofs.OneBuffer.fresh_none}
use Rattle.vb_driver.proofs.driver.Driver.fill_first.Goals as goal

pub fill-requires-clause-none : goal.fill-requires-clause-none
fill-requires-clause-none g c =
    ap outstanding c.requires.fresh ∙ fresh_none c.args.self.now.queue_size
