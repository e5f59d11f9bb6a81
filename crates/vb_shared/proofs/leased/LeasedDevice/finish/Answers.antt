use Rattle.vb_device.proofs.OwnFrames.{finishes_keeping}
use Rattle.vb_shared.proofs.leased.LeasedDevice.finish.Goals as goal

pub returns : goal.returns
returns g c = finishes_keeping c.args.queue c.args.index _ _ c.args.self.now.pass.held _ _
    c.finish.result c.finish.ensures
