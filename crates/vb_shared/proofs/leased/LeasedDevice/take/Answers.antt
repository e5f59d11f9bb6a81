use Rattle.vb_device.proofs.OwnFrames.{takes_keeping}
use Rattle.vb_shared.proofs.leased.LeasedDevice.take.Goals as goal

pub returns : goal.returns
returns g c =
    takes_keeping c.args.queue _ _ c.args.self.now.pass.held _ _ c.take.result c.take.ensures
