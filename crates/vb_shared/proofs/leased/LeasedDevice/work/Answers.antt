use Rattle.vb_device.proofs.OwnFrames.{works_keeping}
use Rattle.vb_shared.proofs.leased.LeasedDevice.work.Goals as goal

pub returns : goal.returns
returns g c = works_keeping _ _ c.args.self.now.pass.held _ _ c.work.result c.work.ensures
