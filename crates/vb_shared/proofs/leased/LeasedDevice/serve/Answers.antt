use Rattle.vb_device.proofs.OwnServes.{serves_keeping}
use Rattle.vb_shared.proofs.leased.LeasedDevice.serve.Goals as goal

pub returns : goal.returns
returns g c =
    serves_keeping c.args.queue _ _ c.args.self.now.pass.held _ _ c.serve.result c.serve.ensures
