use Rattle.std.{proofs.Common.arith, proofs.lemmas.Grind.common_steps}
use Rattle.vb_device.proofs.LooseFrames.{pops_last}
use Rattle.vb_device.proofs.balloon.BalloonDeviceDevice.pop_loose.Goals as goal

pub returns-clause-frame : goal.returns-clause-frame
returns-clause-frame g c =
    pops_last c.args.self.now.part _ c.pop.result (grind (arith, common_steps))
