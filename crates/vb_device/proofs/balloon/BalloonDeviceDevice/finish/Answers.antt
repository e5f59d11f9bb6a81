use Rattle.{std.proofs.Common.arith, vb_device.proofs.Settles.{finishes_err, finishes_ok}}
use Rattle.vb_device.proofs.balloon.BalloonDeviceDevice.finish.Goals as goal

pub returns-in_err-head : goal.returns-in_err-head
returns-in_err-head g c = grind (arith, finishes_err)

pub returns : goal.returns
returns g c = grind (arith, finishes_ok)
