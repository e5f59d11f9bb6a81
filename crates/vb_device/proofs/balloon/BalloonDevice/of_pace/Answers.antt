use Rattle.{std.proofs.Common.refl, vb_device.proofs.Sizes.size_is_power}
use Rattle.vb_device.proofs.balloon.BalloonDevice.of_pace.Goals as goal

pub new_queues-requires : goal.new_queues-requires
new_queues-requires g c = size_is_power 64 256 1 refl
