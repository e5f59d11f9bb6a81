use Rattle.{std.proofs.Common.{true, refl}, vb_status.specs.Bits.status_bits}
use Rattle.vb_device.proofs.FourQueues.{base_restarted}
use Rattle.vb_device.proofs.balloon.status.BalloonDevicePort.write_status.Goals as goal

pub invariant_of-self : goal.invariant_of-self
invariant_of-self g c = (
  base_restarted c.self.inside.ram (status_bits c.self.inside.status) _
      c.self.inside.queue_size _ true c.self.inside.queues c.set_all_ready.new.queues
      c.self.invariant.0 c.set_all_ready.ensures (λ h. refl),
  c.self.invariant.1,
)
