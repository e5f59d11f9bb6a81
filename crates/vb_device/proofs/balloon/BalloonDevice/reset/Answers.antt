use Rattle.std.proofs.Common.{false, length, List, Bool, ap, ◌∙◌, rules}
use Rattle.{std.proofs.lemmas.List.length-replicate, vb_status.specs.Bits.status_bits}
use Rattle.vb_device.proofs.FourQueues.{base_restarted}
use Rattle.vb_device.proofs.balloon.BalloonDevice.reset.Goals as goal

pub invariant_of-self : goal.invariant_of-self
invariant_of-self g c = (
  base_restarted c.self.inside.ram (status_bits c.self.inside.status) _
      c.self.inside.queue_size _ false c.self.inside.queues c.set_all_ready.new.queues
      c.self.invariant.0 c.set_all_ready.ensures (search rules),
  ap (λ (flags : List Bool). length flags) c.clear.ensures
      ∙ (length-replicate (length c.self.inside.ballooned) false ∙ c.self.invariant.1),
)
