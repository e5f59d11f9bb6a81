use Rattle.vb_device.proofs.Visits.{visiting_still}
use Rattle.vb_device.proofs.queue.DeviceQueue.visit_next.Goals as goal

pub invariant_of-self : goal.invariant_of-self
invariant_of-self c = rw c.visit_next.ensures.taken
    (visiting_still c.self.inside.queue.size c.self.inside.taken c.self.invariant)
