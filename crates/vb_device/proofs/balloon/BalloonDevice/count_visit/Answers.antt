use Rattle.{std.proofs.Common.{◌∙◌, refl, ap, sym}, vb_model.specs.Device.next_page}
use Rattle.vb_device.proofs.{Finishes.{visits_attached, visits_some}, FourQueues.entry_is}
use Rattle.vb_device.{specs.{QueueState.QueueState, Base.queue_at}, proofs.FourQueues.last_entry}
use Rattle.vb_device.proofs.balloon.BalloonDevice.count_visit.Goals as goal

pub returns-in-Some-clause-attached : goal.returns-in-Some-clause-attached
returns-in-Some-clause-attached g c = visits_attached c.self.inside.ram
    (queue_at 0 c.self.inside.queues).taken c.in-Some.page (c.self.invariant.0.each 0 refl).none
    (ap (λ (x : QueueState). next_page x.taken) (sym (entry_is 0 c.self.inside.queues
    c.index-self-0.result c.self.invariant.0.four refl)) ∙ sym c.in-Some.ensures.page)

pub returns-clause-attached : goal.returns-clause-attached
returns-clause-attached g c = visits_some c.self.inside.ram (queue_at 4 c.self.inside.queues).taken
    c.visit_next-2.result (c.self.invariant.0.each 4 refl).none
    (c.visit_next-2.ensures.page ∙ ap (λ (x : QueueState). next_page x.taken)
    (last_entry c.self.inside.queues _ c.index-self-3.result c.self.invariant.0.four))
