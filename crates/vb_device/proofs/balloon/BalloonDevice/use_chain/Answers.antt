use Rattle.std.proofs.Common.{ℕ, ◌≡◌, get_or, ◌∙◌, ap, true}
use Rattle.vb_virtio.specs.declared.statistics.LastStatistics.{LastStatistics}
use Rattle.vb_virtio.specs.Status.{contains, driver_ok}
use Rattle.vb_status.specs.Bits.{status_bits, feature_bits}
use Rattle.vb_device.specs.{State.DeviceState, QueueState.QueueState, Base.queue_at}
use Rattle.vb_device.proofs.{Finishes.used_at, FourQueues.entry_is}
use Rattle.vb_device.proofs.balloon.BalloonDevice.use_chain.Goals as goal

pub returns : goal.returns
returns g c =
    let was : get_or c.self.inside.queues c.index_of-place.result c.index-self-place.result ≡
    queue_at c.args.queue c.self.inside.queues =
    ap (λ (i : ℕ). get_or c.self.inside.queues i c.index-self-place.result)
    c.index_of-place.ensures.place ∙
    entry_is c.args.queue c.self.inside.queues c.index-self-place.result c.self.invariant.0.four
    c.requires.known in
    let adds = rw was at c.add_used.ensures.adds in
    let driver : contains (status_bits c.self.inside.status) driver_ok ≡ true =
    ap (λ (v : DeviceState). contains v.part.status driver_ok) c.self.view_is ∙ c.requires.ready in
    let last : LastStatistics =
    record { free = c.self.inside.last.free; total = c.self.inside.last.total } in
    rw (← c.self.view_is) (rw c.index_of-place.ensures.place
    (used_at c.args.queue c.args.head c.self.inside.ram c.add_used.new.ram
    (status_bits c.self.inside.status) (feature_bits c.self.inside.features)
    c.self.inside.target c.self.inside.actual c.self.inside.queue_size _ c.self.inside.queues
    c.add_used.new.self last c.self.inside.loose.items c.self.inside.ballooned g.P.Pace.IS_PACED c.self.invariant.0 c.requires.known driver adds
    (c.add_used.ensures.taken ∙ ap (λ (x : QueueState). x.taken) was)))
