use Rattle.std.proofs.Common.{◌≡◌, ◌∙◌, [], None, true, get_or, ap, sym, refl, arith, rules}
use Rattle.vb_virtio.specs.declared.statistics.LastStatistics.{LastStatistics}
use Rattle.vb_virtio.specs.Status.{contains, driver_ok}
use Rattle.vb_device.specs.State.{DeviceState}
use Rattle.vb_device.specs.Base.{queue_at}
use Rattle.vb_device.proofs.{Discards.discarded_none, FourQueues.entry_is, TakesBy.status_ok}
use Rattle.{vb_device.proofs.Finishes.can_use, vb_status.specs.Bits.{status_bits, feature_bits}}
use Rattle.vb_request.specs.Refusals.{readiness_refusal}
use Rattle.vb_device.proofs.balloon.BalloonDevice.take_buffer.Goals as goal

pub returns-clause-ready : goal.returns-clause-ready
returns-clause-ready g c =
    let ok : readiness_refusal (status_bits c.self.inside.status) ≡ None = search rules in
    let was : get_or c.self.inside.queues 2 c.index-self-2.result ≡
    queue_at 2 c.self.inside.queues =
    entry_is 2 c.self.inside.queues c.index-self-2.result c.self.invariant.0.four refl in
    let last : LastStatistics =
    record { free = c.self.inside.last.free; total = c.self.inside.last.total } in
    let driver : contains c.args.self.now.part.status driver_ok ≡ true =
    ap (λ (v : DeviceState). contains v.part.status driver_ok) (sym c.self.view_is) ∙
    status_ok (status_bits c.self.inside.status) ok in
    let backed = rw (← c.self.view_is) at (c.requires.backed driver) in
    let low = rw was at c.in_ok-buffer.ensures.head in rw c.head-head.ensures
    (can_use 2 c.in_ok-buffer.buffer.now.head [] c.self.inside.ram c.self.inside.ram
    (status_bits c.self.inside.status) (feature_bits c.self.inside.features)
    c.self.inside.target c.self.inside.actual c.self.inside.queue_size _ c.self.inside.queues
    c.forget.new.self last c.self.inside.loose.items c.self.inside.ballooned g.P.Pace.IS_PACED c.self.invariant.0 refl ok low
    (λ k d lt. absurd (omega (arith, lt))) (discarded_none c.self.inside.ram) backed)
