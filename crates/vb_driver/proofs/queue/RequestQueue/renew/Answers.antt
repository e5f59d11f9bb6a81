use Rattle.{std.proofs.Common.{◌≡◌, ◌∙◌, ap, arith, ℕ}, vb_driver.proofs.ReportTables.none_owned}
use Rattle.vb_virtio.specs.Layout.{ring_page}
use Rattle.vb_ring.specs.Ends.{DriverEnd}
use Rattle.vb_ring.specs.Layout.{layout_of}
use Rattle.vb_driver.proofs.queue.RequestQueue.renew.Goals as goal

pub invariant_of-self : goal.invariant_of-self
invariant_of-self c = let size = c.args.shape.queue_size in
    let layout : c.new-self-inside.result.layout
    ≡ layout_of (ring_page size c.self.inside.number) size =
    ap (λ (r : DriverEnd). r.layout) c.new-self-inside.ensures.value
    ∙ ap (λ (page : ℕ). layout_of page size) c.ring_page.ensures in
    grind (arith, none_owned, layout)
