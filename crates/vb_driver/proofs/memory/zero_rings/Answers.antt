use Rattle.std.proofs.Common.{◌∙◌, sym, ap, arith}
use Rattle.vb_virtio.specs.Layout.{is_ring_page}
use Rattle.vb_virtio.proofs.Shapes.{ring_reserved}
use Rattle.vb_driver.proofs.Zeroing.{pages_more, pages_past, pages_all, zeroed_none}
use Rattle.vb_driver.proofs.memory.zero_rings.Goals.{then-is_ring_page, else-is_ring_page}
use Rattle.vb_driver.proofs.memory.zero_rings.Goals as goal

pub loop-page-preserved : goal.loop-page-preserved
loop-page-preserved g c = let f = is_ring_page c.args.shape.queue_size in
    let n = c.loop-page.page in
    let m2 = g.G.GuestBytes.mem c.loop-page.ram in elim c.if-is_ring_page.branch [
      | then-is_ring_page w ↦ record {
        zeroed = rw w.ram-is (pages_more f (sym c.is_ring_page.ensures ∙ w.if-is_ring_page.true)
            c.loop-page.invariant.zeroed w.zero_page.ensures.zero w.zero_page.ensures.rest);
        part = ap g.G.GuestBytes.part w.ram-is
            ∙ (w.zero_page.ensures.part ∙ c.loop-page.invariant.part);
      }
      | else-is_ring_page w ↦ record {
        zeroed = rw w.ram-is (pages_past f n
            (sym c.is_ring_page.ensures ∙ w.if-is_ring_page.false) c.loop-page.invariant.zeroed);
        part = ap g.G.GuestBytes.part w.ram-is ∙ c.loop-page.invariant.part;
      }
    ]

pub loop-page-init : goal.loop-page-init
loop-page-init g c = grind (arith, zeroed_none)

pub returns-clause-zeroed : goal.returns-clause-zeroed
returns-clause-zeroed g c = grind (arith, pages_all, ring_reserved)
