use Rattle.vb_virtio.specs.Layout.{is_ring_page}
use Rattle.std.proofs.Common.{◌≡◌}
use Rattle.vb_driver.{specs.Coding.AreZeroed, proofs.Zeroing.passed}
use Rattle.vb_driver.proofs.memory.zero_rings.Given as goal

abbrev pub invariant-loop-page : goal.invariant-loop-page
invariant-loop-page g l = record {
  zeroed : AreZeroed (g.G.GuestBytes.mem l.initial.ram) (g.G.GuestBytes.mem l.ram)
      (passed (is_ring_page l.shape.queue_size) l.page);
  part : g.G.GuestBytes.part l.ram ≡ g.G.GuestBytes.part l.initial.ram;
}
