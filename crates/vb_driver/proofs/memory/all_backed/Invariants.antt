use Rattle.std.proofs.Common.{◌≡◌, ℕ, ◌<◌, true, is_some}
use Rattle.vb_virtio.specs.Layout.{is_start_page}
use Rattle.vb_ram.specs.Pages.{frame_at}
use Rattle.vb_driver.proofs.memory.all_backed.Given as goal

abbrev pub invariant-loop-page : goal.invariant-loop-page
invariant-loop-page g l = (p : ℕ) → p < l.page → is_start_page l.shape.queue_size p ≡ true
    → is_some (frame_at (g.G.GuestBytes.mem l.ram) p) ≡ true
