use Rattle.vb_virtio.specs.Tests.{pages_where}
use Rattle.std.proofs.Common.{◌≡◌, take}
use Rattle.vb_model.specs.Queries.{runs}
use Rattle.vb_guest.proofs.queries.ballooned_runs.Given as goal

abbrev pub invariant-loop-page : goal.invariant-loop-page
invariant-loop-page g l = l.found.items
    ≡ runs (pages_where (λ flag. flag) (take l.page (g.D.GuestBytes.part l.device).ballooned))
