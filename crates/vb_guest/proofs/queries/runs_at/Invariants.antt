use Rattle.std.proofs.Common.{◌≡◌, take}
use Rattle.vb_virtio.specs.Tests.{pages_where}
use Rattle.vb_model.specs.Queries.{is_place, runs}
use Rattle.vb_guest.proofs.queries.runs_at.Given as goal

abbrev pub invariant-loop-page : goal.invariant-loop-page
invariant-loop-page l = l.found.items ≡ runs (pages_where (is_place l.place) (take l.page l.places))
