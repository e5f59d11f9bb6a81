use Rattle.std.proofs.Common.{◌≡◌, true, take}
use Rattle.vb_virtio.specs.Tests.{pages_where}
use Rattle.vb_model.specs.Pages.{is_reporting}
use Rattle.vb_driver.{specs.Areas.{Becomes, flags_of, areas_with}, specs.Places.marked}
use Rattle.vb_driver.proofs.areas.Allocator.give_reported.Given as goal

abbrev pub invariant-loop-page : goal.invariant-loop-page
invariant-loop-page l = Becomes l.initial.self l.self
    (marked (pages_where is_reporting (take l.page l.places)) true (flags_of l.initial.self.free))
    l.initial.self.held × (l.self ≡ record l.initial.self
    { free = areas_with (pages_where is_reporting (take l.page l.places)) l.initial.self.free })
