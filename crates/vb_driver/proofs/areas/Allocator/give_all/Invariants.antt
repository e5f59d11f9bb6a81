use Rattle.std.proofs.Common.{◌≡◌, true, take}
use Rattle.vb_driver.{specs.Areas.{Becomes, flags_of, all_given}, specs.Places.marked}
use Rattle.vb_driver.proofs.areas.Allocator.give_all.Given as goal

abbrev pub invariant-loop-page : goal.invariant-loop-page
invariant-loop-page l = Becomes l.initial.self l.self
    (marked (take l.page-index l.pages) true (flags_of l.initial.self.free)) l.initial.self.held
    × (l.self ≡ all_given (take l.page-index l.pages) l.initial.self)
