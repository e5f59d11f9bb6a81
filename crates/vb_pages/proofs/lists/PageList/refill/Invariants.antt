use Rattle.std.proofs.Common.{◌≤◌, ◌<◌, length}
use Rattle.vb_pages.{specs.Areas.HasNoBlock, specs.FreePages.TakesPages}
use Rattle.vb_pages.proofs.lists.PageList.refill.Given as goal

-- as many pages as turns, or the areas have none
abbrev pub invariant-loop-count : goal.invariant-loop-count
invariant-loop-count l = TakesPages l.fn.areas l.self l.areas × (length l.self ≤ l._count)
    × (length l.self < l._count → HasNoBlock l.areas 0)
