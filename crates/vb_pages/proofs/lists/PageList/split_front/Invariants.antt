use Rattle.std.proofs.Common.{◌≡◌, take, drop}
use Rattle.vb_pages.proofs.lists.PageList.split_front.Given as goal

abbrev pub invariant-loop-count : goal.invariant-loop-count
invariant-loop-count l =
    (l.front ≡ take l._count l.fn.self) × (l.self-inside.pages.items ≡ drop l._count l.fn.self)
