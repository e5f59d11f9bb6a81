use Rattle.std.{proofs.Common.{◌≡◌, ◌+◌, ◌*◌, ◌≤◌, length, take}, specs.Prelude.count_by}
use Rattle.vb_pages.proofs.FreeLemmas.{flat}
use Rattle.vb_pages.proofs.free.FreePages.count.Given as goal

abbrev pub invariant-loop-list : goal.invariant-loop-list
invariant-loop-list l =
    (l.count ≡ count_by (λ f. f) l.self.areas + length (flat (take l.list-index l.self.lists)))
    × (length (flat (take l.list-index l.self.lists)) ≤ 16 * l.list-index)
