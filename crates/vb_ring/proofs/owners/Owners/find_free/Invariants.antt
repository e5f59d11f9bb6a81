use Rattle.std.proofs.Common.{◌≡◌, ◌<◌, length}
use Rattle.vb_ring.{specs.Ends.is_unused, specs.Numbers.numbers}
use Rattle.vb_ring.proofs.owners.Owners.find_free.Given as goal

abbrev pub invariant-loop-i : goal.invariant-loop-i
invariant-loop-i g l = (l.path.items ≡ numbers (is_unused l.self) l.i)
    × (length l.path.items < l.count)
