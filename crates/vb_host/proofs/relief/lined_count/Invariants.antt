use Rattle.std.proofs.Common.{◌≡◌, ◌≤◌, take}
use Rattle.vb_host.specs.Relief.{count}
use Rattle.vb_host.specs.Seats.{may_defer}
use Rattle.vb_host.proofs.relief.lined_count.Given as goal

abbrev pub invariant-loop-seat : goal.invariant-loop-seat
invariant-loop-seat l = (l.count ≡ count may_defer (take l.seat-index l.seats)) × (l.count ≤ l.seat-index)
