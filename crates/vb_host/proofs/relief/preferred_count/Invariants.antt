use Rattle.std.proofs.Common.{◌≡◌, ◌≤◌, take}
use Rattle.vb_host.specs.Relief.{count}
use Rattle.vb_host.specs.Seats.{is_preferred}
use Rattle.vb_host.proofs.relief.preferred_count.Given as goal

abbrev pub invariant-loop-seat : goal.invariant-loop-seat
invariant-loop-seat l = (l.count ≡ count is_preferred (take l.seat-index l.seats)) × (l.count ≤ l.seat-index)
