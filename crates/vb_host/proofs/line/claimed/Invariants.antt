use Rattle.std.proofs.Common.{◌≡◌, ◌+◌, ◌*◌, ◌≤◌, sum_by, take}
use Rattle.vb_host.proofs.line.claimed.Given as goal
use Rattle.vb_host.specs.Seats.{asked, lent}

abbrev pub invariant-loop-seat : goal.invariant-loop-seat
invariant-loop-seat l = (l.pages ≡ sum_by lent (take l.seat-index l.seats) + sum_by asked (take l.seat-index l.seats))
    × (l.pages ≤ 12884901885 * l.seat-index)
