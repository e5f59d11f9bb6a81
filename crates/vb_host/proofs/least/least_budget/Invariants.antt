use Rattle.std.proofs.Common.{◌≡◌, ◌*◌, ◌≤◌, sum_by, take}
use Rattle.vb_host.proofs.least.least_budget.Given as goal
use Rattle.vb_host.specs.Least.{final_loan}

abbrev pub invariant-loop-seat : goal.invariant-loop-seat
invariant-loop-seat l = (l.pages ≡ sum_by final_loan (take l.seat-index l.seats))
    × (l.pages ≤ 8589934590 * l.seat-index)
