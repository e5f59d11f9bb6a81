use Rattle.std.proofs.Common.{◌+◌, ◌*◌, ◌≤◌, length}
use Rattle.vb_host.proofs.Granting.{GrantedInTurn}
use Rattle.vb_host.proofs.Grants.{how_many}
use Rattle.vb_host.proofs.lending.grant_in_turn.Given as goal

abbrev pub invariant-loop-guest : goal.invariant-loop-guest
invariant-loop-guest l = GrantedInTurn l.frames l.fn.seats l.seats l.lent × (l.lent ≤ 8589934590 * length l.fn.seats + 4294967295)

-- each grant leaves one fewer that waits
abbrev pub decreases-loop-guest : goal.decreases-loop-guest
decreases-loop-guest l = how_many l.seats
