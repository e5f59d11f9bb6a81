use Rattle.std.proofs.Common.{◌≡◌, length, map}
use Rattle.vb_host.specs.Seats.{granted_waiting}
use Rattle.vb_host.proofs.Mapped.{mapped_from}
use Rattle.vb_host.proofs.lending.grant_each.Given as goal

-- what is left to do grants all that wait
abbrev pub invariant-loop-guest : goal.invariant-loop-guest
invariant-loop-guest l = (mapped_from granted_waiting l.guest l.seats ≡ map granted_waiting l.fn.seats) × (length l.seats ≡ length l.fn.seats)
