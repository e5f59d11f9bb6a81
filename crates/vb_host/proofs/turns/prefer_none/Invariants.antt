use Rattle.std.proofs.Common.{◌≡◌, length, map}
use Rattle.vb_host.specs.Seats.{preferring}
use Rattle.vb_host.proofs.Mapped.{mapped_from}
use Rattle.vb_host.proofs.turns.prefer_none.Given as goal

-- what is left to do makes it so of all
abbrev pub invariant-loop-guest : goal.invariant-loop-guest
invariant-loop-guest l = (mapped_from (preferring 0) l.guest l.seats ≡ map (preferring 0) l.fn.seats) × (length l.seats ≡ length l.fn.seats)
