use Rattle.vb_host.proofs.Granting.{CoveredBelow}
use Rattle.vb_host.proofs.lending.grant_covered.Given as goal

abbrev pub invariant-loop-guest : goal.invariant-loop-guest
invariant-loop-guest l = CoveredBelow l.frames l.fn.seats l.seats l.guest
