use Rattle.std.proofs.Common.{◌≡◌, length}
use Rattle.vb_host.specs.Lending.{all_targeted}
use Rattle.vb_host.proofs.Targeting.{targeted_from}
use Rattle.vb_host.proofs.lending.target_all.Given as goal

-- the targets that are left make all of them
abbrev pub invariant-loop-guest : goal.invariant-loop-guest
invariant-loop-guest l = (targeted_from l.guest l.left l.seats ≡ all_targeted l.room l.fn.seats) × (length l.seats ≡ length l.fn.seats)
