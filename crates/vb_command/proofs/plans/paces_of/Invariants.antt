use Rattle.std.proofs.Common.{◌≡◌, map, take}
use Rattle.vb_command.proofs.plans.paces_of.Given as goal

abbrev pub invariant-loop-guest : goal.invariant-loop-guest
invariant-loop-guest l = l.paces.items ≡ map (λ guest. guest.pace) (take l.guest-index l.guests)
