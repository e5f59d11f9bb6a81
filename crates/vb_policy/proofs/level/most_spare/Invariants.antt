use Rattle.std.proofs.Common.{◌≤◌, All, take}
use Rattle.vb_policy.proofs.level.most_spare.Given as goal

abbrev pub invariant-loop-guest : goal.invariant-loop-guest
invariant-loop-guest l = All (λ g. g.spare ≤ l.most) (take l.guest-index l.guests)
