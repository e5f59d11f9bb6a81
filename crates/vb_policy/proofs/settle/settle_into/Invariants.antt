use Rattle.std.proofs.Common.{◌≡◌, map, take}
use Rattle.vb_policy.specs.Settling.{settled}
use Rattle.vb_policy.proofs.settle.settle_into.Given as goal

-- the first have theirs
abbrev pub invariant-loop-place : goal.invariant-loop-place
invariant-loop-place l =
    take l.place l.targets ≡ map (settled l.host l.division l.gap) (take l.place l.guests)
