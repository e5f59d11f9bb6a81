use Rattle.std.proofs.Common.{◌≡◌, map, take}
use Rattle.vb_policy.proofs.decision.keep_into.Given as goal

-- the first have theirs
abbrev pub invariant-loop-place : goal.invariant-loop-place
invariant-loop-place l = take l.place l.targets ≡ map (λ g. g.target) (take l.place l.guests)
