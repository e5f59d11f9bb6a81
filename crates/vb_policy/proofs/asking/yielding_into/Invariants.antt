use Rattle.std.proofs.Common.{◌≡◌, map, take}
use Rattle.vb_policy.specs.Needs.{yielding}
use Rattle.vb_policy.proofs.asking.yielding_into.Given as goal

-- the first have theirs
abbrev pub invariant-loop-place : goal.invariant-loop-place
invariant-loop-place l = take l.place l.guests ≡ map (yielding l.budget) (take l.place l.figures)
