use Rattle.std.proofs.Common.{◌≡◌, take}
use Rattle.vb_policy.specs.Asking.{joined}
use Rattle.vb_policy.proofs.asking.join_forced.Given as goal

-- the first have theirs
abbrev pub invariant-loop-place : goal.invariant-loop-place
invariant-loop-place l = l.targets ≡ joined l.budget (take l.place l.figures) l.initial.targets
