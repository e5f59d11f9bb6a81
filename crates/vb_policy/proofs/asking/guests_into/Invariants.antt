use Rattle.std.proofs.Common.{◌≡◌, map, take}
use Rattle.vb_policy.specs.Needs.{guest_of}
use Rattle.vb_policy.proofs.asking.guests_into.Given as goal

-- the first have theirs
abbrev pub invariant-loop-place : goal.invariant-loop-place
invariant-loop-place l = take l.place l.guests ≡ map (guest_of l.budget) (take l.place l.figures)
