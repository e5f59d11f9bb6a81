use Rattle.std.proofs.Common.{◌≡◌, map, take}
use Rattle.vb_policy.specs.declared.guest.Tier.TheVariants.{Unused}
use Rattle.vb_policy.specs.Settling.{base}
use Rattle.vb_policy.proofs.decision.relieve_into.Given as goal

-- the first have theirs
abbrev pub invariant-loop-place : goal.invariant-loop-place
invariant-loop-place l =
    take l.place l.targets ≡ map (base l.host Unused 0) (take l.place l.guests)
