use Rattle.{std.proofs.Common.{◌≡◌, drop}, vb_run.specs.Plans.are_scripts}
use Rattle.vb_run.proofs.plan.are_scripts.Given as goal

-- what is left decides
abbrev pub invariant-loop-cpu : goal.invariant-loop-cpu
invariant-loop-cpu l = are_scripts 0 l.scripts ≡ are_scripts l.cpu (drop l.cpu l.scripts)
