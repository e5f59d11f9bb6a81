use Rattle.{std.proofs.Common.{◌≡◌, drop}, vb_script.specs.Plans.rounds_in}
use Rattle.vb_script.proofs.plans.rounds_in.Given as goal

abbrev pub invariant-loop-line : goal.invariant-loop-line
invariant-loop-line l = rounds_in l.lines ≡ rounds_in (drop l.line-index l.lines)
