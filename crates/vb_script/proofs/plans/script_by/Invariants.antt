use Rattle.std.proofs.Common.{◌≡◌, ◌++◌, drop}
use Rattle.vb_script.specs.Plans.{calls_in, made_by, script_by}
use Rattle.vb_script.proofs.plans.script_by.Given as goal

abbrev pub invariant-loop-line : goal.invariant-loop-line
invariant-loop-line l = script_by l.guest l.cpu (calls_in l.lines)
    ≡ l.script.items ++ script_by l.guest l.cpu (made_by l.chosen (drop l.line-index l.lines))
