use Rattle.std.{proofs.Common.{◌≡◌, drop}, specs.List.list_all}
use Rattle.vb_script.specs.Plans.{calls_in, is_there, made_by}
use Rattle.vb_script.proofs.plans.are_there.Given as goal

abbrev pub invariant-loop-line : goal.invariant-loop-line
invariant-loop-line l = list_all (is_there l.plugs) (calls_in l.lines)
    ≡ list_all (is_there l.plugs) (made_by l.cpu (drop l.line-index l.lines))
