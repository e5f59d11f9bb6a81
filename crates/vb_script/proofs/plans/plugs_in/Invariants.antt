use Rattle.{std.proofs.Common.{◌≡◌, ◌++◌, drop}, vb_script.specs.Plans.plugs_in}
use Rattle.vb_script.proofs.plans.plugs_in.Given as goal

abbrev pub invariant-loop-line : goal.invariant-loop-line
invariant-loop-line l = plugs_in l.lines ≡ l.plugs.items ++ plugs_in (drop l.line-index l.lines)
