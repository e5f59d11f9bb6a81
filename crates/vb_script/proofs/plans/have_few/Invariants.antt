use Rattle.{std.{proofs.Common.{◌≡◌, drop}, specs.List.list_all}, vb_script.specs.Plans.has_few}
use Rattle.vb_script.proofs.plans.have_few.Given as goal

abbrev pub invariant-loop-plug : goal.invariant-loop-plug
invariant-loop-plug l = list_all has_few l.plugs ≡ list_all has_few (drop l.plug-index l.plugs)
