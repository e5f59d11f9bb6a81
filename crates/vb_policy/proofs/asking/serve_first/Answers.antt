use Rattle.std.proofs.Common.{map}
use Rattle.vb_policy.specs.Asking.{host_of}
use Rattle.vb_policy.specs.Needs.{yielding}
use Rattle.vb_policy.proofs.Joins.{decides_so}
use Rattle.vb_policy.proofs.asking.serve_first.Goals as goal

pub returns : goal.returns
returns c = (
  c.decide.result,
  decides_so c.args.host.now
      (host_of c.args.budget.now c.args.figures.now) c.yielding_into.new.guests
      (map (yielding c.args.budget.now) c.args.figures.now) c.decide.result c.decide.new.targets
      c.requires.host c.yielding_into.ensures c.decide.ensures,
)
