use Rattle.vb_policy.proofs.Joins.{asks}
use Rattle.vb_policy.proofs.asking.ask.Goals as goal

pub returns : goal.returns
returns c = asks c.args.budget.now c.args.figures.now c.host_of-host.result
    c.guests_into.new.guests c.decide-decision.result c.decide-decision.new.targets
    c.serve_starved.new.targets c.join_forced.new.targets c.host_of-host.ensures
    c.guests_into.ensures c.decide-decision.ensures c.serve_starved.ensures.usual
    c.serve_starved.ensures.first c.join_forced.ensures
