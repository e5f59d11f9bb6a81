use Rattle.vb_policy.proofs.Divisions.{before_class}
use Rattle.vb_policy.proofs.level.divide.Goals as goal

pub most_kept-kept-requires-clause-first : goal.most_kept-kept-requires-clause-first
most_kept-kept-requires-clause-first c = before_class c.first_tier-tier.result
    c.first_class-priority.result c.args.lack c.args.guests.now c.first_tier-tier.ensures.first
    c.first_class-priority.ensures.first
