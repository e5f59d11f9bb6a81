use Rattle.std.proofs.Common.{ap, ◌-◌, ℕ}
use Rattle.vb_balance.proofs.Shares.{by_level}
use Rattle.vb_balance.proofs.sharing.set_targets.Goals as goal

pub returns : goal.returns
returns c = λ frames e. by_level c.args.needs.now frames c.level_for-level.result c.args.lack
    (c.args.lack - c.spared_above.result) c.give.new.targets c.give.result e (ap
    (λ (n : ℕ). c.args.lack - n) c.spared_above.ensures) c.level_for-level.ensures c.give.ensures
