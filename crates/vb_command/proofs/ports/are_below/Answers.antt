use Rattle.std.proofs.Common.{rules, refl, ◌<◌}
use Rattle.vb_run.proofs.Lists.{all_next, all_whole}
use Rattle.vb_command.proofs.ports.are_below.Goals as goal

pub loop-number-preserved : goal.loop-number-preserved
loop-number-preserved c = all_next (λ n. n < c.args.bound) c.args.numbers.now
    c.loop-number.number-index 0 (search rules) c.loop-number.invariant (search rules)

pub returns : goal.returns
returns c = (
  λ t. all_whole (λ n. n < c.args.bound) c.args.numbers.now c.loop-number.number-index
      (search rules) c.loop-number.invariant,
  λ all. refl,
)
