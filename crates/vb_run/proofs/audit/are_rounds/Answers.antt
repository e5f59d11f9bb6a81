use Rattle.std.proofs.Common.{rules, refl}
use Rattle.vb_run.{specs.Reports.IsRound, proofs.Lists.{all_next, all_whole}}
use Rattle.vb_run.proofs.audit.are_rounds.Goals as goal

pub loop-round-preserved : goal.loop-round-preserved
loop-round-preserved c =
    all_next (IsRound c.args.plan.now) c.args.rounds.now c.loop-round.round-index
    c.round-item.result (search rules) c.loop-round.invariant (search rules)

pub returns : goal.returns
returns c = (
  λ t. all_whole (IsRound c.args.plan.now) c.args.rounds.now c.loop-round.round-index
      (search rules) c.loop-round.invariant,
  λ all. refl,
)
