use Rattle.std.proofs.Common.{arith}
use Rattle.vb_balance.proofs.Spares.{none_above}
use Rattle.vb_balance.proofs.levels.level_for.Goals as goal

pub loop-low-init : goal.loop-low-init
loop-low-init c = record {
  ordered = omega arith;
  fits =
      omega (arith, none_above c.args.needs.now c.most_spare-high.result c.most_spare-high.ensures);
  enough = c.requires;
}
