use Rattle.std.proofs.Common.{◌+◌, ◌-◌, ◌/◌, arith}
use Rattle.vb_policy.proofs.Giving.{highs_rise, last_class}
use Rattle.vb_policy.proofs.level.first_class.Goals as goal

pub loop-first-init : goal.loop-first-init
loop-first-init c = record {
  ordered = omega arith;
  before = λ p l. absurd (omega (arith, l));
  enough = omega (
    arith,
    c.requires,
    last_class c.args.tier c.most_priority-last.result c.args.guests.now
        c.most_priority-last.ensures,
  );
}

pub loop-first-preserved : goal.loop-first-preserved
loop-first-preserved c = record {
  ordered = omega (arith, c.loop-first-test.true);
  before = λ p l. omega (
    arith,
    c.all_high.ensures,
    c.if-all_high-lack.false,
    highs_rise c.args.tier p
        (c.loop-first.first + (c.loop-first.last - c.loop-first.first) / 2) c.args.guests.now
        (omega (arith, l)),
  );
  enough = c.loop-first.invariant.enough;
}
