use Rattle.std.proofs.Common.{◌+◌, ◌*◌, arith}
use Rattle.std.proofs.lemmas.Bool.{cases_lt}
use Rattle.std.proofs.Common.{inl, inr}
use Rattle.vb_policy.proofs.Divisions.{all_kept, none_kept, shares_fall}
use Rattle.vb_policy.proofs.level.most_kept.Goals as goal

pub loop-too_much-init : goal.loop-too_much-init
loop-too_much-init c = record {
  ordered = omega arith;
  enough =
      omega (arith, c.requires.enough, none_kept c.args.tier c.args.priority c.args.guests.now);
  too_few = omega (
    arith,
    c.requires.first,
    all_kept c.args.tier c.args.priority c.most_spare.result (c.from.result * 4096 + 1)
        c.args.guests.now (omega (arith, c.from.ensures)) c.most_spare.ensures,
  );
}

pub returns-clause-most : goal.returns-clause-most
returns-clause-most c = λ k enough. elim (cases_lt c.loop-too_much.kept k) [
  | inl more ↦ absurd (omega (
    arith,
    enough,
    c.loop-too_much.invariant.too_few,
    shares_fall c.args.tier c.args.priority c.loop-too_much.too_much k c.args.guests.now
        (omega (arith, more, c.loop-too_much.invariant.ordered, c.loop-too_much-test.false)),
  ))
  | inr le ↦ le
]
