use Rattle.std.proofs.Common.{inl, inr, arith}
use Rattle.std.proofs.lemmas.Bool.{cases_lt}
use Rattle.vb_policy.proofs.Settling.{fair_suffices, sums_fall}
use Rattle.vb_policy.proofs.settle.widest_gap.Goals as goal

pub loop-too_wide-init : goal.loop-too_wide-init
loop-too_wide-init c = record {
  ordered = omega arith;
  enough = omega (
    arith,
    c.requires.kept,
    fair_suffices c.args.host.now c.args.division c.args.guests.now,
  );
  too_few = omega (
    arith,
    c.all_settled.ensures,
    c.from-lack.ensures,
    c.if-all_settled-lack.false,
  );
}

pub returns : goal.returns
returns c = record {
  fits = omega (arith, c.loop-too_wide.auto.gap-fits);
  enough = c.loop-too_wide.invariant.enough;
  widest = λ n l enough. elim (cases_lt c.loop-too_wide.gap n) [
    | inl more ↦ absurd (omega (
      arith,
      enough,
      c.loop-too_wide.invariant.too_few,
      sums_fall c.args.host.now c.args.division c.loop-too_wide.too_wide n c.args.guests.now
          (omega (arith, more, c.loop-too_wide.invariant.ordered, c.loop-too_wide-test.false)),
    ))
    | inr le ↦ le
  ];
}
