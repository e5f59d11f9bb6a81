use Rattle.std.proofs.Common.{◌^◌, ◌<◌, length, rules, arith}
use Rattle.vb_script.{specs.Numbers.decimal_value, proofs.Digits.{no_number, whole_number}}
use Rattle.vb_script.proofs.WordLemmas.{number_shown}
use Rattle.vb_script.proofs.values.number.Goals as goal

pub returns-in_err-value-clause-shown : goal.returns-in_err-value-clause-shown
returns-in_err-value-clause-shown c = rw c.from_residual.ensures
    (no_number c.args.word.now c.loop-digit.digit-index c.loop-digit.value
    c.loop-digit.invariant.value c.loop-digit-test.true (λ more. c.in_err-value.ensures more))

pub returns-in_err-value-clause-value : goal.returns-in_err-value-clause-value
returns-in_err-value-clause-value c =
    number_shown c.args.word.now _ (returns-in_err-value-clause-shown c)

pub returns-clause-shown : goal.returns-clause-shown
returns-clause-shown c =
    let whole = whole_number c.args.word.now c.loop-digit.digit-index c.loop-digit.value
    c.loop-digit.invariant.value c.loop-digit-test.false in
    let some : 0 < length c.args.word.now = search rules in
    let small : decimal_value c.args.word.now < 2 ^ 32 =
    omega (arith, whole, c.loop-digit.invariant.fits) in
    (((some, λ k d lt. c.loop-digit.invariant.digits k d (omega arith)), small), whole)

pub returns-clause-value : goal.returns-clause-value
returns-clause-value c = number_shown c.args.word.now _ (returns-clause-shown c)

pub returns-then-is_empty-clause-value : goal.returns-then-is_empty-clause-value
returns-then-is_empty-clause-value c = number_shown c.args.word.now _ (search rules)
