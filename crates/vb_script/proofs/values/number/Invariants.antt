use Rattle.std.proofs.Common.{◌≡◌, ℕ, ◌^◌, ◌<◌, get_or, drop}
use Rattle.vb_script.specs.Numbers.{IsDigit, decimal_value, with_digits}
use Rattle.vb_script.proofs.values.number.Given as goal

abbrev pub invariant-loop-digit : goal.invariant-loop-digit
invariant-loop-digit l = record {
  digits : (k d : ℕ) → k < l.digit-index → IsDigit (get_or l.word k d);
  value : decimal_value l.word ≡ with_digits l.value (drop l.digit-index l.word);
  fits : l.value < 2 ^ 32;
}
