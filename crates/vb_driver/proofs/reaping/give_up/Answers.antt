use Rattle.std.proofs.Common.{◌≡◌, arith, bit_or, None, Result, OnOk}
use Rattle.vb_status.{specs.Answers.answered_refusal, specs.declared.bits.StatusFault.StatusFault}
use Rattle.vb_driver.proofs.Failing.{accepted, after_failing}
use Rattle.vb_driver.proofs.reaping.give_up.Goals as goal

none_ok : {T : Type 0} (r : Result T StatusFault) (P : Type 0) → answered_refusal r ≡ None
    → OnOk r P → P
none_ok x y e h = grind arith

pub returns-clause-part : goal.returns-clause-part
returns-clause-part g c = grind (arith, bit_or, accepted, none_ok, after_failing)
