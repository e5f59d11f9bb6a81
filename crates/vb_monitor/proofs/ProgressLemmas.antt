-- What is remembered of a notice is read back.
use Rattle.std.proofs.Common.{◌≡◌, ◌∙◌, ap, refl, arith, ℕ, ◌<◌, ◌≤◌, Bool, Option, Some, None}
use Rattle.std.specs.Prelude.{min}
use Rattle.vb_chain.specs.declared.fault.ChainFault.TheVariants.{BadHead, BadNext, TooLong}
use Rattle.vb_chain.specs.declared.fault.ChainFault.TheVariants.{Indirect, WrongDirection, OutOfRam}
use Rattle.vb_chain.specs.declared.fault.ChainFault.TheVariants.{IndexJump, BadLength, BadPage}
use Rattle.vb_chain.specs.declared.fault.ChainFault.TheVariants.{ReservedPage}
use Rattle.vb_core.specs.declared.device.Denial.{Denial}
use Rattle.vb_core.specs.declared.device.Denial.TheVariants.{NoQueue, BadArgument, NotReady}
use Rattle.vb_core.specs.declared.device.Denial.TheVariants.{NeedsReset, Misplaced, Broken}
use Rattle.vb_monitor.specs.{declared.step.Walk.Walk, declared.room.TheConstants.MAX_BYTES}
use Rattle.vb_monitor.specs.{Machine.row_bytes, Codes.{code_of, rule_in, why_of, why_code, end_rule}}

pub some_back : (why : Denial) → why_of (code_of why) (rule_in why) ≡ Some why
some_back (Broken BadHead) = refl
some_back (Broken BadNext) = refl
some_back (Broken TooLong) = refl
some_back (Broken Indirect) = refl
some_back (Broken WrongDirection) = refl
some_back (Broken OutOfRam) = refl
some_back (Broken IndexJump) = refl
some_back (Broken BadLength) = refl
some_back (Broken BadPage) = refl
some_back (Broken ReservedPage) = refl
some_back NotReady = refl
some_back NeedsReset = refl
some_back NoQueue = refl
some_back Misplaced = refl
some_back BadArgument = refl

pub why_back : (why : Option Denial) → why_of (why_code why) (end_rule why) ≡ why
why_back (Some why) = some_back why
why_back None = refl

-- a row that has room
min_same : (a b n : ℕ) → b ≡ a → a ≤ n → min b n ≡ a
min_same a b n e le = omega (arith, e, le)

pub row_back : (walk : Walk) (first further : ℕ) (writing : Bool) → first ≡ walk.first →
    further ≡ walk.further → writing ≡ walk.writing → walk.first < 65536 →
    row_bytes walk ≤ MAX_BYTES → (record walk {
      writing = writing;
      first = min first 0xffff;
      further = min further 63;
    }) ≡ walk
row_back walk first further writing e f g lt fits =
    let few = min_same walk.first first 0xffff e (omega (arith, lt)) in
    let after = min_same walk.further further 63 f (omega (arith, fits)) in
    ap (λ (b : Bool). record walk { writing = b; first = min first 0xffff; further = min further 63 }) g
    ∙ (ap (λ (n : ℕ). record walk { first = n; further = min further 63 }) few
    ∙ ap (λ (n : ℕ). record walk { further = n }) after)
