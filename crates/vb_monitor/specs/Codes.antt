-- The codes of denials, and the numbers by which a notice remembers one.
use Rattle.std.specs.Prelude.{ℕ, ◌==◌, if◌then◌else◌, Option, Some, None}
use Rattle.vb_chain.specs.declared.fault.ChainFault.{ChainFault}
use Rattle.vb_chain.specs.declared.fault.ChainFault.TheVariants.{BadHead, BadNext, TooLong}
use Rattle.vb_chain.specs.declared.fault.ChainFault.TheVariants.{Indirect, WrongDirection, OutOfRam}
use Rattle.vb_chain.specs.declared.fault.ChainFault.TheVariants.{IndexJump, BadLength, BadPage}
use Rattle.vb_chain.specs.declared.fault.ChainFault.TheVariants.{ReservedPage}
use Rattle.vb_core.specs.declared.device.Denial.{Denial}
use Rattle.vb_core.specs.declared.device.Denial.TheVariants.{NoQueue, BadArgument, NotReady}
use Rattle.vb_core.specs.declared.device.Denial.TheVariants.{NeedsReset, Misplaced, Broken}
use Rattle.vb_request.specs.Refusals.{rule_of}

abbrev pub code_of : Denial → ℕ
code_of (Broken fault) = 2
code_of NotReady = 3
code_of NeedsReset = 4
code_of NoQueue = 5
code_of Misplaced = 6
code_of BadArgument = 7

-- The rule that is broken, and 0 where none is.
abbrev pub rule_in : Denial → ℕ
rule_in (Broken fault) = rule_of fault
rule_in _ = 0

-- The rule of a number, if it is one's.
abbrev pub fault_of : ℕ → Option ChainFault
fault_of rule =
    if rule == 1 then Some BadHead
    else if rule == 2 then Some BadNext
    else if rule == 3 then Some TooLong
    else if rule == 4 then Some Indirect
    else if rule == 5 then Some WrongDirection
    else if rule == 6 then Some OutOfRam
    else if rule == 7 then Some IndexJump
    else if rule == 8 then Some BadLength
    else if rule == 9 then Some BadPage
    else if rule == 10 then Some ReservedPage
    else None

abbrev pub broken_by : Option ChainFault → Option Denial
broken_by (Some fault) = Some (Broken fault)
broken_by None = None

-- The denial of a code and a rule, if it is one's.
abbrev pub why_of : ℕ → ℕ → Option Denial
why_of code rule =
    if code == 2 then broken_by (fault_of rule)
    else if code == 3 then Some NotReady
    else if code == 4 then Some NeedsReset
    else if code == 5 then Some NoQueue
    else if code == 6 then Some Misplaced
    else if code == 7 then Some BadArgument
    else None

-- The code of why a chain isn't served, and 0 where it is.
abbrev pub why_code : Option Denial → ℕ
why_code (Some why) = code_of why
why_code None = 0

abbrev pub end_rule : Option Denial → ℕ
end_rule (Some why) = rule_in why
end_rule None = 0
