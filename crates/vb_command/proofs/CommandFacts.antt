-- How a run of guests on threads ends, and a command by what its words ask for.
use Rattle.std.proofs.Common.{◌≡◌, ◌↔◌, ◌⊎◌, ◌++◌, ℕ, true, List, [], ◌∷◌, length, codes, map}
use Rattle.std.proofs.Common.{refl, arith, inl, inr, sym, ◌∙◌, subst}
use Rattle.std.specs.Prelude.{Option, Some, None, Result, Ok, Err, string_bytes}
use Rattle.std.specs.declared.{alloc.Global.Global, string.String.String, vec.Vec.Vec}
use Rattle.vb_script.specs.Plans.{threads_script_of}
use Rattle.vb_run.specs.declared.plan.{Bells.{Bells, TheVariants.{Plain, Late}}}
use Rattle.vb_command.specs.Arguments.{asked_by, asked_of}
use Rattle.vb_command.specs.{Commands.{EndsAs, CommandEnds}, Ends.{Ends, IsWithinBound, fault_line}}
use Rattle.vb_command.specs.{Plans.{lacks_plan, makes_plan}, Plays.RunsSafely}
use Rattle.vb_command.specs.Threads.{PrintsReport, ThreadsEnds, IsThreadsFault, IsTextFault}
use Rattle.vb_command.specs.declared.arguments.Asked.{Asked, TheVariants.{Run, Threads}}
use Rattle.vb_command.specs.declared.arguments.ArgumentsFault.{ArgumentsFault}
use Rattle.vb_command.specs.declared.arguments.ArgumentsFault.TheVariants.{Refused, Memory as NoRoom}
use Rattle.vb_command.specs.declared.fault.ProgramFault.{ProgramFault}
use Rattle.vb_command.specs.declared.fault.ProgramFault.TheVariants.{BadLine, BadPlan, Memory, Audit}
use Rattle.vb_command.specs.declared.fault.ProgramFault.TheVariants.{Stream}
use Rattle.vb_command.proofs.{EndFacts.faulted, RunFacts.two}

-- ---- why a text has no report: its first bad line, no plan that can be run, or an audit of one

of_scripts : (IsThreadsFault (Err 3) (BadLine 3) × (IsThreadsFault (Err 3) (BadLine 4) → ⊥)
    × (IsThreadsFault (Ok None) (BadLine 3) → ⊥))
    × (IsThreadsFault (Ok None) BadPlan × (IsThreadsFault (Err 3) BadPlan → ⊥)
    × (IsThreadsFault (Ok (Some two)) BadPlan → ⊥))
    × (IsThreadsFault (Ok (Some two)) Audit × (IsThreadsFault (Ok None) Audit → ⊥)
    × (IsThreadsFault (Err 3) Audit → ⊥))
    × (IsThreadsFault (Err 3) Memory × IsThreadsFault (Err 3) Stream)
of_scripts = (
  (refl, λ is. grind (arith, is), λ is. (let wrong = is in absurd cc)),
  (refl, λ is. (let wrong = is in absurd cc), λ is. (let wrong = is in absurd cc)),
  (refl, λ is. (let wrong = is in absurd cc), λ is. (let wrong = is in absurd cc)),
  (tt, tt),
)

-- of a text that is longer than a script may be none of these but an allocation failure and a
-- stream
too_long : (text : List ℕ) → length text ≡ 67108865 → (IsTextFault text (BadLine 3) → ⊥)
    × (IsTextFault text BadPlan → ⊥) × (IsTextFault text Audit → ⊥)
    × IsTextFault text Memory × IsTextFault text Stream
too_long text long = (
  λ is. omega (arith, long, is.1),
  λ is. omega (arith, long, is.1),
  λ is. omega (arith, long, is.1),
  (tt, tt),
  (tt, tt),
)

of_text : (text : List ℕ) → threads_script_of text ≡ Err 3 → IsTextFault text (BadLine 4) → ⊥
of_text text bad is = grind (arith, bad, is)

-- ---- how its run ends, of a text, the output and the errors that are known

abbrev End : List ℕ → List ℕ → List ℕ → ℕ → Type 0
End input written said status = ThreadsEnds
    Late (Some input) (Some (codes "a")) (Some written) (Some (codes "b")) (Some said) status

well : (input written said : List ℕ) → End input written said 0 → IsWithinBound input
    × PrintsReport Late (threads_script_of input) (Some (codes "a")) (Some written)
    × (said ≡ codes "b")
well input written said (inl (zero, (fits, prints), keeps)) = (fits, prints, keeps)
well input written said (inr (fault, is, keeps, inl (status, says))) = absurd (faulted fault status)
well input written said (inr (fault, is, keeps, inr broken)) = absurd (omega (arith, broken))

-- with 1 a bad line or a bad plan, with 3 an allocation failure, with 5 an audit
abbrev IsBy : List ℕ → List ℕ → List ℕ → ProgramFault → Type 0
IsBy input written said fault =
    IsTextFault input fault × (written ≡ codes "a") × (said ≡ codes "b" ++ fault_line fault)

one : (input written said : List ℕ) → End input written said 1
    → ((number : ℕ) × IsBy input written said (BadLine number)) ⊎ IsBy input written said BadPlan
one input written said (inl (wrong, is, keeps)) = absurd (omega (arith, wrong))
one input written said (inr (BadLine n, is, keeps, inl (status, says))) = inl (n, (is, keeps, says))
one input written said (inr (BadPlan, is, keeps, inl (status, says))) = inr (is, keeps, says)
one input written said (inr (Memory, is, keeps, inl (status, says))) = absurd (omega (arith, status))
one input written said (inr (Audit, is, keeps, inl (status, says))) = absurd (omega (arith, status))
one input written said (inr (Stream, is, keeps, inl (status, says))) = absurd (omega (arith, status))
one input written said (inr (fault, is, keeps, inr broken)) = absurd (omega (arith, broken))

five : (input written said : List ℕ) → End input written said 5 → IsBy input written said Audit
five input written said (inl (wrong, is, keeps)) = absurd (omega (arith, wrong))
five input written said (inr (BadLine n, is, keeps, inl (status, says))) = absurd (omega (arith, status))
five input written said (inr (BadPlan, is, keeps, inl (status, says))) = absurd (omega (arith, status))
five input written said (inr (Memory, is, keeps, inl (status, says))) = absurd (omega (arith, status))
five input written said (inr (Audit, is, keeps, inl (status, says))) = (is, keeps, says)
five input written said (inr (Stream, is, keeps, inl (status, says))) = absurd (omega (arith, status))
five input written said (inr (fault, is, keeps, inr broken)) = absurd (omega (arith, broken))

-- on an allocation failure nothing is printed, and the line says so; no run ends with the status of
-- arguments; and with 4 anything may be there
no_memory : (input written said : List ℕ) → End input written said 3 → (written ≡ codes "a")
    × (said ≡ codes "brun: memory\n")
no_memory input written said (inl (wrong, is, keeps)) = absurd (omega (arith, wrong))
no_memory input written said (inr (BadLine n, is, keeps, inl (status, says))) = absurd (omega (arith, status))
no_memory input written said (inr (BadPlan, is, keeps, inl (status, says))) = absurd (omega (arith, status))
no_memory input written said (inr (Memory, is, keeps, inl (status, says))) = (keeps, says)
no_memory input written said (inr (Audit, is, keeps, inl (status, says))) = absurd (omega (arith, status))
no_memory input written said (inr (Stream, is, keeps, inl (status, says))) = absurd (omega (arith, status))
no_memory input written said (inr (fault, is, keeps, inr broken)) = absurd (omega (arith, broken))

no_usage : (input written said : List ℕ) → End input written said 2 → ⊥
no_usage input written said (inl (wrong, is, keeps)) = omega (arith, wrong)
no_usage input written said (inr (BadLine n, is, keeps, inl (status, says))) = omega (arith, status)
no_usage input written said (inr (BadPlan, is, keeps, inl (status, says))) = omega (arith, status)
no_usage input written said (inr (Memory, is, keeps, inl (status, says))) = omega (arith, status)
no_usage input written said (inr (Audit, is, keeps, inl (status, says))) = omega (arith, status)
no_usage input written said (inr (Stream, is, keeps, inl (status, says))) = omega (arith, status)
no_usage input written said (inr (fault, is, keeps, inr broken)) = omega (arith, broken)

four : (written said : List ℕ) → End [] written said 4
four written said = inr (Stream, (tt, tt), tt, inr refl)

-- ---- a command ends as what is asked for

as_asked : (input old new errors said : Option (List ℕ)) (status : ℕ)
    → (EndsAs None input old new errors said status → ⊥)
    × (EndsAs (Some Run) input old new errors said status
    ↔ Ends RunsSafely input old new errors said status)
    × (EndsAs (Some (Threads Late)) input old new errors said status
    ↔ ThreadsEnds Late input old new errors said status)
as_asked input old new errors said status = (λ is. is, (λ is. is, λ is. is), (λ is. is, λ is. is))

abbrev Words : Type 0
Words = Result (Vec (String Global) Global) ArgumentsFault

abbrev Command : Words → List ℕ → List ℕ → ℕ → Type 0
Command words written said status = CommandEnds
    words (Some []) (Some (codes "a")) (Some written) (Some (codes "b")) (Some said) status

-- where nothing is asked for nothing is printed, and where the words couldn't be had the line is
-- that of why
nothing_asked : (words : Words) (written said : List ℕ) (status : ℕ) → asked_by words ≡ None
    → Command words written said status → written ≡ codes "a"
nothing_asked words written said status none (inl ends) =
    absurd (subst (λ (asked : Option Asked). EndsAs asked (Some []) (Some (codes "a")) (Some written)
    (Some (codes "b")) (Some said) status) none ends)
nothing_asked words written said status none (inr (fault, given, keeps, says)) = keeps

no_words : (written said : List ℕ) → (Command (Err NoRoom) written said 3
    → (written ≡ codes "a") × (said ≡ codes "brun: memory\n"))
    × (Command (Err NoRoom) written said 2 → ⊥) × (Command (Err NoRoom) written said 0 → ⊥)
    × (Command (Err Refused) written said 3 → ⊥)
no_words written said = (
  λ is. grind (arith, is),
  λ is. grind (arith, is),
  λ is. grind (arith, is),
  λ is. grind (arith, is),
)

-- where a run is asked for, each of its ends is one of the command's, which has no other with
-- status 1
abbrev RunEnds : List ℕ → List ℕ → ℕ → Type 0
RunEnds written said status =
    Ends RunsSafely (Some []) (Some (codes "a")) (Some written) (Some (codes "b")) (Some said) status

run_ends : (words : Words) (written said : List ℕ) (status : ℕ) → asked_by words ≡ Some Run
    → RunEnds written said status → Command words written said status
run_ends words written said status run ends =
    inl (subst (λ (asked : Option Asked). EndsAs asked (Some []) (Some (codes "a")) (Some written)
    (Some (codes "b")) (Some said) status) (sym run) ends)

ends_by_run : (words : Words) (written said : List ℕ) → asked_by words ≡ Some Run
    → Command words written said 1 → RunEnds written said 1
ends_by_run words written said run (inl ends) =
    subst (λ (asked : Option Asked). EndsAs asked (Some []) (Some (codes "a")) (Some written)
    (Some (codes "b")) (Some said) 1) run ends
ends_by_run words written said run (inr (Refused, given, keeps, inl (wrong, says))) = absurd (omega (arith, wrong))
ends_by_run words written said run (inr (NoRoom, given, keeps, inl (wrong, says))) = absurd (omega (arith, wrong))
ends_by_run words written said run (inr (fault, given, keeps, inr wrong)) = absurd (omega (arith, wrong))
