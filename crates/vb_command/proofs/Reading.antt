-- What is known of a text that was read from an input.
use Rattle.std.proofs.Common.{◌≡◌, ℕ, ◌+◌, ◌≤◌, min, List, length, take, Option, Some, None, IfSome}
use Rattle.std.proofs.Common.{IfOk, MatchResult, Result, Ok, Err, ap, subst, ◌∙◌, arith, OnOk}
use Rattle.std.{specs.Prelude.IfErr, specs.Option.option_map}
use Rattle.std.proofs.lemmas.List.{length-take, take_all}
use Rattle.vb_script.{specs.Plans.threads_script_of, specs.Texts.script_of}
use Rattle.vb_command.specs.declared.fault.ProgramFault.TheVariants.{BadLine, BadPlan, Memory, Audit}
use Rattle.vb_command.{specs.declared.fault.ProgramFault.TheVariants.Stream, specs.Ends.IsWithinBound}
use Rattle.vb_command.{specs.declared.fault.ProgramFault.ProgramFault, specs.Faults.{IfBadLine, IfRead}}
use Rattle.vb_command.specs.Threads.{IsTextFault, IsThreadsFault}

-- where no more is read than fits, a text that isn't longer is the whole one
whole_text : (most : ℕ) (known : Option (List ℕ)) (text : List ℕ)
    → IfSome (option_map (take (most + 1)) known) (λ xs. text ≡ xs) → length text ≤ most
    → IfSome known (λ whole. text ≡ whole)
whole_text most None text is few = tt
whole_text most (Some xs) text is few =
    let count : length text ≡ min (most + 1) (length xs) =
    ap (λ (ys : List ℕ). length ys) is ∙ length-take (most + 1) xs in
    is ∙ take_all (most + 1) xs (omega (arith, count, few))

-- so is one that is kept
pub kept_text : {T E : Type 0} (Q : E → Type 0) (items : T → List ℕ) (most : ℕ)
    (known : Option (List ℕ)) (read : List ℕ) (r : Result T E)
    → IfSome (option_map (take (most + 1)) known) (λ xs. read ≡ xs)
    → MatchResult r (λ kept. (items kept ≡ read) × (length read ≤ most)) Q
    → IfOk r (λ kept. IfSome known (λ whole. items kept ≡ whole))
kept_text Q items most known read (Ok kept) is fits = rw fits.0 (whole_text most known read is fits.1)
kept_text Q items most known read (Err fault) is fits = tt

-- what is so of the text that was read is so of the whole input
pub said_of_whole : {T E : Type 0} (P : List ℕ → Type 0) (known : Option (List ℕ))
    (text : List ℕ) (r : Result T E) → IfSome known (λ whole. text ≡ whole) → OnOk r (P text)
    → OnOk r (IfSome known P)
said_of_whole P None text (Ok x) is ok = tt
said_of_whole P (Some whole) text (Ok x) is ok = subst P is ok
said_of_whole P known text (Err fault) is ok = tt

-- what holds anyway holds of a fault that shows that the text was read
if_read : {P : Type 0} (fault : ProgramFault) → P → IfRead fault P
if_read Memory p = tt
if_read Stream p = tt
if_read fault p = p

-- a fault of the text that was read is one of the whole input
pub fault_of_whole : {T : Type 0} (known : Option (List ℕ)) (text : List ℕ)
    (r : Result T ProgramFault) → IfSome known (λ whole. text ≡ whole) → IsWithinBound text
    → IfErr r (λ fault. IsThreadsFault (threads_script_of text) fault)
    → IfErr r (λ fault. IfSome known (λ whole. IsTextFault whole fault))
fault_of_whole known text (Ok x) is few bad = tt
fault_of_whole None text (Err fault) is few bad = tt
fault_of_whole (Some whole) text (Err fault) is few bad =
    subst (λ t. IsTextFault t fault) is (bad, if_read fault few)

-- so is a bad line
pub bad_of_whole : {T : Type 0} (known : Option (List ℕ)) (text : List ℕ)
    (r : Result T ProgramFault) → IfSome known (λ whole. text ≡ whole) → IsWithinBound text
    → IfErr r (λ fault. IfBadLine fault (λ number. script_of text ≡ Err number))
    → IfErr r (λ fault. IfBadLine fault (λ number. IfSome known (λ whole. IsWithinBound whole
    × (script_of whole ≡ Err number))))
bad_of_whole None text (Err (BadLine number)) is few bad = tt
bad_of_whole (Some whole) text (Err (BadLine number)) is few bad =
    subst (λ t. IsWithinBound t × (script_of t ≡ Err number)) is (few, bad)
bad_of_whole known text (Err BadPlan) is few bad = bad
bad_of_whole known text (Err Audit) is few bad = bad
bad_of_whole known text r is few bad = tt
