-- What each fault means, where it comes from, and what is said of it.
use Rattle.std.proofs.Common.{◌≡◌, ◌<◌, ◌≤◌, ℕ, List, [], ◌∷◌, ◌++◌, length, codes, refl, arith, inl, inr}
use Rattle.std.specs.Prelude.{Bool, true, false, Option, Some, None, Ok, Err, ⊤, map}
use Rattle.std.specs.{Fmt.digits, IoError.error_kind, declared.io.Error.Error}
use Rattle.std.specs.declared.io.ErrorKind.TheVariants.{OutOfMemory, UnexpectedEof}
use Rattle.clap.specs.{Values.kind_of, declared.error.Error.{Error as ClapError}}
use Rattle.clap.specs.declared.error.kind.ErrorKind.TheVariants.{OutOfMemory as NoRoom, InvalidValue}
use Rattle.vb_command.specs.Arguments.{IsFaultOf, IsRefusalOf}
use Rattle.vb_command.specs.Ends.{Says, IsWithinBound, fault_line}
use Rattle.vb_command.specs.Faults.{IsStreamFault, IfBadLine, UnlessStream, IfRead}
use Rattle.vb_command.specs.{Plays.IsPlayFault, Threads.IsPlanFault}
use Rattle.vb_command.specs.declared.arguments.ArgumentsFault.TheVariants.{Refused, Memory}
use Rattle.vb_command.specs.declared.fault.ProgramFault.TheVariants.{BadLine, BadPlan, Audit, Stream}
use Rattle.vb_command.specs.declared.fault.ProgramFault.TheVariants.{Memory as NoMemory}

-- ---- where faults come from: an allocation failure is told from all else

of_arguments : (fault : Error) → (error_kind fault ≡ OutOfMemory
    → IsFaultOf fault Memory × (IsFaultOf fault Refused → ⊥))
    × (error_kind fault ≡ UnexpectedEof
    → IsFaultOf fault Refused × (IsFaultOf fault Memory → ⊥))
of_arguments fault = (λ is. (is, λ other. other is), λ is. (λ e. grind arith, λ e. grind arith))

of_refusals : (fault : ClapError) → (kind_of fault ≡ NoRoom
    → IsRefusalOf fault Memory × (IsRefusalOf fault Refused → ⊥))
    × (kind_of fault ≡ InvalidValue
    → IsRefusalOf fault Refused × (IsRefusalOf fault Memory → ⊥))
of_refusals fault = (λ is. (is, λ other. other is), λ is. (λ e. grind arith, λ e. grind arith))

of_streams : (fault : Error) → (error_kind fault ≡ OutOfMemory
    → IsStreamFault fault NoMemory × (IsStreamFault fault Stream → ⊥))
    × (error_kind fault ≡ UnexpectedEof
    → IsStreamFault fault Stream × (IsStreamFault fault NoMemory → ⊥))
of_streams fault = (λ is. (is, λ other. other is), λ is. (λ e. grind arith, λ e. grind arith))

never_of_streams : (fault : Error) → (IsStreamFault fault (BadLine 1) → ⊥)
    × (IsStreamFault fault BadPlan → ⊥) × (IsStreamFault fault Audit → ⊥)
never_of_streams fault = (λ is. is, λ is. is, λ is. is)

-- ---- what is known beside a fault

-- of a script of events: no plan and no audit, and of a bad line what holds of its number
of_bad_lines : (IfBadLine (BadLine 7) (λ n. n ≡ 7)) × (IfBadLine (BadLine 7) (λ n. n ≡ 8) → ⊥)
    × (IfBadLine BadPlan (λ n. ⊤) → ⊥) × (IfBadLine Audit (λ n. ⊤) → ⊥)
    × IfBadLine NoMemory (λ n. ⊥) × IfBadLine Stream (λ n. ⊥)
of_bad_lines = (refl, λ e. omega (arith, e), λ is. is, λ is. is, tt, tt)

-- all but a broken stream
unless_stream : ((UnlessStream (BadLine 7) ⊥ → ⊥) × (UnlessStream BadPlan ⊥ → ⊥)
    × (UnlessStream NoMemory ⊥ → ⊥) × (UnlessStream Audit ⊥ → ⊥) × UnlessStream Stream ⊥)
    × (UnlessStream (BadLine 7) ⊤ × UnlessStream BadPlan ⊤ × UnlessStream NoMemory ⊤ × UnlessStream Audit ⊤)
unless_stream = ((λ is. is, λ is. is, λ is. is, λ is. is, tt), (tt, tt, tt, tt))

-- all but a broken stream and an allocation failure
if_read : ((IfRead (BadLine 7) ⊥ → ⊥) × (IfRead BadPlan ⊥ → ⊥) × (IfRead Audit ⊥ → ⊥)
    × IfRead NoMemory ⊥ × IfRead Stream ⊥)
    × (IfRead (BadLine 7) ⊤ × IfRead BadPlan ⊤ × IfRead Audit ⊤)
if_read = ((λ is. is, λ is. is, λ is. is, tt, tt), (tt, tt, tt))

-- a script that was read isn't played to its end on an allocation failure, and then this much
-- holds, or for a stream
of_plays : ((IsPlayFault (BadLine 7) ⊤ → ⊥) × (IsPlayFault BadPlan ⊤ → ⊥)
    × (IsPlayFault Audit ⊤ → ⊥) × (IsPlayFault NoMemory ⊥ → ⊥))
    × (IsPlayFault NoMemory ⊤ × IsPlayFault Stream ⊥)
of_plays = ((λ is. is, λ is. is, λ is. is, λ is. is), (tt, tt))

-- a plan is bad where it can't be run, and has an audit where it can
of_plans : (runs : Bool) → ((IsPlanFault runs (BadLine 7) → ⊥) × (IsPlanFault runs Stream → ⊥)
    × IsPlanFault runs NoMemory)
    × (IsPlanFault false BadPlan × (IsPlanFault true BadPlan → ⊥))
    × (IsPlanFault true Audit × (IsPlanFault false Audit → ⊥))
of_plans runs = (
  (λ is. is, λ is. is, tt),
  (refl, λ wrong. absurd (let e : true ≡ false = wrong in cc)),
  (refl, λ wrong. absurd (let e : false ≡ true = wrong in cc)),
)

-- ---- what is said

lines_of_faults : map fault_line (BadLine 1 ∷ BadLine 4294967296 ∷ BadPlan ∷ NoMemory ∷ Audit ∷ Stream ∷ [])
    ≡ codes "script: line 1: bad line\n" ∷ codes "script: line 4294967296: bad line\n"
    ∷ codes "run: bad plan\n" ∷ codes "run: memory\n" ∷ codes "run: audit\n" ∷ [] ∷ []
unfolding digits
lines_of_faults = refl

-- the line after what was there, and its status; where it can't be written whatever is there and 4
said : (old new : Option (List ℕ)) → Says (codes "x") 3 (Some (codes "a")) (Some (codes "ax")) 3
    × Says (codes "x") 3 old new 4 × Says (codes "x") 3 None new 3
said old new = (inl (refl, refl), inr refl, inl (refl, tt))

-- another status, none of it, other words, in front of what was there, and in its place
not_said : (new : Option (List ℕ)) → (Says (codes "x") 3 new new 0 → ⊥) × (Says (codes "x") 3 new new 1 → ⊥)
    × (Says (codes "x") 3 (Some []) (Some []) 3 → ⊥)
    × (Says (codes "x") 3 (Some []) (Some (codes "y")) 3 → ⊥)
    × (Says (codes "x") 3 (Some (codes "a")) (Some (codes "xa")) 3 → ⊥)
    × (Says (codes "x") 3 (Some (codes "a")) (Some (codes "x")) 3 → ⊥)
    × (Says (codes "x") 3 (Some []) None 3 → ⊥)
not_said new = (
  λ is. grind (arith, is),
  λ is. grind (arith, is),
  λ is. grind (arith, is),
  λ is. grind (arith, is),
  λ is. grind (arith, is),
  λ is. grind (arith, is),
  λ is. grind (arith, is),
)

-- 64 MiB is a script, and a byte more is none
bound : (text : List ℕ) → (length text ≡ 67108864 → IsWithinBound text)
    × (length text ≡ 67108865 → IsWithinBound text → ⊥)
bound text = (λ e. omega (arith, e), λ e is. omega (arith, e, is))
