-- How the run of a script of events ends, and what is printed of it.
use Rattle.std.proofs.Common.{◌≡◌, ◌↔◌, ◌∙◌, ◌++◌, ℕ, true, false, List, [], ◌∷◌, length, codes}
use Rattle.std.proofs.Common.{refl, sym, ap, arith, inl, inr}
use Rattle.std.specs.{Fmt.digits, List.flat_map, Prelude.{Option, Some, None, Result, Ok, Err}}
use Rattle.vb_model.specs.declared.calls.Event.{TheVariants.{Frames as CountFrames}}
use Rattle.vb_model.specs.declared.replies.Reply.{Reply, TheVariants.{Frames, Idle}}
use Rattle.vb_model.specs.{Run.Steps, Safe.Safe, World.World}
use Rattle.vb_reply.specs.Replies.{line_of}
use Rattle.vb_script.specs.declared.lines.Pace.TheVariants.{Immediate, Paced}
use Rattle.vb_script.specs.{Texts.{Said, script_of, told_in}, Words.number_of, Names.{form_of, pace_of}}
use Rattle.vb_command.specs.{Ends.{Ends, IsWithinBound, fault_line}, Faults.status_of}
use Rattle.vb_command.specs.Plays.{host_of, RunsSafely, MayGet, Prints}
use Rattle.vb_command.specs.declared.fault.ProgramFault.{ProgramFault}
use Rattle.vb_command.specs.declared.fault.ProgramFault.TheVariants.{BadLine, BadPlan, Memory, Audit}
use Rattle.vb_command.specs.declared.fault.ProgramFault.TheVariants.{Stream}

-- ---- a script of one event on 64 frames

abbrev said : Said
said = record { frames = 64; spares = Paced ∷ Immediate ∷ []; events = CountFrames ∷ [] }

abbrev text : List ℕ
text = codes "host 64\nspare paced\nspare immediate\n\nframes\n"

read : (script_of text ≡ Ok (Some said)) × (script_of (codes "# nothing\n") ≡ Ok None)
    × (script_of (codes "host 64\n\nunplug\nnot\n") ≡ Err 3)
unfolding script_of told_in number_of form_of pace_of
read = (refl, refl, refl)

-- its host has the frames, the spare devices in their order, and no guest
host : host_of said ≡ record { frames = 64; guests = []; spares = true ∷ false ∷ []; vacated = None }
host = refl

-- ---- the replies that it may get: just those of its events

abbrev Get : List Reply → Type 0
Get replies = MayGet RunsSafely (Ok (Some said)) replies

runs : (reply : Reply) → Get (reply ∷ []) → reply ≡ Frames 0 64
runs reply is = grind arith

not_got : (a b : Reply) → (Get [] → ⊥) × (Get (a ∷ b ∷ []) → ⊥)
not_got a b = (λ is. grind arith, λ is. grind arith)

-- they are a run's from its host on, each state of which is safe
safely : (replies : List Reply) → Get replies
    → (after : List World) × Steps (host_of said) said.events replies after
    × Safe (host_of said) said.events replies after
safely replies (last, run) = (run.after, run.steps, run.safe)

-- a bad line none at all, and nothing no reply
others_got : (MayGet RunsSafely (Err 3) [] → ⊥) × MayGet RunsSafely (Ok None) []
    × (MayGet RunsSafely (Ok None) (Idle ∷ []) → ⊥)
others_got = (λ is. is, refl, λ is. (let wrong : Idle ∷ [] ≡ [] = is in absurd cc))

-- ---- they are printed, a line for each, after what was there

prints_one : (replies : List Reply) (new : List ℕ) → Get replies
    → new ≡ codes "a" ++ flat_map line_of replies → new ≡ codes "aframes used 0 free 64\n"
unfolding digits
prints_one [] new is e = absurd ((not_got Idle Idle).0 is)
prints_one (a ∷ []) new is e = e ∙ ap (λ (r : Reply). codes "a" ++ flat_map line_of (r ∷ [])) (runs a is)
prints_one (a ∷ b ∷ more) new is e = grind arith

prints : (new : List ℕ) (any : Option (List ℕ))
    → (Prints RunsSafely (Ok (Some said)) (Some (codes "a")) (Some new) → new ≡ codes "aframes used 0 free 64\n")
    × (Prints RunsSafely (Ok None) (Some (codes "a")) (Some new) ↔ (new ≡ codes "a"))
    × (Prints RunsSafely (Err 3) any any → ⊥) × (Prints RunsSafely (Ok None) (Some []) None → ⊥)
prints new any = (
  λ is. prints_one is.0 new is.1 is.2,
  (λ is. grind (arith, is), λ e. ([], refl, e)),
  λ is. is.1,
  λ is. is.2,
)

-- ---- how its run ends, of a text, the output and the errors that are known

abbrev End : List ℕ → List ℕ → List ℕ → ℕ → Type 0
End input written said status =
    Ends RunsSafely (Some input) (Some (codes "a")) (Some written) (Some (codes "b")) (Some said) status

-- each status but 4, by the fault: what was printed, and what is said
pub faulted : (fault : ProgramFault) → 0 ≡ status_of fault → ⊥
faulted (BadLine n) e = omega (arith, e)
faulted BadPlan e = omega (arith, e)
faulted Memory e = omega (arith, e)
faulted Audit e = omega (arith, e)
faulted Stream e = omega (arith, e)

well : (input written said : List ℕ) → End input written said 0
    → IsWithinBound input
    × Prints RunsSafely (script_of input) (Some (codes "a")) (Some written) × (said ≡ codes "b")
well input written said (inl (zero, (fits, prints), keeps)) = (fits, prints, keeps)
well input written said (inr (fault, bad, keeps, inl (status, says))) = absurd (faulted fault status)
well input written said (inr (fault, bad, keeps, inr broken)) = absurd (omega (arith, broken))

bad_line : (input written said : List ℕ) → End input written said 1
    → (number : ℕ) × IsWithinBound input × (script_of input ≡ Err number) × (written ≡ codes "a")
    × (said ≡ codes "b" ++ fault_line (BadLine number))
bad_line input written said (inl (wrong, is, keeps)) = absurd (omega (arith, wrong))
bad_line input written said (inr (BadLine n, (fits, bad), keeps, inl (status, says))) =
    (n, fits, bad, keeps, says)
bad_line input written said (inr (BadPlan, none, keeps, says)) = absurd none
bad_line input written said (inr (Memory, any, keeps, inl (status, says))) = absurd (omega (arith, status))
bad_line input written said (inr (Audit, none, keeps, says)) = absurd none
bad_line input written said (inr (Stream, any, keeps, inl (status, says))) = absurd (omega (arith, status))
bad_line input written said (inr (fault, any, keeps, inr broken)) = absurd (omega (arith, broken))

-- on an allocation failure nothing is printed, whatever the text is
no_memory : (input written said : List ℕ) → End input written said 3
    → (written ≡ codes "a") × (said ≡ codes "brun: memory\n")
no_memory input written said (inl (wrong, is, keeps)) = absurd (omega (arith, wrong))
no_memory input written said (inr (BadLine n, bad, keeps, inl (status, says))) = absurd (omega (arith, status))
no_memory input written said (inr (BadPlan, none, keeps, says)) = absurd none
no_memory input written said (inr (Memory, any, keeps, inl (status, says))) = (keeps, says)
no_memory input written said (inr (Audit, none, keeps, says)) = absurd none
no_memory input written said (inr (Stream, any, keeps, inl (status, says))) = absurd (omega (arith, status))
no_memory input written said (inr (fault, any, keeps, inr broken)) = absurd (omega (arith, broken))

-- no other status but 4: not that of arguments, and not that of an audit
no_audit : (input written said : List ℕ) → End input written said 5 → ⊥
no_audit input written said (inl (wrong, is, keeps)) = omega (arith, wrong)
no_audit input written said (inr (BadLine n, bad, keeps, inl (status, says))) = omega (arith, status)
no_audit input written said (inr (BadPlan, none, keeps, says)) = none
no_audit input written said (inr (Memory, any, keeps, inl (status, says))) = omega (arith, status)
no_audit input written said (inr (Audit, none, keeps, says)) = none
no_audit input written said (inr (Stream, any, keeps, inl (status, says))) = omega (arith, status)
no_audit input written said (inr (fault, any, keeps, inr broken)) = omega (arith, broken)

no_usage : (input written said : List ℕ) → End input written said 2 → ⊥
no_usage input written said (inl (wrong, is, keeps)) = omega (arith, wrong)
no_usage input written said (inr (BadLine n, bad, keeps, inl (status, says))) = omega (arith, status)
no_usage input written said (inr (BadPlan, none, keeps, says)) = none
no_usage input written said (inr (Memory, any, keeps, inl (status, says))) = omega (arith, status)
no_usage input written said (inr (Audit, none, keeps, says)) = none
no_usage input written said (inr (Stream, any, keeps, inl (status, says))) = omega (arith, status)
no_usage input written said (inr (fault, any, keeps, inr broken)) = omega (arith, broken)

-- with 4 anything may be there, and with 1 or 3 just what is said above
each_fault : (written said : List ℕ) → End text written said 4
    × End text (codes "a") (codes "brun: memory\n") 3
    × End (codes "not\n") (codes "a") (codes "bscript: line 1: bad line\n") 1
unfolding digits script_of told_in number_of form_of pace_of
each_fault written said = (
  inr (Stream, tt, tt, inr refl),
  inr (Memory, tt, refl, inl (refl, refl)),
  inr (BadLine 1, (omega arith, refl), refl, inl (refl, refl)),
)
