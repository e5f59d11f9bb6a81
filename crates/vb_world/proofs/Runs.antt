-- A run of a host goes on.
use Rattle.std.proofs.Common.{Bool, List, [], ap, arith, length, refl, subst, suc, sym, take, zero}
use Rattle.std.proofs.Common.{ℕ, ◌++◌, ◌∷◌, ◌≡◌, ◌≤◌}
use Rattle.vb_model.proofs.{RunLaws.{last_world-push, steps-push}, Runs.run_is_safe}
use Rattle.vb_model.specs.{HostEvents.WorldStep, Run.{Steps, last_world}, Safe.IsSafeRun}
use Rattle.vb_model.specs.{World.{World, made}, declared.{calls.Event.Event, replies.Reply.Reply}}

-- From the world w the events may get these replies and lead to a world for which Holds.
pub record Ran (Holds : World → Type 0) (w : World) (events : List Event) (replies : List Reply) :
    Type 0 where
  pub after : List World
  pub steps : Steps w events replies after
  pub holds : Holds (last_world w after)

pub ran_none : {Holds : World → Type 0} (w : World) → Holds w → Ran Holds w [] []
ran_none w holds = record { after = []; steps = tt; holds = holds }

pub ran_on : {Holds New : World → Type 0} (w : World) (events : List Event) (replies : List Reply)
    (event : Event) (reply : Reply) → Ran Holds w events replies
    → ((v : World) → Holds v → (new : World) × New new × WorldStep v event reply new)
    → Ran New w (events ++ event ∷ []) (replies ++ reply ∷ [])
ran_on {New = New} w events replies event reply ran step =
    let (new, holds, happens) = step (last_world w ran.after) ran.holds in record {
      after = ran.after ++ new ∷ [];
      steps = steps-push w events replies ran.after event reply new ran.steps happens;
      holds = subst New (sym (last_world-push w ran.after new)) holds;
    }

pub safe_run : {Holds : World → Type 0} (frames : ℕ) (spares : List Bool) (events : List Event)
    (replies : List Reply) → Ran Holds (made frames spares) events replies
    → (last : World) × Holds last × IsSafeRun (made frames spares) events replies last
safe_run frames spares events replies ran = (
  last_world (made frames spares) ran.after,
  ran.holds,
  record {
    after = ran.after;
    steps = ran.steps;
    ends = refl;
    safe = run_is_safe frames spares (record {
      first = made frames spares;
      events = events;
      replies = replies;
      after = ran.after;
    }) (refl, ran.steps);
  },
)

pub take_whole : {A : Type 0} (n : ℕ) (xs : List A) → length xs ≤ n → take n xs ≡ xs
take_whole zero [] l = refl
take_whole (suc n) [] l = refl
take_whole zero (x ∷ xs) l = absurd (omega (arith, l))
take_whole (suc n) (x ∷ xs) l = ap (λ (ys : List _). x ∷ ys) (take_whole n xs (omega (arith, l)))

-- each event has one reply
pub as_many : (w : World) (events : List Event) (replies : List Reply) (after : List World)
    → Steps w events replies after → length replies ≡ length events
as_many w [] [] [] s = refl
as_many w (e ∷ events) (r ∷ replies) (next ∷ after) s =
    ap suc (as_many next events replies after s.1)
as_many w [] [] (next ∷ after) s = refl
as_many w [] (r ∷ replies) after s = absurd s
as_many w (e ∷ events) [] after s = absurd s
as_many w (e ∷ events) (r ∷ replies) [] s = absurd s
