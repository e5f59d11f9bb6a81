-- A run goes on by one step.
use Rattle.std.specs.Prelude.{◌≡◌, List, [], ◌∷◌, ◌++◌, refl}
use Rattle.vb_model.{specs.declared.calls.Event.Event, specs.declared.replies.Reply.Reply}
use Rattle.vb_model.{specs.World.World, specs.HostEvents.WorldStep, specs.Run.{Steps, last_world}}

pub steps-push : (w : World) (events : List Event) (replies : List Reply) (after : List World)
    (event : Event) (reply : Reply) (v : World) → Steps w events replies after
    → WorldStep (last_world w after) event reply v
    → Steps w (events ++ event ∷ []) (replies ++ reply ∷ []) (after ++ v ∷ [])
steps-push w [] [] [] event reply v s t = (t, tt)
steps-push w (e ∷ events) (r ∷ replies) (next ∷ after) event reply v s t =
    (s.0, steps-push next events replies after event reply v s.1 t)
steps-push w [] [] (next ∷ after) event reply v s t = absurd s
steps-push w [] (r ∷ replies) after event reply v s t = absurd s
steps-push w (e ∷ events) [] after event reply v s t = absurd s
steps-push w (e ∷ events) (r ∷ replies) [] event reply v s t = absurd s

pub last_world-push : (w : World) (after : List World) (v : World)
    → last_world w (after ++ v ∷ []) ≡ v
last_world-push w [] v = refl
last_world-push w (next ∷ after) v = last_world-push next after v
