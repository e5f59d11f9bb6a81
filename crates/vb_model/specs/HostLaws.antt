-- How far the host's events are determined by the world, but for allocation failures.
use Rattle.std.specs.Prelude.{◌≡◌, ◌≢◌, ℕ, Some}
use Rattle.vb_model.specs.declared.calls.Call.{Call}
use Rattle.vb_model.specs.declared.calls.Event.{Event}
use Rattle.vb_model.specs.declared.calls.Event.TheVariants.{Plug, Guest as OnGuest}
use Rattle.vb_virtio.specs.declared.refusals.Refusal.{Refusal}
use Rattle.vb_virtio.specs.declared.refusals.Refusal.TheVariants.{NoMemory}
use Rattle.vb_model.specs.declared.replies.Reply.{Reply}
use Rattle.vb_model.specs.declared.replies.Reply.TheVariants.{Refused}
use Rattle.vb_model.specs.World.{World}
use Rattle.vb_model.specs.HostEvents.{WorldStep}

-- two answers to one event, with the worlds that they leave
abbrev pub WorldsAgree : Event → World → Reply → World → Reply → World → Type 0
-- of a plug the number is open, where none was given up
WorldsAgree (Plug size) w reply new reply' new' =
    (reply ≡ reply' → new ≡ new')
    × ((last : ℕ) → w.vacated ≡ Some last → reply ≡ reply')
    × ((refusal : Refusal) → reply ≡ Refused refusal → reply ≡ reply')
-- a guest's own step is another matter
WorldsAgree (OnGuest n call) w reply new reply' new' =
    (new.frames ≡ new'.frames) × (new.spares ≡ new'.spares) × (new.vacated ≡ new'.vacated)
-- all else is determined
WorldsAgree _ w reply new reply' new' = (reply ≡ reply') × (new ≡ new')

abbrev pub HostStepsAgree : Type 0
HostStepsAgree =
    (w : World) (event : Event) (reply : Reply) (new : World) (reply' : Reply) (new' : World)
    → WorldStep w event reply new → WorldStep w event reply' new'
    → reply ≢ Refused NoMemory → reply' ≢ Refused NoMemory
    → WorldsAgree event w reply new reply' new'

-- a call of a guest leaves how many frames there are, the devices that no guest has, and the number
-- given up
abbrev pub CallsLeaveTheHost : Type 0
CallsLeaveTheHost =
    (w : World) (n : ℕ) (call : Call) (reply : Reply) (new : World)
    → WorldStep w (OnGuest n call) reply new
    → (new.frames ≡ w.frames) × (new.spares ≡ w.spares) × (new.vacated ≡ w.vacated)
