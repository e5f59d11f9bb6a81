-- Why the host refuses an event, first cause first (profile).
-- The headline of a host needs all of it but `plugged_count`.
use Rattle.std.specs.Prelude.{ℕ, Bool, not, ◌==◌, length, nat_le}
use Rattle.std.specs.Prelude.{List, [], ◌∷◌, is_none, is_some}
use Rattle.std.specs.Prelude.{count_by}
use Rattle.vb_model.specs.declared.calls.Event.{Event}
use Rattle.vb_model.specs.declared.calls.Event.TheVariants.{Plug, Unplug, Restart, Guest as OnGuest}
use Rattle.vb_model.specs.declared.calls.Event.TheVariants.{Query as OnQuery}
use Rattle.vb_virtio.specs.declared.refusals.Refusal.TheVariants.{NoGuest, BadConfig, TooMany}
use Rattle.vb_virtio.specs.declared.refusals.Refusal.TheVariants.{NoDevice}
use Rattle.vb_virtio.specs.Limits.{is_config}
use Rattle.vb_virtio.specs.declared.limits.TheConstants.{MAX_GUESTS}
use Rattle.vb_virtio.specs.FirstRefusal.{Cause, ◌⇒◌}
use Rattle.vb_model.specs.World.{World, guest_at}

abbrev pub plugged_count : World → ℕ
plugged_count w = count_by (λ x. is_some x) w.guests

abbrev pub lacks_guest : World → ℕ → Bool
lacks_guest w n = is_none (guest_at w.guests n)

abbrev pub world_causes : World → Event → List Cause
world_causes w (Plug size) =
    (not (is_config size.pages size.queue_size size.processors) ⇒ BadConfig)
    ∷ (nat_le MAX_GUESTS (count_by (λ x. is_some x) w.guests) ⇒ TooMany)
    ∷ ((length w.spares == 0) ⇒ NoDevice)
    ∷ []
world_causes w (Unplug n) = (lacks_guest w n ⇒ NoGuest) ∷ []
world_causes w (Restart n) = (lacks_guest w n ⇒ NoGuest) ∷ []
world_causes w (OnGuest n call) = (lacks_guest w n ⇒ NoGuest) ∷ []
world_causes w (OnQuery n query) = (lacks_guest w n ⇒ NoGuest) ∷ []
world_causes w _ = []
