-- What an event of the host does, its guests' calls among them (profile).
-- The headline of a host needs all of it but the last part.
use Rattle.std.specs.Prelude.{option_map}
use Rattle.std.specs.Prelude.{◌≡◌, ℕ, ◌-◌, Bool}
use Rattle.std.specs.Prelude.{List, [], ◌∷◌, Option, Some, None}
use Rattle.std.specs.Prelude.{MatchOption, ◌⊎◌, filter_map, ⊤}
use Rattle.vb_model.specs.declared.calls.Call.{Call}
use Rattle.vb_model.specs.declared.calls.Event.{Event}
use Rattle.vb_model.specs.declared.calls.GuestSize.{GuestSize}
use Rattle.vb_model.specs.declared.calls.Event.TheVariants.{Plug, Unplug, Restart, Guest as OnGuest}
use Rattle.vb_model.specs.declared.calls.Event.TheVariants.{Query as OnQuery, Balance}
use Rattle.vb_model.specs.declared.calls.Event.TheVariants.{Frames as CountFrames}
use Rattle.vb_virtio.specs.declared.refusals.Refusal.TheVariants.{NoMemory}
use Rattle.vb_virtio.specs.FirstRefusal.{first_refusal}
use Rattle.vb_virtio.specs.Targets.{Need}
use Rattle.vb_model.specs.declared.replies.Reply.{Reply}
use Rattle.vb_model.specs.declared.replies.Reply.TheVariants.{Plugged, Done, Targets}
use Rattle.vb_model.specs.declared.replies.Reply.TheVariants.{Frames}
use Rattle.vb_model.specs.declared.replies.Reply.TheVariants.{Refused}
use Rattle.vb_model.specs.Guest.{Guest, Config, fresh}
use Rattle.vb_model.specs.declared.calls.Claim.{Claim}
use Rattle.vb_model.specs.Rogue.{GuestStep}
use Rattle.vb_model.specs.Balance.{spare, IsAnswer}
use Rattle.vb_model.specs.HostFrames.{IsOut, Gives, used_frames}
use Rattle.vb_model.specs.HostRefusals.{world_causes}
use Rattle.vb_model.specs.Queries.{Answers}
use Rattle.vb_model.specs.World.{World, guest_at, put_guest}

-- the first spare becomes the new guest's device; the number is the one last vacated, or any that
-- no guest has; or there is no memory for it, and nothing is changed
abbrev pub PlugsIn : GuestSize → List Bool → World → Reply → World → Type 0
PlugsIn size [] w reply new = ⊥
PlugsIn size (paced ∷ rest) w reply new =
    let config : Config = record {
      pages = size.pages;
      queue_size = size.queue_size;
      processors = size.processors;
      paced = paced;
    } in
    ((reply ≡ Refused NoMemory) × (new ≡ w))
    ⊎ ((n : ℕ) × (guest_at w.guests n ≡ None) × MatchOption w.vacated ⊤ (λ last. n ≡ last)
    × (reply ≡ Plugged n)
    × (new ≡ record (put_guest n (Some (fresh config 0)) w) { spares = rest; vacated = None }))

-- a guest's own step; what its claims get is the host's
abbrev pub Calls : ℕ → Guest → World → Call → Reply → World → Type 0
Calls n g w call reply new =
    (claims : List Claim) × (after : Guest)
    × Gives w.frames (IsOut w) claims
    × GuestStep g call claims reply after
    × (new ≡ put_guest n (Some after) w)

-- the guests' targets, in rising number
abbrev pub with_targets : List ℕ → List (Option Guest) → List (Option Guest)
with_targets ts [] = []
with_targets ts (None ∷ xs) = None ∷ with_targets ts xs
with_targets [] (Some g ∷ xs) = Some g ∷ with_targets [] xs
with_targets (t ∷ ts) (Some g ∷ xs) = Some (record g { target = t }) ∷ with_targets ts xs

abbrev pub needs : ℕ → World → List Need
needs floor w =
    filter_map (option_map (λ g. record { pages = g.config.pages; spare = spare floor g })) w.guests

-- the targets of a balance's answer, where it has any, are the guests'
abbrev pub after_balance : Reply → World → World
after_balance (Targets targets) w = record w { guests = with_targets targets w.guests }
after_balance answer w = w

-- an event that isn't refused; one of a guest gets that guest, and a restart leaves it as it was
-- plugged in, with the target kept
abbrev pub Happens : Event → World → Reply → World → Type 0
Happens (Plug size) w reply new = PlugsIn size w.spares w reply new
Happens (Unplug n) w reply new =
    (reply ≡ Done) × (new ≡ record (put_guest n None w) { vacated = Some n })
Happens (Restart n) w reply new =
    MatchOption (guest_at w.guests n) ⊥
    (λ g. (reply ≡ Done) × (new ≡ put_guest n (Some (fresh g.config g.target)) w))
Happens (OnGuest n call) w reply new =
    MatchOption (guest_at w.guests n) ⊥ (λ g. Calls n g w call reply new)
Happens (OnQuery n query) w reply new =
    MatchOption (guest_at w.guests n) ⊥ (λ g. Answers query g reply) × (new ≡ w)
Happens (Balance floor) w reply new =
    IsAnswer w.frames (needs floor w) reply × (new ≡ after_balance reply w)
Happens CountFrames w reply new =
    (reply ≡ Frames (used_frames w) (w.frames - used_frames w)) × (new ≡ w)

abbrev pub WorldStep : World → Event → Reply → World → Type 0
WorldStep w event reply new =
    MatchOption (first_refusal (world_causes w event))
    (Happens event w reply new)
    (λ refusal. (reply ≡ Refused refusal) × (new ≡ w))

-- for laws and proofs: the first spare becomes the device of a new guest
abbrev pub Plugs : Config → List Bool → World → Reply → World → Type 0
Plugs config rest w reply new =
    (n : ℕ)
    × (guest_at w.guests n ≡ None)
    × MatchOption w.vacated ⊤ (λ last. n ≡ last)
    × (reply ≡ Plugged n)
    × (new ≡ record (put_guest n (Some (fresh config 0)) w) { spares = rest; vacated = None })
