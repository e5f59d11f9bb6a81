-- What ties a host's slots, frames and spare devices to a world of the model.
use Rattle.std.specs.Prelude.{◌≡◌, ℕ, ◌≤◌, Bool, List, [], ◌∷◌, Option, Some, None, length}
use Rattle.std.specs.Prelude.{false, sum_by, MatchOption, ⊤}
use Rattle.std.specs.declared.alloc.Global.{Global}
use Rattle.std.specs.declared.dyn_box.DynBox.{DynBox}
use Rattle.slab.specs.Slab.{Slab, get, slab_len}
use Rattle.vb_virtio.specs.Limits.{max_guests}
use Rattle.vb_virtio.specs.Tests.{one_if}
use Rattle.vb_model.specs.Guest.{Guest}
use Rattle.vb_model.specs.World.{World as Model, guest_at}
use Rattle.vb_model.specs.HostRefusals.{plugged_count}
use Rattle.vb_ram.specs.Pages.{Pages}
use Rattle.vb_ram.specs.Part.{Part}
use Rattle.vb_frames.specs.Out.{is_out}
use Rattle.vb_slot.specs.Slots.{stands_for}
use Rattle.vb_slot.specs.Spare.{IsSpare}
use Rattle.vb_slot.specs.Steps.{backing_count}
use Rattle.vb_world.specs.declared.world.World.{World}

-- how many pages of the guest have the frame, if there is a guest
abbrev pub backing_at : ℕ → Option Guest → ℕ
backing_at frame None = 0
backing_at frame (Some g) = backing_count frame g

-- how many pages of all guests have the frame
abbrev pub backing_of : ℕ → List (Option Guest) → ℕ
backing_of frame guests = sum_by (backing_at frame) guests

-- where there is a slot there is a guest that it represents, and elsewhere none
abbrev pub StandsAt : {S : Type 0} → (S → Guest → Type 0) → Option S → Option Guest → Type 0
StandsAt Stand None None = ⊤
StandsAt Stand None (Some g) = ⊥
StandsAt Stand (Some s) None = ⊥
StandsAt Stand (Some s) (Some g) = Stand s g

-- each device is a spare, and paced or not as the list says
abbrev pub AreSpares : {D : Type 0} → (D → Bool → Type 0) → List D → List Bool → Type 0
AreSpares Spare [] [] = ⊤
AreSpares Spare [] (p ∷ ps) = ⊥
AreSpares Spare (d ∷ ds) [] = ⊥
AreSpares Spare (d ∷ ds) (p ∷ ps) = Spare d p × AreSpares Spare ds ps

-- The slots represent the guests, the frames that are out are those that back pages, each of them
-- one, and the spare devices are there.
pub record IsHost {S D : Type 0} (Stand : S → Guest → Type 0) (Spare : D → Bool → Type 0)
    (slots : Slab S) (out : List Bool) (devices : List D) (w : Model) : Type 0 where
  pub guests : (n : ℕ) → StandsAt Stand (get slots n) (guest_at w.guests n)
  pub count : slab_len slots ≡ plugged_count w
  pub few : plugged_count w ≤ max_guests
  pub room : max_guests ≤ slots.capacity
  pub next : MatchOption w.vacated ⊤ (λ last. last ≡ slots.vacant_key)
  pub frames : length out ≡ w.frames
  pub backed : (frame : ℕ) → backing_of frame w.guests ≡ one_if (is_out out frame)
  pub spares : AreSpares Spare devices w.spares

-- an unused device, by its box, which is paced or not
abbrev pub spare_as : {X : Type 0} {F : X → Type 0} → (DynBox X Global F → Pages) →
    (DynBox X Global F → Part) → DynBox X Global F → Bool → Type 0
spare_as mem part d paced = IsSpare (mem d) (part d) × ((part d).paced ≡ paced)

-- The host is one of this world: it gives its frames to guests whose devices keep none.
abbrev pub IsWorld : {X : Type 0} {F : X → Type 0} → (DynBox X Global F → Pages) →
    (DynBox X Global F → Part) → World X F → Model → Type 0
IsWorld mem part host w =
    IsHost (stands_for false mem part) (spare_as mem part) host.slots host.table host.spares.items w
