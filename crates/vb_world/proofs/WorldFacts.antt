-- Which worlds a host is one of, worked out.
use Rattle.std.proofs.Common.{◌≡◌, ◌↔◌, ◌≤◌, ℕ, zero, suc, Bool, true, false, List, [], ◌∷◌, refl, arith}
use Rattle.std.specs.Prelude.{Option, Some, None, replicate}
use Rattle.std.specs.declared.{alloc.Global.Global, dyn_box.DynBox.DynBox}
use Rattle.slab.specs.Slab.{Slab, get}
use Rattle.vb_model.specs.{Guest.{Guest, fresh}, World.{World as Model, guest_at, made}}
use Rattle.{vb_ram.specs.{Pages.Pages, Part.Part}, vb_slot.specs.Spare.IsSpare}
use Rattle.vb_slot.specs.Stands.{Stands}
use Rattle.vb_world.specs.{Hosts.{IsHost, IsWorld, StandsAt, spare_as}, declared.world.World.World}

abbrev guest : List (Option ℕ) → Guest
guest frames = record (fresh (record { pages = 4; queue_size = 8; processors = 1; paced = false }) 0)
    { frames = frames }

-- slots and spare devices that are told by numbers
abbrev Stand : ℕ → Guest → Type 0
Stand s g = s ≡ g.target

abbrev Spare : Bool → Bool → Type 0
Spare d paced = d ≡ paced

abbrev IsOf : Slab ℕ → List Bool → List Bool → Model → Type 0
IsOf slots out devices w = IsHost Stand Spare slots out devices w

abbrev slots : List (Option ℕ) → ℕ → ℕ → Slab ℕ
slots values next room = record { slots = values; vacant_key = next; capacity = room }

-- guest 0, the last one gone was guest 1, and frame 1 of two is out
abbrev world : Model
world = record
    { frames = 2; guests = Some (guest (Some 1 ∷ [])) ∷ []; spares = true ∷ []; vacated = Some 1 }

-- a slot for another guest, one too many, one too few, no room for eight, another number next, a
-- frame too few, one that is out and backs no page, one that backs a page and isn't out, a device
-- of another pace, and none
no_host : (IsOf (slots (Some 5 ∷ []) 1 8) (false ∷ true ∷ []) (true ∷ []) world → ⊥)
    × (IsOf (slots (Some 0 ∷ Some 0 ∷ []) 1 8) (false ∷ true ∷ []) (true ∷ []) world → ⊥)
    × (IsOf (slots [] 1 8) (false ∷ true ∷ []) (true ∷ []) world → ⊥)
    × (IsOf (slots (Some 0 ∷ []) 1 7) (false ∷ true ∷ []) (true ∷ []) world → ⊥)
    × (IsOf (slots (Some 0 ∷ []) 2 8) (false ∷ true ∷ []) (true ∷ []) world → ⊥)
    × (IsOf (slots (Some 0 ∷ []) 1 8) (false ∷ true ∷ false ∷ []) (true ∷ []) world → ⊥)
    × (IsOf (slots (Some 0 ∷ []) 1 8) (true ∷ true ∷ []) (true ∷ []) world → ⊥)
    × (IsOf (slots (Some 0 ∷ []) 1 8) (false ∷ false ∷ []) (true ∷ []) world → ⊥)
    × (IsOf (slots (Some 0 ∷ []) 1 8) (false ∷ true ∷ []) (false ∷ []) world → ⊥)
    × (IsOf (slots (Some 0 ∷ []) 1 8) (false ∷ true ∷ []) [] world → ⊥)
no_host = (
  λ is. omega (arith, is.guests 0),
  λ is. omega (arith, is.count),
  λ is. is.guests 0,
  λ is. omega (arith, is.room),
  λ is. omega (arith, is.next),
  λ is. omega (arith, is.frames),
  λ is. omega (arith, is.backed 0),
  λ is. omega (arith, is.backed 1),
  λ is. (let wrong : false ≡ true = is.spares.0 in absurd cc),
  λ is. is.spares,
)

-- ---- two guests, frame 1 of two that backs a page of the second

abbrev of_two : List (Option ℕ) → List (Option ℕ) → Model
of_two first second = record {
  frames = 2;
  guests = Some (guest first) ∷ Some (guest second) ∷ [];
  spares = [];
  vacated = None;
}

abbrev both_slots : Slab ℕ
both_slots = slots (Some 0 ∷ Some 0 ∷ []) 2 8

two_guests : IsOf both_slots (false ∷ true ∷ []) [] (of_two [] (None ∷ Some 1 ∷ []))
two_guests = record {
  guests = λ n. grind arith;
  count = refl;
  few = omega arith;
  room = omega arith;
  next = tt;
  frames = refl;
  backed = λ frame. grind arith;
  spares = tt;
}

-- a slot for another second guest; a frame that backs two pages of one, or one of each; and one
-- that backs a page and that the host hasn't
not_of_two : (IsOf (slots (Some 0 ∷ Some 5 ∷ []) 2 8) (false ∷ true ∷ []) [] (of_two [] (Some 1 ∷ [])) → ⊥)
    × (IsOf both_slots (false ∷ true ∷ []) [] (of_two [] (Some 1 ∷ Some 1 ∷ [])) → ⊥)
    × (IsOf both_slots (false ∷ true ∷ []) [] (of_two (Some 1 ∷ []) (Some 1 ∷ [])) → ⊥)
    × (IsOf both_slots (false ∷ true ∷ []) [] (of_two (Some 7 ∷ []) (Some 1 ∷ [])) → ⊥)
not_of_two = (
  λ is. omega (arith, is.guests 1),
  λ is. omega (arith, is.backed 1),
  λ is. omega (arith, is.backed 1),
  λ is. omega (arith, is.backed 7),
)

-- eight guests are as many as a host has
eight : IsOf (slots (replicate 8 (Some 0)) 8 8) [] []
    (record { frames = 0; guests = replicate 8 (Some (guest [])); spares = []; vacated = None })
eight = record {
  guests = stand;
  count = refl;
  few = omega arith;
  room = omega arith;
  next = tt;
  frames = refl;
  backed = λ frame. grind arith;
  spares = tt;
} where
  stand : (n : ℕ) → StandsAt Stand (get (slots (replicate 8 (Some 0)) 8 8) n)
      (guest_at (replicate 8 (Some (guest []))) n)
  stand zero = refl
  stand (suc zero) = refl
  stand (suc (suc zero)) = refl
  stand (suc (suc (suc zero))) = refl
  stand (suc (suc (suc (suc zero)))) = refl
  stand (suc (suc (suc (suc (suc zero))))) = refl
  stand (suc (suc (suc (suc (suc (suc zero)))))) = refl
  stand (suc (suc (suc (suc (suc (suc (suc zero))))))) = refl
  stand (suc (suc (suc (suc (suc (suc (suc (suc n)))))))) = tt

-- nine guests are too many for any host
nine : (slab : Slab ℕ) (out : List Bool) → IsOf slab out []
    (record { frames = 2; guests = replicate 9 (Some (guest [])); spares = []; vacated = None }) → ⊥
nine slab out is = omega (arith, is.few)

-- a host as it is made
made_host : IsOf (slots [] 0 8) (false ∷ false ∷ []) (true ∷ false ∷ []) (made 2 (true ∷ false ∷ []))
made_host = record {
  guests = λ n. grind arith;
  count = refl;
  few = omega arith;
  room = omega arith;
  next = tt;
  frames = refl;
  backed = λ frame. grind arith;
  spares = (refl, (refl, tt));
}

-- a boxed device is a spare of its pace, and a host has its own slots, frames and spare devices
spare : {X : Type 0} {F : X → Type 0} (mem : DynBox X Global F → Pages)
    (part : DynBox X Global F → Part) (d : DynBox X Global F)
    → spare_as mem part d true ↔ (IsSpare (mem d) (part d) × ((part d).paced ≡ true))
spare mem part d = (λ is. is, λ is. is)

of_world : {X : Type 0} {F : X → Type 0} (mem : DynBox X Global F → Pages)
    (part : DynBox X Global F → Part) (host : World X F) (w : Model)
    → IsWorld mem part host w ↔ IsHost
    (λ s g. Stands false (mem s.device.device) (part s.device.device) s.driver g)
    (λ d paced. IsSpare (mem d) (part d) × ((part d).paced ≡ paced)) host.slots host.table
    host.spares.items w
of_world mem part host w = (λ is. is, λ is. is)
