-- What is said of slots and of lone guests: by which memory, device and driver, and at which moment.
use Rattle.std.proofs.Common.{◌≡◌, ◌↔◌, ℕ, Bool, true, false, List, [], ◌∷◌, Option, Some, None}
use Rattle.std.proofs.Common.{refl, sym, ◌∙◌, arith}
use Rattle.std.specs.declared.{alloc.Global.Global, dyn_box.DynBox.DynBox}
use Rattle.vb_model.specs.declared.{calls.Claim.{Claim, TheVariants.Gave}, replies.Reply.Reply}
use Rattle.vb_model.specs.declared.calls.{Call.TheVariants.SetTarget, Query.TheVariants.Memory}
use Rattle.vb_model.specs.declared.replies.Reply.TheVariants.{Statistics}
use Rattle.vb_model.specs.{Guest.{Guest, fresh}, Rogue.GuestStep}
use Rattle.vb_ram.specs.{Pages.Pages, Part.{Part, no_part}}
use Rattle.vb_driver.specs.State.{DriverState}
use Rattle.vb_guest.specs.{Promises.{moment, EachSteps}, Stands.Stands, Steps.{AreOut, IsBare, StepsAlone}}
use Rattle.vb_slot.specs.{Alone.{StepsTo, IsAlone}, declared.slot.Slot.Slot}
use Rattle.vb_slot.specs.Slots.{IsUntouched, stands_for, supply_at, is_empty, HasGuest, HasGuestOut, OfItsGuest}
use Rattle.vb_slot.specs.Slots.{SlotAnswers, SlotSteps, SlotStepsAlone}

-- ---- a guest by itself

abbrev guest : List (Option ℕ) → Guest
guest frames = record (fresh (record { pages = 64; queue_size = 8; processors = 1; paced = false }) 0)
    { frames = frames }

-- it is there afterwards, and the call made these claims
steps_to : (New : Guest → Type 0) (reply : Reply)
    → StepsTo New (Gave 3 ∷ []) (guest []) (SetTarget 5) reply
    → (new : Guest) × New new × GuestStep (guest []) (SetTarget 5) (Gave 3 ∷ []) reply new
steps_to New reply to = (to.new, to.stands, to.step)

-- a frame that backs a page is its device's, and its memory has as many pages as it
not_alone : (mem : Pages) (d : DriverState) → (IsAlone mem no_part d (guest (Some 5 ∷ [])) → ⊥)
    × (IsAlone [] no_part d (guest []) → ⊥)
not_alone mem d = (λ is. omega (arith, is.2 5), λ is. omega (arith, is.1.guest.ties.pages.length_is))

-- ---- a device that is as it was: its memory, and its part

touched : {X : Type 0} {F : X → Type 0} (mem : DynBox X Global F → Pages)
    (part : DynBox X Global F → Part) (old new : Slot X F)
    → (mem old.device.device ≡ [] → mem new.device.device ≡ None ∷ [] → IsUntouched mem part old new → ⊥)
    × ((part old.device.device).target ≡ 4 → (part new.device.device).target ≡ 5
    → IsUntouched mem part old new → ⊥)
touched mem part old new = (
  λ was is same. (let wrong : None ∷ [] ≡ [] = sym is ∙ (same.0 ∙ was) in absurd cc),
  λ was is same. grind (arith, same.1),
)

-- ---- what a slot represents

stands : {X : Type 0} {F : X → Type 0} (mem : DynBox X Global F → Pages)
    (part : DynBox X Global F → Part) (s : Slot X F) (g : Guest) (out : List Bool)
    → ((keeps : Bool) → stands_for keeps mem part s g
    ↔ Stands keeps (mem s.device.device) (part s.device.device) s.driver g)
    × (supply_at part s out ≡ record {
      keeps = (part s.device.device).keeps;
      own = (part s.device.device).own;
      out = out;
    })
    × (is_empty mem part s ↔ IsBare (mem s.device.device) (part s.device.device))
    × (HasGuest mem part s ↔ ((keeps : Bool) × (g : Guest)
    × Stands keeps (mem s.device.device) (part s.device.device) s.driver g))
    × (HasGuestOut mem part s out ↔ ((keeps : Bool) × (g : Guest)
    × Stands keeps (mem s.device.device) (part s.device.device) s.driver g
    × (keeps ≡ false → AreOut g out)))
stands mem part s g out =
    (λ keeps. (λ is. is, λ is. is), refl, (λ is. is, λ is. is), (λ is. is, λ is. is), (λ is. is, λ is. is))

-- of that guest its target and its statistics are those that it has
answers : {X : Type 0} {F : X → Type 0} (mem : DynBox X Global F → Pages)
    (part : DynBox X Global F → Part) (s : Slot X F) (reply : Reply) (keeps : Bool)
    → Stands keeps (mem s.device.device) (part s.device.device) s.driver (guest [])
    → (OfItsGuest mem part s (λ g. g.target ≡ 5) → ⊥)
    × (SlotAnswers mem part s Memory reply → reply ≡ Statistics (guest []).last)
answers mem part s reply keeps is =
    (λ of. omega (arith, of keeps (guest []) is), λ of. of keeps (guest []) is)

-- ---- a step: from the device, the driver and the keeper's frames before it to those after it

steps : {X : Type 0} {F : X → Type 0} (Answers : List Bool → Claim → Type 0)
    (mem : DynBox X Global F → Pages) (part : DynBox X Global F → Part) (old new : Slot X F)
    (out : List Bool) (reply : Reply)
    → SlotSteps Answers mem part old [] new out (SetTarget 5) reply
    ↔ EachSteps Answers (moment (mem old.device.device) (part old.device.device) old.driver [])
    (moment (mem new.device.device) (part new.device.device) new.driver out) new.claims.items
    (SetTarget 5) reply
steps Answers mem part old new out reply = (λ is. is, λ is. is)

steps_alone : {X : Type 0} {F : X → Type 0} (mem : DynBox X Global F → Pages)
    (part : DynBox X Global F → Part) (old new : Slot X F) (reply : Reply)
    → SlotStepsAlone mem part old new (SetTarget 5) reply
    ↔ ((keeps : Bool) (g : Guest)
    → Stands keeps (mem old.device.device) (part old.device.device) old.driver g
    → StepsAlone (Stands keeps (mem new.device.device) (part new.device.device) new.driver) g
    (SetTarget 5) reply)
steps_alone mem part old new reply = (λ is. is, λ is. is)
