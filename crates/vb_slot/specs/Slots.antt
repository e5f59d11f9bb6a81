-- What a slot represents.
use Rattle.std.specs.Prelude.{◌≡◌, Bool, List}
use Rattle.std.specs.declared.alloc.Global.{Global}
use Rattle.std.specs.declared.dyn_box.DynBox.{DynBox}
use Rattle.vb_model.specs.declared.calls.Call.{Call}
use Rattle.vb_model.specs.declared.calls.Claim.{Claim}
use Rattle.vb_model.specs.declared.calls.Query.{Query}
use Rattle.vb_model.specs.declared.replies.Reply.{Reply}
use Rattle.vb_model.specs.Guest.{Guest}
use Rattle.vb_ram.specs.Pages.{Pages}
use Rattle.vb_ram.specs.Part.{Part}
use Rattle.vb_driver.specs.State.{DriverState}
use Rattle.vb_slot.specs.declared.slot.Slot.{Slot}
use Rattle.vb_guest.specs.Promises.{Moment, moment, SomeGuest, SomeGuestOut, OfEach, EachAnswers}
use Rattle.vb_guest.specs.Promises.{EachSteps, EachStepsAlone}
use Rattle.vb_guest.specs.Stands.{Stands}
use Rattle.vb_guest.specs.Steps.{IsBare}
use Rattle.vb_guest.specs.Supply.{Supply, supply_of}

-- The memory of the slot's device, and what the device keeps beside it.
abbrev pub memory_of : {X : Type 0} {F : X → Type 0} → (DynBox X Global F → Pages) → Slot X F
    → Pages
memory_of mem s = mem s.device.device

abbrev pub part_of : {X : Type 0} {F : X → Type 0} → (DynBox X Global F → Part) → Slot X F → Part
part_of part s = part s.device.device

-- The slot's driver.
abbrev pub driver_of : {X : Type 0} {F : X → Type 0} → Slot X F → DriverState
driver_of s = s.driver

-- The device is as it was.
abbrev pub IsUntouched : {X : Type 0} {F : X → Type 0} → (DynBox X Global F → Pages)
    → (DynBox X Global F → Part) → Slot X F → Slot X F → Type 0
IsUntouched mem part old new =
    (memory_of mem new ≡ memory_of mem old) × (part_of part new ≡ part_of part old)

-- The driver, and the boxed device with its memory, are those of this guest, and the device does,
-- or doesn't, keep frames of its own.
abbrev pub stands_for : {X : Type 0} {F : X → Type 0} → Bool → (DynBox X Global F → Pages)
    → (DynBox X Global F → Part) → Slot X F → Guest → Type 0
stands_for keeps mem part s g = Stands keeps (memory_of mem s) (part_of part s) (driver_of s) g

-- The frames of the slot's device, and those of a keeper.
abbrev pub supply_at : {X : Type 0} {F : X → Type 0} → (DynBox X Global F → Part) → Slot X F
    → List Bool → Supply
supply_at part s out = supply_of (part_of part s) out

-- Memory, the device's part, the driver, and the frames of the device and of a keeper.
abbrev pub moment_of : {X : Type 0} {F : X → Type 0} → (DynBox X Global F → Pages)
    → (DynBox X Global F → Part) → Slot X F → List Bool → Moment
moment_of mem part s out = moment (memory_of mem s) (part_of part s) (driver_of s) out

-- What the claims of the last call were answered, in order.
abbrev pub claims_of : {X : Type 0} {F : X → Type 0} → Slot X F → List Claim
claims_of s = s.claims.items

-- No page of the slot's guest has a frame, and its device has none to hand back.
abbrev pub is_empty : {X : Type 0} {F : X → Type 0} → (DynBox X Global F → Pages)
    → (DynBox X Global F → Part) → Slot X F → Type 0
is_empty mem part s = IsBare (memory_of mem s) (part_of part s)

-- ---- what the calls promise, each of whatever guest the slot represents

-- The slot represents a guest.
abbrev pub HasGuest : {X : Type 0} {F : X → Type 0} → (DynBox X Global F → Pages)
    → (DynBox X Global F → Part) → Slot X F → Type 0
HasGuest mem part s = SomeGuest (memory_of mem s) (part_of part s) (driver_of s)

-- It does, and where the device keeps no frames, those that back the guest's pages are out of the
-- keeper.
abbrev pub HasGuestOut : {X : Type 0} {F : X → Type 0} → (DynBox X Global F → Pages)
    → (DynBox X Global F → Part) → Slot X F → List Bool → Type 0
HasGuestOut mem part s out =
    SomeGuestOut (memory_of mem s) (part_of part s) (driver_of s) out

-- Of whatever guest the slot represents this holds.
abbrev pub OfItsGuest : {X : Type 0} {F : X → Type 0} → (DynBox X Global F → Pages)
    → (DynBox X Global F → Part) → Slot X F → (Guest → Type 0) → Type 0
OfItsGuest mem part s Holds = OfEach (memory_of mem s) (part_of part s) (driver_of s) Holds

-- Of whatever guest the slot represents this is the answer to a question.
abbrev pub SlotAnswers : {X : Type 0} {F : X → Type 0} → (DynBox X Global F → Pages)
    → (DynBox X Global F → Part) → Slot X F → Query → Reply → Type 0
SlotAnswers mem part s query reply =
    EachAnswers (memory_of mem s) (part_of part s) (driver_of s) query reply

-- From whatever guest the slot represents, while just these frames of the keeper are out, a step of
-- it, and after it the slot represents what came out.
abbrev pub SlotSteps : {X : Type 0} {F : X → Type 0} → (List Bool → Claim → Type 0)
    → (DynBox X Global F → Pages) → (DynBox X Global F → Part) → Slot X F → List Bool → Slot X F
    → List Bool → Call → Reply → Type 0
SlotSteps Answers mem part old old_out new new_out call reply =
    EachSteps Answers (moment_of mem part old old_out) (moment_of mem part new new_out)
    (claims_of new) call reply

-- The same of a step that claims nothing, and of which no frame enters or leaves a page.
abbrev pub SlotStepsAlone : {X : Type 0} {F : X → Type 0} → (DynBox X Global F → Pages)
    → (DynBox X Global F → Part) → Slot X F → Slot X F → Call → Reply → Type 0
SlotStepsAlone mem part old new call reply =
    EachStepsAlone (memory_of mem old) (memory_of mem new) (part_of part old) (part_of part new)
    (driver_of old) (driver_of new) call reply
