-- What the calls on a guest promise of whatever it represents, and what a write, a keeper and a
-- buffer are told apart by.
use Rattle.std.proofs.Common.{◌≡◌, ◌↔◌, true, false, List, [], ◌∷◌, refl}
use Rattle.std.specs.Prelude.{Bool, Result, Err}
use Rattle.vb_model.specs.declared.{calls.Call.Call, calls.Claim.Claim, calls.Query.Query}
use Rattle.vb_virtio.specs.declared.refusals.Refusal.{Refusal}
use Rattle.vb_virtio.specs.declared.refusals.Refusal.TheVariants.{NotHeld}
use Rattle.vb_virtio.specs.Layout.{ring_page}
use Rattle.vb_model.specs.declared.replies.Reply.{Reply}
use Rattle.vb_model.specs.declared.places.Place.TheVariants.{Free, Used}
use Rattle.vb_model.specs.{Guest.Guest, Queries.Answers, Requests.{Figures, BufferPosted}}
use Rattle.vb_ram.specs.{Pages.Pages, Part.Part}
use Rattle.vb_driver.specs.{State.{DriverState, fresh_driver}, Coding.AreFigures}
use Rattle.vb_guest.specs.Dispatch.{DeviceStays, WritesAt, LeavesAlone}
use Rattle.vb_guest.specs.{Exact.{IsQuiet, KeepsFrames, PutsBy}, Buffer.HasFigures, Stands.Stands}
use Rattle.vb_guest.specs.Promises.{Moment, SomeGuest, SomeGuestOut, OfEach, EachAnswers, EachSteps}
use Rattle.vb_guest.specs.Promises.{EachStepsAlone, EachRestarts}
use Rattle.vb_guest.specs.Steps.{AreOut, Restarts, StepsAlone, StepsOver, AllReturn}
use Rattle.vb_guest.specs.Supply.{Supply, Moves, nothing}
use Rattle.vb_guest.specs.Steps.{backing_count}

-- ---- whatever guest they represent

-- there is one, with its frames out of the keeper where its device keeps none
stand : (mem : Pages) (part : Part) (d : DriverState) (out : List Bool)
    → (SomeGuest mem part d ↔ ((keeps : Bool) × (g : Guest) × Stands keeps mem part d g))
    × (SomeGuestOut mem part d out
    ↔ ((keeps : Bool) × (g : Guest) × Stands keeps mem part d g × (keeps ≡ false → AreOut g out)))
stand mem part d out = ((λ is. is, λ is. is), (λ is. is, λ is. is))

-- what is promised of each holds of this one
of_this_one : (a b : Moment) (keeps : Bool) (g : Guest) → Stands keeps a.mem a.part a.driver g
    → (query : Query) (reply : Reply) (call : Call) (claims : List Claim)
    (Holds : Guest → Type 0) (Allows : List Bool → Claim → Type 0)
    → (OfEach a.mem a.part a.driver Holds → Holds g)
    × (EachAnswers a.mem a.part a.driver query reply → Answers query g reply)
    × (EachSteps Allows a b claims call reply
    → StepsOver (Stands keeps b.mem b.part b.driver) Allows a.supply b.supply claims g call reply)
    × (EachStepsAlone a.mem b.mem a.part b.part a.driver b.driver call reply
    → StepsAlone (Stands keeps b.mem b.part b.driver) g call reply)
    × (EachRestarts a b → Restarts (Stands keeps b.mem b.part b.driver) a.supply b.supply g)
of_this_one a b keeps g stands query reply call claims Holds Allows = (
  λ each. each keeps g stands,
  λ each. each keeps g stands,
  λ each. each keeps g stands,
  λ each. each keeps g stands,
  λ each. each keeps g stands,
)

-- in a new life all frames of the old one go back, and no other
return : (old new : Supply) (g : Guest)
    → AllReturn old new g ↔ Moves old new nothing (λ n. backing_count n g)
return old new g = (λ all. all, λ all. all)

-- ---- what calls are told apart by

stays : (a b : Moment) → DeviceStays a b ↔ ((b.mem ≡ a.mem) × (b.part ≡ a.part))
stays a b = (λ is. is, λ is. is)

-- page 0 is free, and page 1 used
abbrev driver : DriverState
driver = record (fresh_driver 64 8 1) { places = Free ∷ Used ∷ [] }

writes : (mem : Pages) (part : Part) (supply : Supply) (b : Moment) (claims : List Claim)
    (Allows : List Bool → Claim → Type 0) (result : Result (Unit {0}) Refusal)
    → (WritesAt Allows (record { mem = mem; part = part; driver = driver; supply = supply }) b claims
    0 5 (7 ∷ []) result
    → (result ≡ Err NotHeld) × IsQuiet supply b.supply mem b.mem part b.part claims)
    × (WritesAt Allows (record { mem = mem; part = part; driver = driver; supply = supply }) b claims
    1 5 (7 ∷ []) result
    → PutsBy Allows supply b.supply mem b.mem part b.part claims 1 5 (7 ∷ []) result)
writes mem part supply b claims Allows result = (λ by. by.refused refl, λ by. by.exact refl)

-- the keeper is as it was where the device keeps frames, or where nothing was claimed and no page
-- has another frame
left_alone : (Same : Type 0) (m1 m2 : Pages) (claims : List Claim)
    → (LeavesAlone Same true m1 m2 claims → Same)
    × (LeavesAlone Same false m1 m2 [] → KeepsFrames m1 m2 → Same)
left_alone Same m1 m2 claims = (λ leaves. leaves.unasked refl, λ leaves. leaves.quiet refl)

-- a posted buffer has its figures in the queue's own pages
figures : (mem : Pages) (told : Figures)
    → HasFigures 8 mem (BufferPosted told) ↔ AreFigures mem (ring_page 8 2) told
figures mem told = (λ has. has, λ has. has)
