-- How the calls on a guest speak of it: each of whatever guest memory, the device's part and the
-- driver represent, and some only where they represent one.
use Rattle.std.specs.Prelude.{◌≡◌, Bool, false, List}
use Rattle.vb_model.specs.declared.calls.Call.{Call}
use Rattle.vb_model.specs.declared.calls.Claim.{Claim}
use Rattle.vb_model.specs.declared.calls.Query.{Query}
use Rattle.vb_model.specs.declared.replies.Reply.{Reply}
use Rattle.vb_model.specs.Guest.{Guest}
use Rattle.vb_model.specs.Queries.{Answers}
use Rattle.vb_ram.specs.Pages.{Pages}
use Rattle.vb_ram.specs.Part.{Part}
use Rattle.vb_driver.specs.State.{DriverState}
use Rattle.vb_guest.specs.Stands.{Stands}
use Rattle.vb_guest.specs.Steps.{AreOut, Reaches, Restarts, StepsAlone, StepsOver}
use Rattle.vb_guest.specs.Supply.{Supply, supply_of}

-- Memory, the device's part, the driver and the frames' supply at one moment.
pub record Moment : Type 0 where
  pub mem : Pages
  pub part : Part
  pub driver : DriverState
  pub supply : Supply

-- The moment at which just these frames of the keeper are out.
abbrev pub moment : Pages → Part → DriverState → List Bool → Moment
moment mem part d out =
    record { mem = mem; part = part; driver = d; supply = supply_of part out }

-- They represent a guest.
abbrev pub SomeGuest : Pages → Part → DriverState → Type 0
SomeGuest mem part d = (keeps : Bool) × (g : Guest) × Stands keeps mem part d g

-- They represent a guest, and where its device keeps no frames, those that back its pages are out
-- of the keeper.
abbrev pub SomeGuestOut : Pages → Part → DriverState → List Bool → Type 0
SomeGuestOut mem part d out =
    (keeps : Bool) × (g : Guest) × Stands keeps mem part d g × (keeps ≡ false → AreOut g out)

-- Of whatever guest they represent this holds.
abbrev pub OfEach : Pages → Part → DriverState → (Guest → Type 0) → Type 0
OfEach mem part d Holds = (keeps : Bool) (g : Guest) → Stands keeps mem part d g → Holds g

-- Of whatever guest they represent this is the answer to a question.
abbrev pub EachAnswers : Pages → Part → DriverState → Query → Reply → Type 0
EachAnswers mem part d query reply =
    (keeps : Bool) (g : Guest) → Stands keeps mem part d g → Answers query g reply

-- From whatever guest they represent, a step of it over its supply of frames, and after it they
-- represent what came out.
abbrev pub EachSteps : (List Bool → Claim → Type 0) → Moment → Moment → List Claim → Call → Reply
    → Type 0
EachSteps Answers a b claims call reply =
    (keeps : Bool) (g : Guest) → Stands keeps a.mem a.part a.driver g
    → StepsOver (Stands keeps b.mem b.part b.driver) Answers a.supply b.supply claims g call reply

-- From whatever guest they represent, this leads to another one, which they represent after it.
abbrev pub EachReaches : Moment → Moment → (Guest → Guest → Type 0) → Type 0
EachReaches a b Step =
    (keeps : Bool) (g : Guest) → Stands keeps a.mem a.part a.driver g
    → Reaches (Stands keeps b.mem b.part b.driver) (Step g) a.supply b.supply g

-- The same of a step that claims nothing, and of which no frame enters or leaves a page.
abbrev pub EachStepsAlone : Pages → Pages → Part → Part → DriverState → DriverState → Call → Reply
    → Type 0
EachStepsAlone m1 m2 p1 p2 d1 d2 call reply =
    (keeps : Bool) (g : Guest) → Stands keeps m1 p1 d1 g
    → StepsAlone (Stands keeps m2 p2 d2) g call reply

-- Of whatever guest they represent a new life begins, and after it they represent that.
abbrev pub EachRestarts : Moment → Moment → Type 0
EachRestarts a b =
    (keeps : Bool) (g : Guest) → Stands keeps a.mem a.part a.driver g
    → Restarts (Stands keeps b.mem b.part b.driver) a.supply b.supply g
