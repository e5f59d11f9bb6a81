-- From what a call ties and the model's step to what the guest's clauses say.
use Rattle.std.specs.Prelude.{◌≡◌, Bool, true, false, List, [], ◌∷◌, Some, None, if◌then◌else◌, ◌⊎◌}
use Rattle.{std.proofs.Common.{ap, arith}, vb_model.specs.declared.calls.{Call.Call, Claim.Claim}}
use Rattle.vb_virtio.specs.declared.refusals.Refusal.{Refusal}
use Rattle.vb_virtio.specs.FirstRefusal.{Cause, ◌⇒◌, first_refusal}
use Rattle.vb_model.specs.declared.replies.Reply.{Reply}
use Rattle.vb_model.specs.declared.replies.Reply.TheVariants.{Refused}
use Rattle.vb_model.specs.Requests.{no_requests}
use Rattle.vb_model.specs.Guest.{Guest}
use Rattle.vb_model.specs.{Refusals.refusal_of, Rogue.GuestStep, Step.{Performs, HonestStep}}
use Rattle.vb_model.proofs.{CallSteps.honest_keeps, OrderlySteps.honest_order}
use Rattle.{vb_ram.specs.{Pages.Pages, Part.Part}, vb_driver.specs.State.{FreePages, DriverState}}
use Rattle.vb_guest.specs.{Stands.{Honest, Ties, IsIdle, IsRunning}, Steps.StepsAlone}

pub first_holds : {b : Bool} (why : Refusal) (rest : List Cause)
    → b ≡ true → first_refusal ((b ⇒ why) ∷ rest) ≡ Some why
first_holds why rest e = ap (λ (v : Bool). if v then Some why else first_refusal rest) e

pub honest_refused : (g : Guest) (call : Call) (why : Refusal) → refusal_of g call ≡ Some why
    → HonestStep g call [] (Refused why) g
honest_refused g call why e = grind arith

pub honest_performed : (g : Guest) (call : Call) (claims : List Claim) (reply : Reply) (new : Guest)
    → refusal_of g call ≡ None → Performs call g claims reply new
    → HonestStep g call claims reply new
honest_performed g call claims reply new e does = grind arith

pub guest_step : (g : Guest) (call : Call) (claims : List Claim) (reply : Reply) (new : Guest)
    → g.rogue ≡ false → HonestStep g call claims reply new → GuestStep g call claims reply new
guest_step g call claims reply new honest step = grind arith

-- a guest that isn't initialised asks nothing back
nothing_asked : {mem : Pages} {part : Part} {d : DriverState} {g : Guest}
    → IsIdle g ⊎ IsRunning mem part d g → g.status ≡ 0 → g.deflate ≡ no_requests
nothing_asked h4 down = grind arith

pub still_stands : {m1 m2 : Pages} {p1 p2 : Part} {d1 d2 : DriverState} {g : Guest}
    (call : Call) (claims : List Claim) (reply : Reply) {new : Guest} → Honest m1 p1 d1 g
    → HonestStep g call claims reply new → Ties m2 p2 d2 new → Honest m2 p2 d2 new
still_stands {g} call claims reply {new} stands step ties =
    grind (
      arith,
      honest_keeps g call claims reply new stands.consistent
          (λ down. nothing_asked stands.ties.queues down) step ties.parts.guest.honest,
      honest_order
          g call claims reply new stands.consistent stands.orderly step ties.parts.guest.honest,
    )

pub steps_alone : {m1 m2 : Pages} {p1 p2 : Part} {d1 d2 : DriverState} {g : Guest}
    {call : Call} {reply : Reply} {new : Guest} → Honest m1 p1 d1 g → HonestStep g call [] reply new
    → Ties m2 p2 d2 new → new.frames ≡ g.frames → StepsAlone (Honest m2 p2 d2) g call reply
steps_alone {g} {call} {reply} {new} stands step ties frames = grind (
  arith,
  still_stands call [] reply stands step ties,
  guest_step g call [] reply new stands.ties.parts.guest.honest step,
)

-- nothing is changed
pub ties_same : {m1 m2 : Pages} {p1 p2 : Part} {d1 d2 : DriverState} {g : Guest}
    → m2 ≡ m1 → p2 ≡ p1 → d2 ≡ d1 → Ties m1 p1 d1 g → Ties m2 p2 d2 g
ties_same m p d ties = grind arith

-- the page areas are none of the guest's
pub ties_areas : {m : Pages} {p : Part} {d : DriverState} {g : Guest} (areas : FreePages)
    → Ties m p d g → Ties m p (record d { areas = areas }) g
ties_areas areas ties = grind arith

pub honest_own : {m1 m2 : Pages} {p1 p2 : Part} {d : DriverState} {g : Guest}
    → m2 ≡ m1 → p2 ≡ record p1 { own = p2.own } → Honest m1 p1 d g → Honest m2 p2 d g
honest_own m p honest = grind arith

-- a refused call
pub refused_alone : {m1 m2 : Pages} {p1 p2 : Part} {d1 d2 : DriverState}
    {g : Guest} {call : Call} {why : Refusal} → Honest m1 p1 d1 g → refusal_of g call ≡ Some why
    → m2 ≡ m1 → p2 ≡ p1 → d2 ≡ d1 → StepsAlone (Honest m2 p2 d2) g call (Refused why)
refused_alone stands e m p d = grind arith
