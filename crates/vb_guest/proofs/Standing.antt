-- What represents a guest once its frames are accounted for: from steps of an honest guest to steps
-- over its supply.
use Rattle.std.proofs.Common.{◌≡◌, ℕ, ◌+◌, Bool, false, List, [], sym, ◌∙◌, ap, subst, arith}
use Rattle.vb_model.specs.declared.{calls.{Call.Call, Claim.Claim}, replies.Reply.Reply}
use Rattle.vb_virtio.specs.Tests.{one_if, times}
use Rattle.vb_model.specs.Guest.{Guest}
use Rattle.vb_ram.specs.Pages.{Pages}
use Rattle.{vb_ram.specs.Part.Part, vb_device.specs.Own.has, vb_driver.specs.State.DriverState}
use Rattle.vb_guest.specs.{Stands.{Honest, Rogue, OwnFrames, Stands, StandsBy}, Steps.backing_count}
use Rattle.vb_guest.specs.{Steps.{Frees, AreOut, StepsAlone, StepsOver, StepsFreeing}, Supply.supply_of}
use Rattle.vb_model.specs.Rogue.{GuestStep}
use Rattle.vb_guest.specs.{Supply.{Moves, nothing, AreLoose}, Promises.{EachStepsAlone, EachSteps}}
use Rattle.vb_guest.{specs.Promises.moment, proofs.Moving.{used_own, used_out, by_keeps, moves_as}}
use Rattle.vb_guest.proofs.{Closing.honest_own, Handing.handed_back, Kept.SameOwn, Rogues.rogue_own}

-- ---- the record

-- what the guest's own part of the record is: an honest one's or a rogue one's
abbrev pub IsGuest : Pages → Part → DriverState → Guest → Type 0
IsGuest m p d g = StandsBy g.rogue m p d g

pub honest_is : {m : Pages} {p : Part} {d : DriverState} (g : Guest)
    → Honest m p d g → IsGuest m p d g
honest_is {m} {p} {d} g honest =
    subst (λ b. StandsBy b m p d g) (sym honest.ties.parts.guest.honest) honest

pub rogue_is : {m : Pages} {p : Part} {d : DriverState} (g : Guest)
    → Rogue m p d g → IsGuest m p d g
rogue_is {m} {p} {d} g rogue = subst (λ b. StandsBy b m p d g) (sym rogue.rogue) rogue

-- by which of the two it is
pub by_guest : {P : Type 0} {keeps : Bool} {m : Pages} {p : Part} {d : DriverState} {g : Guest}
    → Stands keeps m p d g → (Honest m p d g → P) → (Rogue m p d g → P) → P
by_guest {P} stands honest rogue = grind arith

-- what either says
pub none_loose : {keeps : Bool} {m : Pages} {p : Part} {d : DriverState} {g : Guest}
    → Stands keeps m p d g → p.loose ≡ []
none_loose stands = by_guest stands
    (λ honest. honest.ties.parts.device.loose) (λ rogue. rogue.loose)

-- a device that keeps no frames has none of its own
pub still_none : {keeps : Bool} {m : Pages} {p1 p2 : Part} {d : DriverState} {g : Guest}
    → Stands keeps m p1 d g → SameOwn p1 p2 → p2.keeps ≡ false → p2.own ≡ []
still_none stands same e = same.numbers ∙ stands.own.none (sym stands.own.flag ∙ sym same.flag ∙ e)

pub stands_of : {keeps : Bool} {m : Pages} {p : Part} {d : DriverState} {g : Guest}
    → IsGuest m p d g → OwnFrames keeps p g → Stands keeps m p d g
stands_of guest own = record { guest = guest; own = own }

-- as many frames went out and came back as pages gained and lost
pub own_moved : {keeps : Bool} {p1 p2 : Part} (out1 out2 : List Bool) {g new : Guest}
    → Moves (supply_of p1 out1) (supply_of p2 out2) (λ n. backing_count n new)
    (λ n. backing_count n g) → OwnFrames keeps p1 g → OwnFrames keeps p2 new
own_moved out1 out2 moves own = grind arith

pub stands_as : {keeps : Bool} {m1 m2 : Pages} {p1 p2 : Part} {d : DriverState} {g : Guest}
    → m2 ≡ m1 → p2 ≡ p1 → Stands keeps m1 p1 d g → Stands keeps m2 p2 d g
stands_as m p stands = grind arith

-- ---- steps

-- where the device's part beside the call's own matter is as before, and so are the pages' frames
pub stands_with : {keeps : Bool} {m1 m2 : Pages} {p1 p2 : Part}
    {d1 d2 : DriverState} {g new : Guest} → Stands keeps m1 p1 d1 g → p2.keeps ≡ p1.keeps
    → p2.own ≡ p1.own → new.frames ≡ g.frames → IsGuest m2 p2 d2 new → Stands keeps m2 p2 d2 new
stands_with stands flag numbers frames guest = grind arith

-- an honest guest's step, or a rogue one's
pub alone_stands : {keeps : Bool} {m1 m2 : Pages} {p1 p2 : Part} {d1 d2 : DriverState} {g : Guest}
    {call : Call} {reply : Reply} → Stands keeps m1 p1 d1 g → SameOwn p1 p2
    → (Honest m1 p1 d1 g → StepsAlone (Honest m2 p2 d2) g call reply) → (Rogue m1 p1 d1 g
    → StepsAlone (Rogue m2 p2 d2) g call reply) → StepsAlone (Stands keeps m2 p2 d2) g call reply
alone_stands {keeps} {m2} {p2} {d2} {g} {call} {reply} stands same honest rogue =
    by_guest stands (λ h. either (Honest m2 p2 d2) honest_is (honest h))
    (λ r. either (Rogue m2 p2 d2) rogue_is (rogue r)) where
      either : (New : Guest → Type 0) → ((new : Guest) → New new → IsGuest m2 p2 d2 new)
          → StepsAlone New g call reply → StepsAlone (Stands keeps m2 p2 d2) g call reply
      either New is step = search (arith, stands_with)

pub over_stands : {keeps : Bool} {m1 m2 : Pages} {p1 p2 : Part} {d1 d2 : DriverState}
    {g : Guest} {Answers : List Bool → Claim → Type 0} (out1 out2 : List Bool) {claims : List Claim}
    {call : Call} {reply : Reply} → Stands keeps m1 p1 d1 g → (Honest m1 p1 d1 g → StepsOver
    (Honest m2 p2 d2) Answers (supply_of p1 out1) (supply_of p2 out2) claims g call reply)
    → (Rogue m1 p1 d1 g → StepsOver (Rogue m2 p2 d2) Answers
    (supply_of p1 out1) (supply_of p2 out2) claims g call reply) → StepsOver
    (Stands keeps m2 p2 d2) Answers (supply_of p1 out1) (supply_of p2 out2) claims g call reply
over_stands {keeps}
    {m2} {p1} {p2} {d2} {g} {Answers} out1 out2 {claims} {call} {reply} stands honest rogue =
    by_guest stands (λ h. either (Honest m2 p2 d2) honest_is (honest h))
    (λ r. either (Rogue m2 p2 d2) rogue_is (rogue r)) where
      either : (New : Guest → Type 0) → ((new : Guest) → New new → IsGuest m2 p2 d2 new) → StepsOver
          New Answers (supply_of p1 out1) (supply_of p2 out2) claims g call reply → StepsOver
          (Stands keeps m2 p2 d2) Answers (supply_of p1 out1) (supply_of p2 out2) claims g call reply
      either New is step = search (arith, stands_of, own_moved)

-- a step in which no frame moves
pub steps_quiet : {keeps : Bool} {m1 m2 : Pages} {p1 p2 : Part} {d1 d2 : DriverState} {g : Guest}
    {Answers : List Bool → Claim → Type 0} {out : List Bool} {call : Call} {reply : Reply}
    → Stands keeps m1 p1 d1 g → StepsAlone (Stands keeps m2 p2 d2) g call reply → StepsOver
    (Stands keeps m2 p2 d2) Answers (supply_of p1 out) (supply_of p2 out) [] g call reply
steps_quiet stands step = search arith

-- of each guest
pub each_quiet : {m1 m2 : Pages} {p1 p2 : Part} {d1 d2 : DriverState}
    {Answers : List Bool → Claim → Type 0} {out : List Bool} {claims : List Claim} {call c : Call}
    {reply r : Reply} → claims ≡ [] → call ≡ c → reply ≡ r → EachStepsAlone m1 m2 p1 p2 d1 d2 c r
    → EachSteps Answers (moment m1 p1 d1 out) (moment m2 p2 d2 out) claims call reply
each_quiet none is answer steps keeps g stands =
    rw (none, is, answer) (steps_quiet stands (steps keeps g stands))

-- ---- frames that pages lost

-- they are out
pub frees : {New : Guest → Type 0} {loose : List ℕ} {g : Guest} {call : Call} {reply : Reply}
    → StepsFreeing New loose g call reply → Frees New (λ new. GuestStep g call [] reply new) loose g
frees step =
    record { new = step.new; stands = step.stands; step = step.step; freed = step.freed }

pub freed_loose : {New Other Step Jump : Guest → Type 0} {keeps : Bool} {m1 : Pages} {p1 : Part}
    {p2 : Part} {d : DriverState} {g : Guest} (out : List Bool)
    → Stands keeps m1 p1 d g → (keeps ≡ false → AreOut g out)
    → SameOwn p1 p2 → (Honest m1 p1 d g → Frees New Step p2.loose g)
    → (Rogue m1 p1 d g → Frees Other Jump p2.loose g) → AreLoose p2.loose (supply_of p2 out)
freed_loose {p2 = p2} {g = g} out stands held same honest rogue n =
    let lost = by_guest stands (λ h. sum (honest h)) (λ r. sum (rogue r)) in
    by_keeps (supply_of p2 out) (λ e. (let k = sym stands.own.flag ∙ sym same.flag ∙ e in
    omega (
      arith,
      lost.1 n,
      stands.own.each k n,
      ap one_if (used_own (supply_of p2 out) n e),
      ap (λ (l : List ℕ). one_if (has l n)) same.numbers,
    ))) (λ e. (let k = sym stands.own.flag ∙ sym same.flag ∙ e in
    omega (arith, lost.1 n, held k n, ap one_if (used_out (supply_of p2 out) n e)))) where
      sum : {New Step : Guest → Type 0} → Frees New Step p2.loose g
          → (new : Guest) × ((n : ℕ) → times n p2.loose + backing_count n new ≡ backing_count n g)
      sum step = (step.new, step.freed)

-- and have gone back; the frames of the device's own may have changed by that
pub steps_freed : {keeps : Bool}
    {m1 m2 m3 : Pages} {p1 : Part} {p2 : Part} {p3 : Part} {d : DriverState} {g : Guest}
    {Answers : List Bool → Claim → Type 0} {out1 out2 : List Bool} {call : Call} {reply : Reply}
    → Stands keeps m1 p1 d g → SameOwn p1 p2 → m3 ≡ m2 → p3 ≡ record p2 { loose = []; own = p3.own }
    → (Honest m1 p1 d g → StepsFreeing (Honest m2 (handed_back p2) d) p2.loose g call reply)
    → (Rogue m1 p1 d g → StepsFreeing (Rogue m2 (handed_back p2) d) p2.loose g call reply)
    → Moves (supply_of p2 out1) (supply_of p3 out2) nothing (λ n. times n p2.loose) → StepsOver
    (Stands keeps m3 p3 d) Answers (supply_of p1 out1) (supply_of p3 out2) [] g call reply
steps_freed {m1 = m1} {m2} {m3} {p1} {p2} {p3} {d} {g} {Answers} {out1} {out2} {call}
    {reply} stands same memory part honest rogue moves = over_stands out1 out2 stands (λ h. over
    (Honest m2 (handed_back p2) d) (Honest m3 p3 d) (λ x. honest_own memory part) (honest h))
    (λ r. over (Rogue m2 (handed_back p2) d) (Rogue m3 p3 d) (λ x. rogue_own memory part) (rogue r))
  where
    first : Moves (supply_of p1 out1) (supply_of p3 out2) nothing (λ n. times n p2.loose)
    first = rw (← same.flag, ← same.numbers) moves

    over : (Old New : Guest → Type 0) → ((x : Guest) → Old x → New x) → StepsFreeing Old p2.loose
        g call reply → StepsOver New Answers (supply_of p1 out1) (supply_of p3 out2) [] g call reply
    over Old New turn step = record {
      new = step.new;
      stands = turn step.new step.stands;
      step = step.step;
      answered = tt;
      moves = moves_as first (λ n. omega (arith, step.freed n));
    }

-- ---- where the keeper's frames alone count
