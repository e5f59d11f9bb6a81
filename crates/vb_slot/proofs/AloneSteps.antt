-- A guest whose frames come from its device alone: what it is plugged in with, and what a call does.
use Rattle.std.{specs.Prelude.{◌≡◌, ℕ, ◌≤◌}, proofs.Common.{sym, ◌∙◌, ap, arith, suc, zero}}
use Rattle.std.specs.Prelude.{Bool, true, false, List, [], ◌∷◌, refl, if◌then◌else◌, Option, None}
use Rattle.vb_model.specs.declared.{calls.Call.Call, replies.Reply.{Reply, TheVariants.Backing}}
use Rattle.vb_virtio.specs.Tests.{one_if}
use Rattle.vb_model.specs.declared.calls.Claim.{Claim}
use Rattle.vb_model.specs.Guest.{Guest, Config, fresh}
use Rattle.{vb_frames.specs.Out.is_out, vb_guest.{specs.Stands.Stands, proofs.Fresh.backs_none}}
use Rattle.{vb_ram.specs.{Pages.Pages, Part.Part}, vb_device.specs.Own.has}
use Rattle.{vb_driver.specs.State.DriverState, vb_slot.specs.Alone.{AreBehind, IsAlone, StepsTo}}
use Rattle.vb_guest.specs.{Steps.{AreOut, StepsOver, backing_count}, Supply.{supply_of, is_used}}

-- a device that keeps no frames has none out
none_out : (p : Part) (n : ℕ) → p.own ≡ [] → one_if (has p.own n) ≡ 0
none_out p n none = ap (λ (l : List ℕ). one_if (has l n)) none

-- where the device keeps none, no page has a frame, so those that have one are out anywhere
pub are_out : (keeps : Bool) (mem : Pages) (p : Part) (d : DriverState) (g : Guest)
    (out : List Bool) → Stands keeps mem p d g → AreBehind p.own g → keeps ≡ false → AreOut g out
are_out keeps mem p d g out s behind e n =
    let zero : one_if (has p.own n) ≡ 0 = none_out p n (s.own.none e) in
    let bare : backing_count n g ≡ 0 = behind n ∙ zero in omega (arith, bare)

-- a guest as it is plugged in has no frames
pub fresh_alone : (keeps : Bool) (mem : Pages) (p : Part) (d : DriverState) (config : Config)
    → Stands keeps mem p d (fresh config 0) → IsAlone mem p d (fresh config 0)
fresh_alone true mem p d config s = (true, s, s.own.each refl)
fresh_alone false mem p d config s =
    (false, s, λ n. backs_none n config.pages ∙ sym (none_out p n (s.own.none refl)))

-- of one frame that was out, no more is out afterwards
no_more_out : (left : Bool) (n : ℕ) → one_if (is_out (left ∷ []) n) ≤ one_if (is_out (true ∷ []) n)
no_more_out true zero = omega arith
no_more_out false zero = omega arith
no_more_out left (suc n) = omega arith

from_keeper : (p : Part) (out : List Bool) (n : ℕ) → p.keeps ≡ false
    → one_if (is_used (supply_of p out) n) ≡ one_if (is_out out n)
from_keeper p out n e =
    ap (λ (keeps : Bool). one_if (if keeps then has p.own n else is_out out n)) e

-- the frames of the device are those that back the pages afterwards too
stays_behind : (keeps : Bool) (Answers : List Bool → Claim → Type 0) (m1 m2 : Pages) (p1 p2 : Part)
    (d1 d2 : DriverState) (was left : Bool) (claims : List Claim) (g : Guest) (call : Call)
    (reply : Reply) → was ≡ true → Stands keeps m1 p1 d1 g → AreBehind p1.own g
    → (over : StepsOver (Stands keeps m2 p2 d2) Answers (supply_of p1 (was ∷ []))
    (supply_of p2 (left ∷ [])) claims g call reply) → AreBehind p2.own over.new
stays_behind true Answers m1 m2 p1 p2 d1 d2 was left claims g call reply out s behind over =
    over.stands.own.each refl
stays_behind false Answers m1 m2 p1 p2 d1 d2 was left claims g call reply out s behind over = λ n.
    let before : one_if (has p1.own n) ≡ 0 = none_out p1 n (s.own.none refl) in
    let after : one_if (has p2.own n) ≡ 0 = none_out p2 n (over.stands.own.none refl) in
    let bare : backing_count n g ≡ 0 = behind n ∙ before in
    omega (
      arith,
      over.moves.balance n,
      from_keeper p1 (was ∷ []) n s.own.flag,
      ap (λ (b : Bool). one_if (is_out (b ∷ []) n)) out,
      from_keeper p2 (left ∷ []) n over.stands.own.flag,
      no_more_out left n,
      bare,
      after,
    )

pub alone_steps : (keeps : Bool) (Answers : List Bool → Claim → Type 0) (m1 m2 : Pages)
    (p1 p2 : Part) (d1 d2 : DriverState) (was left : Bool) (claims : List Claim) (g : Guest)
    (call : Call) (reply : Reply) → was ≡ true → Stands keeps m1 p1 d1 g → AreBehind p1.own g
    → StepsOver (Stands keeps m2 p2 d2) Answers (supply_of p1 (was ∷ []))
    (supply_of p2 (left ∷ [])) claims g call reply → StepsTo (IsAlone m2 p2 d2) claims g call reply
alone_steps keeps Answers m1 m2 p1 p2 d1 d2 was left claims g call reply out s behind over =
    record {
      new = over.new;
      stands = (
        keeps,
        over.stands,
        stays_behind keeps Answers m1 m2 p1 p2 d1 d2 was left claims g call reply out s behind over,
      );
      step = over.step;
    }

-- what a question for a frame is answered says which
frame_in : Reply → Option ℕ
frame_in (Backing frame) = frame
frame_in reply = None

pub same_frame : (frame other : Option ℕ) → Backing frame ≡ Backing other → frame ≡ other
unfolding frame_in
same_frame frame other e = ap frame_in e
