-- What follows of every guest that is safe.
use Rattle.std.specs.Prelude.{◌≡◌, ◌≢◌, ℕ, ◌+◌, [], Some, slice_get, IsTrue, IsFalse, ◌↔◌}
use Rattle.vb_model.specs.declared.places.Place.TheVariants.{Used, Lent}
use Rattle.vb_model.specs.declared.calls.Call.{Call}
use Rattle.vb_model.specs.declared.calls.Event.TheVariants.{Guest as OnGuest}
use Rattle.vb_virtio.specs.declared.refusals.Refusal.TheVariants.{RingBroken, Broken}
use Rattle.vb_model.specs.declared.replies.Reply.{Reply}
use Rattle.vb_model.specs.declared.replies.Reply.TheVariants.{Served}
use Rattle.vb_model.specs.declared.replies.Reply.TheVariants.{Refused}
use Rattle.vb_model.specs.Requests.{all_requests}
use Rattle.vb_model.specs.Guest.{Guest, is_ballooned}
use Rattle.vb_model.specs.Driver.{contents_of}
use Rattle.vb_model.specs.World.{World, guest_at}
use Rattle.vb_model.specs.HostEvents.{WorldStep}
use Rattle.vb_model.specs.Run.{History, states}
use Rattle.vb_model.specs.GuestRun.{InOneLife, Alone}
use Rattle.vb_model.specs.Courses.{Course, guest_after, IsAt, IsWriteTo, ReadsGiveLastWrites}
use Rattle.vb_model.specs.Histories.{BothAgree, IsSafeCourse}
use Rattle.vb_model.specs.Safe.{IsHonest, part}

-- From state i, where guest n is g, the next k events are of one life, at whose end it is honest:
-- then what these events were to it is not only safe, but leads it from state to state by itself,
-- and a read of a page that an allocation holds gives what was last written there.
-- Other guests matter to it only by which frames its claims are given, and by the targets that
-- balances set.
abbrev pub LivesAreAlone : History → Type 0
LivesAreAlone h = (n i k : ℕ) (w : World) (g new : Guest) → slice_get (states h) i ≡ Some w
    → guest_at w.guests n ≡ Some g → IsHonest h n (i + k) new → InOneLife n (part i k h.events)
    → (own : Alone n w (part i k h.events) (part i k h.replies) (part i k h.after) g)
    × IsSafeCourse (record { first = g; entries = own.entries; after = own.guests })
    × ReadsGiveLastWrites (record { first = g; entries = own.entries; after = own.guests })

-- with no inflate or deflate request the device calls ballooned just what the driver calls lent
abbrev pub QuietAgree : Type 0
QuietAgree = (g : Guest) → BothAgree g → all_requests g.inflate ≡ [] → all_requests g.deflate ≡ []
    → (page : ℕ) → IsTrue (is_ballooned g.ballooned page) ↔ IsAt g page Lent

-- a used page reads as it did, but for the guest's own writes to it
abbrev pub UsedPagesStay : Type 0
UsedPagesStay = (c : Course) → IsSafeCourse c → (i page : ℕ) (g g' : Guest)
    → guest_after c i ≡ Some g → guest_after c (i + 1) ≡ Some g' → IsAt g page Used
    → IsAt g' page Used → ¬ IsWriteTo c page i → contents_of g' page ≡ contents_of g page

-- no call of an honest guest meets a fault, even a scribble
abbrev pub HonestMeetNoFault : Type 0
HonestMeetNoFault =
    (w : World) (n : ℕ) (call : Call) (reply : Reply) (v : World) (g : Guest) (fault : ℕ)
    → WorldStep w (OnGuest n call) reply v → guest_at w.guests n ≡ Some g → IsFalse g.rogue
    → (reply ≢ Refused (Broken fault)) × (reply ≢ Refused RingBroken)
    × ((chains : ℕ) → reply ≢ Served chains (Some fault))
