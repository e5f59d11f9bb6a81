-- What is safe of one guest in one life: of its states, and of the entries between them. No world
-- is in it, and so nothing is said of frames that two guests have.
-- The headline needs all of it but the last part; `IsSafeHistory` for guests on threads alone.
use Rattle.std.specs.Prelude.{◌≡◌, ◌≢◌, ℕ, ◌+◌, ◌<◌, ◌≤◌, List, None, Some, IsSome, length, IsTrue}
use Rattle.std.specs.Prelude.{◌↔◌, ◌⊎◌, count_by, take, drop}
use Rattle.vb_virtio.specs.declared.negotiation.TheConstants.{OFFERED_FEATURES, READY_STATUS}
use Rattle.vb_virtio.specs.declared.refusals.Refusal.TheVariants.{RingBroken, Broken}
use Rattle.vb_virtio.specs.Tests.{is_in}
use Rattle.vb_virtio.specs.Queues.{Request}
use Rattle.vb_virtio.specs.Features.{version_1}
use Rattle.vb_virtio.specs.Status.{contains}
use Rattle.vb_virtio.specs.Memory.{overwritten}
use Rattle.vb_model.specs.declared.places.Place.TheVariants.{Used, Giving, Lent, Reserved}
use Rattle.vb_model.specs.declared.calls.Call.{Call}
use Rattle.vb_model.specs.declared.calls.Call.TheVariants.{Read, Write}
use Rattle.vb_model.specs.declared.replies.Reply.{Reply}
use Rattle.vb_model.specs.declared.replies.Reply.TheVariants.{Served}
use Rattle.vb_model.specs.declared.replies.Reply.TheVariants.{Done, ReadBytes, Refused}
use Rattle.vb_model.specs.Pages.{place_of, is_place}
use Rattle.vb_model.specs.Requests.{given_away}
use Rattle.vb_model.specs.Guest.{Guest, Config, fresh, frame_of, is_ballooned}
use Rattle.vb_model.specs.Driver.{contents_of}
use Rattle.vb_model.specs.GuestRun.{Entry, Leads, last_guest, all_entries}
use Rattle.vb_model.specs.Courses.{Course, guest_after, IsCall, IsAt, BringsTo, WasAskedBack}

-- some of these requests names the page
abbrev pub IsNamed : ℕ → List Request → Type 0
IsNamed page rs = 0 < count_by (λ r. is_in page r.pages) rs

pub record IsSafeCourse (c : Course) : Type 0 where
  -- a guest that is ready agreed on features that its device offers
  pub agreed : (i : ℕ) (g : Guest) → guest_after c i ≡ Some g → g.status ≡ READY_STATUS
      → IsTrue (contains OFFERED_FEATURES g.features) × IsTrue (version_1 g.features)
  -- a used page keeps its frame
  pub keeps_frame : (i page frame : ℕ) (g g' : Guest) → guest_after c i ≡ Some g
      → guest_after c (i + 1) ≡ Some g' → IsAt g page Used → IsAt g' page Used
      → frame_of g.frames page ≡ Some frame → frame_of g'.frames page ≡ Some frame
  -- a page that isn't reserved holds what it did, but for the guest's own writes to it and the loss
  -- of its frame
  pub keeps_contents : (i page : ℕ) (g g' : Guest) → guest_after c i ≡ Some g
      → guest_after c (i + 1) ≡ Some g' → ¬ IsAt g page Reserved
      → ¬ ((offset : ℕ) × (bytes : List ℕ) × IsCall c i (Write page offset bytes) Done)
      → (contents_of g' page ≡ contents_of g page)
      ⊎ (IsSome (frame_of g.frames page) × (frame_of g'.frames page ≡ None))
  -- a write to a page that is done lies in it, and puts its bytes there
  pub writes : (i page offset : ℕ) (bytes : List ℕ) (g g' : Guest) → guest_after c i ≡ Some g
      → guest_after c (i + 1) ≡ Some g' → IsCall c i (Write page offset bytes) Done
      → (offset + length bytes ≤ length (contents_of g page))
      × (contents_of g' page ≡ overwritten offset bytes (contents_of g page))
  -- a read of a page gives just as many of its bytes as it asks for
  pub reads : (i page offset len : ℕ) (bytes : List ℕ) (g : Guest) → guest_after c i ≡ Some g
      → IsCall c i (Read page offset len) (ReadBytes bytes)
      → (length bytes ≡ len) × (bytes ≡ take len (drop offset (contents_of g page)))
  -- a page that was offered is handed out again only after it was requested back
  pub told_first : (page i k : ℕ) → i < k → BringsTo c page Giving i → BringsTo c page Used k
      → WasAskedBack c page i k
  -- what the device calls ballooned, the driver calls lent, but for requests on their way
  pub both_agree : (i : ℕ) (g : Guest) → guest_after c i ≡ Some g → (page : ℕ)
      → IsTrue (is_ballooned g.ballooned page)
      ↔ (IsTrue (is_place Lent (place_of g.places page))
      ⊎ (IsNamed page g.inflate.done
      ⊎ (IsNamed page g.deflate.posted ⊎ IsNamed page g.deflate.taken)))
  pub actual : (i : ℕ) (g : Guest) → guest_after c i ≡ Some g
      → g.actual ≡ given_away g.places g.deflate
  pub not_broken : (i fault : ℕ) (call : Call) (reply : Reply) → IsCall c i call reply
      → (reply ≢ Refused (Broken fault)) × (reply ≢ Refused RingBroken)
      × ((chains : ℕ) → reply ≢ Served chains (Some fault))

-- The entries lead through states that are safe, from plug on or from a restart, with the target
-- kept then.
pub record IsSafeHistory (config : Config) (target : ℕ) (entries : List Entry) (last : Guest) :
    Type 0 where
  pub after : List Guest
  pub leads : Leads (fresh config target) (all_entries entries) after
  pub ends : last_guest (fresh config target) after ≡ last
  pub safe : IsSafeCourse (record {
    first = fresh config target;
    entries = all_entries entries;
    after = after;
  })

-- ---- for laws and proofs

abbrev pub BothAgree : Guest → Type 0
BothAgree g = (page : ℕ) →
    IsTrue (is_ballooned g.ballooned page)
    ↔ (IsTrue (is_place Lent (place_of g.places page))
    ⊎ (IsNamed page g.inflate.done
    ⊎ (IsNamed page g.deflate.posted ⊎ IsNamed page g.deflate.taken)))
