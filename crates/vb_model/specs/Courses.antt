-- A guest's course: its states in one life, and the entries between them; and words about one.
-- The headline needs all of it but the last part.
use Rattle.std.specs.Prelude.{◌≡◌, ℕ, zero, suc, ◌+◌, ◌-◌, ◌<◌, ◌≤◌, Bool, true, false, ◌==◌, ◌&&◌}
use Rattle.std.specs.Prelude.{nat_le, nat_lt, List, [], ◌∷◌, ◌++◌, length, Option, Some, None}
use Rattle.std.specs.Prelude.{slice_get, slice_index_or, if◌then◌else◌, IsSome, IsTrue, ◌⊎◌}
use Rattle.vb_model.specs.declared.places.Place.{Place}
use Rattle.vb_model.specs.declared.places.Place.TheVariants.{Used}
use Rattle.vb_model.specs.declared.calls.Actor.{Actor}
use Rattle.vb_model.specs.declared.calls.Call.{Call}
use Rattle.vb_model.specs.declared.calls.Call.TheVariants.{Read, Write, Deflate, Oom, Reap}
use Rattle.vb_model.specs.declared.calls.Claim.{Claim}
use Rattle.vb_model.specs.declared.replies.Reply.{Reply}
use Rattle.vb_model.specs.declared.replies.Reply.TheVariants.{Done, ReadBytes, Posted, Reaped}
use Rattle.vb_model.specs.Pages.{place_of}
use Rattle.vb_virtio.specs.Tests.{is_in}
use Rattle.vb_virtio.specs.Queues.{Request, Kind, Inflating, Deflating, queue_of}
use Rattle.vb_virtio.specs.Features.{must_tell_host}
use Rattle.vb_model.specs.Guest.{Guest, requests, frame_of}
use Rattle.vb_model.specs.Driver.{contents_of}
use Rattle.vb_model.specs.GuestRun.{Entry, Called}

-- the first state, and for each entry the state after it
pub record Course : Type 0 where
  pub first : Guest
  pub entries : List (Option Entry)
  pub after : List Guest

-- the guest in state i, which is the one before entry i
abbrev pub guest_after : Course → ℕ → Option Guest
guest_after c i = slice_get (c.first ∷ c.after) i

-- entry i is this call with this reply, by whomever, and whatever its claims were given
abbrev pub IsCall : Course → ℕ → Call → Reply → Type 0
IsCall c i call reply =
    (actor : Actor) × (claims : List Claim)
    × (slice_get c.entries i ≡ Some (Some (Called actor call claims reply)))

-- ---- pages

abbrev pub IsAt : Guest → ℕ → Place → Type 0
IsAt g page place = place_of g.places page ≡ place

-- entry i brought the page to this place
abbrev pub BringsTo : Course → ℕ → Place → ℕ → Type 0
BringsTo c page place i =
    (before : Guest) × (after : Guest)
    × (guest_after c i ≡ Some before) × (guest_after c (i + 1) ≡ Some after)
    × ¬ IsAt before page place × IsAt after page place

-- ---- requests

-- entry j reaped a used request of this kind that names the page
pub record ReapedAt (kind : Kind) (c : Course) (page j : ℕ) : Type 0 where
  pub guest : Guest
  pub request : Request
  pub others : List Request
  pub called : IsCall c j (Reap (queue_of kind)) (Reaped request.head (length request.pages))
  pub is_there : guest_after c j ≡ Some guest
  pub done : (requests kind guest).done ≡ request ∷ others
  pub named : IsTrue (is_in page request.pages)

-- a call that posts a deflate request, which asks pages back
abbrev pub posts_deflate : Call → Bool
posts_deflate (Deflate count) = true
posts_deflate (Oom count) = true
posts_deflate _ = false

-- entry j posted a deflate request that names the page
pub record DeflatePostedAt (c : Course) (page j : ℕ) : Type 0 where
  pub before : Guest
  pub after : Guest
  pub call : Call
  pub request : Request
  pub called : IsCall c j call (Posted request.head (length request.pages))
  pub asks : IsTrue (posts_deflate call)
  pub is_there : guest_after c j ≡ Some before
  pub follows : guest_after c (j + 1) ≡ Some after
  pub posted : after.deflate.posted ≡ before.deflate.posted ++ (request ∷ [])
  pub named : IsTrue (is_in page request.pages)

-- Between entries i and k the page was requested back: an inflate request that names it came back,
-- and later a deflate request that names it was posted; which came back, too, where the guest had
-- agreed to tell the host when it was posted.
pub record WasAskedBack (c : Course) (page i k : ℕ) : Type 0 where
  pub lent : ℕ
  pub asked : ℕ
  pub since : i < lent
  pub later : lent < asked
  pub before : asked < k
  pub inflate : ReapedAt Inflating c page lent
  pub deflate : DeflatePostedAt c page asked
  pub told : IsTrue (must_tell_host deflate.before.features)
      → (j : ℕ) × (asked < j) × (j < k) × (reap : ReapedAt Deflating c page j)
      × (reap.request.head ≡ deflate.request.head) × (reap.request.pages ≡ deflate.request.pages)

-- ---- for laws and proofs: what a page holds, and what a read of it gives

-- entry i is the guest's own write to the page, and it was done
abbrev pub IsWriteTo : Course → ℕ → ℕ → Type 0
IsWriteTo c page i =
    (offset : ℕ) × (bytes : List ℕ) × IsCall c i (Write page offset bytes) Done

-- the page reads as it did, or it has lost its frame
abbrev pub StaysOrLoses : ℕ → Guest → Guest → Type 0
StaysOrLoses page g new =
    (contents_of new page ≡ contents_of g page)
    ⊎ (IsSome (frame_of g.frames page) × (frame_of new.frames page ≡ None))

-- a byte of a page
abbrev pub byte_of : Guest → ℕ → ℕ → ℕ
byte_of g page at = slice_index_or (contents_of g page) at 0

-- what a byte is once these bytes were written from the offset on
abbrev pub byte_written : ℕ → ℕ → List ℕ → ℕ → ℕ
byte_written at offset bytes old =
    if nat_le offset at && nat_lt at (offset + length bytes)
    then slice_index_or bytes (at - offset) 0 else old

-- what a byte of a page is after an entry: a write to the page that was done puts its bytes there,
-- and nothing else does
abbrev pub byte_after : ℕ → ℕ → Option Entry → ℕ → ℕ
byte_after page at (Some (Called actor (Write p offset bytes) claims Done)) old =
    if p == page then byte_written at offset bytes old else old
byte_after page at entry old = old

-- what the last write to the byte among k entries, from entry i on, put there, else the old one
abbrev pub last_put : Course → ℕ → ℕ → ℕ → ℕ → ℕ → ℕ
last_put c page at i zero old = old
last_put c page at i (suc k) old =
    byte_after page at (slice_index_or c.entries (i + k) None) (last_put c page at i k old)

-- from state i to state i + k an allocation holds the page
abbrev pub StaysHeld : Course → ℕ → ℕ → ℕ → Type 0
StaysHeld c page i k = (j : ℕ) → j ≤ k
    → (g : Guest) × (guest_after c (i + j) ≡ Some g) × IsAt g page Used

-- a read of a page that was used since state i gives, byte by byte, what the last write since then
-- put there, else the byte of the page in state i
abbrev pub ReadsGiveLastWrites : Course → Type 0
ReadsGiveLastWrites c = (page i k offset len : ℕ) (bytes : List ℕ) (g : Guest)
    → StaysHeld c page i k → guest_after c i ≡ Some g
    → IsCall c (i + k) (Read page offset len) (ReadBytes bytes)
    → (length bytes ≡ len)
    × ((j : ℕ) → j < len → slice_index_or bytes j 0
    ≡ last_put c page (offset + j) i k (byte_of g page (offset + j)))
