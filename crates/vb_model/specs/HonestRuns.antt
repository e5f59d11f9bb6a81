-- Words of laws: what holds of an honest guest over a run. It stays honest until it scribbles, and
-- while it isn't ready nothing is outstanding (the last is what the service of a guest on a thread
-- begins with, too).
use Rattle.std.specs.Prelude.{◌≡◌, ◌≢◌, ℕ, ◌+◌, ◌<◌, ◌≤◌, Bool, true, false, ◌==◌, ◌&&◌}
use Rattle.std.specs.Prelude.{List, Some, IsFalse, slice_get}
use Rattle.vb_virtio.specs.declared.negotiation.TheConstants.{READY_STATUS}
use Rattle.vb_virtio.specs.Features.{stats_vq}
use Rattle.vb_model.specs.declared.calls.Call.TheVariants.{Scribble}
use Rattle.vb_model.specs.declared.calls.Event.TheVariants.{Guest as OnGuest}
use Rattle.vb_model.specs.Requests.{Requests, no_requests, StatisticsBuffer, NoBuffer}
use Rattle.vb_model.specs.Guest.{Guest}
use Rattle.vb_model.specs.Run.{History, Run, guest_in}
use Rattle.vb_model.specs.Safe.{IsHonest}

-- guest n is there from state i to state i + k
abbrev pub IsThere : History → ℕ → ℕ → ℕ → Type 0
IsThere h n i k = (j : ℕ) → j ≤ k → (g : Guest) × (guest_in h n (i + j) ≡ Some g)

-- none of the events between is a scribble of guest n
abbrev pub MakesNoScribble : History → ℕ → ℕ → ℕ → Type 0
MakesNoScribble h n i k = (j page offset : ℕ) (bytes : List ℕ) → j < k
    → slice_get h.events (i + j) ≢ Some (OnGuest n (Scribble page offset bytes))

-- a guest that is honest in a state stays so while it makes no scribble
abbrev pub HonestStay : Type 0
HonestStay =
    (frames : ℕ) (spares : List Bool) (h : History) → Run frames spares h
    → (n i k : ℕ) (g new : Guest) → IsThere h n i k → MakesNoScribble h n i k → IsHonest h n i g
    → guest_in h n (i + k) ≡ Some new → IsFalse new.rogue

abbrev pub has_buffer : StatisticsBuffer → Bool
has_buffer NoBuffer = false
has_buffer _ = true

-- Nothing is outstanding of a guest that isn't ready, and it has a statistics buffer just where it
-- is ready and accepted STATS_VQ.
pub record IsIdleUnlessReady (status features : ℕ) (inflate deflate report : Requests)
    (buffer : StatisticsBuffer) : Type 0 where
  pub inflating : status ≢ READY_STATUS → inflate ≡ no_requests
  pub deflating : status ≢ READY_STATUS → deflate ≡ no_requests
  pub reporting : status ≢ READY_STATUS → report ≡ no_requests
  pub buffered : has_buffer buffer ≡ ((status == READY_STATUS) && stats_vq features)

abbrev pub IsAttentive : Guest → Type 0
IsAttentive g = IsIdleUnlessReady g.status g.features g.inflate g.deflate g.report g.buffer

abbrev pub HonestAreIdleUnlessReady : Type 0
HonestAreIdleUnlessReady =
    (frames : ℕ) (spares : List Bool) (h : History) → Run frames spares h → (n i : ℕ) (g : Guest)
    → IsHonest h n i g → IsAttentive g
