-- What a call on a guest does, in the model's words.
use Rattle.std.specs.Prelude.{◌≡◌, ℕ, ◌+◌, ◌≤◌, ◌==◌, Bool, false, List, [], length, Option, Some}
use Rattle.std.specs.Prelude.{None, count_by}
use Rattle.vb_model.specs.declared.calls.Call.{Call}
use Rattle.vb_model.specs.declared.calls.Claim.{Claim}
use Rattle.vb_model.specs.declared.replies.Reply.{Reply}
use Rattle.vb_virtio.specs.Tests.{one_if, times}
use Rattle.vb_model.specs.Guest.{Guest}
use Rattle.vb_model.specs.Rogue.{GuestStep}
use Rattle.vb_frames.specs.Out.{is_out, AllAnswered}
use Rattle.vb_model.specs.Life.{after_restart}
use Rattle.vb_ram.specs.Pages.{Pages, frame_at}
use Rattle.vb_ram.specs.Part.{Part}
use Rattle.vb_guest.specs.Supply.{Supply, AreClaimed, Moves, nothing}

abbrev pub is_frame : ℕ → Option ℕ → Bool
is_frame n None = false
is_frame n (Some frame) = frame == n

-- How many pages of the guest have the frame.
abbrev pub backing_count : ℕ → Guest → ℕ
backing_count n g = count_by (is_frame n) g.frames

-- Each frame that backs a page of the guest is out, and backs no other of its pages.
abbrev pub AreOut : Guest → List Bool → Type 0
AreOut g out = (n : ℕ) → backing_count n g ≤ one_if (is_out out n)

-- A step of a guest whose device keeps no frames: what the call's claims were answered, and the
-- guest afterwards, for which New holds. Frames that its pages gain are out then, and those that
-- they lose aren't. The keeper has as many frames as before.
pub record StepsWithKeeper (New : Guest → Type 0) (Answers : List Bool → Claim → Type 0)
    (old_out new_out : List Bool) (g : Guest) (call : Call) (reply : Reply) : Type 0 where
  pub claims : List Claim
  pub new : Guest
  pub stands : New new
  pub step : GuestStep g call claims reply new
  pub answered : AllAnswered Answers old_out claims
  pub balance : (n : ℕ)
      → one_if (is_out new_out n) + backing_count n g
      ≡ one_if (is_out old_out n) + backing_count n new
  pub count : length new_out ≡ length old_out

-- A step of the guest over its supply of frames: what the call's claims were answered, and the
-- guest afterwards, for which New holds. Frames that its pages gain are out then, and those that
-- they lose aren't.
pub record StepsOver (New : Guest → Type 0) (Answers : List Bool → Claim → Type 0)
    (old_supply new_supply : Supply) (claims : List Claim) (g : Guest) (call : Call)
    (reply : Reply) : Type 0 where
  pub new : Guest
  pub stands : New new
  pub step : GuestStep g call claims reply new
  pub answered : AreClaimed Answers old_supply claims
  pub moves : Moves old_supply new_supply (λ n. backing_count n new) (λ n. backing_count n g)

-- A step that claims nothing, and of which no frame enters or leaves a page.
pub record StepsAlone (New : Guest → Type 0) (g : Guest) (call : Call) (reply : Reply) :
    Type 0 where
  pub new : Guest
  pub stands : New new
  pub step : GuestStep g call [] reply new
  pub frames : new.frames ≡ g.frames

-- What leads to another guest, in which pages have lost the frames of these numbers and no other.
pub record Frees (New Step : Guest → Type 0) (loose : List ℕ) (g : Guest) : Type 0 where
  pub new : Guest
  pub stands : New new
  pub step : Step new
  pub freed : (n : ℕ) → times n loose + backing_count n new ≡ backing_count n g

-- A step that claims nothing, in which pages lose these frames.
pub record StepsFreeing (New : Guest → Type 0) (loose : List ℕ) (g : Guest) (call : Call)
    (reply : Reply) : Type 0 where
  pub new : Guest
  pub stands : New new
  pub step : GuestStep g call [] reply new
  pub freed : (n : ℕ) → times n loose + backing_count n new ≡ backing_count n g

-- The same over the guest's supply of frames.
pub record Reaches (New Step : Guest → Type 0) (old_supply new_supply : Supply) (g : Guest) :
    Type 0 where
  pub new : Guest
  pub stands : New new
  pub step : Step new
  pub moves : Moves old_supply new_supply (λ n. backing_count n new) (λ n. backing_count n g)

-- Every frame that backs a page of the guest went back to where it came from, and no other frame
-- moved.
abbrev pub AllReturn : Supply → Supply → Guest → Type 0
AllReturn old_supply new_supply g = Moves old_supply new_supply nothing (λ n. backing_count n g)

-- No page has a frame, and no frame is loose.
pub record IsBare (mem : Pages) (part : Part) : Type 0 where
  pub frames : (page : ℕ) → frame_at mem page ≡ None
  pub loose : part.loose ≡ []

-- A new life of the guest, for which New holds: as it was plugged in, with its target, and with
-- none of the frames that it had.
pub record Restarts (New : Guest → Type 0) (old_supply new_supply : Supply) (g : Guest) :
    Type 0 where
  pub stands : New (after_restart g)
  pub moves : AllReturn old_supply new_supply g
