-- Where frames suffice: how many frames each guest may come to hold, and that no call lacks one
-- while all these are there.
use Rattle.std.specs.Prelude.{◌≡◌, ◌⊎◌, ℕ, ◌-◌, ◌≤◌, Bool, true, false, not, ◌&&◌, if◌then◌else◌}
use Rattle.std.specs.Prelude.{List, Some, None, slice_get, sum_by, filter_map}
use Rattle.vb_model.specs.declared.calls.Call.{Call}
use Rattle.vb_model.specs.declared.calls.Call.TheVariants.{Scribble}
use Rattle.vb_model.specs.declared.calls.Event.TheVariants.{Guest as OnGuest}
use Rattle.vb_virtio.specs.declared.refusals.Refusal.TheVariants.{NoFrame}
use Rattle.vb_model.specs.declared.replies.Reply.TheVariants.{Refused}
use Rattle.vb_model.specs.Guest.{Guest, ballooned_count, is_ballooned, frame_of, tells_host}
use Rattle.vb_model.specs.World.{World, guest_at}
use Rattle.vb_model.specs.HostEvents.{WorldStep}
use Rattle.vb_model.specs.Run.{History, Run, states}
use Rattle.vb_model.specs.Safe.{IsHonest}

-- no ballooned page of the guest has a frame
abbrev pub HoldsNoneBallooned : Guest → Type 0
HoldsNoneBallooned g = (page : ℕ) → is_ballooned g.ballooned page ≡ true
    → frame_of g.frames page ≡ None

-- so it is of each honest guest that tells the host, in each state of a run
abbrev pub BalloonsAreBare : Type 0
BalloonsAreBare =
    (frames : ℕ) (spares : List Bool) (h : History) → Run frames spares h → (n i : ℕ) (g : Guest)
    → IsHonest h n i g → tells_host g ≡ true → HoldsNoneBallooned g

-- How many frames a guest may come to hold: of one that is honest and has agreed to tell the host
-- as many as it has pages that aren't ballooned, of another as many as it has pages.
abbrev pub may_hold : Guest → ℕ
may_hold g =
    if not g.rogue && tells_host g then g.config.pages - ballooned_count g else g.config.pages

abbrev pub all_may_hold : World → ℕ
all_may_hold w = sum_by may_hold (filter_map (λ guest. guest) w.guests)

abbrev pub is_scribble : Call → Bool
is_scribble (Scribble page offset bytes) = true
is_scribble _ = false

-- In a state of a run in which all guests may hold no more frames than there are, no call of a
-- guest is refused for lack of a frame: of an honest guest none but a scribble, of a rogue one none
-- at all.
abbrev pub NoneLacksAFrame : Type 0
NoneLacksAFrame =
    (frames : ℕ) (spares : List Bool) (h : History) → Run frames spares h
    → (n i : ℕ) (w v : World) (call : Call) (g : Guest) → slice_get (states h) i ≡ Some w
    → guest_at w.guests n ≡ Some g → all_may_hold w ≤ w.frames
    → (is_scribble call ≡ false) ⊎ (g.rogue ≡ true)
    → ¬ WorldStep w (OnGuest n call) (Refused NoFrame) v
