-- A guest by itself, whose frames come from its own device alone.
use Rattle.std.specs.Prelude.{◌≡◌, ℕ, Bool, List}
use Rattle.vb_model.specs.declared.calls.Call.{Call}
use Rattle.vb_model.specs.declared.calls.Claim.{Claim}
use Rattle.vb_model.specs.declared.replies.Reply.{Reply}
use Rattle.vb_model.specs.Guest.{Guest}
use Rattle.vb_model.specs.Rogue.{GuestStep}
use Rattle.vb_virtio.specs.Tests.{one_if}
use Rattle.vb_ram.specs.Pages.{Pages}
use Rattle.vb_ram.specs.Part.{Part}
use Rattle.vb_device.specs.Own.{has}
use Rattle.vb_driver.specs.State.{DriverState}
use Rattle.vb_guest.specs.Stands.{Stands}
use Rattle.vb_guest.specs.Steps.{backing_count}

-- A step of the guest: the claims of the call, answered so, and the guest afterwards, for which New
-- holds.
pub record StepsTo (New : Guest → Type 0) (claims : List Claim) (g : Guest) (call : Call)
    (reply : Reply) : Type 0 where
  pub new : Guest
  pub stands : New new
  pub step : GuestStep g call claims reply new

-- The frames that back the guest's pages are just these, each backing one page.
abbrev pub AreBehind : List ℕ → Guest → Type 0
AreBehind own g = (n : ℕ) → backing_count n g ≡ one_if (has own n)

-- The driver, the device and its memory are those of this guest, and the frames that back its pages
-- are just the device's own that are out: where it keeps none, no page has a frame.
abbrev pub IsAlone : Pages → Part → DriverState → Guest → Type 0
IsAlone mem part d g =
    (keeps : Bool) × Stands keeps mem part d g × AreBehind part.own g
