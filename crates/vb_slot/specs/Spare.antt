-- A device that waits for a guest.
use Rattle.std.specs.Prelude.{◌≡◌, Bool, false, []}
use Rattle.vb_model.specs.Guest.{Config}
use Rattle.vb_ram.specs.declared.config.Config.{Config as Sizes}
use Rattle.vb_ram.specs.Pages.{Pages}
use Rattle.vb_ram.specs.Part.{Part}
use Rattle.vb_device.specs.Calls.{IsUnused}

-- No guest has the device yet, and it has no frames of its own.
pub record IsSpare (mem : Pages) (part : Part) : Type 0 where
  pub unused : IsUnused mem part
  pub keeps : part.keeps ≡ false
  pub own : part.own ≡ []

-- No guest has the device yet, and of its own frames, if it keeps such, none is out.
abbrev pub IsNew : Pages → Part → Type 0
IsNew mem part = IsUnused mem part × (part.own ≡ [])

-- a guest of these sizes, on a device of this pace
abbrev pub config_of : Sizes → Bool → Config
config_of sizes paced =
    record {
      pages = sizes.pages;
      queue_size = sizes.queue_size;
      processors = sizes.processors;
      paced = paced;
    }
