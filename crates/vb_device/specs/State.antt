-- What is seen of a device.
use Rattle.vb_ram.specs.Pages.{Pages}
use Rattle.vb_ram.specs.Part.{Part}

-- The guest's memory, and what the device keeps beside its bytes.
pub record DeviceState : Type 0 where
  pub mem : Pages
  pub part : Part
