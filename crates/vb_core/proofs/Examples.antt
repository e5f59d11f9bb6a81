-- Devices that the facts of this crate are worked out for.
use Rattle.std.proofs.Common.{ℕ}
use Rattle.vb_core.specs.{declared.settings.Settings.Settings, declared.device.Device.Device}
use Rattle.vb_core.specs.Devices.{new_device, placed}

-- of memory of 64 pages, of which 16 are reserved
abbrev pub offering : ℕ → Settings
offering offered = record {
  memory_end = 262144;
  offered = offered;
  reserved_pages = 16;
  needs_must_tell = 0;
  skips_bad_pages = 0;
  holds_deflates = 0;
  discards_hints = 0;
}

abbrev pub settings : Settings
settings = offering 0x100000027

abbrev pub fresh : Device
fresh = new_device settings

-- one that is ready, with a ring of eight descriptors for inflates, and one for reports
abbrev pub ready : Device
ready = record fresh {
  features = 0x100000027;
  status = 15;
  inflate = placed 0 256 512 8;
  report = placed 0 256 512 8;
}
