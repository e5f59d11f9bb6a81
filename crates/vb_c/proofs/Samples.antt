-- Settings, regions and balloons that the facts share.
use Rattle.vb_monitor.specs.declared.room.Room.{Room}
use Rattle.std.proofs.Common.{◌≡◌, ℕ, [], ◌∷◌, List, Option, Some}
use Rattle.vb_core.{specs.declared.settings.Settings.Settings, specs.declared.device.Device.Device}
use Rattle.vb_core.specs.{Devices.{new_device, placed}, declared.held.Held.Held}
use Rattle.vb_monitor.specs.declared.outcome.HeldChain.{HeldChain}
use Rattle.vb_monitor.{specs.declared.regions.Region.Region, specs.declared.balloon.Balloon.Balloon}

abbrev pub Same : ℕ → ℕ → Type 0
Same a b = a ≡ b

abbrev pub settings : Settings
settings = record {
  memory_end = 0x20000;
  offered = 0x100000027;
  reserved_pages = 0;
  needs_must_tell = 0;
  skips_bad_pages = 0;
  holds_deflates = 0;
  discards_hints = 0;
}

-- settings that no device may have: no memory
abbrev pub no_settings : Settings
no_settings = record settings { offered = 0x27 }

-- one whose driver has begun, and one that is ready
abbrev pub begun : Device
begun = record (new_device settings) { features = 0x100000027; status = 11 }

abbrev pub ready : Device
ready = record begun { status = 15; inflate = placed 0 0x100 0x200 8; statistics = placed 0x800 0x900 0xa00 4 }

-- pages 0 to 20, and, one page on, pages 22 to 31
abbrev pub two : List Region
two = record { guest = 0; length = 0x15000; in_file = 0 }
    ∷ record { guest = 0x16000; length = 0xa000; in_file = 0x100000 } ∷ []

-- the first of them without the other
abbrev pub first_alone : List Region
first_alone = record { guest = 0; length = 0x15000; in_file = 0 } ∷ []

-- no region is half a page
abbrev pub half : List Region
half = record { guest = 0; length = 0x800; in_file = 0 } ∷ []

-- 1 more than the head of a buffer of statistics is held
abbrev pub a_buffer : ℕ → Held
a_buffer n = record { statistics = n; deflate = 0; pages = 0 }

-- a chain of this head is held, which names n pages
abbrev pub chain_of : ℕ → ℕ → Option HeldChain
chain_of head pages = Some (record { head = head; pages = pages })

abbrev pub balloon : Balloon
balloon = record { device = begun; held = a_buffer 4 }

abbrev pub nothing_copied : Room
nothing_copied = record { pieces = []; bytes = []; runs = []; figures = [] }
