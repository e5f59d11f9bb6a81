-- A device over regions: where memory ends, what of it is memory, and where queues may lie.
use Rattle.std.specs.Prelude.{◌≡◌, ◌⊎◌, ℕ, ◌+◌, ◌*◌, ◌≤◌, ◌<◌, Bool, true, false, ◌==◌, ◌&&◌, ◌||◌}
use Rattle.std.specs.Prelude.{max, List, [], ◌∷◌, if◌then◌else◌, Option, Some, None}
use Rattle.std.specs.Prelude.{Result, Ok, Err}
use Rattle.vb_core.specs.declared.kinds.Kind.{Kind}
use Rattle.vb_core.specs.declared.ring.Virtqueue.{Virtqueue}
use Rattle.vb_core.specs.declared.settings.Settings.{Settings}
use Rattle.vb_core.specs.declared.device.Device.{Device}
use Rattle.vb_core.specs.declared.saved.Saved.{Saved}
use Rattle.vb_core.specs.declared.saved.StateDenial.{StateDenial}
use Rattle.vb_monitor.specs.declared.placing.RestoreDenial.{RestoreDenial}
use Rattle.vb_monitor.specs.declared.placing.RestoreDenial.TheVariants.{State, Elsewhere}
use Rattle.vb_core.specs.Settings.{are_settings}
use Rattle.vb_core.specs.Devices.{new_device, ring_of}
use Rattle.vb_core.specs.Held.{nothing_held}
use Rattle.vb_monitor.specs.declared.regions.Region.{Region}
use Rattle.vb_monitor.specs.declared.balloon.Balloon.{Balloon}
use Rattle.vb_monitor.specs.Regions.{is_region, holds}

-- ---- all regions

-- Each region is whole pages of guest memory.
abbrev pub are_regions : List Region → Bool
are_regions [] = true
are_regions (r ∷ rs) = is_region r && are_regions rs

-- Where the last region ends.
abbrev pub end_of : List Region → ℕ
end_of [] = 0
end_of (r ∷ rs) = max (r.guest + r.length) (end_of rs)

-- Where memory of these regions ends, if they are regions.
abbrev pub memory_end_of : List Region → Option ℕ
memory_end_of regions = if are_regions regions then Some (end_of regions) else None

-- ---- what is memory

-- A byte lies in one of the regions.
abbrev pub is_memory : List Region → ℕ → Bool
is_memory [] b = false
is_memory (r ∷ rs) b = holds r b 1 || is_memory rs b

-- Each of n bytes from an address on does.
abbrev pub AreMemory : List Region → ℕ → ℕ → Type 0
AreMemory regions a len = (b : ℕ) → a ≤ b → b < a + len → is_memory regions b ≡ true

-- Each part of a queue is memory (VIRTIO 1.1, 2.6).
pub record HasMemory (regions : List Region) (r : Virtqueue) : Type 0 where
  pub table : AreMemory regions r.table (16 * r.size)
  pub avail : AreMemory regions r.avail (6 + 2 * r.size)
  pub used : AreMemory regions r.used (6 + 8 * r.size)

-- The queue has no place, or one that is memory.
abbrev pub Lies : List Region → Virtqueue → Type 0
Lies regions r = (r.size ≡ 0) ⊎ HasMemory regions r

-- So does each queue of a device.
abbrev pub AllLie : List Region → Device → Type 0
AllLie regions d = (kind : Kind) → Lies regions (ring_of kind d)

-- ---- devices over regions

-- Memory ends where the settings say, or else with the last region.
abbrev pub settings_over : Settings → List Region → Settings
settings_over s regions =
    record s { memory_end = if s.memory_end == 0 then end_of regions else s.memory_end }

-- A balloon of these settings over the regions, where there may be one.
abbrev pub balloon_over : Settings → List Region → Option Balloon
balloon_over s regions =
    if are_regions regions && are_settings (settings_over s regions)
    then Some (record { device = new_device (settings_over s regions); held = nothing_held })
    else None

-- The settings with the end of these regions.
abbrev pub ending_with : Settings → List Region → Settings
ending_with s regions = record s { memory_end = end_of regions }

-- The regions may be a device's memory.
abbrev pub may_be_memory : Settings → List Region → Bool
may_be_memory s regions = are_regions regions && are_settings (ending_with s regions)

-- A saved balloon goes on over these regions in place of this one.
pub record FitsOver (regions : List Region) (b : Balloon) (s : Saved) : Type 0 where
  pub same_end : s.device.settings.memory_end ≡ b.device.settings.memory_end
  pub lie : AllLie regions s.device

-- It does so, or is refused.
pub record Becomes (regions : List Region) (s : Saved) (b1 b2 : Balloon)
    (result : Result (Unit {0}) RestoreDenial) : Type 0 where
  pub elsewhere : (¬ FitsOver regions b1 s) → (result ≡ Err Elsewhere) × (b2 ≡ b1)
  pub goes_on : FitsOver regions b1 s →
      (result ≡ Ok tt) × (b2 ≡ record { device = s.device; held = s.held })

-- What bytes are restored to goes on over these regions, or nothing is changed.
abbrev pub RestoresBy : Result Saved StateDenial → List Region → Balloon → Balloon →
    Result (Unit {0}) RestoreDenial → Type 0
RestoresBy (Err why) regions b1 b2 result = (result ≡ Err (State why)) × (b2 ≡ b1)
RestoresBy (Ok s) regions b1 b2 result = Becomes regions s b1 b2 result
