-- Which bytes of guest memory an access touches.
use Rattle.std.specs.Prelude.{◌≡◌, ℕ, ◌+◌, ◌≤◌, true, List, length, slice_get, Some}
use Rattle.vb_monitor.specs.declared.regions.Region.{Region}
use Rattle.vb_monitor.specs.Accesses.{Access, ReadWord, CopyBytes, Acquire, Release, Full}
use Rattle.vb_monitor.specs.Accesses.{TellPages}
use Rattle.vb_monitor.specs.Accesses.{TellFigures, TellId, Pause, Discard, WriteNumber, WriteWord}
use Rattle.vb_monitor.specs.Regions.{is_region}

-- n bytes from an offset of the region of this number on lie in that region.
pub record IsWithin (regions : List Region) (number offset len : ℕ) : Type 0 where
  pub region : Region
  pub there : slice_get regions number ≡ Some region
  pub possible : is_region region ≡ true
  pub inside : offset + len ≤ region.length

-- The access touches guest memory alone: it reads, writes and discards within one region.
abbrev pub Touches : List Region → Access → Type 0
Touches regions (ReadWord at answer) = IsWithin regions at.region at.offset 2
Touches regions (CopyBytes at answer) = IsWithin regions at.region at.offset (length answer)
Touches regions Acquire = Unit {0}
Touches regions Release = Unit {0}
Touches regions Full = Unit {0}
Touches regions (TellPages kind runs named) = Unit {0}
Touches regions (TellFigures figures) = Unit {0}
Touches regions (TellId id) = Unit {0}
Touches regions Pause = Unit {0}
Touches regions (Discard cut) = IsWithin regions cut.region cut.offset cut.length
Touches regions (WriteNumber at number) = IsWithin regions at.region at.offset 4
Touches regions (WriteWord at word) = IsWithin regions at.region at.offset 2
