-- Which pages a part of a run is.
use Rattle.std.specs.Prelude.{◌≡◌, ◌⊎◌, ℕ, ◌+◌, ◌*◌, ◌≤◌, List, [], ◌∷◌, slice_get, Some}
use Rattle.vb_virtio.specs.Limits.{page_size}
use Rattle.vb_core.specs.declared.runs.Run.{Run}
use Rattle.vb_monitor.specs.declared.regions.Region.{Region}
use Rattle.vb_monitor.specs.declared.cuts.Cut.{Cut}

-- The part is whole pages of the run, which lie in one region, and where that region's file has
-- them.
pub record IsPartOf (regions : List Region) (run : Run) (cut : Cut) : Type 0 where
  pub region : Region
  pub first : ℕ
  pub count : ℕ
  pub there : slice_get regions cut.region ≡ Some region
  pub begins : region.guest + cut.offset ≡ page_size * first
  pub long : cut.length ≡ page_size * count
  pub in_file : cut.in_file ≡ region.in_file + cut.offset
  pub above : run.first ≤ first
  pub below : first + count ≤ run.first + run.count

-- It is so of one of these runs.
abbrev pub IsPartOfOne : List Region → List Run → Cut → Type 0
IsPartOfOne regions [] cut = ⊥
IsPartOfOne regions (run ∷ runs) cut = IsPartOf regions run cut ⊎ IsPartOfOne regions runs cut

-- Each of these parts is.
abbrev pub ArePartsOf : List Region → List Run → List Cut → Type 0
ArePartsOf regions runs [] = Unit {0}
ArePartsOf regions runs (cut ∷ cuts) = IsPartOfOne regions runs cut × ArePartsOf regions runs cuts
