-- Where guest memory is: regions of whole pages, with holes between them.
use Rattle.std.specs.Prelude.{ℕ, ◌+◌, ◌-◌, ◌*◌, ◌/◌, ◌%◌, Bool, ◌==◌, ◌&&◌, nat_le, nat_lt, min}
use Rattle.std.specs.Prelude.{max}
use Rattle.std.specs.Prelude.{List, [], ◌∷◌, if◌then◌else◌, Option, Some, None}
use Rattle.std.specs.List.{flat_map}
use Rattle.vb_virtio.specs.Limits.{page_size}
use Rattle.vb_core.specs.declared.settings.TheConstants.{MEMORY_LIMIT}
use Rattle.vb_core.specs.declared.runs.Run.{Run}
use Rattle.vb_monitor.specs.declared.regions.TheConstants.{FILE_LIMIT}
use Rattle.vb_monitor.specs.declared.regions.Region.{Region}
use Rattle.vb_monitor.specs.declared.regions.Spot.{Spot}
use Rattle.vb_monitor.specs.declared.cuts.Cut.{Cut}

-- The region is whole pages of guest memory. One that isn't has no byte of it.
abbrev pub is_region : Region → Bool
is_region r =
    (r.guest % page_size == 0)
    && (r.length % page_size == 0)
    && nat_le r.guest MEMORY_LIMIT
    && nat_le r.length (MEMORY_LIMIT - r.guest)
    && nat_le r.in_file FILE_LIMIT

-- ---- where bytes are

-- n bytes from an address on lie in the region.
abbrev pub holds : Region → ℕ → ℕ → Bool
holds r a len =
    is_region r && nat_le r.guest a && nat_le len r.length && nat_le (a - r.guest) (r.length - len)

-- Their place in the first region that has all of them, where regions are numbered from `number`.
abbrev pub spot_from : ℕ → List Region → ℕ → ℕ → Option Spot
spot_from number [] a len = None
spot_from number (r ∷ rs) a len =
    if holds r a len then Some (record { region = number; offset = a - r.guest })
    else spot_from (number + 1) rs a len

-- Where n bytes from an address on are guest memory.
abbrev pub spot : List Region → ℕ → ℕ → Option Spot
spot regions a len = spot_from 0 regions a len

-- ---- the pages of a run

-- The first page that is the run's and the region's, and the one after the last such page.
abbrev pub first_both : Region → Run → ℕ
first_both r run = max (r.guest / page_size) run.first

abbrev pub end_both : Region → Run → ℕ
end_both r run = min ((r.guest + r.length) / page_size) (run.first + run.count)

-- The bytes of a run's pages in a region, which has this number.
abbrev pub cut_of : ℕ → Region → Run → Cut
cut_of number r run = record {
  region = number;
  offset = page_size * first_both r run - r.guest;
  in_file = r.in_file + (page_size * first_both r run - r.guest);
  length = page_size * (end_both r run - first_both r run);
}

-- A region has pages of the run.
abbrev pub meets : Region → Run → Bool
meets r run = is_region r && nat_lt (first_both r run) (end_both r run)

-- The parts of a run in these regions, in their order, numbered from `number`.
abbrev pub cuts_from : ℕ → List Region → Run → List Cut
cuts_from number [] run = []
cuts_from number (r ∷ rs) run =
    if meets r run then cut_of number r run ∷ cuts_from (number + 1) rs run
    else cuts_from (number + 1) rs run

-- The parts of all runs, each within one region; what lies in holes is in none.
abbrev pub cuts_of : List Region → List Run → List Cut
cuts_of regions runs = flat_map (cuts_from 0 regions) runs
