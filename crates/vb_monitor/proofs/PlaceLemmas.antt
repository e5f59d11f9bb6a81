-- Bytes of regions, and where the last region ends.
use Rattle.std.proofs.Common.{◌≡◌, ◌∙◌, ap, refl, arith, ℕ, ◌+◌, ◌-◌, ◌/◌, ◌<◌, ◌≤◌, Bool, true, false, List, [], ◌∷◌, length, drop, get_or, Some}
use Rattle.std.specs.Prelude.{if◌then◌else◌, ◌&&◌, ◌||◌, is_some, max}
use Rattle.std.proofs.lemmas.List.{drop_more, drop_all}
use Rattle.std.proofs.lemmas.Bool.Decides.{nat_tests}
use Rattle.vb_core.specs.declared.kinds.Kind.TheVariants.{Inflate, Deflate, Statistics, Hint, Report}
use Rattle.vb_core.specs.declared.{device.Device.Device, settings.TheConstants.{MEMORY_LIMIT}}
use Rattle.vb_monitor.specs.{declared.regions.Region.Region, Regions.{is_region, holds, spot}}
use Rattle.vb_monitor.specs.{Regions.spot_from, Places.{is_memory, are_regions, end_of, Lies, AllLie}}

-- ---- bytes

there_by : (n : ℕ) (r : Region) (rs : List Region) (b : ℕ) (h : Bool) →
    is_some (spot_from (n + 1) rs b 1) ≡ is_memory rs b →
    is_some (if h then Some (record { region = n; offset = b - r.guest })
    else spot_from (n + 1) rs b 1) ≡ (h || is_memory rs b)
there_by n r rs b true e = refl
there_by n r rs b false e = e

there_from : (n : ℕ) (rs : List Region) (b : ℕ) → is_some (spot_from n rs b 1) ≡ is_memory rs b
there_from n [] b = refl
there_from n (r ∷ rs) b = there_by n r rs b (holds r b 1) (there_from (n + 1) rs b)

pub memory_there : (rs : List Region) (b : ℕ) → is_some (spot rs b 1) ≡ is_memory rs b
memory_there rs b = there_from 0 rs b

-- regions are whole pages
holds_page : (r : Region) (b c : ℕ) → b / 4096 ≡ c / 4096 → holds r b 1 ≡ holds r c 1
holds_page r b c h = grind (arith, nat_tests)

pub same_page : (rs : List Region) (b c : ℕ) → b / 4096 ≡ c / 4096 → is_memory rs b ≡ is_memory rs c
same_page [] b c h = refl
same_page (r ∷ rs) b c h = ap (λ (x : Bool). x || is_memory rs b) (holds_page r b c h)
    ∙ ap (λ (x : Bool). holds r c 1 || x) (same_page rs b c h)

holds_far : (r : Region) (b : ℕ) → MEMORY_LIMIT ≤ b → holds r b 1 ≡ false
holds_far r b h = grind (arith, nat_tests)

pub memory_far : (rs : List Region) (b : ℕ) → MEMORY_LIMIT ≤ b → is_memory rs b ≡ false
memory_far [] b h = refl
memory_far (r ∷ rs) b h =
    ap (λ (x : Bool). x || is_memory rs b) (holds_far r b h) ∙ memory_far rs b h

-- ---- all regions, one after the other

pub regions_here : (rs : List Region) (n : ℕ) (d : Region) → n < length rs →
    are_regions (drop n rs) ≡ (is_region (get_or rs n d) && are_regions (drop (n + 1) rs))
regions_here rs n d lt = ap (λ (l : List Region). are_regions l) (drop_more rs n d lt)

pub end_here : (rs : List Region) (n : ℕ) (d : Region) → n < length rs → end_of (drop n rs)
    ≡ max ((get_or rs n d).guest + (get_or rs n d).length) (end_of (drop (n + 1) rs))
end_here rs n d lt = ap (λ (l : List Region). end_of l) (drop_more rs n d lt)

pub regions_end : (rs : List Region) (n : ℕ) → length rs ≤ n → are_regions (drop n rs) ≡ true
regions_end rs n le = ap (λ (l : List Region). are_regions l) (drop_all n rs le)

pub end_end : (rs : List Region) (n : ℕ) → length rs ≤ n → end_of (drop n rs) ≡ 0
end_end rs n le = ap (λ (l : List Region). end_of l) (drop_all n rs le)

pub ruleset region_steps = (regions_here, end_here, regions_end, end_end)

pub ruleset byte_steps = (same_page, memory_far)

-- ---- the queue of each kind

pub each_lies : (rs : List Region) (d : Device) → Lies rs d.inflate → Lies rs d.deflate →
    Lies rs d.statistics → Lies rs d.hint → Lies rs d.report → AllLie rs d
each_lies rs d inflate deflate statistics hint report Inflate = inflate
each_lies rs d inflate deflate statistics hint report Deflate = deflate
each_lies rs d inflate deflate statistics hint report Statistics = statistics
each_lies rs d inflate deflate statistics hint report Hint = hint
each_lies rs d inflate deflate statistics hint report Report = report

pub inflate_lies : (rs : List Region) (d : Device) → AllLie rs d → Lies rs d.inflate
inflate_lies rs d all = all Inflate

pub deflate_lies : (rs : List Region) (d : Device) → AllLie rs d → Lies rs d.deflate
deflate_lies rs d all = all Deflate

pub statistics_lies : (rs : List Region) (d : Device) → AllLie rs d → Lies rs d.statistics
statistics_lies rs d all = all Statistics

pub hint_lies : (rs : List Region) (d : Device) → AllLie rs d → Lies rs d.hint
hint_lies rs d all = all Hint

pub report_lies : (rs : List Region) (d : Device) → AllLie rs d → Lies rs d.report
report_lies rs d all = all Report

pub ruleset kind_steps = (
  each_lies,
  inflate_lies,
  deflate_lies,
  statistics_lies,
  hint_lies,
  report_lies,
)
