-- What holds of each driver, of its queues, of its tables and of its page areas, and what doesn't.
use Rattle.std.proofs.Common.{◌≡◌, ℕ, true, false, List, []}
use Rattle.std.proofs.Common.{◌∷◌, ◌++◌, map, refl, ap, arith}
use Rattle.std.specs.Prelude.{Option, Some, None, Bool, length, replicate}
use Rattle.std.specs.Prelude.{slice_index_or, count_by, slice_set}
use Rattle.vb_model.specs.declared.places.Place.{Place}
use Rattle.vb_model.specs.declared.places.Place.TheVariants.{Reserved, Free, Used, Giving, Lent}
use Rattle.vb_model.specs.declared.places.Place.TheVariants.{Taking, Stranded, Reporting}
use Rattle.vb_model.specs.Pages.{Block, block_at}
use Rattle.vb_ring.specs.{Ends.DriverEnd, declared.layout.Layout.Layout}
use Rattle.vb_pages.specs.Areas.{unreserved}
use Rattle.vb_driver.specs.State.{DriverState, RequestSide, ReportSide, fresh_driver, fresh_side}
use Rattle.vb_driver.specs.State.{fresh_ring, fresh_report, IsDriver, AreRequests, IsQueue, naming}
use Rattle.vb_driver.specs.State.{IsStatisticsQueue, IsAreaBlock, IsReportQueue, giving_count}
use Rattle.vb_driver.specs.State.{lent_count, stranded_count, free_count, tells_host}
use Rattle.vb_driver.specs.Places.{number_of, is_at, IsTable, AreLentBits}
use Rattle.vb_driver.specs.Areas.{flags_of}
use Rattle.vb_driver.proofs.{DriverFacts.busy, Resetting.fresh_kept}

-- ---- a driver of 64 pages as it is made, which is one

abbrev pub made : DriverState
made = fresh_driver 64 8 1

is_one : IsDriver made
is_one = fresh_kept 64 1 0 (omega arith) (omega arith) (grind arith)

-- what it has of each kind of page, and how often its requests name one
counts : free_count busy ∷ giving_count busy ∷ lent_count busy ∷ stranded_count busy ∷ [] ≡ 1 ∷ 1 ∷ 1 ∷ 1 ∷ []
counts = refl

lent_more : giving_count (record busy { places = Giving ∷ Giving ∷ Lent ∷ [] })
    ∷ stranded_count (record busy { places = Stranded ∷ Stranded ∷ Lent ∷ [] }) ∷ [] ≡ 2 ∷ 2 ∷ []
lent_more = refl

named : map (λ page. naming page ((3 ∷ 4 ∷ []) ∷ [] ∷ (4 ∷ 4 ∷ []) ∷ [])) (3 ∷ 4 ∷ 5 ∷ [])
    ≡ 1 ∷ 3 ∷ 0 ∷ []
named = refl

told : tells_host (record busy { features = 1 }) ∷ tells_host (record busy { features = 2 }) ∷ []
    ≡ true ∷ false ∷ []
told = refl

-- ---- a queue of requests: each that is out has one descriptor, of the first 16, and names pages

abbrev owned_by : List (Option ℕ) → RequestSide
owned_by owner = record (fresh_side 0 8) { ring = record (fresh_ring 0 8) { owner = owner } }

abbrev sending : List (List ℕ) → RequestSide
sending sent = record (fresh_side 0 8) { sent = sent }

no_requests : (AreRequests (owned_by (Some 0 ∷ Some 0 ∷ [])) → false ≡ true)
    × (AreRequests (owned_by (replicate 16 None ++ Some 16 ∷ [])) → ⊥)
    × (AreRequests (sending (replicate 15 [])) → ⊥) × (AreRequests (sending (replicate 17 [])) → ⊥)
    × (AreRequests (sending (slice_set (replicate 16 []) 3 (20 ∷ []))) → ⊥)
no_requests = (
  λ are. are.single 1 refl,
  λ are. omega (arith, are.few 16 refl),
  λ are. omega (arith, are.buffers),
  λ are. omega (arith, are.buffers),
  λ are. omega (arith, ap (λ (l : List ℕ). length l) (are.unsent 3 refl)),
)

too_long : (pages : List ℕ) → length pages ≡ 257 → AreRequests (sending (pages ∷ replicate 15 [])) → ⊥
too_long pages e are = omega (arith, are.short 0)

-- the queue's own number and size
no_queue : (IsQueue (fresh_side 1 8) 0 8 → ⊥) × (IsQueue (fresh_side 0 8) 0 16 → ⊥)
    × (IsQueue (fresh_side 0 16) 0 8 → ⊥)
no_queue = (
  λ is. omega (arith, is.number),
  λ is. omega (arith, is.size),
  λ is. omega (arith, is.size),
)

-- ---- the one statistics buffer

abbrev buffer_of : List (Option ℕ) → DriverEnd
buffer_of owner = record (fresh_ring 2 8) { owner = owner }

no_statistics : (IsStatisticsQueue (buffer_of (Some 0 ∷ Some 0 ∷ [])) 8 → false ≡ true)
    × (IsStatisticsQueue (buffer_of (None ∷ Some 1 ∷ [])) 8 → ⊥)
    × (IsStatisticsQueue (record (fresh_ring 2 8) { layout = (fresh_ring 1 8).layout }) 8 → ⊥)
    × (IsStatisticsQueue (fresh_ring 2 8) 16 → ⊥) × (IsStatisticsQueue (fresh_ring 2 16) 8 → ⊥)
no_statistics = (
  λ is. is.single 1 refl,
  λ is. omega (arith, is.first 1 refl),
  λ is. omega (arith, ap (λ (l : Layout). l.table) is.layout),
  λ is. omega (arith, is.size),
  λ is. omega (arith, is.size),
)

-- ---- the one report

area_blocks : IsAreaBlock (block_at 512 9) × (IsAreaBlock (block_at 1024 10) → ⊥)
    × (IsAreaBlock (block_at 24 4) → false ≡ true)
area_blocks = (
  record { order = omega arith; aligned = refl },
  λ is. omega (arith, is.order),
  λ is. is.aligned,
)

abbrev reporting : List (Option ℕ) → List Block → ReportSide
reporting owner blocks = record { ring = record (fresh_ring 4 8) { owner = owner }; blocks = blocks }

-- of two blocks it has the first two descriptors, both of head 0, and of none it has none
no_report : (IsReportQueue (reporting (Some 0 ∷ Some 1 ∷ []) (block_at 16 4 ∷ block_at 32 5 ∷ [])) 8
    → ◌≡◌ {A = Option ℕ} (Some 1) (Some 0))
    × (IsReportQueue (reporting (Some 0 ∷ None ∷ []) (block_at 16 4 ∷ block_at 32 5 ∷ [])) 8
    → ◌≡◌ {A = Option ℕ} None (Some 0))
    × (IsReportQueue (reporting (Some 0 ∷ []) []) 8 → ◌≡◌ {A = Option ℕ} (Some 0) None)
    × (IsReportQueue (reporting [] (replicate 17 (block_at 16 4))) 8 → ⊥)
    × (IsReportQueue (reporting (Some 0 ∷ []) (block_at 24 4 ∷ [])) 8 → false ≡ true)
    × (IsReportQueue (record { ring = fresh_ring 2 8; blocks = [] }) 8 → ⊥)
    × (IsReportQueue (fresh_report 8) 16 → ⊥) × (IsReportQueue (fresh_report 16) 8 → ⊥)
no_report = (
  λ is. is.owned 1,
  λ is. is.owned 1,
  λ is. is.owned 0,
  λ is. omega (arith, is.few),
  λ is. (is.blocks 0 (block_at 0 0) (omega arith)).aligned,
  λ is. omega (arith, ap (λ (l : Layout). l.table) is.layout),
  λ is. omega (arith, is.size),
  λ is. omega (arith, is.size),
)

-- ---- a driver: its sizes and its queues

no_driver : (places : List Place)
    → (length places ≡ 63 → IsDriver (record made { pages = 63; places = places }) → ⊥)
    × (length places ≡ 65537 → IsDriver (record made { pages = 65537; places = places }) → ⊥)
    × (IsDriver (fresh_driver 64 12 1) → ⊥)
    × (IsDriver (record made { inflate = made.deflate }) → ⊥)
    × (IsDriver (record made { deflate = made.inflate }) → ⊥)
    × (IsDriver (record made { inflate = fresh_side 0 16 }) → ⊥)
    × (IsDriver (record made { statistics = fresh_ring 2 16 }) → ⊥)
    × (IsDriver (record made { report = fresh_report 16 }) → ⊥)
no_driver places = (
  λ e is. omega (arith, is.least),
  λ e is. omega (arith, is.most),
  λ is. omega (arith, is.size.divides),
  λ is. omega (arith, is.inflate.number),
  λ is. omega (arith, is.deflate.number),
  λ is. omega (arith, is.inflate.size),
  λ is. omega (arith, is.statistics.size),
  λ is. omega (arith, is.report.size),
)

-- with fewer places than pages, or more
no_table : (IsDriver (record made { places = replicate 63 Used }) → ⊥)
    × (IsDriver (record made { places = replicate 65 Used }) → ⊥)
no_table = (λ is. omega (arith, is.table), λ is. omega (arith, is.table))

-- the places of pages 0 to 15, which are reserved, and of those after them
abbrev with_places : List Place → DriverState
with_places more = record made { places = replicate 16 Reserved ++ more }

abbrev named_by : List ℕ → RequestSide → RequestSide
named_by pages side = record side { sent = pages ∷ replicate 15 [] }

-- a page that an inflate names is giving, and named once; one that a deflate names is taking, where
-- the host is told first
no_names : (IsDriver (record made { inflate = named_by (20 ∷ []) made.inflate }) → ⊥)
    × (IsDriver (record (with_places (Giving ∷ [])) { inflate = named_by (16 ∷ 16 ∷ []) made.inflate }) → ⊥)
    × (IsDriver (record made { deflate = named_by (20 ∷ []) made.deflate; features = 1 }) → ⊥)
    × (IsDriver (record (with_places (Taking ∷ [])) {
      deflate = named_by (16 ∷ 16 ∷ []) made.deflate;
      features = 1;
    }) → ⊥)
    × (IsDriver (record made { report = record made.report { blocks = block_at 20 0 ∷ [] } }) → ⊥)
    × (IsDriver (record (with_places (Reporting ∷ [])) {
      report = record made.report { blocks = block_at 16 0 ∷ block_at 16 0 ∷ [] };
    }) → ⊥)
no_names = (
  λ is. omega (arith, is.giving 20),
  λ is. omega (arith, is.giving 16),
  λ is. omega (arith, is.taking refl 20),
  λ is. omega (arith, is.taking refl 16),
  λ is. omega (arith, is.reporting 20),
  λ is. omega (arith, is.reporting 16),
)

-- a page that is free isn't missing in the areas, nor is one there that isn't free
no_areas : (IsDriver (record made { areas = record made.areas { areas = replicate 64 false } }) → false ≡ true)
    × (IsDriver (with_places (Used ∷ replicate 47 Free)) → true ≡ false)
    × (IsDriver (record made { processors = 2 }) → ⊥) × (IsDriver (record made { processors = 0 }) → ⊥)
    × (IsDriver (record made { areas = record made.areas { reserved = 15 } }) → ⊥)
    × (IsDriver (record made { areas = record made.areas { reserved = 17 } }) → ⊥)
unfolding flags_of unreserved
no_areas = (
  λ is. ap (λ (l : List Bool). slice_index_or l 16 false) is.free,
  λ is. ap (λ (l : List Bool). slice_index_or l 16 false) is.free,
  λ is. omega (arith, is.processors),
  λ is. omega (arith, is.processors),
  λ is. omega (arith, is.set_aside),
  λ is. omega (arith, is.set_aside),
)

-- a held page is used, and the first 16 are reserved
no_held : (IsDriver (record made { held = block_at 20 0 ∷ [] }) → Free ≡ Used)
    × (IsDriver (record (with_places (Lent ∷ [])) { held = block_at 16 0 ∷ [] }) → Lent ≡ Used)
    × (IsDriver (record made { places = replicate 15 Reserved ++ replicate 49 Free }) → Free ≡ Reserved)
no_held = (λ is. is.used 20 refl, λ is. is.used 16 refl, λ is. is.reserved 15 (omega arith))

-- ---- the table of places: of two lent pages, a stranded one and a free one

abbrev four : List Place
four = Lent ∷ Stranded ∷ Free ∷ Lent ∷ []

table : (counts : List ℕ) (lent stranded : List Bool) → IsTable counts lent stranded four
    → (length counts ≡ 8)
    × ((slice_index_or counts 0 0 ≡ 0) × (slice_index_or counts 1 0 ≡ 1)
    × (slice_index_or counts 4 0 ≡ 2) × (slice_index_or counts 6 0 ≡ 1))
    × (lent ≡ true ∷ false ∷ false ∷ true ∷ []) × (stranded ≡ false ∷ true ∷ false ∷ false ∷ [])
table counts lent stranded is = (
  is.kinds,
  (
    is.are_counts.each Reserved,
    is.are_counts.each Free,
    is.are_counts.each Lent,
    is.are_counts.each Stranded,
  ),
  is.are_sets.of_lent,
  is.are_sets.of_stranded,
)

a_table : IsTable (0 ∷ 1 ∷ 0 ∷ 0 ∷ 2 ∷ 0 ∷ 1 ∷ 0 ∷ []) (true ∷ false ∷ false ∷ true ∷ [])
    (false ∷ true ∷ false ∷ false ∷ []) four
a_table = record {
  kinds = refl;
  are_counts = record { each = counted };
  are_sets = record { of_lent = refl; of_stranded = refl };
  small = omega arith;
} where
  counted : (place : Place)
      → slice_index_or (0 ∷ 1 ∷ 0 ∷ 0 ∷ 2 ∷ 0 ∷ 1 ∷ 0 ∷ []) (number_of place) 0 ≡ count_by (is_at place) four
  counted Reserved = refl
  counted Free = refl
  counted Used = refl
  counted Giving = refl
  counted Lent = refl
  counted Taking = refl
  counted Stranded = refl
  counted Reporting = refl

no_larger : (counts : List ℕ) (lent stranded : List Bool) (places : List Place)
    → length places ≡ 65537 → IsTable counts lent stranded places → ⊥
no_larger counts lent stranded places e is = omega (arith, is.small)

-- the bit of a lent page is 1, in the word that has it
lent_bits : (words : List ℕ) → AreLentBits (replicate 65 Free ++ Lent ∷ []) words → length words ≡ 2
lent_bits words are = are.fewest

no_lent_bits : (AreLentBits (replicate 65 Free ++ Lent ∷ []) (0 ∷ 0 ∷ []) → false ≡ true)
    × (AreLentBits (replicate 65 Free ++ Lent ∷ []) (2 ∷ 2 ∷ []) → true ≡ false)
no_lent_bits = (λ are. are.tells 1 1 (omega arith), λ are. are.tells 0 1 (omega arith))
