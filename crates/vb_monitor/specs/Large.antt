-- Memory of which the machine has larger pages than 4096 bytes: which of them go back to it, once
-- all their pages of 4096 bytes are given up.
use Rattle.std.specs.Prelude.{◌≡◌, ◌⊎◌, ℕ, ◌+◌, ◌-◌, ◌*◌, ◌/◌, ◌%◌, ◌<◌, ◌≤◌, Bool, true, false}
use Rattle.std.specs.Prelude.{not, ◌==◌, ◌&&◌, ◌||◌, nat_le, nat_lt, List, [], if◌then◌else◌}
use Rattle.std.specs.Prelude.{count_by}
use Rattle.std.specs.List.{range_with_len}
use Rattle.std.specs.Int.{is_power_of_two}
use Rattle.vb_virtio.specs.Limits.{page_size}
use Rattle.vb_virtio.specs.Features.{must_tell_host}
use Rattle.vb_core.specs.declared.device.Device.{Device}
use Rattle.vb_core.specs.Ballooned.{is_ballooned}
use Rattle.vb_monitor.specs.declared.regions.Region.{Region}
use Rattle.vb_monitor.specs.declared.cuts.Cut.{Cut}
use Rattle.vb_monitor.specs.declared.large.Large.{Large}
use Rattle.vb_monitor.specs.declared.large.TheConstants.{LARGEST_PAGE}
use Rattle.vb_monitor.specs.Regions.{is_region}

-- ---- what fits

-- Bytes of a page of the machine: a power of two from 4096 to 1 GiB.
abbrev pub is_page_size : ℕ → Bool
is_page_size size =
    nat_le page_size size && nat_le size LARGEST_PAGE && (size % page_size == 0)
    && is_power_of_two size

-- The region is pages of that size, and begins at one of its file.
abbrev pub is_made_of : ℕ → Region → Bool
is_made_of size r =
    is_region r && (r.guest % size == 0) && (r.length % size == 0) && (r.in_file % size == 0)

-- The bytes are whole pages of 4096 bytes, within the region.
abbrev pub is_part_of : Region → Cut → Bool
is_part_of r part =
    (part.offset % page_size == 0) && (part.length % page_size == 0)
    && nat_le part.offset r.length && nat_le part.length (r.length - part.offset)

abbrev pub may_go : ℕ → Region → Cut → Bool
may_go size r part = is_page_size size && is_made_of size r && is_part_of r part

-- ---- pages of 4096 bytes, by their numbers

-- The page is one of those from the first on and before the end.
abbrev pub is_between : ℕ → ℕ → ℕ → Bool
is_between first end p = nat_le first p && nat_lt p end

-- It is one of the large page of this number, where each has n.
abbrev pub is_of_large : ℕ → ℕ → ℕ → Bool
is_of_large small n p = is_between (small * n) (small * (n + 1)) p

-- Each page of a large page is one of those of a part, or in the set.
abbrev pub AllGiven : ℕ → ℕ → ℕ → List ℕ → ℕ → Type 0
AllGiven small first end set n =
    (p : ℕ) → is_of_large small n p ≡ true → (is_between first end p || is_ballooned set p) ≡ true

-- A large page goes with a part that has one of its pages, where all its pages were given up.
pub record GoesWith (small first end : ℕ) (set : List ℕ) (n : ℕ) : Type 0 where
  pub page : ℕ
  pub there : is_of_large small n page ≡ true
  pub of_part : is_between first end page ≡ true
  pub given : AllGiven small first end set n

-- A row begins at the large page that a part has first, where that goes, else after it; and stops
-- after the large page that it has last, where that goes, else before it.
pub data Begins (goes : Type 0) (first low : ℕ) : Type 0 where
  Here : low ≡ first → goes → Begins goes first low
  After : low ≡ first + 1 → (goes → ⊥) → Begins goes first low

pub data Stops (goes : Type 0) (last high : ℕ) : Type 0 where
  Past : high ≡ last + 1 → goes → Stops goes last high
  Before : high ≡ last → (goes → ⊥) → Stops goes last high

-- Just the large pages of a row go.
pub record RowGoes (small first end : ℕ) (set : List ℕ) (low high : ℕ) : Type 0 where
  pub some : low < high
  pub go : (n : ℕ) → low ≤ n → n < high → GoesWith small first end set n
  pub others : (n : ℕ) → GoesWith small first end set n → (low ≤ n) × (n < high)

abbrev pub NoneGoes : ℕ → ℕ → ℕ → List ℕ → Type 0
NoneGoes small first end set = (n : ℕ) → GoesWith small first end set n → ⊥

-- How many pages of a part aren't in a row of pages.
abbrev pub outside : ℕ → ℕ → ℕ → ℕ → ℕ
outside first end from further =
    count_by (λ p. not (is_between from further p)) (range_with_len first (end - first))

-- ---- parts of regions

-- Pages of a large page.
abbrev pub small_pages : ℕ → ℕ
small_pages size = size / page_size

-- The first page of these bytes, and the one after the last.
abbrev pub first_of : Region → Cut → ℕ
first_of r part = (r.guest + part.offset) / page_size

abbrev pub end_of_part : Region → Cut → ℕ
end_of_part r part = (r.guest + part.offset + part.length) / page_size

-- The page is one of these bytes.
abbrev pub is_of : Region → Cut → ℕ → Bool
is_of r part p = is_between (first_of r part) (end_of_part r part) p

-- The set says what was given up before where the driver agreed to tell the host before it uses a
-- page again (MUST_TELL_HOST: VIRTIO 1.1, 5.5.3). Else a page in it may be in use.
abbrev pub counted : Device → List ℕ → List ℕ
counted d set = if must_tell_host d.features then set else []

-- The large page of this number goes back with the part.
abbrev pub Goes : ℕ → Region → Cut → List ℕ → ℕ → Type 0
Goes size r part set n =
    GoesWith (small_pages size) (first_of r part) (end_of_part r part) set n

-- ---- the answer

-- Nothing is discarded: all pages of the part wait.
abbrev pub all_wait : Cut → Large
all_wait part = record {
  cut = record { region = part.region; offset = 0; in_file = 0; length = 0 };
  waiting = part.length / page_size;
}

-- Just the large pages of a row go, and all other pages of the part wait.
pub record GoesBack (size : ℕ) (r : Region) (part : Cut) (set : List ℕ) (answer : Large) : Type 0
  where
    pub low : ℕ
    pub high : ℕ
    pub row : RowGoes (small_pages size) (first_of r part) (end_of_part r part) set low high
    pub region : answer.cut.region ≡ part.region
    pub begins : r.guest + answer.cut.offset ≡ size * low
    pub ends : r.guest + answer.cut.offset + answer.cut.length ≡ size * high
    pub in_file : answer.cut.in_file ≡ r.in_file + answer.cut.offset
    pub waiting : answer.waiting ≡
        outside (first_of r part) (end_of_part r part) (small_pages size * low)
        (small_pages size * high)

-- No large page goes.
pub record AllWait (size : ℕ) (r : Region) (part : Cut) (set : List ℕ) (answer : Large) : Type 0
  where
    pub none : NoneGoes (small_pages size) (first_of r part) (end_of_part r part) set
    pub all : answer ≡ all_wait part

abbrev pub LargeIf : Bool → ℕ → Region → Cut → List ℕ → Large → Type 0
LargeIf true size r part set answer =
    GoesBack size r part set answer ⊎ AllWait size r part set answer
LargeIf false size r part set answer = answer ≡ all_wait part

-- What goes back with a part of a region whose pages have this size; where they don't fit, nothing
-- does.
abbrev pub LargeBy : ℕ → Region → Cut → List ℕ → Large → Type 0
LargeBy size r part set answer = LargeIf (may_go size r part) size r part set answer

-- The bytes are whole pages of the machine, in memory and in the region's file, within the region.
pub record AreWholePages (size : ℕ) (r : Region) (cut : Cut) : Type 0 where
  pub offset : cut.offset % size ≡ 0
  pub length : cut.length % size ≡ 0
  pub in_file : cut.in_file % size ≡ 0
  pub inside : cut.offset + cut.length ≤ r.length
