-- A table of places, and how many pages it has at each.
use Rattle.std.specs.Prelude.{true, false, ◌≡◌, ℕ, nat_lt, if◌then◌else◌}
use Rattle.std.specs.Prelude.{Bool, List, length, ◌+◌, ◌*◌, ◌<◌, ◌≤◌, slice_index, count_by, map}
use Rattle.std.specs.Int.{div_ceil}
pub use Rattle.vb_virtio.specs.Tests.{marked}
use Rattle.vb_model.specs.Pages.{is_free, is_used, is_giving, is_lent, is_taking, is_stranded}
use Rattle.vb_model.specs.Pages.{is_reporting, place_of}
use Rattle.vb_virtio.specs.Tests.{has_bit}
use Rattle.vb_virtio.specs.declared.limits.TheConstants.{MAX_GUEST_PAGES}
use Rattle.vb_model.specs.declared.places.Place.{Place}
use Rattle.vb_bits.specs.declared.word.TheConstants.{WORD_BITS}
use Rattle.vb_model.specs.declared.places.Place.TheVariants.{Reserved, Free, Used, Giving, Lent}
use Rattle.vb_model.specs.declared.places.Place.TheVariants.{Taking, Stranded, Reporting}

-- the places, numbered
abbrev pub number_of : Place → ℕ
number_of Reserved = 0
number_of Free = 1
number_of Used = 2
number_of Giving = 3
number_of Lent = 4
number_of Taking = 5
number_of Stranded = 6
number_of Reporting = 7

abbrev pub is_reserved : Place → Bool
is_reserved Reserved = true
is_reserved _ = false

-- whether a page has the place
abbrev pub is_at : Place → Place → Bool
is_at Reserved = is_reserved
is_at Free = is_free
is_at Used = is_used
is_at Giving = is_giving
is_at Lent = is_lent
is_at Taking = is_taking
is_at Stranded = is_stranded
is_at Reporting = is_reporting

-- where a page is as the guest is plugged in, of which n are reserved
abbrev pub first_place : ℕ → ℕ → Place
first_place reserved page = if nat_lt page reserved then Reserved else Free

-- the table of counts says of each place how many pages have it
pub record AreCounts (counts : List ℕ) (places : List Place) : Type 0 where
  pub each : (place : Place) → slice_index counts (number_of place) ≡ count_by (is_at place) places

-- the sets have just the lent and the stranded pages
pub record AreSets (lent stranded : List Bool) (places : List Place) : Type 0 where
  pub of_lent : lent ≡ map is_lent places
  pub of_stranded : stranded ≡ map is_stranded places

-- what holds of each table
pub record IsTable (counts : List ℕ) (lent stranded : List Bool) (places : List Place)
    : Type 0 where
  pub kinds : length counts ≡ 8
  pub are_counts : AreCounts counts places
  pub are_sets : AreSets lent stranded places
  pub small : length places ≤ MAX_GUEST_PAGES

-- the lent pages as bits: bit b of word w is 1 exactly if page 64 w + b is lent; the words are the
-- fewest that n pages need
pub record AreLentBits (places : List Place) (words : List ℕ) : Type 0 where
  pub fewest : length words ≡ div_ceil (length places) WORD_BITS
  pub tells : (w b : ℕ) → b < WORD_BITS
      → has_bit (slice_index words w) b ≡ is_lent (place_of places (WORD_BITS * w + b))
