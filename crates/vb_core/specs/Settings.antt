-- What a monitor settles for a device.
use Rattle.std.specs.Prelude.{ℕ, ◌/◌, ◌^◌, ◌-◌, min, max, Bool, true, false, not, ◌==◌, ◌&&◌}
use Rattle.std.specs.Prelude.{nat_lt, bit_and, bit_or}
use Rattle.vb_virtio.specs.declared.negotiation.TheConstants.{OFFERED_FEATURES}
use Rattle.vb_virtio.specs.Limits.{page_size}
use Rattle.vb_virtio.specs.Features.{version_1}
use Rattle.vb_virtio.specs.Status.{contains}
use Rattle.vb_core.specs.declared.kinds.Kind.{Kind}
use Rattle.vb_core.specs.declared.kinds.Kind.TheVariants.{Inflate, Deflate, Statistics, Hint}
use Rattle.vb_core.specs.declared.kinds.Kind.TheVariants.{Report}
use Rattle.vb_core.specs.declared.settings.Settings.{Settings}
use Rattle.vb_core.specs.declared.settings.TheConstants.{MEMORY_LIMIT, PAGE_POISON, LONGEST_REQUEST}
use Rattle.vb_core.specs.declared.settings.TheConstants.{FREE_PAGE_HINT}

-- The features that a device may offer: those of the definitions, FREE_PAGE_HINT and PAGE_POISON
-- (VIRTIO 1.2, 5.5.3).
abbrev pub known_features : ℕ
known_features = bit_or OFFERED_FEATURES (bit_or FREE_PAGE_HINT PAGE_POISON)

abbrev pub free_page_hint : ℕ → Bool
free_page_hint features = contains features FREE_PAGE_HINT

abbrev pub page_poison : ℕ → Bool
page_poison features = contains features PAGE_POISON

-- These features but FREE_PAGE_HINT and PAGE_POISON, of which the definitions know nothing.
abbrev pub without_later : ℕ → ℕ
without_later features = bit_and features 0xffffffffffffffe7

-- Settings that a device may have.
abbrev pub are_settings : Settings → Bool
are_settings s =
    nat_lt s.memory_end MEMORY_LIMIT
    && contains known_features s.offered
    && version_1 s.offered

-- The whole pages of memory.
abbrev pub memory_pages : Settings → ℕ
memory_pages s = s.memory_end / page_size

-- How many page numbers a request has at most: as many as memory has pages, and no fewer than
-- LONGEST_REQUEST, as far as 32 bits say it.
abbrev pub longest_request : Settings → ℕ
longest_request s = min (max (memory_pages s) LONGEST_REQUEST) (2 ^ 32 - 1)

abbrev pub needs_must_tell : Settings → Bool
needs_must_tell s = not (s.needs_must_tell == 0)

-- A number that may not be named is skipped.
abbrev pub skips : Settings → Bool
skips s = not (s.skips_bad_pages == 0)

-- Pages that are hinted are discarded once they were told.
abbrev pub discards_hints : Settings → Bool
discards_hints s = not (s.discards_hints == 0)

-- A chain of the kind's queue that was taken is held until it is asked for: one of statistics
-- always is (VIRTIO 1.1, 5.5.6.3), and a deflate where the settings say so.
abbrev pub holds_chains : Kind → Settings → Bool
holds_chains Inflate s = false
holds_chains Deflate s = not (s.holds_deflates == 0)
holds_chains Statistics s = true
holds_chains Hint s = false
holds_chains Report s = false
