-- Words of a law alone (`small_guests_are_as_ever`), which no contract of a call cites: guests of
-- small sizes (profile), with a power of two of pages, up to 16,384 of them, and queues of up to
-- 128 descriptors. Their rings take a page each, at the start of memory.
use Rattle.std.specs.Prelude.{◌≡◌, ℕ, ◌≤◌, Bool, true, ◌&&◌, nat_lt}
use Rattle.std.specs.List.{range_with_len}
use Rattle.vb_virtio.specs.Limits.{is_power_of_two, is_between, is_config}
use Rattle.vb_virtio.specs.Layout.{reserved_pages, ring_number, ring_page, is_ring_page}
use Rattle.vb_virtio.specs.Layout.{start_pages}

-- 16 pages are reserved, the rings are in pages 0 to 3 in their order, and a start needs the first
-- 13 pages
pub record HasSmallShape (size : ℕ) : Type 0 where
  pub reserved : reserved_pages size ≡ 16
  pub rings : (q : ℕ) → ring_page size q ≡ ring_number q
  pub pages : (page : ℕ) → is_ring_page size page ≡ nat_lt page 4
  pub start : start_pages size ≡ range_with_len 0 13

-- what a guest of a small size may have
abbrev pub is_small_config : ℕ → ℕ → ℕ → Bool
is_small_config pages queue_size processors =
    (is_between 64 16384 pages && is_power_of_two pages)
    && ((is_between 2 128 queue_size && is_power_of_two queue_size) && is_between 1 4 processors)

-- which is just what it may have by the limits of all guests
abbrev pub SmallConfigsAreConfigs : Type 0
SmallConfigsAreConfigs = (pages queue_size processors : ℕ) → is_power_of_two pages ≡ true
    → pages ≤ 16384 → queue_size ≤ 128
    → is_config pages queue_size processors ≡ is_small_config pages queue_size processors
