-- What a guest may have (profile), and the bounds of src/limits.rt in the words of contracts.
-- The headline needs `is_config` with what it names.
use Rattle.std.specs.Prelude.{ℕ, ◌%◌, ◌^◌, Bool, ◌==◌, ◌&&◌, nat_le}
use Rattle.std.specs.List.{list_any, range_with_len}
use Rattle.vb_virtio.specs.declared.limits.TheConstants.{PAGE_SIZE, MAX_ORDER, MIN_REPORTED_ORDER}
use Rattle.vb_virtio.specs.declared.limits.TheConstants.{MAX_OUTSTANDING, MAX_REQUEST_PAGES}
use Rattle.vb_virtio.specs.declared.limits.TheConstants.{MAX_GUESTS, MIN_GUEST_PAGES}
use Rattle.vb_virtio.specs.declared.limits.TheConstants.{MAX_GUEST_PAGES, GUEST_PAGES_STEP}
use Rattle.vb_virtio.specs.declared.limits.TheConstants.{MIN_QUEUE_SIZE, MAX_QUEUE_SIZE}
use Rattle.vb_virtio.specs.declared.limits.TheConstants.{MAX_PROCESSORS, MAX_FRAMES}

abbrev pub is_power_of_two : ℕ → Bool
is_power_of_two n = list_any (λ k. 2 ^ k == n) (range_with_len 0 32)

abbrev pub is_between : ℕ → ℕ → ℕ → Bool
is_between least most n = nat_le least n && nat_le n most

-- what a guest may have: pages, descriptors of each queue, processors
abbrev pub is_config : ℕ → ℕ → ℕ → Bool
is_config pages queue_size processors =
    (is_between MIN_GUEST_PAGES MAX_GUEST_PAGES pages && (pages % GUEST_PAGES_STEP == 0))
    && ((is_between MIN_QUEUE_SIZE MAX_QUEUE_SIZE queue_size && is_power_of_two queue_size)
    && is_between 1 MAX_PROCESSORS processors)

-- ---- bounds

abbrev pub page_size : ℕ
page_size = PAGE_SIZE

abbrev pub max_order : ℕ
max_order = MAX_ORDER

abbrev pub min_reported_order : ℕ
min_reported_order = MIN_REPORTED_ORDER

abbrev pub max_outstanding : ℕ
max_outstanding = MAX_OUTSTANDING

abbrev pub max_request_pages : ℕ
max_request_pages = MAX_REQUEST_PAGES

abbrev pub max_guests : ℕ
max_guests = MAX_GUESTS

abbrev pub max_frames : ℕ
max_frames = MAX_FRAMES
