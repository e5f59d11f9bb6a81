-- All limits, and where rings and buffers are, as plain numbers.
use Rattle.std.proofs.Common.{[], false, filter, map, refl, replicate, true, ◌++◌, ◌∷◌, ◌≡◌}
use Rattle.std.specs.List.{range_with_len}
use Rattle.vb_virtio.specs.declared.layout.TheConstants.{DEFLATE_BUFFERS_PAGE, DEFLATE_QUEUE}
use Rattle.vb_virtio.specs.declared.layout.TheConstants.{FIRST_RING_PAGE, FIRST_RING_PAGE_OF_TWO}
use Rattle.vb_virtio.specs.declared.layout.TheConstants.{FREE_MEMORY_TAG, INFLATE_BUFFERS_PAGE}
use Rattle.vb_virtio.specs.declared.layout.TheConstants.{INFLATE_QUEUE, MAX_QUEUE_SIZE_OF_A_PAGE}
use Rattle.vb_virtio.specs.declared.layout.TheConstants.{MAX_STATISTICS_LENGTH, REPORT_QUEUE}
use Rattle.vb_virtio.specs.declared.layout.TheConstants.{REQUEST_BUFFER_SIZE, RESERVED_PAGES}
use Rattle.vb_virtio.specs.declared.layout.TheConstants.{RESERVED_PAGES_OF_TWO, STATISTICS_PAGE}
use Rattle.vb_virtio.specs.declared.layout.TheConstants.{STATISTICS_QUEUE, STATISTIC_SIZE}
use Rattle.vb_virtio.specs.declared.layout.TheConstants.{TOTAL_MEMORY_TAG}
use Rattle.vb_virtio.specs.declared.limits.TheConstants.{GUEST_PAGES_STEP, MAX_FRAMES, MAX_GUESTS}
use Rattle.vb_virtio.specs.declared.limits.TheConstants.{MAX_GUEST_PAGES, MAX_ORDER}
use Rattle.vb_virtio.specs.declared.limits.TheConstants.{MAX_OUTSTANDING, MAX_PROCESSORS}
use Rattle.vb_virtio.specs.declared.limits.TheConstants.{MAX_QUEUE_SIZE, MAX_REPORT_PIECES}
use Rattle.vb_virtio.specs.declared.limits.TheConstants.{MAX_REQUEST_PAGES, MIN_GUEST_PAGES}
use Rattle.vb_virtio.specs.declared.limits.TheConstants.{MIN_QUEUE_SIZE, PAGE_SIZE}
use Rattle.vb_virtio.specs.declared.limits.TheConstants.{MIN_REPORTED_ORDER}
use Rattle.vb_virtio.specs.Layout.{buffer_offset, buffer_page, buffers_page, is_ring_page}
use Rattle.vb_virtio.specs.Layout.{is_start_page, ring_page, reserved_pages, ring_number}
use Rattle.vb_virtio.specs.Layout.{start_pages, takes_two_pages}
use Rattle.vb_virtio.specs.Limits.{is_config, is_power_of_two, max_frames, max_guests, max_order}
use Rattle.vb_virtio.specs.Limits.{max_outstanding, max_request_pages, min_reported_order}
use Rattle.vb_virtio.specs.Limits.{page_size}
use Rattle.vb_virtio.specs.Status.{acknowledge, driver, driver_ok, failed, features_ok, needs_reset}

-- bytes of a page, and the pages of a guest are n or a multiple of them; the largest order of a
-- block, and the least that is reported; requests outstanding on a queue, and pages of a request;
-- pieces of a report that a device takes
pages_are : PAGE_SIZE ∷ GUEST_PAGES_STEP ∷ MAX_ORDER ∷ MIN_REPORTED_ORDER ∷ MAX_OUTSTANDING
    ∷ MAX_REQUEST_PAGES ∷ MAX_REPORT_PIECES ∷ [] ≡ 4096 ∷ 16 ∷ 9 ∷ 4 ∷ 16 ∷ 256 ∷ 32 ∷ []
pages_are = refl

-- statistics: bytes of each, at most n bytes of all, and the tags of free and of all memory
statistics_are : STATISTIC_SIZE ∷ MAX_STATISTICS_LENGTH ∷ FREE_MEMORY_TAG ∷ TOTAL_MEMORY_TAG
    ∷ [] ≡ 10 ∷ 1020 ∷ 4 ∷ 5 ∷ []
statistics_are = refl

-- the bits of the status: ACKNOWLEDGE, DRIVER, FEATURES_OK, DRIVER_OK, DEVICE_NEEDS_RESET, FAILED
status_bits_are : acknowledge ∷ driver ∷ features_ok ∷ driver_ok ∷ needs_reset ∷ failed ∷ [] ≡ 1
    ∷ 2 ∷ 8 ∷ 4 ∷ 64 ∷ 128 ∷ []
status_bits_are = refl

-- guests at a time, frames, and the sizes of a guest
guests_are : MAX_GUESTS ∷ MAX_FRAMES ∷ MIN_GUEST_PAGES ∷ MAX_GUEST_PAGES ∷ MIN_QUEUE_SIZE
    ∷ MAX_QUEUE_SIZE ∷ MAX_PROCESSORS ∷ [] ≡ 8 ∷ 65536 ∷ 64 ∷ 65536 ∷ 2 ∷ 256 ∷ 4 ∷ []
guests_are = refl

-- the definitions' own names for them
by_their_names : page_size ∷ max_order ∷ min_reported_order ∷ max_outstanding ∷ max_request_pages
    ∷ max_guests ∷ max_frames ∷ [] ≡ 4096 ∷ 9 ∷ 4 ∷ 16 ∷ 256 ∷ 8 ∷ 65536 ∷ []
by_their_names = refl

-- the queues, and the pages of their rings
queues_are : INFLATE_QUEUE ∷ DEFLATE_QUEUE ∷ STATISTICS_QUEUE ∷ REPORT_QUEUE
    ∷ MAX_QUEUE_SIZE_OF_A_PAGE ∷ FIRST_RING_PAGE ∷ FIRST_RING_PAGE_OF_TWO ∷ RESERVED_PAGES
    ∷ RESERVED_PAGES_OF_TWO ∷ [] ≡ 0 ∷ 1 ∷ 2 ∷ 4 ∷ 128 ∷ 0 ∷ 16 ∷ 16 ∷ 32 ∷ []
queues_are = refl

-- a ring of up to 128 descriptors takes a page, and a larger one two
pages_of_a_ring : map takes_two_pages (2 ∷ 64 ∷ 128 ∷ 129 ∷ 256 ∷ []) ≡ false ∷ false ∷ false ∷ true
    ∷ true ∷ []
pages_of_a_ring = refl

reserved_of_sizes : map reserved_pages (2 ∷ 64 ∷ 128 ∷ 256 ∷ []) ≡ 16 ∷ 16 ∷ 16 ∷ 32 ∷ []
reserved_of_sizes = refl

-- in the order of the queues
rings_of_queues : map (λ ring. map ring (0 ∷ 1 ∷ 2 ∷ 4 ∷ []))
    (ring_number ∷ ring_page 128 ∷ ring_page 256 ∷ []) ≡ (0 ∷ 1 ∷ 2 ∷ 3 ∷ []) ∷ (0 ∷ 1 ∷ 2 ∷ 3 ∷ [])
    ∷ (16 ∷ 18 ∷ 20 ∷ 22 ∷ []) ∷ []
rings_of_queues = refl

-- which pages those of rings are, and which a start needs: those of the buffers too
pages_of_rings : map (λ size. filter (is_ring_page size) (range_with_len 0 64)) (128 ∷ 256 ∷ [])
    ≡ range_with_len 0 4 ∷ range_with_len 16 8 ∷ []
pages_of_rings = refl

pages_of_a_start : map start_pages (128 ∷ 256 ∷ []) ≡ range_with_len 0 13
    ∷ (range_with_len 4 9 ++ range_with_len 16 8) ∷ []
pages_of_a_start = refl

-- none of them is past the reserved ones
no_others_for_a_start : filter (is_start_page 128) (range_with_len 13 100)
    ++ filter (is_start_page 256) (range_with_len 24 100) ≡ []
no_others_for_a_start = refl

-- the buffers: 1024 bytes each, from page 4 on for inflates, from page 8 on for deflates, page 12
-- for statistics
buffers_are : REQUEST_BUFFER_SIZE ∷ INFLATE_BUFFERS_PAGE ∷ DEFLATE_BUFFERS_PAGE ∷ STATISTICS_PAGE
    ∷ buffers_page 0 ∷ buffers_page 1 ∷ [] ≡ 1024 ∷ 4 ∷ 8 ∷ 12 ∷ 4 ∷ 8 ∷ []
buffers_are = refl

-- four buffers a page, in the order of their heads
pages_of_buffers : map (buffer_page 8) (range_with_len 0 16)
    ≡ replicate 4 8 ++ (replicate 4 9 ++ (replicate 4 10 ++ replicate 4 11))
pages_of_buffers = refl

offsets_of_buffers : map buffer_offset (range_with_len 0 6) ≡ 0 ∷ 1024 ∷ 2048 ∷ 3072 ∷ 0 ∷ 1024 ∷ []
offsets_of_buffers = refl

-- ---- what a guest may have

powers_of_two : map is_power_of_two (0 ∷ 1 ∷ 2 ∷ 3 ∷ 4 ∷ 6 ∷ 8 ∷ 16383 ∷ 16384 ∷ 2147483648 ∷ [])
    ≡ false ∷ true ∷ true ∷ false ∷ true ∷ false ∷ true ∷ false ∷ true ∷ true ∷ []
powers_of_two = refl

-- 64 to 65,536 pages, in steps of 16
pages_of_a_guest : map (λ pages. is_config pages 8 1)
    (0 ∷ 32 ∷ 48 ∷ 63 ∷ 64 ∷ 65 ∷ 72 ∷ 80 ∷ 96 ∷ 128 ∷ 1008 ∷ 16384 ∷ 65520 ∷ 65535 ∷ 65536 ∷ 65552
    ∷ 131072 ∷ []) ≡ false ∷ false ∷ false ∷ false ∷ true ∷ false ∷ false ∷ true ∷ true ∷ true ∷ true
    ∷ true ∷ true ∷ false ∷ true ∷ false ∷ false ∷ []
pages_of_a_guest = refl

-- queues of 2 to 256 descriptors, a power of two
queues_of_a_guest : map (λ queue_size. is_config 64 queue_size 1)
    (0 ∷ 1 ∷ 2 ∷ 3 ∷ 4 ∷ 96 ∷ 128 ∷ 144 ∷ 256 ∷ 512 ∷ []) ≡ false ∷ false ∷ true ∷ false ∷ true
    ∷ false ∷ true ∷ false ∷ true ∷ false ∷ []
queues_of_a_guest = refl

-- 1 to 4 processors
processors_of_a_guest : map (λ processors. is_config 64 8 processors) (0 ∷ 1 ∷ 2 ∷ 3 ∷ 4 ∷ 5 ∷ [])
    ≡ false ∷ true ∷ true ∷ true ∷ true ∷ false ∷ []
processors_of_a_guest = refl
