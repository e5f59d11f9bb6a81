-- Where rings and buffers are, whatever the size of the queues: for the crates above.
use Rattle.std.specs.Prelude.{◌≡◌, ◌≢◌, ℕ, ◌+◌, ◌<◌, ◌≤◌, Bool, true, ◌||◌, ◌⊎◌}
use Rattle.std.{proofs.Common.{ap, arith}, proofs.lemmas.Bool.Decides.nat_tests}
use Rattle.vb_virtio.specs.Layout.{takes_two_pages, reserved_pages, ring_number, ring_page}
use Rattle.vb_virtio.specs.Layout.{is_ring_page, is_start_page}
use Rattle.vb_virtio.specs.Limits.{is_between}

-- ---- reserved pages

-- 16 pages are reserved, or 32
pub reserved_least : (size : ℕ) → 16 ≤ reserved_pages size
reserved_least size = grind arith

pub reserved_most : (size : ℕ) → reserved_pages size ≤ 32
reserved_most size = grind arith

-- the pages of rings are reserved, and none of them holds buffers
pub ring_reserved : (size page : ℕ) → is_ring_page size page ≡ true → page < reserved_pages size
ring_reserved size page = grind arith

pub ring_no_buffer : (size page : ℕ) → is_ring_page size page ≡ true → (page < 4) ⊎ (16 ≤ page)
ring_no_buffer size page = grind arith

-- ---- what a start needs

pub start_of_ring : (size page : ℕ) → is_ring_page size page ≡ true → is_start_page size page ≡ true
start_of_ring size page h = ap (λ (b : Bool). b || is_between 4 12 page) h

pub start_of_buffer : (size page : ℕ) → 4 ≤ page → page ≤ 12 → is_start_page size page ≡ true
start_of_buffer size page low high = grind (arith, nat_tests)

pub start_reserved : (size page : ℕ) → is_start_page size page ≡ true → page < reserved_pages size
start_reserved size page h = grind (arith, nat_tests, h)

-- ---- the pages of one ring

-- a page is that of a queue's ring, or one of its two
abbrev pub InRing : ℕ → ℕ → ℕ → Type 0
InRing size q page =
    (page ≡ ring_page size q) ⊎ ((takes_two_pages size ≡ true) × (page ≡ ring_page size q + 1))

pub number_most : (q : ℕ) → ring_number q ≤ 3
number_most q = grind arith

pub in_ring_page : (size q page : ℕ) → InRing size q page → is_ring_page size page ≡ true
in_ring_page size q page at = grind (arith, number_most, nat_tests)

-- rings of different queues share no page
pub rings_apart : (size a b p k : ℕ) → ring_number a ≢ ring_number b → InRing size a p
    → InRing size b k → p ≢ k
rings_apart size a b p k ne at bt same = search (arith)
