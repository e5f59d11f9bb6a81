-- The blocks of a report, and the pages in them.
use Rattle.std.proofs.Common.{ap, arith, ◌≡◌, ℕ, ◌+◌, ◌-◌, ◌<◌, ◌≤◌, Bool, true, false, List}
use Rattle.std.proofs.Common.{[], ◌∷◌, ◌++◌, All, length, filter, nat_le, ◌&&◌, slice_index_or}
use Rattle.std.proofs.lemmas.List.{length-take, Elements.{All-nil, All-cons, All-append, All-tail}}
use Rattle.std.proofs.lemmas.List.{Elements.{All-take, All-filter}, FromFn.length-range_with_len}
use Rattle.std.proofs.lemmas.List.FromFn.{get_or-range_with_len, length-map-range_with_len}
use Rattle.std.proofs.lemmas.{List.FromFn.get_or-map-range_with_len, Nat.pow_pos}
use Rattle.{std.specs.List.{flat_map, range_with_len}, vb_model.specs.Pages.{Block, block_at}}
use Rattle.vb_model.specs.Pages.{size, pages_of, pages_of_all, is_free, place_of, is_maximal}
use Rattle.vb_model.specs.Pages.{blocks_at, blocks_below, maximal_blocks, reported, is_reserved}
use Rattle.vb_virtio.specs.Tests.{is_in}
use Rattle.vb_virtio.specs.Layout.{reserved_pages}
use Rattle.vb_model.specs.declared.places.Place.{Place}
use Rattle.vb_model.specs.{Guest.Guest, Orderly.IsOrderly, Refusals.{reported_blocks, room}}
use Rattle.{vb_model.proofs.CallSteps.reported_pages, vb_driver.proofs.Runs.in_range}
use Rattle.vb_guest.{specs.Reported.IsOwnBlock, proofs.Offered.high_page}

-- ---- the pages in a guest's blocks

pages_high : {descriptors n : ℕ} {b : Block}
    → IsOwnBlock descriptors n b → All (λ page. reserved_pages descriptors ≤ page) (pages_of b)
pages_high is k d lt = grind (arith, length-range_with_len, get_or-range_with_len)

pages_low : {descriptors n : ℕ} {b : Block}
    → IsOwnBlock descriptors n b → All (λ page. page < n) (pages_of b)
pages_low is k d lt = grind (arith, length-range_with_len, get_or-range_with_len)

-- they are unreserved pages of the guest
pub own_pages : (size n : ℕ) (blocks : List Block) → All (IsOwnBlock size n) blocks
    → All (λ page. reserved_pages size ≤ page) (pages_of_all blocks)
    × All (λ page. page < n) (pages_of_all blocks)
own_pages size n [] own = (All-nil (λ page. reserved_pages size ≤ page), All-nil (λ page. page < n))
own_pages size n (b ∷ bs) own = let first : IsOwnBlock size n b = own 0 b (omega arith) in
    let rest = own_pages size n bs (All-tail (IsOwnBlock size n) b bs own) in (
      All-append (λ page. reserved_pages size ≤ page) (pages_of b) (pages_of_all bs)
          (pages_high first) rest.0,
      All-append (λ page. page < n) (pages_of b) (pages_of_all bs) (pages_low first) rest.1,
    )

-- ---- the blocks that a guest reports

in_front : (page : ℕ) (xs ys : List ℕ) → is_in page xs ≡ true → is_in page (xs ++ ys) ≡ true
in_front page [] ys e = absurd cc
in_front page (x ∷ xs) ys e = grind (arith, in_front page xs ys)

in_back : (page : ℕ) (xs ys : List ℕ) → is_in page ys ≡ true → is_in page (xs ++ ys) ≡ true
in_back page [] ys e = e
in_back page (x ∷ xs) ys e = grind (arith, in_back page xs ys e)

abbrev IsSmall : Block → Type 0
IsSmall b = b.order ≤ 9

-- blocks all of whose pages are unreserved ones of the guest
pages_own : (descriptors n : ℕ) (blocks : List Block) → All IsSmall blocks
    → ((page : ℕ) → is_in page (pages_of_all blocks) ≡ true
    → (reserved_pages descriptors ≤ page) × (page < n)) → All (IsOwnBlock descriptors n) blocks
pages_own descriptors n [] small high = All-nil (IsOwnBlock descriptors n)
pages_own descriptors n (b ∷ bs) small high = let some : 0 < size b = pow_pos b.order in
    let last : ℕ = b.start + size b - 1 in
    let first = high b.start (in_front b.start (pages_of b) (pages_of_all bs)
    (in_range b.start b.start (size b) (omega arith) (omega arith))) in
    let end = high last (in_front last (pages_of b) (pages_of_all bs)
    (in_range last b.start (size b) (omega arith) (omega arith))) in
    All-cons (IsOwnBlock descriptors n) b bs (record {
      order = small 0 b (omega arith);
      above = first.0;
      below = omega (arith, end.1, some);
    }) (pages_own descriptors n bs (All-tail IsSmall b bs small)
    (λ page e. high page (in_back page (pages_of b) (pages_of_all bs) e)))

all_flat : (P : Block → Type 0) (f : ℕ → List Block) (ns : List ℕ) → ((n : ℕ) → All P (f n))
    → All P (flat_map f ns)
all_flat P f [] all = All-nil P
all_flat P f (n ∷ ns) all = All-append P (f n) (flat_map f ns) (all n) (all_flat P f ns all)

small_at : (start : ℕ) → All IsSmall (blocks_at start)
small_at start k d lt =
    let below : k < 10 = omega (arith, lt, length-map-range_with_len (block_at start) 0 10) in
    let same : slice_index_or (blocks_at start) k d ≡ block_at start k =
    get_or-map-range_with_len (block_at start) 0 10 k k d below (omega arith) in
    omega (arith, below, ap (λ (b : Block). b.order) same)

abbrev is_reported : ℕ → Block → Bool
is_reported from b = nat_le 4 b.order && nat_le from b.start

small_reported : (count n from : ℕ) (test : ℕ → Bool)
    → All IsSmall (reported n from (maximal_blocks count test))
small_reported count n from test = All-take IsSmall n
    (filter (is_reported from) (maximal_blocks count test)) (All-filter (is_reported from) IsSmall
    (maximal_blocks count test) (All-filter (is_maximal test) IsSmall (blocks_below count)
    (all_flat IsSmall blocks_at (range_with_len 0 count) small_at)))

free_high : (place : Place) → is_free place ≡ true → is_reserved place ≡ false
free_high place e = grind arith

-- they are the guest's own
pub reported_own : (g : Guest) (from : ℕ) → IsOrderly g
    → All (IsOwnBlock g.config.queue_size g.config.pages) (reported_blocks g from)
reported_own g from orderly = pages_own g.config.queue_size g.config.pages (reported_blocks g from)
    (small_reported (length g.places) (room g) from (λ page. is_free (place_of g.places page)))
    (λ page e. high_page g page orderly
    (free_high (place_of g.places page) (reported_pages g from page e)))

-- no more than the queue has descriptors, and no more than 16
pub reported_few : (g : Guest) (from : ℕ) → (length (reported_blocks g from) ≤ 16)
    × (length (reported_blocks g from) ≤ g.config.queue_size)
reported_few g from = grind (arith, length-take)
