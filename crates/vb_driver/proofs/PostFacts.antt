-- What is in memory, and what doesn't change, once a request, a report or figures went out.
use Rattle.std.proofs.Common.{◌≡◌, ◌≢◌, ℕ, ◌+◌, ◌*◌, ◌/◌, ◌%◌, ◌<◌, ◌≤◌, List, [], ◌∷◌, ◌++◌, refl}
use Rattle.std.proofs.Common.{arith}
use Rattle.std.specs.Prelude.{Some, Ok, length, slice_set, replicate}
use Rattle.vb_virtio.specs.Layout.{is_ring_page}
use Rattle.vb_model.specs.Pages.{Block, block_at}
use Rattle.vb_ram.specs.Pages.{Pages, field, byte_at, page_at, frame_at, contents_at, SameIn}
use Rattle.vb_chain.specs.Table.{descriptor_at}
use Rattle.vb_driver.specs.State.{ReportSide, fresh_ring, RequestSide, AreRequests, fresh_side}
use Rattle.vb_driver.{specs.State.fresh_report, specs.Calls.{PostsReport, figures_extent}}
use Rattle.vb_driver.specs.Coding.{IsCoded, AreFigures, AreReported, SameButPages, SameButBuffer}
use Rattle.vb_driver.specs.Coding.{AreZeroed}
use Rattle.vb_driver.specs.Calls.{PostsBuffer, written_of, numbers_extent, Announces, Posts}
use Rattle.vb_ring.{specs.Ends.{DriverEnd, after_add}, specs.Layout.layout_of}
use Rattle.vb_ring.{specs.Frame.SameOutside, specs.Meaning.{UsedElem, ShowsEntries, Shows, Tracks}}
use Rattle.vb_ring.specs.Numbers.{numbers}

-- ---- words and bytes

abbrev two : List Block
two = block_at 16 4 ∷ block_at 32 5 ∷ []

coded : (m : Pages) → IsCoded m 0 4 5 (9 ∷ 7 ∷ [])
    → (descriptor_at m 0 5 ≡ record { addr = 21504; len = 8; flags = 0; next = 0 })
    × (field 4 m 5 1024 ≡ 9) × (field 4 m 5 1028 ≡ 7)
coded m is = (is.descriptor, is.names.each 0 (omega arith), is.names.each 1 (omega arith))

figures : (m : Pages) → AreFigures m 2 (record { free = 8; total = 9 })
    → (descriptor_at m 2 0 ≡ record { addr = 49152; len = 20; flags = 0; next = 0 })
    × (field 2 m 12 0 ≡ 4) × (field 8 m 12 2 ≡ 8) × (field 2 m 12 10 ≡ 5) × (field 8 m 12 12 ≡ 9)
figures m are = (are.descriptor, are.free.tagged, are.free.valued, are.total.tagged, are.total.valued)

reported : (m : Pages) → AreReported m 3 two
    → (descriptor_at m 3 0 ≡ record { addr = 65536; len = 65536; flags = 3; next = 1 })
    × (descriptor_at m 3 1 ≡ record { addr = 131072; len = 131072; flags = 2; next = 0 })
reported m are = (are.chain 0 (omega arith), are.chain 1 (omega arith))

-- of a ring at page 3 and a buffer at page 12, and of buffer 5 of queue 0: the rest stays
same_pages : (m1 m2 : Pages) → SameButPages m1 m2 (layout_of 3 8) 12
    → ((p : ℕ) → p ≢ 3 → p ≢ 3 → p ≢ 12 → page_at m2 p ≡ page_at m1 p)
    × ((p : ℕ) → frame_at m2 p ≡ frame_at m1 p) × (length m2 ≡ length m1)
same_pages m1 m2 same = (same.others, same.backing, same.count)

same_buffers : (m1 m2 : Pages) → SameButBuffer m1 m2 (layout_of 0 8) 4 5
    → ((p : ℕ) → p ≢ 0 → p ≢ 0 → p ≢ 5 → page_at m2 p ≡ page_at m1 p)
    × ((k : ℕ) → k < 16 → k ≢ 5
    → SameIn m1 m2 (4 + k / 4) (1024 * (k % 4)) (1024 * (k % 4) + 1024))
    × ((p : ℕ) → frame_at m2 p ≡ frame_at m1 p) × (length m2 ≡ length m1)
same_buffers m1 m2 same = (same.others, same.buffers, same.backing, same.count)

zeroed : (m1 m2 : Pages) → AreZeroed m1 m2 (is_ring_page 8)
    → (byte_at m2 3 4095 ≡ 0) × (page_at m2 4 ≡ page_at m1 4)
    × ((p : ℕ) → frame_at m2 p ≡ frame_at m1 p)
    × ((p : ℕ) → length (contents_at m2 p) ≡ length (contents_at m1 p)) × (length m2 ≡ length m1)
zeroed m1 m2 are =
    (are.zero 3 4095 refl (omega arith), are.others 4 refl, are.backing, are.sizes, are.count)

-- ---- what goes out: the index goes round, and what the ring shows has one head more

abbrev last : DriverEnd
last = record (fresh_ring 1 8) { published = 65535 }

announces : (m1 m2 : Pages) (r2 : DriverEnd) → Announces m1 m2 last r2 5
    → (field 2 m2 1 146 ≡ 5) × (field 2 m2 1 130 ≡ 0)
    × ((heads : List ℕ) (elems : List UsedElem) → length heads % 65536 ≡ 65535
    → ShowsEntries m1 (layout_of 1 8) 8 heads elems
    → ShowsEntries m2 (layout_of 1 8) 8 (heads ++ 5 ∷ []) elems)
    × ((heads : List ℕ) (elems : List UsedElem) (s : ℕ) → Tracks m1 last heads elems s
    → Shows m1 (layout_of 1 8) 8 heads elems
    → Shows m2 (layout_of 1 8) 8 (heads ++ 5 ∷ []) elems × Tracks m2 r2 (heads ++ 5 ∷ []) elems s)
announces m1 m2 r2 is = (is.entry, is.index, is.entries, is.shown)

posts : (m1 m2 : Pages) (s2 : RequestSide) (head : ℕ)
    → Posts m1 m2 (fresh_side 1 8) s2 8 (20 ∷ 19 ∷ []) head
    → (Some 0 ≡ Some head) × (head < 16) × (s2 ≡ record (fresh_side 1 8) {
      ring = after_add (fresh_ring 1 8) 1 (Ok head);
      sent = slice_set (replicate 16 []) head (20 ∷ 19 ∷ []);
    }) × IsCoded m2 1 8 head (20 ∷ 19 ∷ [])
    × ((i : ℕ) → i < 8 → i ≢ head → descriptor_at m2 1 i ≡ descriptor_at m1 1 i)
    × Announces m1 m2 (fresh_ring 1 8) s2.ring head × SameButBuffer m1 m2 (layout_of 1 8) 8 head
    × SameOutside m1 m2 (numbers_extent 8 head 2 ∷ written_of (fresh_ring 1 8)) × AreRequests s2
unfolding numbers
posts m1 m2 s2 head p =
    (p.lowest, p.small, p.state, p.coded, p.descriptors, p.announces, p.rest, p.outside, p.requests)

posts_a_report : (m1 m2 : Pages) (s2 : ReportSide)
    → PostsReport m1 m2 (fresh_report 8) s2 two
    → (s2 ≡ record { ring = after_add (fresh_ring 4 8) 2 (Ok 0); blocks = two })
    × AreReported m2 3 two
    × ((i : ℕ) → i < 8 → 2 ≤ i → descriptor_at m2 3 i ≡ descriptor_at m1 3 i)
    × Announces m1 m2 (fresh_ring 4 8) s2.ring 0 × SameButPages m1 m2 (layout_of 3 8) 3
    × SameOutside m1 m2 (written_of (fresh_ring 4 8))
posts_a_report m1 m2 s2 p = (p.state, p.coded, p.descriptors, p.announces, p.rest, p.outside)

posts_figures : (m1 m2 : Pages) (r2 : DriverEnd)
    → PostsBuffer m1 m2 (fresh_ring 2 8) r2 (record { free = 8; total = 9 })
    → (r2 ≡ after_add (fresh_ring 2 8) 1 (Ok 0)) × AreFigures m2 2 (record { free = 8; total = 9 })
    × SameIn m1 m2 12 20 4096
    × ((i : ℕ) → i < 8 → i ≢ 0 → descriptor_at m2 2 i ≡ descriptor_at m1 2 i)
    × Announces m1 m2 (fresh_ring 2 8) r2 0 × SameButPages m1 m2 (layout_of 2 8) 12
    × SameOutside m1 m2 (figures_extent ∷ written_of (fresh_ring 2 8))
posts_figures m1 m2 r2 p =
    (p.state, p.coded, p.beyond, p.descriptors, p.announces, p.rest, p.outside)
