-- Where a driver's rings and buffers lie, and which pages have to have frames, whatever the size of
-- the queues.
use Rattle.std.proofs.Common.{◌≡◌, ◌≢◌, ◌∙◌, sym, ap, arith, refl, ℕ, zero, suc, ◌+◌, ◌<◌, ◌≤◌}
use Rattle.std.proofs.Common.{Bool, true, false, cond, List, ◌∷◌, length, inl, inr, is_some, filter}
use Rattle.std.{proofs.lemmas.Bool.{cases_eq, and_parts}, specs.List.{list_all, range_with_len}}
use Rattle.vb_virtio.specs.Layout.{reserved_pages, ring_number, ring_page, is_start_page}
use Rattle.vb_virtio.specs.Layout.{buffers_page, buffer_page}
use Rattle.vb_virtio.proofs.Shapes.{InRing, in_ring_page, rings_apart, start_reserved}
use Rattle.vb_ram.specs.Pages.{Pages}
use Rattle.{vb_ram.specs.Pages.{page_at, frame_at, SameBut}, vb_ring.proofs.Shapes.parts_in_ring}
use Rattle.vb_ring.specs.{declared.layout.Layout.Layout, Layout.{IsSize, IsInside, IsBacked}}
use Rattle.{vb_ring.specs.Layout.layout_of, vb_driver.specs.Answers.{HaveRingFrames, has_frames}}

-- ---- the pages of a ring

-- the layout of a queue's ring
abbrev pub ring_layout : ℕ → ℕ → Layout
ring_layout size q = layout_of (ring_page size q) size

-- none of a ring's parts lies in this page
pub record IsBeside (l : Layout) (p : ℕ) : Type 0 where
  pub table : p ≢ l.table
  pub avail : p ≢ l.avail.page
  pub used : p ≢ l.used.page

-- a ring's pages hold no buffers
pub beside_buffers : {size : ℕ} (q : ℕ) {p : ℕ}
    → IsSize size → 4 ≤ p → p < 16 → IsBeside (ring_layout size q) p
beside_buffers q sized low high = grind arith

-- the buffers of a queue of requests begin at page 4 or 8
pub buffers_between : (q : ℕ) → (4 ≤ buffers_page q) × (buffers_page q ≤ 8)
buffers_between q = search (arith)

pub buffers_beside : {size : ℕ} (q k : ℕ)
    → IsSize size → k < 16 → IsBeside (ring_layout size q) (buffer_page (buffers_page q) k)
buffers_beside q k sized few = grind arith

-- and none of another ring
pub beside_rings : {size : ℕ} (a b : ℕ) {p : ℕ} → IsSize size
    → ring_number b ≢ ring_number a → InRing size b p → IsBeside (ring_layout size a) p
beside_rings a b sized ne at = grind (arith, parts_in_ring, rings_apart)

pub ring_inside : {size : ℕ} (q : ℕ) {mem : Pages}
    → IsSize size → 64 ≤ length mem → IsInside mem (ring_layout size q)
ring_inside q sized large = grind arith

pub ring_backed : {size : ℕ} (q : ℕ) {mem : Pages}
    → IsSize size → HaveRingFrames size mem → IsBacked mem (ring_layout size q)
ring_backed q sized backed = grind (arith, in_ring_page)

-- ---- a ring whose pages are as before

pub record KeepsRing (old new : Pages) (l : Layout) : Type 0 where
  pub table : page_at new l.table ≡ page_at old l.table
  pub avail : page_at new l.avail.page ≡ page_at old l.avail.page
  pub used : page_at new l.used.page ≡ page_at old l.used.page

-- where another page was written to
pub keeps_ring : {old new : Pages} {l : Layout} {p lo hi : ℕ}
    → IsBeside l p → SameBut old new p lo hi → KeepsRing old new l
keeps_ring beside wrote = search (arith)

-- ---- the frames that a start needs

all_filtered : (test f : ℕ → Bool) (k n : ℕ) → ((p : ℕ) → p < k + n → f p ≡ true → test p ≡ true)
    → list_all test (filter f (range_with_len k n)) ≡ true
all_filtered test f k zero holds = refl
all_filtered test f k (suc n) holds =
    grind (arith, all_filtered test f (k + 1) n (λ p lt e. holds p (omega arith) e))

one_filtered : (test f : ℕ → Bool) (k n p : ℕ) → k ≤ p → p < k + n → f p ≡ true
    → list_all test (filter f (range_with_len k n)) ≡ true → test p ≡ true
one_filtered test f k zero p low high passes all = absurd (omega arith)
one_filtered test f k (suc n) p low high passes all = elim (cases_eq p k) [
  | inl same ↦ ap test same ∙ first (f k) (ap f (sym same) ∙ passes) all
  | inr ne ↦ one_filtered test f (k + 1) n p (omega (arith, ne)) (omega arith) passes
      (rest (f k) all)
] where
  later : List ℕ
  later = filter f (range_with_len (k + 1) n)

  first : (b : Bool) → b ≡ true → list_all test (cond b (k ∷ later) later) ≡ true → test k ≡ true
  first x e h = grind (arith, and_parts)

  rest : (b : Bool) → list_all test (cond b (k ∷ later) later) ≡ true → list_all test later ≡ true
  rest true h = (and_parts (test k) (list_all test later) h).1
  rest false h = h

-- the test finds just the memories whose pages of rings and buffers all have frames
pub all_frames : (size : ℕ) (mem : Pages) → HaveRingFrames size mem → has_frames size mem ≡ true
all_frames size mem backed = grind (arith, all_filtered)

pub frames_there : (size : ℕ) (mem : Pages) → has_frames size mem ≡ true → HaveRingFrames size mem
frames_there size mem all page start =
    one_filtered (λ page. is_some (frame_at mem page)) (is_start_page size) 0 (reserved_pages size)
    page (omega arith) (omega (arith, start_reserved size page start)) start all
