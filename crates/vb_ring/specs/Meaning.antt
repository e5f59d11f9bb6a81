-- What the bytes of a ring mean: the heads that were published and the elements that were used,
-- oldest first (VIRTIO 1.1, 2.6).
use Rattle.std.specs.Prelude.{◌≡◌, ◌≢◌, ℕ, ◌+◌, ◌%◌, ◌<◌, ◌≤◌, true, List, Some, None}
use Rattle.std.specs.Prelude.{length, take, map, slice_index, slice_index_or}
use Rattle.vb_virtio.specs.Tests.{one_if}
pub use Rattle.vb_virtio.specs.Tests.{times}
use Rattle.vb_ram.specs.Pages.{Pages, field}
use Rattle.vb_chain.specs.declared.descriptor.Descriptor.{Descriptor}
use Rattle.vb_chain.specs.Table.{descriptor_at}
use Rattle.vb_chain.specs.Chain.{IsPath}
use Rattle.vb_ring.specs.declared.layout.Layout.{Layout}
use Rattle.vb_ring.specs.Entries.{avail_index, avail_place, used_index, used_place, is_head}
use Rattle.vb_ring.specs.Ends.{DriverEnd, outstanding}

-- An element of the used ring: the head of a chain, and how many bytes the device wrote into it.
pub record UsedElem : Type 0 where
  pub id : ℕ
  pub len : ℕ

abbrev pub no_elem : UsedElem
no_elem = record { id = 0; len = 0 }

abbrev pub ids : List UsedElem → List ℕ
ids elems = map (λ e. e.id) elems

-- The available ring shows the heads that were published: their number, and the last q of them,
-- each at its place.
pub record ShowsAvail (mem : Pages) (l : Layout) (q : ℕ) (heads : List ℕ) : Type 0 where
  pub index : field 2 mem l.avail.page (avail_index l) ≡ length heads % 65536
  pub entries : (k : ℕ) → k < length heads → length heads ≤ k + q →
      field 2 mem l.avail.page (avail_place l q k) ≡ slice_index heads k

-- The used ring shows the elements that were used: their number, and the last q of them, each at
-- its place.
pub record ShowsUsed (mem : Pages) (l : Layout) (q : ℕ) (elems : List UsedElem) : Type 0 where
  pub index : field 2 mem l.used.page (used_index l) ≡ length elems % 65536
  pub ids : (k : ℕ) → k < length elems → length elems ≤ k + q →
      field 4 mem l.used.page (used_place l q k) ≡ (slice_index_or elems k no_elem).id
  pub lens : (k : ℕ) → k < length elems → length elems ≤ k + q →
      field 4 mem l.used.page (used_place l q k + 4) ≡ (slice_index_or elems k no_elem).len

-- The two rings show these lists: indices and entries alone.
pub record ShowsEntries (mem : Pages) (l : Layout) (q : ℕ) (heads : List ℕ)
    (elems : List UsedElem) : Type 0 where
  pub avail : ShowsAvail mem l q heads
  pub used : ShowsUsed mem l q elems

-- A head was published more often than it was used.
abbrev pub IsOutstanding : List ℕ → List UsedElem → ℕ → Type 0
IsOutstanding heads elems h = times h (ids elems) < times h heads

-- A path from a head that stays in a table of q descriptors.
pub record IsTablePath (d : ℕ → Descriptor) (q head : ℕ) (path : List ℕ) : Type 0 where
  pub is_path : IsPath d head path
  pub inside : (k : ℕ) → k < length path → slice_index path k < q

-- The bytes of a ring of q descriptors show these lists: the indices and the last entries say them;
-- the used heads are among the published ones, as often as they are there; at most q are published
-- and not used, no head twice, and the chains of two of them share no descriptor.
pub record Shows (mem : Pages) (l : Layout) (q : ℕ) (heads : List ℕ) (elems : List UsedElem) :
    Type 0 where
  pub entries : ShowsEntries mem l q heads elems
  pub among : (h : ℕ) → times h (ids elems) ≤ times h heads
  pub most : length heads ≤ length elems + q
  pub once : (h : ℕ) → times h heads ≤ times h (ids elems) + 1
  pub apart : (h j : ℕ) → h ≢ j → IsOutstanding heads elems h → IsOutstanding heads elems j →
      (a b : List ℕ) →
      IsTablePath (descriptor_at mem l.table) q h a →
      IsTablePath (descriptor_at mem l.table) q j b →
      (k n : ℕ) → k < length a → n < length b → slice_index a k ≢ slice_index b n

-- A driver's end agrees with a ring that shows these lists, of whose used elements it has seen the
-- first s: its table has just the heads that were published and not seen as used, and each
-- descriptor on a path from one of these belongs to that head.
pub record Tracks (mem : Pages) (r : DriverEnd) (heads : List ℕ) (elems : List UsedElem) (s : ℕ) :
    Type 0 where
  pub published : length heads % 65536 ≡ r.published
  pub seen : s % 65536 ≡ r.seen
  pub few : s ≤ length elems
  pub count : length heads ≡ s + outstanding r
  pub out : (h : ℕ) → times h heads ≡ times h (ids (take s elems)) + one_if (is_head r.owner h)
  pub owns : (h : ℕ) → is_head r.owner h ≡ true → (path : List ℕ) →
      IsTablePath (descriptor_at mem r.layout.table) r.size h path →
      (k : ℕ) → k < length path → slice_index_or r.owner (slice_index path k) None ≡ Some h
