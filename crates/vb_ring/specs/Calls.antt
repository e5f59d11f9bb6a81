-- What the calls of a ring do, by old and new of memory and of the end.
use Rattle.std.specs.Prelude.{◌≡◌, ℕ, ◌+◌, ◌*◌, ◌%◌, ◌<◌, ◌≤◌, true, false, List, [], ◌∷◌}
use Rattle.std.specs.Prelude.{◌++◌, Result, Ok, Err, Option, Some, None, IfOk, OnErr, IfSome}
use Rattle.std.specs.Prelude.{IsOkAnd, IsSomeAnd, length, slice_get, slice_index}
use Rattle.vb_virtio.specs.Tests.{is_in}
use Rattle.vb_ram.specs.Pages.{Pages, field, end_of}
use Rattle.vb_chain.specs.declared.descriptor.TheConstants.{DESCRIPTOR_SIZE}
use Rattle.vb_chain.specs.declared.fault.ChainFault.{ChainFault}
use Rattle.vb_chain.specs.declared.pieces.Piece.{Piece}
use Rattle.vb_chain.specs.Table.{descriptor_at}
use Rattle.vb_chain.specs.Chain.{ChainGives, FaultGives}
use Rattle.vb_chain.specs.Written.{linked}
use Rattle.vb_ring.specs.declared.layout.Layout.{Layout}
use Rattle.vb_ring.specs.declared.driver.Full.{Full}
use Rattle.vb_ring.specs.declared.driver.RingBroken.{RingBroken}
use Rattle.vb_ring.specs.declared.device.Taken.{Taken}
use Rattle.vb_ring.specs.Entries.{avail_index, avail_place, used_index, used_place, next_entry}
use Rattle.vb_ring.specs.Ends.{DriverEnd, IsDriverEnd, DeviceEnd, IsDeviceEnd, next_path}
use Rattle.vb_ring.specs.Ends.{add_answer, after_add, used_answer, after_take}
use Rattle.vb_ring.specs.Meaning.{UsedElem, ids, times, ShowsAvail, ShowsEntries, Shows}
use Rattle.vb_ring.specs.Meaning.{Tracks}
use Rattle.vb_ring.specs.Frame.{Extent, SameOutside}

-- ---- the driver's end

-- Where the descriptors of a ring are, where its available entry number n and its available index,
-- where its used element number n and its used index.
abbrev pub table_extent : Layout → ℕ → Extent
table_extent l q = record { page = l.table; from = 0; to = DESCRIPTOR_SIZE * q }

abbrev pub avail_entry : Layout → ℕ → ℕ → Extent
avail_entry l q n =
    record { page = l.avail.page; from = avail_place l q n; to = avail_place l q n + 2 }

abbrev pub avail_counter : Layout → Extent
avail_counter l = record { page = l.avail.page; from = avail_index l; to = avail_index l + 2 }

abbrev pub used_entry : Layout → ℕ → ℕ → Extent
used_entry l q n = record { page = l.used.page; from = used_place l q n; to = used_place l q n + 8 }

abbrev pub used_counter : Layout → Extent
used_counter l = record { page = l.used.page; from = used_index l; to = used_index l + 2 }

-- The entry after `next` published ones is this head, the index is one more, and nothing else of
-- memory has changed.
pub record PutsAvail (old new : Pages) (l : Layout) (q next head : ℕ) : Type 0 where
  pub entry : field 2 new l.avail.page (avail_place l q next) ≡ head
  pub index : field 2 new l.avail.page (avail_index l) ≡ (next + 1) % 65536
  pub rest : SameOutside old new (avail_entry l q next ∷ avail_counter l ∷ [])

-- The same where the chain's descriptors are written too.
pub record Publishes (old new : Pages) (l : Layout) (q next head : ℕ) : Type 0 where
  pub entry : field 2 new l.avail.page (avail_place l q next) ≡ head
  pub index : field 2 new l.avail.page (avail_index l) ≡ (next + 1) % 65536
  pub rest : SameOutside old new (table_extent l q ∷ avail_entry l q next ∷ avail_counter l ∷ [])

-- The chain of these pieces is in the table along a path, and every other descriptor is as before.
pub record Links (old new : Pages) (l : Layout) (q : ℕ) (path : List ℕ) (pieces : List Piece) :
    Type 0 where
  pub put : (k : ℕ) → k < length pieces →
      descriptor_at new l.table (slice_index path k) ≡ linked path pieces k
  pub others : (i : ℕ) → i < q → is_in i path ≡ false →
      descriptor_at new l.table i ≡ descriptor_at old l.table i

-- An add: the exact answer and end on any bytes, what is written, and what lists the ring shows.
pub record AddsBy (old new : Pages) (r1 r2 : DriverEnd) (pieces : List Piece)
    (result : Result ℕ Full) : Type 0 where
  pub is_end : IsDriverEnd r1
  pub value : result ≡ add_answer r1 (length pieces)
  pub state : r2 ≡ after_add r1 (length pieces) result
  pub full : OnErr result (new ≡ old)
  pub links :
      IfOk result (λ h. Links old new r1.layout r1.size (next_path r1 (length pieces)) pieces)
  pub publishes : IfOk result (λ h. Publishes old new r1.layout r1.size r1.published h)
  pub entries : IfOk result (λ h. (heads : List ℕ) (elems : List UsedElem) →
      length heads % 65536 ≡ r1.published →
      ShowsEntries old r1.layout r1.size heads elems →
      ShowsEntries new r1.layout r1.size (heads ++ h ∷ []) elems)
  pub shown : IfOk result (λ h. (heads : List ℕ) (elems : List UsedElem) (s : ℕ) →
      Tracks old r1 heads elems s →
      Shows old r1.layout r1.size heads elems →
      Shows new r1.layout r1.size (heads ++ h ∷ []) elems × Tracks new r2 (heads ++ h ∷ []) elems s)

-- A take of the next used chain: the exact answer and end on any bytes, and on a ring that shows
-- lists the id of the element after those seen.
pub record TakesUsedBy (mem : Pages) (r1 r2 : DriverEnd) (result : Result (Option ℕ) RingBroken) :
    Type 0 where
  pub is_end : IsDriverEnd r1
  pub value : result ≡ used_answer mem r1
  pub state : r2 ≡ after_take r1 result
  pub shown : (heads : List ℕ) (elems : List UsedElem) (s : ℕ) → Tracks mem r1 heads elems s →
      Shows mem r1.layout r1.size heads elems →
      result ≡ Ok (slice_get (ids elems) s)
  pub tracks : (heads : List ℕ) (elems : List UsedElem) (s : ℕ) → Tracks mem r1 heads elems s →
      Shows mem r1.layout r1.size heads elems →
      s < length elems → Tracks mem r2 heads elems (s + 1)

-- ---- the device's end

-- The device's end after a pop.
abbrev pub after_pop : DeviceEnd → Result (Option Taken) ChainFault → DeviceEnd
after_pop q (Err fault) = q
after_pop q (Ok None) = q
after_pop q (Ok (Some taken)) = record q { next_avail = (q.next_avail + 1) % 65536 }

-- What was popped, where the head is answered and the pieces are in a chain that is kept.
abbrev pub popped : Result (Option ℕ) ChainFault → List Piece → Result (Option Taken) ChainFault
popped (Err fault) pieces = Err fault
popped (Ok None) pieces = Ok None
popped (Ok (Some h)) pieces = Ok (Some (record { head = h; chain = pieces }))

-- A pop: nothing where the queue isn't ready or nothing is there, a fault where the index is too
-- far ahead or on the way along the chain, and else the chain's head and pieces.
pub record PopsBy (mem : Pages) (q1 q2 : DeviceEnd) (result : Result (Option Taken) ChainFault) :
    Type 0 where
  pub is_end : IsDeviceEnd q1
  pub state : q2 ≡ after_pop q1 result
  pub not_ready : q1.ready ≡ false → result ≡ Ok None
  pub none : q1.ready ≡ true → next_entry mem q1.layout q1.size q1.next_avail ≡ Ok None →
      result ≡ Ok None
  pub jump : (f : ChainFault) → q1.ready ≡ true →
      next_entry mem q1.layout q1.size q1.next_avail ≡ Err f → result ≡ Err f
  pub chain : (h : ℕ) (pieces : List Piece) → q1.ready ≡ true →
      next_entry mem q1.layout q1.size q1.next_avail ≡ Ok (Some h) →
      ChainGives (descriptor_at mem q1.layout.table) q1.size (end_of mem) h pieces →
      IsOkAnd result (λ got. IsSomeAnd got (λ taken. (taken.head ≡ h) × (taken.chain ≡ pieces)))
  pub fault : (h : ℕ) (f : ChainFault) → q1.ready ≡ true →
      next_entry mem q1.layout q1.size q1.next_avail ≡ Ok (Some h) →
      FaultGives (descriptor_at mem q1.layout.table) q1.size (end_of mem) h f → result ≡ Err f
  pub found : IfOk result (λ got. IfSome got (λ taken. (q1.ready ≡ true) ×
      (next_entry mem q1.layout q1.size q1.next_avail ≡ Ok (Some taken.head)) ×
      ChainGives (descriptor_at mem q1.layout.table) q1.size (end_of mem) taken.head taken.chain))
  pub shown : (heads : List ℕ) (t : ℕ) → ShowsAvail mem q1.layout q1.size heads →
      t % 65536 ≡ q1.next_avail → t ≤ length heads → length heads ≤ t + q1.size →
      next_entry mem q1.layout q1.size q1.next_avail ≡ Ok (slice_get heads t)

-- The element after `next` used ones is this one, the index is one more, and nothing else of memory
-- has changed.
pub record PutsUsed (old new : Pages) (l : Layout) (q next head count : ℕ) : Type 0 where
  pub id : field 4 new l.used.page (used_place l q next) ≡ head
  pub len : field 4 new l.used.page (used_place l q next + 4) ≡ count
  pub index : field 2 new l.used.page (used_index l) ≡ (next + 1) % 65536
  pub rest : SameOutside old new (used_entry l q next ∷ used_counter l ∷ [])

-- An element added to the used ring: what is written, and what lists the ring shows.
pub record AddsUsedBy (old new : Pages) (q1 q2 : DeviceEnd) (head len : ℕ) : Type 0 where
  pub is_end : IsDeviceEnd q1
  pub state : q2 ≡ record q1 { next_used = (q1.next_used + 1) % 65536 }
  pub puts : PutsUsed old new q1.layout q1.size q1.next_used head len
  pub descriptors : (i : ℕ) → i < q1.size →
      descriptor_at new q1.layout.table i ≡ descriptor_at old q1.layout.table i
  pub entries : (heads : List ℕ) (elems : List UsedElem) → length elems % 65536 ≡ q1.next_used →
      ShowsEntries old q1.layout q1.size heads elems →
      ShowsEntries new q1.layout q1.size heads (elems ++ record { id = head; len = len } ∷ [])
  pub shown : (heads : List ℕ) (elems : List UsedElem) → length elems % 65536 ≡ q1.next_used →
      times head (ids elems) < times head heads →
      Shows old q1.layout q1.size heads elems →
      Shows new q1.layout q1.size heads (elems ++ record { id = head; len = len } ∷ [])
