-- What the two ends of a queue's ring and guest memory say together: which heads were published,
-- taken, used and seen as used (VIRTIO 1.1, 2.6).
use Rattle.std.specs.Prelude.{◌≡◌, ℕ, ◌+◌, ◌%◌, List, ◌++◌, length, map}
use Rattle.vb_virtio.specs.Layout.{ring_page}
use Rattle.vb_ram.specs.Pages.{Pages}
use Rattle.vb_ring.specs.Layout.{IsSize, layout_of}
use Rattle.vb_ring.specs.Ends.{DriverEnd}
use Rattle.vb_ring.specs.Meaning.{UsedElem, ids, times, Shows, Tracks}

-- The used elements of these heads: no byte was written.
abbrev pub used_of : List ℕ → List UsedElem
used_of heads = map (λ h. record { id = h; len = 0 }) heads

-- The ring shows the heads that the device took before and the posted ones, and the elements that
-- the driver has seen and those of the used heads that it hasn't. Of the heads that were taken,
-- those that weren't seen as used are the taken and the used ones.
pub record RingStands (mem : Pages) (queue : ℕ) (ring : DriverEnd) (next_avail next_used : ℕ)
    (posted taken done : List ℕ) : Type 0 where
  pub sized : IsSize ring.size
  pub layout : ring.layout ≡ layout_of (ring_page ring.size queue) ring.size
  pub before : List ℕ
  pub gone : List UsedElem
  pub shows : Shows mem ring.layout ring.size (before ++ posted) (gone ++ used_of done)
  pub tracks : Tracks mem ring (before ++ posted) (gone ++ used_of done) (length gone)
  pub avail : length before % 65536 ≡ next_avail
  pub used : length (gone ++ used_of done) % 65536 ≡ next_used
  pub counted : length before ≡ length gone + (length taken + length done)
  pub balance : (h : ℕ) → times h before ≡ times h (ids gone) + (times h taken + times h done)
