-- What the records of a ring say: where its parts have room, what stays as it was, which lists its
-- bytes show, and what its two ends remember.
use Rattle.std.proofs.Common.{◌≡◌, ◌↔◌, ℕ, zero, suc, ◌+◌, ◌*◌, ◌%◌, ◌<◌, ◌≤◌, true, false, List}
use Rattle.std.proofs.Common.{[], ◌∷◌, refl, arith, ap, ◌∙◌}
use Rattle.std.specs.Prelude.{Option, Some, None, IsSome, length, replicate, slice_index_or}
use Rattle.vb_virtio.specs.Tests.{one_if}
use Rattle.vb_ram.specs.Pages.{Pages, field, byte_at, page_at, frame_at, contents_at}
use Rattle.vb_chain.specs.{declared.descriptor.Descriptor.Descriptor, Table.descriptor_at}
use Rattle.vb_ring.specs.{declared.layout.Layout.Layout, Layout.{layout_of, Fits, IsSize}}
use Rattle.vb_ring.specs.{Layout.{IsInside, IsBacked}, Frame.{Extent, IsIn, IsOutside, IsOther}}
use Rattle.vb_ring.specs.{Frame.SameOutside, Entries.is_head, Calls.avail_counter}
use Rattle.vb_ring.specs.Ends.{DriverEnd, IsDriverEnd, IsDeviceEnd, AreSingle, is_unused}
use Rattle.vb_ring.specs.{Ends.outstanding, Kept.{LiesBetween, AreKept, IsFreeChain}, Numbers.numbers}
use Rattle.vb_ring.specs.Meaning.{UsedElem, times, ShowsAvail, ShowsUsed, ShowsEntries, IsTablePath}
use Rattle.vb_ring.{specs.Meaning.{IsOutstanding, Shows, Tracks}, proofs.RingFacts.{busy, device}}

-- ---- where the parts of a ring have room: up to the last byte of a page, and up to another part

-- each part of a ring of 2 ends with its page
abbrev tight : Layout
tight = record {
  table = 3;
  avail = record { page = 4; offset = 4086 };
  used = record { page = 5; offset = 4074 };
}

-- and all in one page, with no byte between them
abbrev dense : Layout
dense = record {
  table = 3;
  avail = record { page = 3; offset = 32 };
  used = record { page = 3; offset = 42 };
}

fit : Fits tight 2 × Fits dense 2
fit = grind arith

abbrev avail_at : ℕ → ℕ → Layout → Layout
avail_at page offset l = record l { avail = record { page = page; offset = offset } }

abbrev used_at : ℕ → ℕ → Layout → Layout
used_at page offset l = record l { used = record { page = page; offset = offset } }

-- one byte further they don't
no_fit : (Fits (avail_at 4 4087 tight) 2 → ⊥) × (Fits (used_at 5 4075 tight) 2 → ⊥)
    × (Fits (avail_at 3 31 dense) 2 → ⊥) × (Fits (used_at 3 31 tight) 2 → ⊥)
    × (Fits (used_at 3 41 dense) 2 → ⊥) × (Fits tight 3 → ⊥)
no_fit = (
  λ fits. omega (arith, fits.avail),
  λ fits. omega (arith, fits.used),
  λ fits. omega (arith, fits.table_avail refl),
  λ fits. omega (arith, fits.table_used refl),
  λ fits. omega (arith, fits.avail_used refl),
  λ fits. omega (arith, fits.size.divides),
)

too_small : IsSize 1 → ⊥
too_small size = omega (arith, size.least)

-- each of the three pages lies in memory, or has a frame
inside : (m : Pages) → IsInside m tight ↔ ((3 < length m) × (4 < length m) × (5 < length m))
inside m = (
  λ is. (is.table, is.avail, is.used),
  λ all. record { table = all.0; avail = all.1; used = all.2 },
)

backed : (m : Pages)
    → IsBacked m tight ↔ (IsSome (frame_at m 3) × IsSome (frame_at m 4) × IsSome (frame_at m 5))
backed m = (
  λ is. (is.table, is.avail, is.used),
  λ all. record { table = all.0; avail = all.1; used = all.2 },
)

-- ---- what lies outside some extents stays

abbrev bytes : ℕ → ℕ → ℕ → Extent
bytes page from to = record { page = page; from = from; to = to }

lies_in : (p o : ℕ) → IsIn (avail_counter (layout_of 3 8)) p o ↔ ((p ≡ 3) × (130 ≤ o) × (o < 132))
lies_in p o = (
  λ is. (is.page, is.from, is.to),
  λ all. record { page = all.0; from = all.1; to = all.2 },
)

-- outside of all of them, and in no page of any
in_the_second : (IsOutside (bytes 3 0 4 ∷ bytes 5 8 9 ∷ []) 5 8 → ⊥)
    × (IsOther (bytes 3 0 4 ∷ bytes 5 8 9 ∷ []) 5 → ⊥)
    × (IsOther (bytes 3 0 4 ∷ bytes 5 8 9 ∷ []) 3 → ⊥)
in_the_second = (
  λ outside. outside.1.0 (record { page = refl; from = omega arith; to = omega arith }),
  λ other. other.1.0 refl,
  λ other. other.0 refl,
)

in_neither : IsOutside (bytes 3 0 4 ∷ bytes 5 8 9 ∷ []) 3 8
    × IsOther (bytes 3 0 4 ∷ bytes 5 8 9 ∷ []) 4
in_neither = (
  (λ is. omega (arith, is.to), (λ is. omega (arith, is.page), tt)),
  (λ e. omega (arith, e), (λ e. omega (arith, e), tt)),
)

stays : (old new : Pages) → SameOutside old new (bytes 3 0 4 ∷ [])
    ↔ (((p o : ℕ) → IsOutside (bytes 3 0 4 ∷ []) p o → byte_at new p o ≡ byte_at old p o)
    × ((p : ℕ) → IsOther (bytes 3 0 4 ∷ []) p → page_at new p ≡ page_at old p)
    × ((p : ℕ) → frame_at new p ≡ frame_at old p)
    × ((p : ℕ) → length (contents_at new p) ≡ length (contents_at old p))
    × (length new ≡ length old))
stays old new = (
  λ same. (same.bytes, same.others, same.backing, same.sizes, same.count),
  λ all. record { bytes = all.0; others = all.1; backing = all.2; sizes = all.3; count = all.4 },
)

-- ---- the two ends: their counts go round after 65,535

ends : IsDriverEnd busy × IsDeviceEnd device
ends = grind arith

last_counts : IsDriverEnd (record busy { published = 65535; seen = 65535 })
    × IsDeviceEnd (record device { next_avail = 65535; next_used = 65535 })
last_counts = grind arith

no_driver_end : (IsDriverEnd (record busy { published = 65536 }) → ⊥)
    × (IsDriverEnd (record busy { seen = 65536 }) → ⊥)
    × (IsDriverEnd (record busy { owner = None ∷ [] }) → ⊥)
    × (IsDriverEnd (record busy { owner = replicate 9 None }) → ⊥)
    × (IsDriverEnd (record busy { layout = used_at 3 148 (layout_of 3 8) }) → ⊥)
no_driver_end = (
  λ is. omega (arith, is.published),
  λ is. omega (arith, is.seen),
  λ is. omega (arith, is.table),
  λ is. omega (arith, is.table),
  λ is. omega (arith, is.fits.avail_used refl),
)

no_device_end : (IsDeviceEnd (record device { next_avail = 65536 }) → ⊥)
    × (IsDeviceEnd (record device { next_used = 65536 }) → ⊥)
    × (IsDeviceEnd (record device { layout = layout_of 65536 8 }) → ⊥)
    × (IsDeviceEnd (record device { layout = used_at 3 148 (layout_of 3 8) }) → ⊥)
no_device_end = (
  λ is. omega (arith, is.next_avail),
  λ is. omega (arith, is.next_used),
  λ is. omega (arith, is.page),
  λ is. omega (arith, is.fits.avail_used refl),
)

-- a driver's end of these owners
abbrev owned_by : List (Option ℕ) → DriverEnd
owned_by owner = record busy { size = 2; owner = owner }

two_single : AreSingle (owned_by (Some 0 ∷ Some 1 ∷ []))
two_single zero lt used = refl
two_single (suc zero) lt used = refl
two_single (suc (suc i)) lt used = absurd (omega (arith, lt))

-- the last of a chain isn't single either
not_single : AreSingle (owned_by (Some 0 ∷ Some 0 ∷ [])) → ⊥
not_single single = (let no : false ≡ true = single 1 (omega arith) refl in absurd cc)

-- ---- what a driver's table keeps: descriptors 1 and 3 of four are the chain of head 1

abbrev chained : List (Option ℕ)
chained = None ∷ Some 1 ∷ None ∷ Some 1 ∷ []

abbrev last : List ℕ
last = 9 ∷ 3 ∷ []

lies_between : (i : ℕ) → LiesBetween chained last i 1 ↔ ((true ≡ true) × (1 ≤ i) × (i ≤ 3))
lies_between i = (
  λ is. (is.out, is.from, is.to),
  λ all. record { out = all.0; from = all.1; to = all.2 },
)

between_no_other : LiesBetween chained last 3 0 → false ≡ true
between_no_other is = is.out

kept : (out from : ℕ) → AreKept chained 4 out last from
    ↔ ((length chained ≡ 4) × (4 ≤ 256) × (out ≡ 1)
    × ((i h : ℕ) → slice_index_or chained i None ≡ Some h → LiesBetween chained last i h)
    × ((h : ℕ) → is_head chained h ≡ true → slice_index_or last h 0 < 4) × (from ≤ 4)
    × ((i : ℕ) → i < from → is_unused chained i ≡ false))
unfolding numbers
kept out from = (
  λ are. (are.size, are.few, are.heads, are.within, are.ends, are.begin, are.taken),
  λ all. record {
    size = all.0;
    few = all.1;
    heads = all.2;
    within = all.3;
    ends = all.4;
    begin = all.5;
    taken = all.6;
  },
)

not_kept : (owner : List (Option ℕ)) (out from : ℕ) → (AreKept chained 5 out last from → ⊥)
    × (AreKept owner 257 out last from → ⊥)
not_kept owner out from = (λ are. omega (arith, are.size), λ are. omega (arith, are.few))

-- a free chain has some descriptors, of the table, free ones, each once, in order, and the lowest
abbrev part_free : List (Option ℕ)
part_free = None ∷ Some 1 ∷ None ∷ None ∷ []

not_free : (IsFreeChain part_free [] → ⊥) × (IsFreeChain part_free (4 ∷ []) → ⊥)
    × (IsFreeChain part_free (1 ∷ []) → slice_index_or part_free 1 None ≡ None) × (IsFreeChain part_free (0 ∷ 0 ∷ []) → ⊥)
    × (IsFreeChain part_free (2 ∷ []) → false ≡ true)
    × (IsFreeChain part_free (0 ∷ 3 ∷ []) → false ≡ true)
not_free = (
  λ chain. omega (arith, chain.some),
  λ chain. omega (arith, chain.inside 0 (omega arith)),
  λ chain. chain.free 0 (omega arith),
  λ chain. omega (arith, chain.rise 0 1 (omega arith) (omega arith)),
  λ chain. chain.lowest 0 refl (omega arith),
  λ chain. chain.lowest 2 refl (omega arith),
)

-- ---- what the bytes of a ring of 2 show of three: all their number, and the last two

-- its parts are in pages of their own
abbrev pub spread : Layout
spread = record {
  table = 3;
  avail = record { page = 4; offset = 32 };
  used = record { page = 5; offset = 44 };
}

abbrev elem : ℕ → ℕ → UsedElem
elem id len = record { id = id; len = len }

shows_heads : (m : Pages) → ShowsAvail m spread 2 (7 ∷ 8 ∷ 9 ∷ [])
    ↔ ((field 2 m 4 34 ≡ 3) × (field 2 m 4 38 ≡ 8) × (field 2 m 4 36 ≡ 9))
shows_heads m = (
  λ shows. (
    shows.index,
    shows.entries 1 (omega arith) (omega arith),
    shows.entries 2 (omega arith) (omega arith),
  ),
  λ all. record { index = all.0; entries = entries all.1 all.2 },
) where
  entries : field 2 m 4 38 ≡ 8 → field 2 m 4 36 ≡ 9 → (k : ℕ) → k < 3 → 3 ≤ k + 2
      → field 2 m 4 (36 + 2 * (k % 2)) ≡ slice_index_or (7 ∷ 8 ∷ 9 ∷ []) k 0
  entries one two zero lt few = absurd (omega (arith, few))
  entries one two (suc zero) lt few = one
  entries one two (suc (suc zero)) lt few = two
  entries one two (suc (suc (suc k))) lt few = absurd (omega (arith, lt))

shows_elements : (m : Pages)
    → ShowsUsed m spread 2 (elem 7 1 ∷ elem 8 2 ∷ elem 9 3 ∷ [])
    → (field 2 m 5 46 ≡ 3) × (field 4 m 5 56 ≡ 8) × (field 4 m 5 60 ≡ 2) × (field 4 m 5 48 ≡ 9)
    × (field 4 m 5 52 ≡ 3)
shows_elements m shows = (
  shows.index,
  shows.ids 1 (omega arith) (omega arith),
  shows.lens 1 (omega arith) (omega arith),
  shows.ids 2 (omega arith) (omega arith),
  shows.lens 2 (omega arith) (omega arith),
)

-- the numbers go round, and so do those of an end
goes_round : (m : Pages) (r : DriverEnd) (heads : List ℕ) (elems : List UsedElem)
    → length heads ≡ 65537 → length elems ≡ 65538
    → (ShowsAvail m spread 2 heads → field 2 m 4 34 ≡ 1)
    × (ShowsUsed m spread 2 elems → field 2 m 5 46 ≡ 2)
    × (Tracks m r heads elems 65538 → (1 ≡ r.published) × (2 ≡ r.seen))
goes_round m r heads elems one two = (
  λ shows. shows.index ∙ ap (λ (n : ℕ). n % 65536) one,
  λ shows. shows.index ∙ ap (λ (n : ℕ). n % 65536) two,
  λ tracks. (omega (arith, tracks.published), tracks.seen),
)

shows_both : (m : Pages) (heads : List ℕ) (elems : List UsedElem)
    → ShowsEntries m spread 2 heads elems
    ↔ (ShowsAvail m spread 2 heads × ShowsUsed m spread 2 elems)
shows_both m heads elems =
    (λ shows. (shows.avail, shows.used), λ all. record { avail = all.0; used = all.1 })

-- a head that was published twice and used once is outstanding, and no other
outstanding_ones : IsOutstanding (7 ∷ 8 ∷ 7 ∷ []) (elem 7 0 ∷ []) 7
    × (IsOutstanding (7 ∷ 8 ∷ []) (elem 7 0 ∷ []) 7 → ⊥) × (IsOutstanding (7 ∷ []) [] 8 → ⊥)
outstanding_ones = (omega arith, λ out. omega (arith, out), λ out. omega (arith, out))

path_past_the_table : (d : ℕ → Descriptor) → IsTablePath d 8 3 (3 ∷ 8 ∷ []) → ⊥
path_past_the_table d path = omega (arith, path.inside 1 (omega arith))

-- no element was used that wasn't published, no more are out than descriptors, and no head twice;
-- nor do two chains that are out share a descriptor
shows_no : (m : Pages) → (Shows m spread 8 [] (elem 7 0 ∷ []) → ⊥)
    × (Shows m spread 2 (0 ∷ 1 ∷ 2 ∷ []) [] → ⊥)
    × (Shows m spread 8 (7 ∷ 7 ∷ []) [] → ⊥)
    × (Shows m spread 8 (0 ∷ 1 ∷ []) []
    → IsTablePath (descriptor_at m 3) 8 0 (0 ∷ 4 ∷ [])
    → IsTablePath (descriptor_at m 3) 8 1 (1 ∷ 2 ∷ 4 ∷ []) → ⊥)
shows_no m = (
  λ shows. omega (arith, shows.among 7),
  λ shows. omega (arith, shows.most),
  λ shows. omega (arith, shows.once 7),
  λ shows one two. shows.apart 0 1 (λ e. omega (arith, e)) (omega arith) (omega arith) (0 ∷ 4 ∷ [])
      (1 ∷ 2 ∷ 4 ∷ []) one two 1 2 (omega arith) (omega arith) refl,
)

shows : (m : Pages) (heads : List ℕ) (elems : List UsedElem)
    → Shows m spread 2 heads elems → ShowsEntries m spread 2 heads elems
shows m heads elems is = is.entries

-- of heads 7 and 8 a driver that has seen 7 as used has 8 out alone, with all of its chain
tracks : (m : Pages) (r : DriverEnd) → Tracks m r (7 ∷ 8 ∷ []) (elem 7 0 ∷ []) 1
    → (2 ≡ r.published) × (1 ≡ r.seen) × (2 ≡ 1 + outstanding r)
    × ((h : ℕ) → times h (7 ∷ 8 ∷ []) ≡ times h (7 ∷ []) + one_if (is_head r.owner h))
    × (is_head r.owner 8 ≡ true
    → IsTablePath (descriptor_at m r.layout.table) r.size 8 (8 ∷ 3 ∷ [])
    → slice_index_or r.owner 3 None ≡ Some 8)
tracks m r is = (
  is.published,
  is.seen,
  is.count,
  is.out,
  λ head path. is.owns 8 head (8 ∷ 3 ∷ []) path 1 (omega arith),
)

-- no more is seen than was used, whatever was published
tracks_no : (m : Pages) (r : DriverEnd) → Tracks m r (7 ∷ []) [] 1 → ⊥
tracks_no m r is = omega (arith, is.few)
