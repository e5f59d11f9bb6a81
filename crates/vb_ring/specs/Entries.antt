-- The words of the two rings (VIRTIO 1.1, 2.6.6 and 2.6.8), and what is next in them, on any bytes.
use Rattle.std.specs.Prelude.{ℕ, ◌+◌, ◌-◌, ◌*◌, ◌%◌, Bool, false, Result, Ok, Err, Option, Some}
use Rattle.std.specs.Prelude.{None, if◌then◌else◌, ◌==◌, nat_le, List, slice_index_or}
use Rattle.vb_ram.specs.Pages.{Pages, field}
use Rattle.vb_chain.specs.declared.fault.ChainFault.{ChainFault}
use Rattle.vb_chain.specs.declared.fault.ChainFault.TheVariants.{IndexJump}
use Rattle.vb_ring.specs.declared.layout.Layout.{Layout}
use Rattle.vb_ring.specs.declared.driver.RingBroken.{RingBroken}
use Rattle.vb_ring.specs.declared.driver.RingBroken.TheVariants.{IndexAhead, NotOutstanding}

-- Where the available ring's idx is, and its entry number n.
abbrev pub avail_index : Layout → ℕ
avail_index l = l.avail.offset + 2

abbrev pub avail_place : Layout → ℕ → ℕ → ℕ
avail_place l q n = l.avail.offset + 4 + 2 * (n % q)

-- Where the used ring's idx is, and the id of its entry number n, whose len is 4 bytes on.
abbrev pub used_index : Layout → ℕ
used_index l = l.used.offset + 2

abbrev pub used_place : Layout → ℕ → ℕ → ℕ
used_place l q n = l.used.offset + 4 + 8 * (n % q)

-- How far an index is ahead of a count, both modulo 65,536.
abbrev pub ahead : ℕ → ℕ → ℕ
ahead index count = (index + (65536 - count)) % 65536

abbrev pub avail_ahead : Pages → Layout → ℕ → ℕ
avail_ahead mem l taken = ahead (field 2 mem l.avail.page (avail_index l)) taken

abbrev pub used_ahead : Pages → Layout → ℕ → ℕ
used_ahead mem l seen = ahead (field 2 mem l.used.page (used_index l)) seen

-- Nothing where an index is 0 ahead, x where it is at most `most` ahead, and else a fault.
abbrev pub next_by : {E : Type 0} → ℕ → ℕ → E → ℕ → Result (Option ℕ) E
next_by a most fault x =
    if a == 0 then Ok None else (if nat_le a most then Ok (Some x) else Err fault)

-- The head that comes after the ones taken so far.
abbrev pub next_entry : Pages → Layout → ℕ → ℕ → Result (Option ℕ) ChainFault
next_entry mem l q taken =
    next_by (avail_ahead mem l taken) q IndexJump (field 2 mem l.avail.page (avail_place l q taken))

-- The id that comes after the ones seen so far, where at most `most` may be there.
abbrev pub next_id : Pages → Layout → ℕ → ℕ → ℕ → Result (Option ℕ) RingBroken
next_id mem l q seen most =
    next_by (used_ahead mem l seen) most IndexAhead (field 4 mem l.used.page (used_place l q seen))

-- Whether an owner is this head.
abbrev pub is_own : ℕ → Option ℕ → Bool
is_own h None = false
is_own h (Some k) = k == h

-- Whether a number is a head whose chain is out: its descriptor belongs to its own chain.
abbrev pub is_head : List (Option ℕ) → ℕ → Bool
is_head owner h = is_own h (slice_index_or owner h None)

-- An id has to be a head whose chain is out.
abbrev pub only_head : List (Option ℕ) → Result (Option ℕ) RingBroken → Result (Option ℕ) RingBroken
only_head owner (Err fault) = Err fault
only_head owner (Ok None) = Ok None
only_head owner (Ok (Some id)) = if is_head owner id then Ok (Some id) else Err NotOutstanding
