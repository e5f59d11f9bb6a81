-- What the two ends of a ring remember.
use Rattle.std.specs.Prelude.{◌≡◌, ℕ, ◌+◌, ◌%◌, ◌<◌, Bool, true, false, List, Result, Ok, Err}
use Rattle.std.specs.Prelude.{Option, Some, None, is_none, if◌then◌else◌, nat_lt, length, take, map}
use Rattle.std.specs.Prelude.{replicate, slice_get, slice_index, slice_index_or}
use Rattle.vb_virtio.specs.Tests.{is_in, each_page}
use Rattle.vb_ram.specs.Pages.{Pages}
use Rattle.vb_ring.specs.declared.layout.Layout.{Layout}
use Rattle.vb_ring.specs.declared.driver.Full.{Full}
use Rattle.vb_ring.specs.declared.driver.Full.TheVariants.{TooFewFree}
use Rattle.vb_ring.specs.declared.driver.RingBroken.{RingBroken}
use Rattle.vb_ring.specs.Layout.{Fits}
use Rattle.vb_ring.specs.Entries.{is_own, is_head, next_id, only_head}
use Rattle.vb_ring.specs.Numbers.{numbers}

-- The driver's end: how many heads it published and how many used elements it has seen, both modulo
-- 65,536, and the head of the chain that each descriptor belongs to.
pub record DriverEnd : Type 0 where
  pub layout : Layout
  pub size : ℕ
  pub published : ℕ
  pub seen : ℕ
  pub owner : List (Option ℕ)

-- What holds of each driver's end.
pub record IsDriverEnd (r : DriverEnd) : Type 0 where
  pub fits : Fits r.layout r.size
  pub table : length r.owner ≡ r.size
  pub published : r.published < 65536
  pub seen : r.seen < 65536

-- The device's end: whether the queue is ready, how many available entries it took and how many
-- used elements it added, both modulo 65,536.
pub record DeviceEnd : Type 0 where
  pub layout : Layout
  pub size : ℕ
  pub ready : Bool
  pub next_avail : ℕ
  pub next_used : ℕ

-- What holds of each device's end.
pub record IsDeviceEnd (q : DeviceEnd) : Type 0 where
  pub fits : Fits q.layout q.size
  pub page : q.layout.table < 65536
  pub next_avail : q.next_avail < 65536
  pub next_used : q.next_used < 65536

-- ---- what the driver's end says

-- Whether a descriptor belongs to no chain.
abbrev pub is_unused : List (Option ℕ) → ℕ → Bool
is_unused owner i = is_none (slice_index_or owner i None)

-- The descriptors that belong to no chain, lowest first.
abbrev pub free_descriptors : DriverEnd → List ℕ
free_descriptors r = numbers (is_unused r.owner) r.size

-- The heads of the chains that were added and not taken back, lowest first.
abbrev pub heads_out : DriverEnd → List ℕ
heads_out r = numbers (is_head r.owner) r.size

-- How many chains were added and not taken back.
abbrev pub outstanding : DriverEnd → ℕ
outstanding r = length (heads_out r)

-- The head of the next chain: the lowest free descriptor.
abbrev pub next_head : DriverEnd → Option ℕ
next_head r = slice_get (free_descriptors r) 0

-- The descriptors of the next chain of n pieces: the n lowest free ones.
abbrev pub next_path : DriverEnd → ℕ → List ℕ
next_path r n = take n (free_descriptors r)

-- Each descriptor is free, or is a chain of its own.
abbrev pub AreSingle : DriverEnd → Type 0
AreSingle r = (i : ℕ) → i < r.size → is_unused r.owner i ≡ false → is_head r.owner i ≡ true

-- ---- what a call makes of it

-- A driver's end of which nothing is out.
abbrev pub fresh_end : Layout → ℕ → DriverEnd
fresh_end l q = record { layout = l; size = q; published = 0; seen = 0; owner = replicate q None }

-- The descriptors of a path belong to the chain of this head, all others as before.
abbrev pub claimed : List ℕ → ℕ → List (Option ℕ) → List (Option ℕ)
claimed path h owner = each_page (λ i old. if is_in i path then Some h else old) owner

-- The descriptors of this head's chain belong to no chain, all others as before.
abbrev pub released : ℕ → List (Option ℕ) → List (Option ℕ)
released h owner = map (λ old. if is_own h old then None else old) owner

-- The answer to a request of n pieces.
abbrev pub add_answer : DriverEnd → ℕ → Result ℕ Full
add_answer r n =
    if nat_lt (length (free_descriptors r)) n
    then Err TooFewFree
    else Ok (slice_index (next_path r n) 0)

-- The end after that answer.
abbrev pub after_add : DriverEnd → ℕ → Result ℕ Full → DriverEnd
after_add r n (Err full) = r
after_add r n (Ok h) =
    record r { published = (r.published + 1) % 65536; owner = claimed (next_path r n) h r.owner }

-- The used chain that is next, on any bytes.
abbrev pub used_answer : Pages → DriverEnd → Result (Option ℕ) RingBroken
used_answer mem r = only_head r.owner (next_id mem r.layout r.size r.seen (outstanding r))

-- The end after that answer.
abbrev pub after_take : DriverEnd → Result (Option ℕ) RingBroken → DriverEnd
after_take r (Err broken) = r
after_take r (Ok None) = r
after_take r (Ok (Some h)) = record r { seen = (r.seen + 1) % 65536; owner = released h r.owner }
