-- What the driver's table keeps beside the owners.
use Rattle.std.specs.Prelude.{◌≡◌, ℕ, ◌-◌, ◌<◌, ◌≤◌, true, false, List, Option, Some, None, length}
use Rattle.std.specs.Prelude.{slice_index, slice_index_or}
use Rattle.vb_virtio.specs.Tests.{is_in}
use Rattle.vb_chain.specs.declared.pieces.TheConstants.{MAX_DESCRIPTORS}
use Rattle.vb_ring.specs.Entries.{is_head}
use Rattle.vb_ring.specs.Numbers.{numbers}
use Rattle.vb_ring.specs.Ends.{is_unused}

-- A descriptor lies between the head of its chain, which is out, and the chain's last descriptor.
pub record LiesBetween (owner : List (Option ℕ)) (last : List ℕ) (i h : ℕ) : Type 0 where
  pub out : is_head owner h ≡ true
  pub from : h ≤ i
  pub to : i ≤ slice_index last h

-- Of a table of n descriptors: how many chains are out, where each of them ends, and a number below
-- which none is free.
pub record AreKept (owner : List (Option ℕ)) (count out : ℕ) (last : List ℕ) (from : ℕ) :
    Type 0 where
  pub size : length owner ≡ count
  pub few : count ≤ MAX_DESCRIPTORS
  pub heads : out ≡ length (numbers (is_head owner) (length owner))
  pub within : (i h : ℕ) → slice_index_or owner i None ≡ Some h → LiesBetween owner last i h
  pub ends : (h : ℕ) → is_head owner h ≡ true → slice_index last h < count
  pub begin : from ≤ count
  pub taken : (i : ℕ) → i < from → is_unused owner i ≡ false

-- The path of a chain: the lowest free descriptors of a table, in rising order.
pub record IsFreeChain (owner : List (Option ℕ)) (path : List ℕ) : Type 0 where
  pub some : 0 < length path
  pub inside : (k : ℕ) → k < length path → slice_index path k < length owner
  pub free : (k : ℕ) → k < length path → slice_index_or owner (slice_index path k) None ≡ None
  pub rise : (j k : ℕ) → j < k → k < length path → slice_index path j < slice_index path k
  pub lowest : (i : ℕ) → is_unused owner i ≡ true → i < slice_index path (length path - 1) →
      is_in i path ≡ true
