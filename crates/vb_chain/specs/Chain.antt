-- Paths through a table of descriptors, and the chains and faults on them (VIRTIO 1.1, 2.6.5). In
-- all of them d gives the table's descriptors, q is their number, and memory ends at end.
use Rattle.std.specs.Prelude.{◌⊎◌, ◌≡◌, ℕ, ◌+◌, ◌<◌, ◌≤◌, List, true, false, Option, Some, None}
use Rattle.std.specs.Prelude.{length, slice_index, map, take}
use Rattle.std.specs.List.{list_any}
use Rattle.vb_chain.specs.declared.descriptor.Descriptor.{Descriptor}
use Rattle.vb_chain.specs.declared.pieces.Piece.{Piece}
use Rattle.vb_chain.specs.declared.fault.ChainFault.{ChainFault}
use Rattle.vb_chain.specs.declared.fault.ChainFault.TheVariants.{BadHead}
use Rattle.vb_chain.specs.Rules.{has_next, is_writable, piece_of, first_fault}

-- A list of descriptor numbers from a head on, each the `next` of the one before, where NEXT is set
pub record IsPath (d : ℕ → Descriptor) (head : ℕ) (path : List ℕ) : Type 0 where
  pub some : 0 < length path
  pub begins : slice_index path 0 ≡ head
  pub onward : (k : ℕ) → k + 1 < length path → has_next (d (slice_index path k)) ≡ true
  pub linked : (k : ℕ) → k + 1 < length path →
      (d (slice_index path k)).next ≡ slice_index path (k + 1)

-- The first rule that is broken at place k of a path
abbrev pub fault_at : (ℕ → Descriptor) → ℕ → ℕ → List ℕ → ℕ → Option ChainFault
fault_at d q end path k =
    first_fault q end (list_any (λ i. is_writable (d i)) (take k path)) k (d (slice_index path k))

-- A path of at most q numbers whose last has no NEXT, and on which no rule is broken
pub record IsChain (d : ℕ → Descriptor) (q end head : ℕ) (path : List ℕ) : Type 0 where
  pub inside : head < q
  pub is_path : IsPath d head path
  pub short : length path ≤ q
  pub sound : (k : ℕ) → k < length path → fault_at d q end path k ≡ None
  pub ends : (k : ℕ) → k + 1 ≡ length path → has_next (d (slice_index path k)) ≡ false

-- The last number of a path breaks a rule, and none before it does
pub record BreaksAt (d : ℕ → Descriptor) (q end head : ℕ) (path : List ℕ) (f : ChainFault) :
    Type 0 where
  pub inside : head < q
  pub is_path : IsPath d head path
  pub sound : (k : ℕ) → k + 1 < length path → fault_at d q end path k ≡ None
  pub breaks : (k : ℕ) → k + 1 ≡ length path → fault_at d q end path k ≡ Some f

-- A chain from a head has these pieces.
pub record ChainGives (d : ℕ → Descriptor) (q end head : ℕ) (pieces : List Piece) : Type 0 where
  pub path : List ℕ
  pub chain : IsChain d q end head path
  pub pieces_are : pieces ≡ map (λ i. piece_of (d i)) path

-- The head is no number of a descriptor: BadHead, and nothing else is tested.
pub record NoHead (q head : ℕ) (f : ChainFault) : Type 0 where
  pub past : q ≤ head
  pub is : f ≡ BadHead

-- The first fault on the way from a head.
abbrev pub FaultGives : (ℕ → Descriptor) → ℕ → ℕ → ℕ → ChainFault → Type 0
FaultGives d q end head f = NoHead q head f ⊎ ((path : List ℕ) × BreaksAt d q end head path f)
