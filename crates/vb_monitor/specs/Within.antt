-- Chains of no more descriptors than one may have, and the faults on the way along one (VIRTIO
-- 1.1, 2.6.5). In all of them d gives the table's descriptors, q is their number, and memory ends
-- at end.
use Rattle.std.specs.Prelude.{◌⊎◌, ◌≡◌, ℕ, ◌+◌, ◌<◌, ◌≤◌, List, true, None, length, slice_index}
use Rattle.vb_chain.specs.declared.descriptor.Descriptor.{Descriptor}
use Rattle.vb_chain.specs.declared.pieces.Piece.{Piece}
use Rattle.vb_chain.specs.declared.fault.ChainFault.{ChainFault}
use Rattle.vb_chain.specs.declared.fault.ChainFault.TheVariants.{TooLong}
use Rattle.vb_chain.specs.Rules.{has_next}
use Rattle.vb_chain.specs.Chain.{IsPath, fault_at, BreaksAt, ChainGives, NoHead}
use Rattle.vb_monitor.specs.Chains.{longest}

-- A chain from a head has these pieces, no more than a chain may have.
pub record ChainWithin (d : ℕ → Descriptor) (q end head : ℕ) (pieces : List Piece) : Type 0 where
  pub gives : ChainGives d q end head pieces
  pub few : length pieces ≤ longest q

-- One of as many descriptors as a chain may have breaks this rule, and none before it breaks any.
pub record BreaksWithin (d : ℕ → Descriptor) (q end head : ℕ) (f : ChainFault) : Type 0 where
  pub path : List ℕ
  pub few : length path ≤ longest q
  pub breaks : BreaksAt d q end head path f

-- As many descriptors as a chain may have break no rule of the table, and the last of them has
-- NEXT: the chain is too long.
pub record GoesPast (d : ℕ → Descriptor) (q end head : ℕ) (f : ChainFault) : Type 0 where
  pub path : List ℕ
  pub inside : head < q
  pub is_path : IsPath d head path
  pub all : length path ≡ longest q
  pub sound : (k : ℕ) → k < longest q → fault_at d q end path k ≡ None
  pub more : (k : ℕ) → k + 1 ≡ longest q → has_next (d (slice_index path k)) ≡ true
  pub is : f ≡ TooLong

-- The first fault on the way from a head.
abbrev pub FaultWithin : (ℕ → Descriptor) → ℕ → ℕ → ℕ → ChainFault → Type 0
FaultWithin d q end head f =
    NoHead q head f ⊎ (BreaksWithin d q end head f ⊎ GoesPast d q end head f)
