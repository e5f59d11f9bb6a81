-- A chain as a driver writes it.
use Rattle.std.specs.Prelude.{◌≡◌, ◌≢◌, ℕ, ◌+◌, ◌<◌, ◌≤◌, List, Bool, true, false, length}
use Rattle.std.specs.Prelude.{slice_index, slice_index_or, nat_lt, bit_or}
use Rattle.vb_chain.specs.declared.descriptor.Descriptor.{Descriptor}
use Rattle.vb_chain.specs.declared.pieces.Piece.{Piece}
use Rattle.vb_chain.specs.declared.descriptor.TheConstants.{VIRTQ_DESC_F_NEXT, VIRTQ_DESC_F_WRITE}

-- The flags of a descriptor that goes on or not, and is writable or not
abbrev pub flags_of : Bool → Bool → ℕ
flags_of true true = bit_or VIRTQ_DESC_F_NEXT VIRTQ_DESC_F_WRITE
flags_of true false = VIRTQ_DESC_F_NEXT
flags_of false true = VIRTQ_DESC_F_WRITE
flags_of false false = 0

-- No piece
abbrev pub empty : Piece
empty = record { addr = 0; len = 0; writable = false }

-- The descriptor of a piece that goes on to another or not
abbrev pub link_to : Piece → Bool → ℕ → Descriptor
link_to piece more next =
    record {
      addr = piece.addr;
      len = piece.len;
      flags = flags_of more piece.writable;
      next = next;
    }

-- Descriptor number k of a chain along a path
abbrev pub linked : List ℕ → List Piece → ℕ → Descriptor
linked path pieces k =
    link_to (slice_index_or pieces k empty) (nat_lt (k + 1) (length path))
    (slice_index path (k + 1))

-- Numbers of a table, no two of them equal
pub record IsRoute (q : ℕ) (path : List ℕ) : Type 0 where
  pub inside : (k : ℕ) → k < length path → slice_index path k < q
  pub apart : (j k : ℕ) → j < k → k < length path → slice_index path j ≢ slice_index path k

-- Pieces that a chain may have: some, none past the end of memory, and no readable one after a
-- writable one
pub record AreSound (end : ℕ) (pieces : List Piece) : Type 0 where
  pub some : 0 < length pieces
  pub fit : (k : ℕ) → k < length pieces →
      (slice_index_or pieces k empty).addr + (slice_index_or pieces k empty).len ≤ end
  pub ordered : (j k : ℕ) → j < k → k < length pieces →
      (slice_index_or pieces j empty).writable ≡ true →
      (slice_index_or pieces k empty).writable ≡ true
