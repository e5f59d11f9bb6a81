use Rattle.std.proofs.Common.{◌≡◌, ◌≢◌, ◌<◌, ℕ, length, Some, None}
use Rattle.std.specs.Prelude.{slice_index, slice_index_or}
use Rattle.vb_ring.proofs.owners.claim.Given as goal

abbrev pub invariant-loop-i : goal.invariant-loop-i
invariant-loop-i l = record {
  len : length l.owner ≡ length l.initial.owner;
  now : (k : ℕ) → k < l.i-index → slice_index_or l.owner (slice_index l.path k) None ≡ Some l.head;
  others : (i : ℕ) → ((k : ℕ) → k < length l.path → slice_index l.path k ≢ i)
      → slice_index_or l.owner i None ≡ slice_index_or l.initial.owner i None;
}
