use Rattle.std.proofs.Common.{◌≡◌, ◌<◌, ◌≤◌, ℕ, length, None}
use Rattle.std.specs.Prelude.{slice_index_or, if◌then◌else◌}
use Rattle.vb_ring.specs.Entries.{is_own}
use Rattle.vb_ring.proofs.owners.release.Given as goal

abbrev pub invariant-loop-i : goal.invariant-loop-i
invariant-loop-i l = record {
  len : length l.owner ≡ length l.initial.owner;
  freed : (k : ℕ) → k < l.i → slice_index_or l.owner k None ≡ (if is_own l.head
      (slice_index_or l.initial.owner k None) then None else slice_index_or l.initial.owner k None);
  kept : (k : ℕ) → l.i ≤ k → slice_index_or l.owner k None ≡ slice_index_or l.initial.owner k None;
}
