use Rattle.std.{proofs.Common.{◌<◌, ℕ, suc}, specs.Prelude.slice_index_or}
use Rattle.vb_run.proofs.apart.is_rising.Given as goal

abbrev pub invariant-loop-place : goal.invariant-loop-place
invariant-loop-place l =
    (i : ℕ) → suc i < l.place → slice_index_or l.numbers i 0 < slice_index_or l.numbers (suc i) 0
