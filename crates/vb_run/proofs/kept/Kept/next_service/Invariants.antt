use Rattle.std.{proofs.Common.{◌≡◌, ◌<◌, ℕ, true, false}, specs.Prelude.slice_index_or}
use Rattle.vb_run.proofs.kept.Kept.next_service.Given as goal

abbrev pub invariant-loop-number : goal.invariant-loop-number
invariant-loop-number g l = (n : ℕ) → n < l.number → slice_index_or l.self.quiet n false ≡ true
