use Rattle.std.proofs.Common.{◌≡◌, ◌<◌, length, ℕ, Some, slice_get}
use Rattle.vb_run.proofs.script.are_of.Given as goal

abbrev pub invariant-loop-cpu : goal.invariant-loop-cpu
invariant-loop-cpu g l = (length l.scripts ≡ length l.calls)
    × ((cpu : ℕ) (s : _) (own : _) → cpu < l.cpu → slice_get l.scripts cpu ≡ Some s
    → slice_get l.calls cpu ≡ Some own → s.calls ≡ own.items)
