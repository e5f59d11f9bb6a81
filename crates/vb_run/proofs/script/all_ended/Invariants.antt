use Rattle.std.proofs.Common.{◌≡◌, ◌<◌, length, ℕ, Some, slice_get}
use Rattle.vb_run.proofs.script.all_ended.Given as goal

abbrev pub invariant-loop-script : goal.invariant-loop-script
invariant-loop-script g l = (cpu : ℕ) (s : _)
    → cpu < l.script-index → slice_get l.scripts cpu ≡ Some s → s.place ≡ length s.calls
