use Rattle.std.proofs.Common.{◌≡◌, ℕ, length, Some, slice_get}
use Rattle.vb_run.specs.Past.{AreBegun, Progress}
use Rattle.vb_run.proofs.run.scripts_of.Given as goal

abbrev pub invariant-loop-own : goal.invariant-loop-own
invariant-loop-own l = record {
  made : length l.scripts.items ≡ l.own-index;
  begun : AreBegun l.scripts.items;
  calls : (cpu : ℕ) (s : Progress) (own : _) → slice_get l.scripts.items cpu ≡ Some s
      → slice_get l.calls cpu ≡ Some own → s.calls ≡ own.items;
}
