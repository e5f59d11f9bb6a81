use Rattle.std.proofs.Common.{◌≡◌, ℕ, length, Some, slice_get, drop}
use Rattle.vb_run.specs.Paces.{is_deferred}
use Rattle.vb_run.specs.Reports.{IsGuestReport}
use Rattle.vb_run.proofs.run.reports_of.Given as goal

abbrev pub invariant-loop-guest : goal.invariant-loop-guest
invariant-loop-guest g l = record {
  made : length l.reports.items ≡ l.guest;
  rest : l.left.rest.items ≡ drop l.guest l.fn.seats.items;
  each : (n : ℕ) (r : _) (p : _) (s : _) → slice_get l.reports.items n ≡ Some r
      → slice_get l.plan n ≡ Some p → slice_get l.fn.seats.items n ≡ Some s
      → IsGuestReport l.floor n p (is_deferred s.pace) l.rounds r;
}
