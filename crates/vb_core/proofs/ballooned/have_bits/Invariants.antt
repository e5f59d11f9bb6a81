use Rattle.std.{proofs.Common.{◌≡◌, ◌*◌, false, take}, specs.Prelude.nat_le, specs.List.list_any}
use Rattle.vb_core.specs.Runs.{pages_of_run}
use Rattle.vb_core.proofs.ballooned.have_bits.Given as goal

abbrev pub invariant-loop-run : goal.invariant-loop-run
invariant-loop-run l = list_any (λ run. list_any (λ p. nat_le (64 * l.words) p) (pages_of_run run))
    (take l.run-index l.runs) ≡ false
