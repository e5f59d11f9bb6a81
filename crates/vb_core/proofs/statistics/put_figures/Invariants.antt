use Rattle.std.proofs.Common.{◌≡◌, ℕ, ◌<◌, get_or}
use Rattle.vb_core.{specs.declared.statistics.Statistic.Statistic, specs.Statistics.figure_at}
use Rattle.vb_core.proofs.statistics.put_figures.Given as goal

abbrev pub invariant-loop-k : goal.invariant-loop-k
invariant-loop-k l = (j : ℕ) (d : Statistic) → j < l.k → get_or l.figures j d ≡ figure_at l.bytes j
