use Rattle.std.proofs.Common.{◌-◌, ◌≡◌, ◌<◌, ◌≤◌, ℕ, true}
use Rattle.vb_core.specs.Ballooned.{is_ballooned}
use Rattle.vb_monitor.proofs.large.are_in_set.Given as goal

abbrev pub invariant-loop-page : goal.invariant-loop-page
invariant-loop-page l =
    (l.from ≤ l.page) × ((p : ℕ) → l.from ≤ p → p < l.page → is_ballooned l.set p ≡ true)

abbrev pub decreases-loop-page : goal.decreases-loop-page
decreases-loop-page l = l.end - l.page
