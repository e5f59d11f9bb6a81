use Rattle.std.proofs.Common.{◌≡◌, ◌≤◌, ◌<◌, ◌/◌, ℕ, true}
use Rattle.vb_monitor.specs.Places.{is_memory}
use Rattle.vb_monitor.proofs.placing.are_memory.Given as goal

abbrev pub invariant-loop-page : goal.invariant-loop-page
invariant-loop-page l = (b : ℕ) → l.address ≤ b → b / 4096 < l.page → is_memory l.regions b ≡ true
