use Rattle.{std.proofs.Common.{◌≡◌, take}, vb_run.specs.Rounds.round_entries}
use Rattle.vb_run.proofs.audit.expected_of.Given as goal

abbrev pub invariant-loop-round : goal.invariant-loop-round
invariant-loop-round l =
    l.entries.items ≡ round_entries l.floor l.guest (take l.round-index l.rounds)
