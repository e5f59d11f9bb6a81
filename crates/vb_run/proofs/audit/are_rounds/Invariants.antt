use Rattle.{std.proofs.Common.{take, All}, vb_run.specs.Reports.IsRound}
use Rattle.vb_run.proofs.audit.are_rounds.Given as goal

abbrev pub invariant-loop-round : goal.invariant-loop-round
invariant-loop-round l = All (IsRound l.plan) (take l.round-index l.rounds)
