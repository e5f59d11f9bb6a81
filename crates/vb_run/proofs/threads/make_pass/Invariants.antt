use Rattle.std.proofs.Common.{◌<◌}
use Rattle.vb_run.proofs.threads.make_pass.Given as goal

abbrev pub invariant-loop : goal.invariant-loop
invariant-loop g l = l.service < 9
