use Rattle.std.proofs.Common.{◌≡◌, vec_len}
use Rattle.vb_command_tests.proofs.tests.runs.refuse_all.Given as goal

abbrev pub invariant-loop-event : goal.invariant-loop-event
invariant-loop-event l = vec_len l.replies ≡ l._event-index
