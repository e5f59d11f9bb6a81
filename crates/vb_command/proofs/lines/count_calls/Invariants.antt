use Rattle.std.proofs.Common.{◌≡◌, length, take, sum_by}
use Rattle.vb_command.proofs.lines.count_calls.Given as goal

abbrev pub invariant-loop-script : goal.invariant-loop-script
invariant-loop-script l =
    l.calls ≡ sum_by (λ script. length script.items) (take l.script-index l.plan.scripts.items)
