use Rattle.std.proofs.Common.{rules, arith}
use Rattle.vb_command.proofs.Reporting.{one_more_script}
use Rattle.vb_command.proofs.lines.count_calls.Goals as goal

pub overflow_add-calls : goal.overflow_add-calls
overflow_add-calls c = omega (
  arith,
  c.loop-script.invariant,
  c.len.ensures,
  one_more_script c.args.plan.now c.loop-script.script-index c.script-item.result c.requires
      (search rules) (search rules),
)
