use Rattle.std.proofs.Common.{rules}
use Rattle.vb_script.{specs.Plans.{calls_in, script_by}, proofs.Ranged.one_more}
use Rattle.vb_script.proofs.plans.scripts_by.Goals as goal

pub loop-cpu-preserved : goal.loop-cpu-preserved
loop-cpu-preserved c = record {
  scripts = one_more (λ script. script.items)
      (λ cpu. script_by c.args.guest cpu (calls_in c.args.lines.now)) c.loop-cpu.scripts.items
      c.push.new.self.items c.in_ok-script_by.field-0 c.loop-cpu.cpu
      c.loop-cpu.invariant.scripts c.in_ok-push.ensures.items c.in_ok-script_by.ensures;
  count = search rules;
}
