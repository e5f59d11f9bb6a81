use Rattle.std.{proofs.Common.{◌≡◌, map, vec_len}, specs.List.range_with_len}
use Rattle.vb_script.specs.Plans.{calls_in, script_by}
use Rattle.vb_script.proofs.plans.scripts_by.Given as goal

abbrev pub invariant-loop-cpu : goal.invariant-loop-cpu
invariant-loop-cpu l = record {
  scripts : map (λ script. script.items) l.scripts.items
      ≡ map (λ cpu. script_by l.guest cpu (calls_in l.lines)) (range_with_len 0 l.cpu);
  count : vec_len l.scripts ≡ l.cpu;
}
