use Rattle.std.proofs.Common.{rules, refl, arith, subst, sym, ◌≡◌, ◌≤◌}
use Rattle.std.specs.Prelude.{min}
use Rattle.vb_monitor.specs.declared.{step.Phase.TheVariants.AwaitsDescriptor, step.Walk.Walk}
use Rattle.vb_monitor.specs.declared.room.TheConstants.{MAX_BYTES}
use Rattle.vb_monitor.specs.{Machine.{AheadAt, row_bytes}, Steps.{phase_of, tally_of, says_yes}}
use Rattle.vb_monitor.proofs.ProgressLemmas.{row_back}
use Rattle.vb_monitor.proofs.progress.Progress.await_row.Goals as goal

pub returns : goal.returns
unfolding phase_of
returns c =
    let t = tally_of c.args.self.now in
    let walk = c.args.walk in
    let same : (record walk {
      writing = says_yes c.from-self-3.result;
      first = min c.from-self.result 0xffff;
      further = min c.from-self-2.result 63;
    }) ≡ walk = row_back walk c.from-self.result c.from-self-2.result (says_yes c.from-self-3.result)
    (search rules) (search rules) (search rules) (omega arith) c.requires in
    record {
      step = λ w d room log h. subst (λ (x : Walk). AheadAt (AwaitsDescriptor c.args.at x) w t d room log) same h;
      fits = subst (λ (x : Walk). row_bytes x ≤ MAX_BYTES) (sym same) c.requires;
      stage = refl;
      left = λ regions. omega arith;
    }
