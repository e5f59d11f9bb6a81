use Rattle.std.proofs.Common.{rules, refl, arith, subst, ◌≡◌, ◌+◌, ◌≤◌, Bool}
use Rattle.vb_monitor.specs.declared.step.Phase.TheVariants.{TellsPages}
use Rattle.vb_monitor.specs.{Machine.AheadAt, Left.{left_of, of_chains}, Steps.{phase_of, tally_of, says_yes}}
use Rattle.vb_monitor.proofs.progress.Progress.await_pages.Goals as goal

pub returns : goal.returns
unfolding phase_of
returns c =
    let t = tally_of c.args.self.now in
    let yes : says_yes c.from-self.result ≡ c.args.further = search rules in
    record {
      step = λ w d room log h. subst (λ (b : Bool). AheadAt (TellsPages c.args.place c.args.named b) w t d room log) yes h;
      fits = λ few. few;
      stage = refl;
      left = λ regions. subst (λ (b : Bool). of_chains regions t.chains
          + left_of regions (TellsPages c.args.place c.args.named (says_yes c.from-self.result)) ≤ of_chains regions t.chains + left_of regions (TellsPages c.args.place c.args.named b)) yes (omega arith);
    }
