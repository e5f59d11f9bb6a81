use Rattle.std.proofs.Common.{rules, refl, arith, subst, ◌≡◌, ◌+◌, ◌≤◌, Bool}
use Rattle.vb_monitor.specs.declared.step.Phase.TheVariants.{Discards}
use Rattle.vb_monitor.specs.{Machine.AheadAt, Left.{left_of, of_chains}, Steps.{phase_of, tally_of, says_yes}}
use Rattle.vb_monitor.proofs.progress.Progress.await_cut.Goals as goal

pub returns : goal.returns
unfolding phase_of
returns c =
    let t = tally_of c.args.self.now in
    let yes : says_yes c.from-self.result ≡ c.args.discarding.further = search rules in
    record {
      step = λ w d room log h. subst (λ (b : Bool). AheadAt (Discards c.args.cut (record c.args.discarding { further = b })) w t d room log) yes h;
      fits = tt;
      stage = refl;
      left = λ regions. subst (λ (b : Bool). of_chains regions t.chains
          + left_of regions (Discards c.args.cut (record c.args.discarding { further = (says_yes c.from-self.result) })) ≤ of_chains regions t.chains + left_of regions (Discards c.args.cut (record c.args.discarding { further = b }))) yes (omega arith);
    }
