use Rattle.std.proofs.Common.{rules, refl, arith, subst, ap, ◌≡◌, ◌∙◌, ℕ, Bool, Option}
use Rattle.vb_core.specs.declared.device.Denial.{Denial}
use Rattle.vb_monitor.specs.declared.step.Phase.TheVariants.{AwaitsFlags}
use Rattle.vb_monitor.specs.{Machine.AheadAt, Codes.{why_of, why_code}, Steps.{phase_of, tally_of, says_yes}}
use Rattle.vb_monitor.proofs.ProgressLemmas.{why_back}
use Rattle.vb_monitor.proofs.progress.Progress.await_flags.Goals as goal

pub returns : goal.returns
unfolding phase_of
returns c =
    let t = tally_of c.args.self.now in
    let rule = c.end_rule-self.result in
    let why : why_of c.why_code-self.result rule ≡ c.args.why = ap (λ (n : ℕ). why_of n rule)
    c.why_code-self.ensures ∙ (ap (λ (n : ℕ). why_of (why_code c.args.why) n) c.end_rule-self.ensures
    ∙ why_back c.args.why) in
    let more : says_yes c.from-self.result ≡ c.args.more = search rules in
    record {
      step = λ w d room log h. subst (λ (b : Bool). AheadAt (AwaitsFlags c.args.at c.args.why b) w t d room log)
          more (subst (λ (o : Option Denial). AheadAt
          (AwaitsFlags c.args.at o (says_yes c.from-self.result)) w t d room log) why h);
      fits = tt;
      stage = refl;
      left = λ regions. omega arith;
    }
