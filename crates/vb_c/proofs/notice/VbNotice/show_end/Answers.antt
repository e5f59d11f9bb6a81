use Rattle.std.proofs.Common.{rules, ◌≡◌, ◌∙◌, ap, ℕ, Bool}
use Rattle.vb_core.specs.declared.device.Denial.{Denial}
use Rattle.std.proofs.Common.{Option}
use Rattle.vb_monitor.specs.declared.step.Phase.TheVariants.{Ended}
use Rattle.vb_monitor.specs.{Codes.why_of, Steps.{says_yes, phase_of, tally_of}}
use Rattle.vb_c.{specs.Notices.end_code, proofs.NoticeLemmas.end_back}
use Rattle.vb_monitor.specs.declared.outcome.Tally.{Tally}
use Rattle.vb_c.proofs.notice.VbNotice.show_end.Goals as goal

pub returns-clause-phase : goal.returns-clause-phase
unfolding phase_of
returns-clause-phase c =
    let t = tally_of c.args.self.now.step in
    let code = c.end_code-self.result in
    let rule = c.end_rule-self.result in
    let interrupt : says_yes c.from-self.result ≡ c.args.interrupt = search rules in
    let more : says_yes c.from-self-3.result ≡ c.args.more = search rules in
    let why : why_of code rule ≡ c.args.why = ap (λ (n : ℕ). why_of n rule)
    (c.end_code-self.ensures ∙ ap (λ (x : Tally). end_code c.args.why x) c.tally-tally.ensures)
    ∙ (ap (λ (n : ℕ). why_of (end_code c.args.why t) n) c.end_rule-self.ensures
    ∙ end_back c.args.why t) in
    ap (λ (x : Option Denial). Ended x (says_yes c.from-self.result)
    (says_yes c.from-self-3.result)) why
    ∙ (ap (λ (b : Bool). Ended c.args.why b (says_yes c.from-self-3.result)) interrupt
    ∙ ap (λ (b : Bool). Ended c.args.why c.args.interrupt b) more)
