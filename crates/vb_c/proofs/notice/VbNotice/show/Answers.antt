use Rattle.std.proofs.Common.{rules, ◌≡◌, ◌∙◌, ap, ℕ}
use Rattle.std.proofs.Common.{Some}
use Rattle.vb_monitor.specs.Steps.{phase_of, tally_of}
use Rattle.vb_c.specs.Codes.{kind_of_code}
use Rattle.vb_c.proofs.NoticeLemmas.{kind_back, shown_is}
use Rattle.vb_c.proofs.notice.VbNotice.show.Goals as goal

pub returns-clause-is : goal.returns-clause-is
returns-clause-is c =
    let now = c.show_phase.new.self in
    let done = c.show_phase.ensures in
    let kind : kind_of_code now.kind ≡ Some c.args.kind = ap (λ (n : ℕ). kind_of_code n)
    (done.rest.kind ∙ c.code_of_kind-self.ensures) ∙ kind_back c.args.kind in
    record {
      read = shown_is (kind_of_code now.kind) c.args.kind (phase_of c.args.self.now.step)
          (phase_of now.step) (tally_of c.args.self.now.step) (tally_of now.step) kind done.phase
          done.tally c.requires.waits c.requires.fits;
      says = done.says;
      what = search rules;
    }
