use Rattle.vb_c.proofs.NoticeLemmas.{row_stays}
use Rattle.vb_c.proofs.notice.VbNotice.show_row.Goals as goal

pub returns-clause-phase : goal.returns-clause-phase
returns-clause-phase c = λ at e. row_stays c.args.self.now.step _ 0 at c.args.walk e
