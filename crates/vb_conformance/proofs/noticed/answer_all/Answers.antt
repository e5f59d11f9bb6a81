use Rattle.std.proofs.{Common.arith, lemmas.Result.IfOk-weaker}
use Rattle.vb_world.proofs.Runs.{as_many}
use Rattle.vb_conformance.proofs.noticed.answer_all.Goals as goal

pub returns : goal.returns
returns c = IfOk-weaker c.run.result _ _
    (λ replies r. omega (arith, as_many _ _ _ _ r.2.steps, replies.ok, replies.ok))
    (c.run.ensures.run _ _ c.in_ok-world.ensures)
