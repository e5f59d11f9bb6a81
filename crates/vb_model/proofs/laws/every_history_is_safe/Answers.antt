use Rattle.vb_model.proofs.{Courses.fresh_fit, Histories.{history_is_safe, course_reads}}
use Rattle.vb_model.proofs.laws.every_history_is_safe.Goals as goal

pub returns : goal.returns
returns c = record {
  safe = history_is_safe;
  reads = λ config target entries after leads. course_reads _ (fresh_fit config target) leads;
}
