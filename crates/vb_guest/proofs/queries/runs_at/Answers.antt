use Rattle.{std.proofs.Common.{◌∙◌, ap, sym}, vb_guest.proofs.Runs.{runs_more, runs_same}}
use Rattle.vb_model.specs.{declared.places.Place.TheVariants.Reserved, Queries.is_place}
use Rattle.vb_guest.proofs.queries.runs_at.Goals.{then-is_at+in_ok-push_page, else-is_at}
use Rattle.vb_guest.proofs.queries.runs_at.Goals as goal

pub loop-page-preserved : goal.loop-page-preserved
loop-page-preserved c = elim c.if-is_at.branch [
  | then-is_at+in_ok-push_page w ↦ ap (λ v. v.items) w.found-is ∙ runs_more (is_place c.args.place)
      c.args.places.now c.loop-page.page Reserved c.loop-page-test.true c.loop-page.invariant
      (sym w.if-is_at.ensures) (λ pages is. w.in_ok-push_page.ensures pages is)
  | else-is_at w ↦ ap (λ v. v.items) w.found-is
      ∙ runs_same (is_place c.args.place) c.args.places.now
      c.loop-page.page Reserved c.loop-page-test.true c.loop-page.invariant (sym w.if-is_at.ensures)
]
