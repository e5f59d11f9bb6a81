use Rattle.{std.proofs.Common.{◌∙◌, ap, arith, sym, false}, vb_guest.proofs.Runs.runs_more}
use Rattle.vb_guest.proofs.{Runs.runs_same, queries.ballooned_runs.Goals.else-ballooned}
use Rattle.vb_guest.proofs.queries.ballooned_runs.Goals.{then-ballooned+in_ok-push_page}
use Rattle.vb_guest.proofs.queries.ballooned_runs.Goals as goal

pub loop-page-preserved : goal.loop-page-preserved
loop-page-preserved g c = elim c.if-ballooned.branch [
  | then-ballooned+in_ok-push_page w ↦ ap (λ v. v.items) w.found-is ∙ runs_more
      (λ flag. flag) (g.D.GuestBytes.part c.args.device.now).ballooned c.loop-page.page false
      (omega (arith, c.loop-page-test.true, c.requires)) c.loop-page.invariant
      (sym w.if-ballooned.ensures) (λ pages is. w.in_ok-push_page.ensures pages is)
  | else-ballooned w ↦ ap (λ v. v.items) w.found-is ∙ runs_same
      (λ flag. flag) (g.D.GuestBytes.part c.args.device.now).ballooned c.loop-page.page false (omega
      (arith, c.loop-page-test.true, c.requires)) c.loop-page.invariant (sym w.if-ballooned.ensures)
]
