use Rattle.std.proofs.Common.{◌∙◌}
use Rattle.vb_guest.proofs.{Standing.{none_loose, still_none, freed_loose, frees, steps_freed}, RogueDevice.work_rogue}
use Rattle.vb_guest.proofs.{Quiet.freeing_quiet, WorkStep.work_step, Kept.work_kept}
use Rattle.vb_guest.proofs.device.work.Goals as goal

pub work-answer-requires : goal.work-answer-requires
work-answer-requires g c =
    let (d, (keeps, guest, stands, held)) = c.requires in none_loose stands

pub return_loose-requires : goal.return_loose-requires
return_loose-requires g c = let (d, (keeps, guest, stands, held)) = c.requires in
    let did = c.work-answer.ensures in let same = work_kept did in record {
      none = still_none stands same;
      loose = freed_loose _ stands held same (λ h. frees (work_step did h))
          (λ r. frees (work_rogue did r));
    }

pub returns-clause-step : goal.returns-clause-step
returns-clause-step g c = λ d keeps guest stands. let did = c.work-answer.ensures in
    let back = c.return_loose.ensures in steps_freed stands (work_kept did) back.mem back.part
    (work_step did) (work_rogue did) back.moves

pub returns-clause-exact : goal.returns-clause-exact
returns-clause-exact g c = let back = c.return_loose.ensures in
    rw back.mem (g.D.GuestBytes.part c.work-answer.new.self, c.work-answer.ensures, back.part)

pub returns-clause-quiet : goal.returns-clause-quiet
returns-clause-quiet g c = λ kept. let (d, (keeps, guest, stands, held)) = c.requires in
    let did = c.work-answer.ensures in let back = c.return_loose.ensures in
    back.quiet (freeing_quiet (g.D.GuestBytes.part c.work-answer.new.self) stands back.mem kept
    (λ h. frees (work_step did h)) (λ r. frees (work_rogue did r)))

pub returns-clause-unasked : goal.returns-clause-unasked
returns-clause-unasked g c = λ e.
    c.return_loose.ensures.unasked ((work_kept c.work-answer.ensures).flag ∙ e)
