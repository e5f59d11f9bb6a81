use Rattle.{std.proofs.Common.◌∙◌, vb_guest.proofs.{Asked.has_ring, FinishStep.finish_step}}
use Rattle.vb_guest.proofs.{Kept.finish_kept, Quiet.freeing_quiet, RogueQueues.finish_rogue}
use Rattle.vb_guest.proofs.Standing.{none_loose, still_none, freed_loose, frees, steps_freed}
use Rattle.vb_guest.proofs.device.finish.Goals as goal

pub finish-answer-requires : goal.finish-answer-requires
finish-answer-requires g c = let (d, (keeps, guest, stands, held)) = c.requires in record {
  backed = has_ring c.args.queue stands;
  none = none_loose stands;
}

pub return_loose-requires : goal.return_loose-requires
return_loose-requires g c = let (d, (keeps, guest, stands, held)) = c.requires in
    let did = c.finish-answer.ensures in let same = finish_kept did in record {
      none = still_none stands same;
      loose = freed_loose _ stands held same (λ h. frees (finish_step did h))
          (λ r. frees (finish_rogue did r));
    }

pub returns-clause-step : goal.returns-clause-step
returns-clause-step g c = λ d keeps guest stands. let did = c.finish-answer.ensures in
    let back = c.return_loose.ensures in steps_freed stands (finish_kept did) back.mem back.part
    (finish_step did) (finish_rogue did) back.moves

pub returns-clause-exact : goal.returns-clause-exact
returns-clause-exact g c = let back = c.return_loose.ensures in
    rw back.mem (g.D.GuestBytes.part c.finish-answer.new.self, c.finish-answer.ensures, back.part)

pub returns-clause-quiet : goal.returns-clause-quiet
returns-clause-quiet g c = λ kept. let (d, (keeps, guest, stands, held)) = c.requires in
    let did = c.finish-answer.ensures in let back = c.return_loose.ensures in
    back.quiet (freeing_quiet (g.D.GuestBytes.part c.finish-answer.new.self) stands back.mem kept
    (λ h. frees (finish_step did h)) (λ r. frees (finish_rogue did r)))

pub returns-clause-unasked : goal.returns-clause-unasked
returns-clause-unasked g c = λ e.
    c.return_loose.ensures.unasked ((finish_kept c.finish-answer.ensures).flag ∙ e)
