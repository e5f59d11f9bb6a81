use Rattle.std.proofs.Common.{◌∙◌}
use Rattle.vb_guest.proofs.{Standing.{none_loose, still_none, freed_loose, frees, steps_freed}, SweepStep.sweep_step}
use Rattle.vb_guest.proofs.{RogueDevice.sweep_rogue, Quiet.freeing_quiet, Kept.sweep_kept}
use Rattle.vb_guest.proofs.device.sweep.Goals as goal

pub sweep-answer-requires : goal.sweep-answer-requires
sweep-answer-requires g c =
    let (d, (keeps, guest, stands, held)) = c.requires in none_loose stands

pub return_loose-requires : goal.return_loose-requires
return_loose-requires g c = let (d, (keeps, guest, stands, held)) = c.requires in
    let did = c.sweep-answer.ensures in let same = sweep_kept did in record {
      none = still_none stands same;
      loose = freed_loose _ stands held same (λ h. frees (sweep_step did h))
          (λ r. frees (sweep_rogue did r));
    }

pub returns-clause-step : goal.returns-clause-step
returns-clause-step g c = λ d keeps guest stands. let did = c.sweep-answer.ensures in
    let back = c.return_loose.ensures in steps_freed stands (sweep_kept did) back.mem back.part
    (sweep_step did) (sweep_rogue did) back.moves

pub returns-clause-exact : goal.returns-clause-exact
returns-clause-exact g c = let back = c.return_loose.ensures in
    rw back.mem (g.D.GuestBytes.part c.sweep-answer.new.self, c.sweep-answer.ensures, back.part)

pub returns-clause-quiet : goal.returns-clause-quiet
returns-clause-quiet g c = λ kept. let (d, (keeps, guest, stands, held)) = c.requires in
    let did = c.sweep-answer.ensures in let back = c.return_loose.ensures in
    back.quiet (freeing_quiet (g.D.GuestBytes.part c.sweep-answer.new.self) stands back.mem kept
    (λ h. frees (sweep_step did h)) (λ r. frees (sweep_rogue did r)))

pub returns-clause-unasked : goal.returns-clause-unasked
returns-clause-unasked g c = λ e.
    c.return_loose.ensures.unasked ((sweep_kept c.sweep-answer.ensures).flag ∙ e)
