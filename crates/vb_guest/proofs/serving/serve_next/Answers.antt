use Rattle.std.proofs.Common.{◌∙◌, ap}
use Rattle.vb_ram.specs.Part.{Part}
use Rattle.vb_guest.proofs.{Asked.has_ring, Quiet.freeing_quiet, Reaching.next_reaches}
use Rattle.vb_guest.proofs.{RogueServe.next_rogue, ServeCases.{serve_kept, serve_loses}}
use Rattle.vb_guest.proofs.{ServeStep.next_step, Standing.{freed_loose, none_loose, still_none}}
use Rattle.vb_guest.proofs.serving.serve_next.Goals as goal

pub serve-answer-requires : goal.serve-answer-requires
serve-answer-requires g c = let (d, (keeps, guest, stands, held)) = c.requires in record {
  backed = has_ring c.args.queue stands;
  none = none_loose stands;
}

pub return_loose-requires : goal.return_loose-requires
return_loose-requires g c = let (d, (keeps, guest, stands, held)) = c.requires in
    let did = c.serve-answer.ensures in let same = serve_kept did in record {
      none = still_none stands same;
      loose = freed_loose _ stands held same (next_step did) (next_rogue did);
    }

pub returns-clause-step : goal.returns-clause-step
returns-clause-step g c = λ d keeps guest stands. let did = c.serve-answer.ensures in
    let back = c.return_loose.ensures in next_reaches c.args.queue _ stands (serve_kept did) back.mem
    back.part (next_step did) (next_rogue did) back.moves

pub returns-clause-exact : goal.returns-clause-exact
returns-clause-exact g c = let back = c.return_loose.ensures in
    rw back.mem (g.D.GuestBytes.part c.serve-answer.new.self, c.serve-answer.ensures, back.part)

pub returns-clause-loses : goal.returns-clause-loses
returns-clause-loses g c = rw c.return_loose.ensures.mem (serve_loses c.serve-answer.ensures)

pub returns-clause-quiet : goal.returns-clause-quiet
returns-clause-quiet g c = λ kept. let (d, (keeps, guest, stands, held)) = c.requires in
    let did = c.serve-answer.ensures in let back = c.return_loose.ensures in
    back.quiet (freeing_quiet (g.D.GuestBytes.part c.serve-answer.new.self) stands back.mem kept
    (next_step did) (next_rogue did))

pub returns-clause-unasked : goal.returns-clause-unasked
returns-clause-unasked g c = λ e.
    c.return_loose.ensures.unasked ((serve_kept c.serve-answer.ensures).flag ∙ e)

pub returns-clause-keeps : goal.returns-clause-keeps
returns-clause-keeps g c = ap (λ (p : Part). p.keeps) c.return_loose.ensures.part
    ∙ (serve_kept c.serve-answer.ensures).flag
