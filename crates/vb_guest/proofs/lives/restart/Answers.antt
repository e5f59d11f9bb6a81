use Rattle.{std.proofs.Common.{◌∙◌, ap}, vb_ram.specs.Part.Part}
use Rattle.vb_guest.proofs.{Exactly.reset_twice, RestartStep.{all_loose, restart_step}}
use Rattle.vb_guest.proofs.lives.restart.Goals as goal

pub take_all_back-requires-clause-out : goal.take_all_back-requires-clause-out
take_all_back-requires-clause-out g c = let (keeps, guest, stands, held) = c.requires in
    rw (c.restart.ensures.memory, c.restart.ensures.part) (all_loose _ stands held)

pub returns-clause-life : goal.returns-clause-life
returns-clause-life g c = λ keeps guest stands.
    let back = c.take_all_back.ensures in
    restart_step _ _ stands c.restart.ensures.memory
    c.restart.ensures.part c.restart.ensures.driver back.mem back.part back.moves

pub returns-clause-mem : goal.returns-clause-mem
returns-clause-mem g c = rw (← c.restart.ensures.memory) c.take_all_back.ensures.mem

pub returns-clause-part : goal.returns-clause-part
returns-clause-part g c =
    reset_twice (g.D.GuestBytes.part c.args.device.now) (g.D.GuestBytes.part
    c.take_all_back.new.device) c.restart.ensures.part c.take_all_back.ensures.part

pub returns-clause-quiet : goal.returns-clause-quiet
returns-clause-quiet g c = λ kept. c.take_all_back.ensures.quiet (rw c.restart.ensures.memory kept)

pub returns-clause-unasked : goal.returns-clause-unasked
returns-clause-unasked g c = λ e.
    c.take_all_back.ensures.unasked (ap (λ (p : Part). p.keeps) c.restart.ensures.part ∙ e)
