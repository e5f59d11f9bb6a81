use Rattle.vb_guest.proofs.memory.scribble.Goals as goal

pub returns : goal.returns
returns g c = assumption
