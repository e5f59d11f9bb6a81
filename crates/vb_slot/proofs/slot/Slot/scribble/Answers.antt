use Rattle.vb_slot.proofs.slot.Slot.scribble.Goals as goal

pub returns-clause-step : goal.returns-clause-step
returns-clause-step g c = c.scribble.ensures.step _
