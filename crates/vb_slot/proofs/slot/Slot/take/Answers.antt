use Rattle.vb_slot.proofs.slot.Slot.take.Goals as goal

pub returns-clause-step : goal.returns-clause-step
returns-clause-step g c = c.take.ensures.step _
