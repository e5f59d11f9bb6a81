use Rattle.vb_slot.proofs.slot.Slot.ask.Goals as goal

pub returns-clause-step : goal.returns-clause-step
returns-clause-step g c = c.ask.ensures.step _
