use Rattle.vb_slot.proofs.slot.Slot.free.Goals as goal

pub returns-clause-step : goal.returns-clause-step
returns-clause-step g c = c.free.ensures.step _ _
