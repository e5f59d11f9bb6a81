use Rattle.vb_slot.proofs.slot.Slot.alloc.Goals as goal

pub returns-clause-step : goal.returns-clause-step
returns-clause-step g c = c.alloc.ensures.step _ _
