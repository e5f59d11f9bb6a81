use Rattle.vb_slot.proofs.slot.Slot.sweep.Goals as goal

pub returns-clause-step : goal.returns-clause-step
returns-clause-step g c = rw (c.forget.ensures) (c.sweep.ensures.step _)
