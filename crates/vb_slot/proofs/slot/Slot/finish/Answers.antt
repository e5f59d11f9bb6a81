use Rattle.vb_slot.proofs.slot.Slot.finish.Goals as goal

pub returns-clause-step : goal.returns-clause-step
returns-clause-step g c = rw (c.forget.ensures) (c.finish.ensures.step _)
