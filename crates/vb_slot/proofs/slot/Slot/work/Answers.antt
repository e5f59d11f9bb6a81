use Rattle.vb_slot.proofs.slot.Slot.work.Goals as goal

pub returns-clause-step : goal.returns-clause-step
returns-clause-step g c = rw (c.forget.ensures) (c.work.ensures.step _)
