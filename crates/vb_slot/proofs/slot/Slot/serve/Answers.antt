use Rattle.vb_slot.proofs.slot.Slot.serve.Goals as goal

pub returns-clause-step : goal.returns-clause-step
returns-clause-step g c = rw (c.forget.ensures) (c.serve.ensures.step _)
