use Rattle.vb_slot.proofs.slot.Slot.set_target.Goals as goal

pub returns-clause-aims : goal.returns-clause-aims
returns-clause-aims g c = λ keeps guest stands. c.set_target.ensures.aims keeps _ guest stands

pub returns-clause-step : goal.returns-clause-step
returns-clause-step g c = c.set_target.ensures.step _
