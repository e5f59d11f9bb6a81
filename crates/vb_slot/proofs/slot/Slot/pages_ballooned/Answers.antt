use Rattle.vb_slot.proofs.slot.Slot.pages_ballooned.Goals as goal

pub returns : goal.returns
returns g c = record { answer = c.pages_ballooned.ensures _ }
