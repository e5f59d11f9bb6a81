use Rattle.vb_slot.proofs.lone.LoneSlot.query.Goals as goal

pub returns : goal.returns
returns g c = λ guest alone. c.query.ensures.answer alone.0 guest alone.1
