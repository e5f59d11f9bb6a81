use Rattle.vb_slot.proofs.lone.LoneSlotGuestSlot.spare.Goals as goal

pub returns : goal.returns
returns g c = λ guest alone. c.spare.ensures alone.0 guest alone.1
