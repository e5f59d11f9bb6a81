use Rattle.vb_slot.proofs.slot.Slot.spare.Goals as goal

pub returns : goal.returns
returns g c = c.spare.ensures
