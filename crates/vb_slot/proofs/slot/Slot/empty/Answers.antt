use Rattle.vb_slot.proofs.slot.Slot.empty.Goals as goal

pub returns-clause-empty : goal.returns-clause-empty
returns-clause-empty g c = c.empty.ensures.bare

pub returns-clause-returned : goal.returns-clause-returned
returns-clause-returned g c = c.empty.ensures.returned _
