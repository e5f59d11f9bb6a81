use Rattle.vb_slot.proofs.slot.Slot.places.Goals as goal

pub returns-clause-answer : goal.returns-clause-answer
returns-clause-answer g c = c.places.ensures.answer _ _
