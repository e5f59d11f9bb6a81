use Rattle.vb_slot.proofs.slot.Slot.pages_at.Goals as goal

pub returns-clause-answer : goal.returns-clause-answer
returns-clause-answer g c = c.pages_at.ensures.answer _ _
