use Rattle.vb_slot.proofs.slot.Slot.pages.Goals as goal

pub returns-clause-answer : goal.returns-clause-answer
returns-clause-answer g c = c.pages.ensures.answer _
