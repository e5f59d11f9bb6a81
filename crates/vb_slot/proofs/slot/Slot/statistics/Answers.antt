use Rattle.vb_slot.proofs.slot.Slot.statistics.Goals as goal

pub returns-clause-answer : goal.returns-clause-answer
returns-clause-answer g c = c.statistics.ensures.answer _
