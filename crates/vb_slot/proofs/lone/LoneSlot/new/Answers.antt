use Rattle.vb_slot.proofs.AloneSteps.{fresh_alone}
use Rattle.vb_slot.proofs.lone.LoneSlot.new.Goals as goal

pub returns-in-Ok-clause-made : goal.returns-in-Ok-clause-made
returns-in-Ok-clause-made g c = fresh_alone _ _ _ _ _ c.in-Ok.ensures.made

pub returns-in-Ok-clause-frames : goal.returns-in-Ok-clause-frames
returns-in-Ok-clause-frames g c = (fresh_alone _ _ _ _ _ c.in-Ok.ensures.made).2
