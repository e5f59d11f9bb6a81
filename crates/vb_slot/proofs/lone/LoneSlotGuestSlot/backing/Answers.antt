use Rattle.vb_slot.proofs.AloneSteps.{same_frame}
use Rattle.vb_slot.proofs.lone.LoneSlotGuestSlot.backing.Goals as goal

pub returns : goal.returns
returns g c = λ guest alone. same_frame _ _ (c.backing.ensures.answer alone.0 guest alone.1)
