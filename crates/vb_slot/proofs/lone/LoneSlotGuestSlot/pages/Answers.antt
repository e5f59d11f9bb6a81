use Rattle.{std.proofs.Common.{◌∙◌, sym}, vb_slot.proofs.AloneSizes.each_page_framed}
use Rattle.vb_slot.proofs.lone.LoneSlotGuestSlot.pages.Goals as goal

pub returns-clause-pages : goal.returns-clause-pages
returns-clause-pages g c = λ guest alone. c.pages.ensures.answer alone.0 guest alone.1

pub returns-clause-frames : goal.returns-clause-frames
returns-clause-frames g c = λ guest alone. each_page_framed alone.0 _ _ _ guest alone.1
    ∙ sym (c.pages.ensures.answer alone.0 guest alone.1)
