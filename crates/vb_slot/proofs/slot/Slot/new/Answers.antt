use Rattle.vb_slot.proofs.FreshStands.{fresh_stands}
use Rattle.vb_slot.proofs.slot.Slot.new.Goals as goal

pub returns-in-Ok-attach-clause-made : goal.returns-in-Ok-attach-clause-made
returns-in-Ok-attach-clause-made g c =
    fresh_stands _ _ _ _ _ c.args.config c.requires.config c.requires.unused c.requires.own
    c.in-Ok-attach.ensures.mem c.in-Ok-attach.ensures.part c.in-Ok.ensures
