use Rattle.vb_conformance.proofs.PageLists.{attached_list}
use Rattle.vb_conformance.proofs.listed.ListedDeviceDevice.attach.Goals as goal

pub invariant_of-self-2 : goal.invariant_of-self-2
invariant_of-self-2 c =
    attached_list c.self.inside.inner.part c.attach.new.self.part c.args.config _ _ _
    c.in_ok-attach.ensures.part c.in_ok-list.ensures.0 c.in_ok-list.ensures.1 c.in_ok-list.ensures.2
