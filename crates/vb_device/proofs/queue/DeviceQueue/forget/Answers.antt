use Rattle.std.proofs.{Common.{suc, take, drop}, lemmas.List.Elements.{All-append, All-take}}
use Rattle.{std.proofs.lemmas.List.Elements.All-drop, vb_device.specs.QueueState.IsTaken}
use Rattle.vb_device.proofs.queue.DeviceQueue.forget.Goals as goal

pub invariant_of-self : goal.invariant_of-self
invariant_of-self c = rw c.forget.ensures (All-append (IsTaken c.self.inside.queue.size)
    (take c.args.index c.self.inside.taken) (drop (suc c.args.index) c.self.inside.taken)
    (All-take (IsTaken c.self.inside.queue.size) c.args.index c.self.inside.taken c.self.invariant)
    (All-drop (IsTaken c.self.inside.queue.size) (suc c.args.index)
    c.self.inside.taken c.self.invariant))
