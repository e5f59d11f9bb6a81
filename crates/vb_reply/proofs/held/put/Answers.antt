use Rattle.vb_reply.proofs.Putting.{held_too}
use Rattle.vb_reply.proofs.held.put.Goals as goal

pub returns-in-Ok : goal.returns-in-Ok
returns-in-Ok g c = rw c.in-Ok.ensures.ok
    (held_too (g.W.Write.contents c.args.out.now) c.args.held.now.text.items c.args.text.now)
