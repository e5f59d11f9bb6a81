use Rattle.std.proofs.Common.{take}
use Rattle.vb_reply.{specs.Held.Puts, specs.Replies.targets_text}
use Rattle.vb_reply.proofs.replies.put_targets.Given as goal

abbrev pub invariant-loop-target : goal.invariant-loop-target
invariant-loop-target g l = Puts (g.W.Write.contents l.fn.out) l.fn.held.text.items
    (g.W.Write.contents l.out) l.held.text.items (targets_text (take l.target-index l.targets))
