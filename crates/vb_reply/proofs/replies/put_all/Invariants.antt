use Rattle.std.{proofs.Common.take, specs.List.flat_map}
use Rattle.vb_reply.{specs.Held.Puts, specs.Replies.line_of}
use Rattle.vb_reply.proofs.replies.put_all.Given as goal

abbrev pub invariant-loop-reply : goal.invariant-loop-reply
invariant-loop-reply g l = Puts (g.W.Write.contents l.fn.out) l.fn.held.text.items
    (g.W.Write.contents l.out) l.held.text.items (flat_map line_of (take l.reply-index l.replies))
