use Rattle.std.proofs.Common.{take}
use Rattle.vb_reply.{specs.Held.Puts, specs.Replies.runs_text}
use Rattle.vb_reply.proofs.replies.put_runs.Given as goal

abbrev pub invariant-loop-run : goal.invariant-loop-run
invariant-loop-run g l = Puts (g.W.Write.contents l.fn.out) l.fn.held.text.items
    (g.W.Write.contents l.out) l.held.text.items (runs_text (take l.run-index l.runs))
