use Rattle.std.proofs.Common.{◌+◌, ◌-◌, ◌*◌, ◌^◌, min, ℕ, arith, sym, ap, subst}
use Rattle.vb_core.proofs.UnmarkLemmas.{LosesFirst, lose_none, lose_more}
use Rattle.vb_core.proofs.ballooned.unmark.Goals as goal

pub loop-word-init : goal.loop-word-init
loop-word-init c = lose_none c.args.pages.now c.args.set.now

pub loop-word-preserved : goal.loop-word-preserved
loop-word-preserved c =
    let more = lose_more c.args.pages.now c.args.set.now c.loop-word.set c.mark_word.new.set
    c.loop-word.word c.loop-word.left c.mark_word.result c.loop-word.invariant c.mark_word.ensures in
    grind (arith, more)
