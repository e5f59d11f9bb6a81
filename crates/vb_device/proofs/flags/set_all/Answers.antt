use Rattle.std.proofs.Common.{◌∙◌, ℕ, List, ap, arith}
use Rattle.std.{proofs.lemmas.List.take_all, proofs.lemmas.Option.get_or_from_slice_get}
use Rattle.vb_device.{specs.Discards.flagged, proofs.Marks.{flagged_none, flag_more}}
use Rattle.vb_device.proofs.flags.set_all.Goals as goal

pub loop-k-init : goal.loop-k-init
loop-k-init c = flagged_none c.args.member c.args.ballooned.now

pub loop-k-preserved : goal.loop-k-preserved
loop-k-preserved c = grind (arith, get_or_from_slice_get, flag_more)

pub returns : goal.returns
returns c = c.loop-k.invariant ∙ ap (λ (ps : List ℕ). flagged ps c.args.member c.args.ballooned.now)
    (take_all c.loop-k.k c.args.request.now.pages
    (omega (arith, c.loop-k-test.false, c.count-k-end.ensures)))
