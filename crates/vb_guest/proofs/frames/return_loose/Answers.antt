use Rattle.{std.proofs.Common.arith, vb_guest.proofs.Moving.{own_gone, goes_back}}
use Rattle.vb_guest.proofs.frames.return_loose.Goals as goal

pub loop-frame-preserved : goal.loop-frame-preserved
loop-frame-preserved g c = let back = goes_back (g.D.GuestBytes.part c.args.device.now) _ _ _ _ _
    c.in-Some.frame c.requires.none c.loop-frame.invariant.moves c.loop-frame.invariant.loose
    c.in-Some.ensures.frame c.put_back.ensures in grind arith

pub returns-clause-moves : goal.returns-clause-moves
returns-clause-moves g c = grind (arith, own_gone)
