use Rattle.vb_guest.proofs.Moving.{kept_back, not_another}
use Rattle.vb_guest.proofs.frames.return_frame.Goals as goal

pub returns-in_default-clause-moves : goal.returns-in_default-clause-moves
returns-in_default-clause-moves g c =
    let did = c.in_default.ensures.frame in kept_back _ _ _ c.requires.none did.0 did.1 did.2

pub returns-in-Some-clause-unasked : goal.returns-in-Some-clause-unasked
returns-in-Some-clause-unasked g c = λ keeps.
    not_another (g.D.GuestBytes.part c.args.device.now) (g.K.FrameKeeper.out c.args.keeper.now)
    c.args.frame.number keeps c.requires.used c.in-Some.ensures.frame.0
