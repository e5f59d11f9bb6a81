use Rattle.std.proofs.Common.{refl, sym, ◌∙◌, arith}
use Rattle.vb_host.proofs.Targeting.{none_left, one_targeted}
use Rattle.vb_host.proofs.lending.target_all.Goals as goal

pub loop-guest-init : goal.loop-guest-init
loop-guest-init c = (refl, refl)

pub retarget-left-requires : goal.retarget-left-requires
retarget-left-requires c = omega (arith, c.loop-guest.invariant.1, c.loop-guest-test.true)

pub loop-guest-preserved : goal.loop-guest-preserved
loop-guest-preserved c = one_targeted c.loop-guest.guest c.loop-guest.left c.retarget-left.result c.loop-guest.seats c.retarget-left.new.seats _ _
    (omega (arith, c.loop-guest.invariant.1, c.loop-guest-test.true)) c.retarget-left.ensures.left c.retarget-left.ensures.seats c.loop-guest.invariant.0 c.loop-guest.invariant.1

pub returns : goal.returns
returns c = sym (none_left c.loop-guest.guest c.loop-guest.left c.loop-guest.seats (omega (arith, c.loop-guest.invariant.1, c.loop-guest-test.false))) ∙ c.loop-guest.invariant.0
