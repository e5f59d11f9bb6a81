use Rattle.std.proofs.Common.{refl, sym, ◌∙◌, arith}
use Rattle.vb_host.specs.Seats.{granted_waiting}
use Rattle.vb_host.proofs.Mapped.{none_is_left, one_less}
use Rattle.vb_host.proofs.lending.grant_each.Goals as goal

pub loop-guest-init : goal.loop-guest-init
loop-guest-init c = (refl, refl)

pub grant_waiting_at-requires : goal.grant_waiting_at-requires
grant_waiting_at-requires c = omega (arith, c.loop-guest.invariant.1, c.loop-guest-test.true)

pub loop-guest-preserved : goal.loop-guest-preserved
loop-guest-preserved c = one_less granted_waiting c.loop-guest.guest c.loop-guest.seats c.grant_waiting_at.new.seats _ _
    (omega (arith, c.loop-guest.invariant.1, c.loop-guest-test.true)) c.grant_waiting_at.ensures c.loop-guest.invariant.0 c.loop-guest.invariant.1

pub returns : goal.returns
returns c = sym (none_is_left granted_waiting c.loop-guest.guest c.loop-guest.seats (omega (arith, c.loop-guest.invariant.1, c.loop-guest-test.false))) ∙ c.loop-guest.invariant.0
