use Rattle.std.proofs.Common.{refl, sym, ◌∙◌, arith}
use Rattle.vb_host.specs.Seats.{preferring}
use Rattle.vb_host.proofs.Mapped.{none_is_left, one_less}
use Rattle.vb_host.proofs.turns.prefer_none.Goals as goal

pub loop-guest-init : goal.loop-guest-init
loop-guest-init c = (refl, refl)

pub loop-guest-preserved : goal.loop-guest-preserved
loop-guest-preserved c = one_less (preferring 0) c.loop-guest.guest c.loop-guest.seats c.set_preferred.new.seats _ _
    (omega (arith, c.loop-guest.invariant.1, c.loop-guest-test.true)) c.set_preferred.ensures c.loop-guest.invariant.0 c.loop-guest.invariant.1

pub returns : goal.returns
returns c = sym (none_is_left (preferring 0) c.loop-guest.guest c.loop-guest.seats (omega (arith, c.loop-guest.invariant.1, c.loop-guest-test.false))) ∙ c.loop-guest.invariant.0
