use Rattle.std.proofs.Common.{◌≡◌, sym, ◌∙◌, arith}
use Rattle.vb_host.specs.Lending.{value_at}
use Rattle.vb_host.specs.Line.{Stays}
use Rattle.vb_host.specs.Seats.{asked, newcomer}
use Rattle.vb_host.proofs.Granting.{grants_first}
use Rattle.vb_host.proofs.Grants.{none_room}
use Rattle.vb_host.proofs.Places.{value_is}
use Rattle.vb_host.proofs.lending.grant_in_turn.Goals as goal

pub loop-guest-init : goal.loop-guest-init
loop-guest-init c = ((λ overdraft. Stays _, c.requires, c.owed-lent.ensures.value), omega (arith, c.owed-lent.ensures.small))

pub returns-then-lent-from-clause-none : goal.returns-then-lent-from-clause-none
returns-then-lent-from-clause-none c =
    let asks : c.from-lent.result ≡ value_at asked c.loop-guest.seats c.in-Some.guest = c.from-lent.ensures ∙ (c.asked.ensures ∙ sym (value_is asked c.in-Some.guest c.loop-guest.seats (newcomer 0) c.in-Some.ensures.0)) in
    λ overdraft. none_room (record { frames = c.args.frames; overdraft = overdraft; seats = c.loop-guest.seats }) c.in-Some.guest c.loop-guest.invariant.0.1 c.in-Some.ensures.1
    (omega (arith, asks, c.loop-guest.invariant.0.2, c.from.ensures, c.if-lent-from.true))

pub loop-guest-smaller : goal.loop-guest-smaller
loop-guest-smaller c =
    let asks : c.from-lent.result ≡ value_at asked c.loop-guest.seats c.in-Some.guest = c.from-lent.ensures ∙ (c.asked.ensures ∙ sym (value_is asked c.in-Some.guest c.loop-guest.seats (newcomer 0) c.in-Some.ensures.0)) in
    (grants_first c.args.frames c.in-Some.guest c.loop-guest.lent c.from-lent.result c.args.seats.now c.loop-guest.seats c.let_go.new.seats c.loop-guest.invariant.0 c.in-Some.ensures.1 asks
    (omega (arith, c.from.ensures, c.if-lent-from.false)) c.let_go.ensures).1

pub loop-guest-preserved : goal.loop-guest-preserved
loop-guest-preserved c =
    let asks : c.from-lent.result ≡ value_at asked c.loop-guest.seats c.in-Some.guest = c.from-lent.ensures ∙ (c.asked.ensures ∙ sym (value_is asked c.in-Some.guest c.loop-guest.seats (newcomer 0) c.in-Some.ensures.0)) in (
      (grants_first c.args.frames c.in-Some.guest c.loop-guest.lent c.from-lent.result c.args.seats.now c.loop-guest.seats c.let_go.new.seats c.loop-guest.invariant.0 c.in-Some.ensures.1 asks
          (omega (arith, c.from.ensures, c.if-lent-from.false)) c.let_go.ensures).0,
      omega (arith, c.from.ensures, c.if-lent-from.false, c.ranges.frames.fits),
    )
