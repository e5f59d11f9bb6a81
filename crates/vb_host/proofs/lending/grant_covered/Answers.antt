use Rattle.std.proofs.Common.{◌<◌, ◌+◌, List, length, refl, subst, sym, ◌∙◌, arith}
use Rattle.vb_host.specs.declared.seat.Seat.{Seat}
use Rattle.vb_host.specs.Line.{Stays}
use Rattle.vb_host.specs.Seats.{covers, newcomer}
use Rattle.vb_host.proofs.Granting.{CoveredBelow, grants_covered, passes_one}
use Rattle.vb_host.proofs.Places.{none_passes, test_is}
use Rattle.vb_host.proofs.lending.grant_covered.Goals as goal
use Rattle.vb_host.proofs.lending.grant_covered.Goals.{then-covers, else-covers}

pub loop-guest-init : goal.loop-guest-init
loop-guest-init c = (λ overdraft. Stays _, λ k l. absurd (omega (arith, l)), refl)

pub loop-guest-preserved : goal.loop-guest-preserved
loop-guest-preserved c =
    let there : c.loop-guest.guest < length c.loop-guest.seats = omega (arith, c.loop-guest.invariant.2, c.loop-guest-test.true) in
    elim c.if-covers.branch [
      | then-covers w ↦ subst (λ (xs : List Seat). CoveredBelow c.args.frames c.args.seats.now xs (c.loop-guest.guest + 1)) (sym w.seats-is)
          (grants_covered c.args.frames c.loop-guest.guest c.args.seats.now c.loop-guest.seats w.let_go.new.seats c.loop-guest.invariant
          (test_is covers c.loop-guest.guest c.loop-guest.seats (newcomer 0) there ∙ (sym c.covers.ensures ∙ w.if-covers.true)) w.let_go.ensures)
      | else-covers w ↦ subst (λ (xs : List Seat). CoveredBelow c.args.frames c.args.seats.now xs (c.loop-guest.guest + 1)) (sym w.seats-is)
          (passes_one c.args.frames c.loop-guest.guest c.args.seats.now c.loop-guest.seats c.loop-guest.invariant
          (test_is covers c.loop-guest.guest c.loop-guest.seats (newcomer 0) there ∙ (sym c.covers.ensures ∙ w.if-covers.false)))
    ]

pub returns-clause-none : goal.returns-clause-none
returns-clause-none c = none_passes covers c.loop-guest.seats c.loop-guest.guest (omega (arith, c.loop-guest.invariant.2, c.loop-guest-test.false)) c.loop-guest.invariant.1
