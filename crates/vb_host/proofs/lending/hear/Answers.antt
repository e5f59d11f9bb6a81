use Rattle.std.proofs.Common.{◌∙◌}
use Rattle.vb_host.specs.Lending.{next_turn}
use Rattle.vb_host.specs.Seats.{heard, newcomer}
use Rattle.vb_host.proofs.Places.{at_alike, at_set}
use Rattle.vb_host.proofs.TurnsGiven.{hears_alike}
use Rattle.vb_host.proofs.lending.hear.Goals as goal

pub returns-then-guest-seats : goal.returns-then-guest-seats
returns-then-guest-seats c = at_set c.args.guest (heard c.turn_by-turn.result c.args.report.now) c.args.seats.now c.hear.new.self (newcomer 0) c.if-guest-seats.true c.hear.ensures
    ∙ at_alike c.args.guest (heard c.turn_by-turn.result c.args.report.now) (heard (next_turn c.args.seats.now) c.args.report.now) c.args.seats.now
    (λ s. hears_alike c.turn_by-turn.result (next_turn c.args.seats.now) c.args.report.now s c.turn_by-turn.ensures)
