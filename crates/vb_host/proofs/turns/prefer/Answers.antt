use Rattle.std.proofs.Common.{List, ap, ◌∙◌}
use Rattle.vb_host.specs.declared.seat.Seat.{Seat}
use Rattle.vb_host.specs.Lending.{each_at}
use Rattle.vb_host.specs.Seats.{preferring}
use Rattle.vb_host.proofs.turns.prefer.Goals as goal

pub returns : goal.returns
returns c = c.set_preferred.ensures ∙ ap (λ (xs : List Seat). each_at c.args.guest (preferring 1) xs) c.prefer_none.ensures
