use Rattle.std.proofs.Common.{take}
use Rattle.vb_core.{specs.Pieces.pieces_in, proofs.PieceLemmas.none_in}
use Rattle.vb_monitor.specs.Machine.{whole}
use Rattle.vb_monitor.proofs.TableRowLemmas.{first_goes}
use Rattle.vb_monitor.specs.Steps.{tally_of}
use Rattle.vb_monitor.proofs.walk.ask_first.Goals as goal

pub returns-clause-step : goal.returns-clause-step
returns-clause-step c after outcome room log h =
    first_goes (whole c.args.regions.now c.args.kind after outcome) c.args.device.now (tally_of c.args.step.now)
    c.args.head (pieces_in (take 0 room.pieces)) log c.requires none_in
    (c.ask_row.ensures.step after outcome room log h)
