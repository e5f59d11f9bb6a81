use Rattle.std.proofs.Common.{rules, ◌≡◌, ◌+◌, ◌-◌, ◌*◌, Some, None, take}
use Rattle.vb_core.specs.{Devices.ring_of, Pieces.pieces_in}
use Rattle.vb_monitor.specs.{Regions.spot, Machine.{whole, serves}, Chains.{longest, Follows}}
use Rattle.vb_monitor.proofs.TableRowLemmas.{takes_one}
use Rattle.vb_monitor.specs.Steps.{tally_of}
use Rattle.vb_monitor.proofs.walk.ask_row.Goals as goal

pub returns-in-Some-find_from-clause-step : goal.returns-in-Some-find_from-clause-step
returns-in-Some-find_from-clause-step c after outcome room log h =
    let w = whole c.args.regions.now c.args.kind after outcome in
    let d = c.args.device.now in
    let t = (tally_of c.args.step.now) in
    let walk = c.args.walk in
    let a = (ring_of c.args.kind d).table + 16 * walk.first in
    let apart : spot c.args.regions.now a (16 * (walk.further + 1)) ≡ None = search rules in
    let place : spot c.args.regions.now a 16 ≡ Some c.in-Some-find_from.at = search rules in
    takes_one w d t (Follows (longest (ring_of c.args.kind d).size - (walk.count + 1)) w d t
    (serves w t d walk.head)) (serves w t d walk.head) walk.first walk.further walk.writing
    (pieces_in (take walk.count room.pieces)) c.in-Some-find_from.at log apart place
    (c.await_row-in-Some-find_from.ensures.step w d room log h)
