use Rattle.std.proofs.Common.{◌≡◌, ◌+◌, ◌-◌, ap, take, arith}
use Rattle.std.specs.Prelude.{min}
use Rattle.vb_core.specs.{Devices.ring_of, Pieces.pieces_in, declared.ring.Virtqueue.Virtqueue}
use Rattle.vb_monitor.specs.{Machine.{whole, serves}, Chains.{longest, Follows}}
use Rattle.vb_monitor.proofs.TableRowLemmas.{next_goes}
use Rattle.vb_monitor.specs.Steps.{tally_of}
use Rattle.vb_monitor.proofs.walk.ask_next.Goals as goal

pub returns-clause-step : goal.returns-clause-step
returns-clause-step c after outcome room log some h =
    let w = whole c.args.regions.now c.args.kind after outcome in
    let d = c.args.device.now in
    let t = (tally_of c.args.step.now) in
    let walk = c.args.walk in
    let q = (ring_of c.args.kind d).size in
    let size : c.ring-size.result.size ≡ q = ap (λ (r : Virtqueue). r.size) c.ring-size.ensures in
    let most : c.min-further.result ≡ min 31 (q - (c.args.number + 1)) =
    omega (
      arith,
      size,
      c.from.ensures,
      c.from-2.ensures,
      c.saturating_sub-left.ensures,
      c.min-further.ensures,
    ) in
    next_goes w d t (Follows (longest q - (walk.count + 1)) w d t (serves w t d walk.head))
    (serves w t d walk.head) c.args.number c.min-further.result walk.writing
    (pieces_in (take walk.count room.pieces)) log some most
    (c.ask_row.ensures.step after outcome room log h)
