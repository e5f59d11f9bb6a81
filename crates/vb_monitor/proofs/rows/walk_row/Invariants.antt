use Rattle.std.proofs.Common.{◌≡◌, ◌+◌, ◌-◌, ◌≤◌, ◌<◌, List, length, take, drop}
use Rattle.vb_chain.specs.declared.descriptor.TheConstants.{DESCRIPTOR_SIZE}
use Rattle.vb_core.specs.declared.device.Device.{Device}
use Rattle.vb_core.specs.{Devices.ring_of, Pieces.pieces_in}
use Rattle.vb_monitor.specs.declared.outcome.Tally.{Tally}
use Rattle.vb_monitor.specs.{Accesses.Access, Ends.Whole}
use Rattle.vb_monitor.specs.Chains.{row_of, longest, memory_end}
use Rattle.vb_monitor.proofs.TableRowLemmas.{At}
use Rattle.vb_monitor.proofs.rows.walk_row.Given as goal

abbrev pub invariant-loop-fault : goal.invariant-loop-fault
invariant-loop-fault l = record {
  within : l.into + DESCRIPTOR_SIZE ≤ length l.row;
  room : length l.pieces ≡ 256;
  since : l.walk.count ≤ l.count;
  below : l.count < longest l.size;
  goes : (w : Whole) (d : Device) (t : Tally) (log : List Access) →
      (ring_of w.kind d).size ≡ l.size → memory_end d ≡ l.end →
      At w d t l.walk.head l.size (row_of l.walk.first l.row) l.count l.writing
      (pieces_in (take l.count l.pieces)) (take 16 (drop l.into l.row)) log →
      At w d t l.walk.head l.size (row_of l.walk.first l.row) l.walk.count l.walk.writing
      (pieces_in (take l.walk.count l.initial.pieces)) (take 16 l.row) log;
}

abbrev pub decreases-loop-fault : goal.decreases-loop-fault
decreases-loop-fault l = longest l.size - l.count
