use Rattle.std.proofs.Common.{◌≡◌, ◌≤◌, drop}
use Rattle.vb_monitor.specs.{Pieces.parts_on, Left.bytes_left}
use Rattle.vb_core.specs.Pieces.{pieces_in}
use Rattle.vb_monitor.proofs.parts.next_part.Given as goal

abbrev pub invariant-loop-number : goal.invariant-loop-number
invariant-loop-number l = record {
  same : parts_on l.into l.fn.done (drop l.from (pieces_in l.pieces)) ≡
      parts_on l.into l.done (drop l.number (pieces_in l.pieces));
  fewer : bytes_left l.number l.done ≤ bytes_left l.from l.fn.done;
}
