use Rattle.std.{proofs.Common.take, specs.Io.KnownBytes.Appends}
use Rattle.vb_command.specs.Threads.{guest_lines}
use Rattle.vb_command.proofs.lines.write_guests.Given as goal

abbrev pub invariant-loop-guest : goal.invariant-loop-guest
invariant-loop-guest g l = Appends (g.W.Write.contents l.fn.out) (g.W.Write.contents l.out)
    (guest_lines 0 (take l.guest l.plans) (take l.guest l.reports))
