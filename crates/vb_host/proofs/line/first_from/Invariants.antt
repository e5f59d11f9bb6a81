use Rattle.std.specs.Prelude.{map}
use Rattle.vb_host.specs.Line.{FirstBelow, lined}
use Rattle.vb_host.proofs.line.first_from.Given as goal

abbrev pub invariant-loop-place : goal.invariant-loop-place
invariant-loop-place l = FirstBelow (map (lined l.line) l.seats) l.place l.first
