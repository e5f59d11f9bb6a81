use Rattle.std.proofs.Common.{◌≡◌, ◌++◌, ◌+◌, All, length, map}
use Rattle.vb_run.specs.Paces.{is_deferred}
use Rattle.vb_run.proofs.run.seats_of.Given as goal

abbrev pub invariant-loop-own : goal.invariant-loop-own
invariant-loop-own g l = record {
  waits : All g.P.GuestPort.waits l.left.rest.items;
  count : length l.left.rest.items + l.own-index ≡ length l.fn.plan;
  paces : map (λ s. is_deferred s.pace) l.seats.items ++ map g.P.GuestPort.pace l.left.rest.items
      ≡ map g.P.GuestPort.pace l.fn.ports.items;
}
