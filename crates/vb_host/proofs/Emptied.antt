-- A balloon that counts no longer leaves true what is true of its guest.
use Rattle.std.proofs.Common.{refl, arith}
use Rattle.vb_host.specs.declared.seat.Seat.{Seat}
use Rattle.vb_host.specs.Seats.{uncounting}
use Rattle.vb_host.specs.System.{Grant, Order, Process, Target}
use Rattle.vb_host.proofs.Changes.{Follows}
use Rattle.vb_host.proofs.Sound.{IsKnown, IsSent}

uncounts_sent : (p : Process) (s : Seat) (o : Order) → IsSent p s o → IsSent p (uncounting s) o
uncounts_sent p s (Target number target) h = (h.0, h.1, λ _. omega arith)
uncounts_sent p s (Grant n) h = h

pub uncounts_follow : (p : Process) (s : Seat) → IsKnown p s → Follows p s (uncounting s)
uncounts_follow p s k = let m = k.memory in let n = k.targets in record {
  known = record {
    memory = record {
      balloon = m.balloon;
      held = m.held;
      numbered = m.numbered;
      granted = m.granted;
      removed = m.removed;
      pages = m.pages;
      counted = omega (arith, m.removed);
      without = λ _. omega (arith, m.removed, m.held);
      used = omega (arith, m.outside);
      used_without = λ _. omega (arith, m.outside, m.held);
      outside = m.outside;
      waiting = m.waiting;
      waited = m.waited;
      waits_for = m.waits_for;
    };
    targets = record { number = n.number; target = n.target; least_given = omega arith; least_received = omega arith; least_read = omega arith };
    empty = λ _. refl;
  };
  sent = uncounts_sent p s;
  past = λ r h. h;
}
