use Rattle.std.proofs.Common.{◌≡◌, true, [], length}
use Rattle.vb_virtio.specs.Tests.{times}
use Rattle.vb_guest.specs.Supply.{supply_of, Moves, AreLoose}
use Rattle.vb_guest.proofs.frames.return_loose.Given as goal

abbrev pub invariant-loop-frame : goal.invariant-loop-frame
invariant-loop-frame g l = record {
  mem : g.D.GuestBytes.mem l.device ≡ g.D.GuestBytes.mem l.fn.device;
  part : g.D.GuestBytes.part l.device ≡ record (g.D.GuestBytes.part l.fn.device) {
    loose = (g.D.GuestBytes.part l.device).loose;
    own = (g.D.GuestBytes.part l.device).own;
  };
  moves : Moves (supply_of (g.D.GuestBytes.part l.fn.device) (g.K.FrameKeeper.out l.fn.keeper))
      (supply_of (g.D.GuestBytes.part l.device) (g.K.FrameKeeper.out l.keeper)) (λ n. times n
      (g.D.GuestBytes.part l.device).loose) (λ n. times n (g.D.GuestBytes.part l.fn.device).loose);
  loose : AreLoose (g.D.GuestBytes.part l.device).loose
      (supply_of (g.D.GuestBytes.part l.device) (g.K.FrameKeeper.out l.keeper));
  quiet : (g.D.GuestBytes.part l.fn.device).loose ≡ []
      → ((g.D.GuestBytes.part l.device).loose ≡ []) × (l.keeper ≡ l.fn.keeper);
  unasked : (g.D.GuestBytes.part l.fn.device).keeps ≡ true → l.keeper ≡ l.fn.keeper;
}

abbrev pub decreases-loop-frame : goal.decreases-loop-frame
decreases-loop-frame g l = length (g.D.GuestBytes.part l.device).loose
