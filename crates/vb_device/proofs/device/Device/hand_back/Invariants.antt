use Rattle.{std.proofs.Common.{◌≡◌, [], length}, vb_device.specs.Calls.GoBack}
use Rattle.vb_device.proofs.device.Device.hand_back.Given as goal

abbrev pub invariant-loop-frame : goal.invariant-loop-frame
invariant-loop-frame g l = record {
  gone : GoBack (g.Self.GuestBytes.part l.fn.self) (g.Self.GuestBytes.part l.self) [];
  mem : g.Self.GuestBytes.mem l.self ≡ g.Self.GuestBytes.mem l.fn.self;
}

abbrev pub decreases-loop-frame : goal.decreases-loop-frame
decreases-loop-frame g l = length (g.Self.GuestBytes.part l.self).loose
