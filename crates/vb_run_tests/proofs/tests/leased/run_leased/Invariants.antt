use Rattle.std.proofs.Common.{All, length}
use Rattle.vb_slot.specs.Spare.{IsNew}
use Rattle.vb_run_tests.proofs.tests.leased.run_leased.OwnLists.{own-1}
use Rattle.vb_run_tests.proofs.tests.leased.run_leased.Given as goal

abbrev pub invariant-loop-pass : goal.invariant-loop-pass
invariant-loop-pass g l =
    All (λ p. IsNew ((own-1.entry p.port.device.vtable).1.GuestBytes.mem p.port.device.value)
    ((own-1.entry p.port.device.vtable).1.GuestBytes.part p.port.device.value)) l.devices.items

abbrev pub decreases-loop-pass : goal.decreases-loop-pass
decreases-loop-pass g l = length l.passes.items
