use Rattle.std.proofs.Common.{◌≡◌, All, map, take}
use Rattle.vb_script.specs.Lines.{is_paced}
use Rattle.vb_slot.specs.Spare.{IsNew}
use Rattle.vb_command.{proofs.Passes.AreUnheld, proofs.ports.run_plan.OwnLists.own-1}
use Rattle.vb_command.proofs.ports.run_plan.Given as goal

abbrev pub invariant-loop-pace : goal.invariant-loop-pace
invariant-loop-pace g l = record {
  passes : AreUnheld l.passes.rest.items;
  ports : All (λ p. IsNew ((own-1.entry p.device.vtable).1.GuestBytes.mem p.device.value)
      ((own-1.entry p.device.vtable).1.GuestBytes.part p.device.value)) l.ports.items;
  paces : map (λ p. ((own-1.entry p.device.vtable).1.GuestBytes.part p.device.value).paced)
      l.ports.items ≡ map is_paced (take l.pace-index l.paces);
}
