use Rattle.std.proofs.Common.{◌≡◌, All, map, take}
use Rattle.vb_script.specs.Lines.{is_paced}
use Rattle.vb_slot.specs.Spare.{IsSpare}
use Rattle.vb_command.proofs.host.play_events.OwnLists.{own-1}
use Rattle.vb_command.proofs.host.play_events.Given as goal

abbrev pub invariant-loop-pace : goal.invariant-loop-pace
invariant-loop-pace g l = record {
  spares : All (λ d. IsSpare ((own-1.entry d.vtable).1.GuestBytes.mem d.value)
      ((own-1.entry d.vtable).1.GuestBytes.part d.value)) l.spares.items;
  paces : map (λ d. ((own-1.entry d.vtable).1.GuestBytes.part d.value).paced) l.spares.items
      ≡ map is_paced (take l.pace-index l.paces);
}
