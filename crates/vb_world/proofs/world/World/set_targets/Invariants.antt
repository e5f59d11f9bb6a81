use Rattle.std.proofs.Common.{◌≡◌}
use Rattle.{vb_model.specs.World.World, vb_world.{specs.Hosts.IsWorld, proofs.Aiming.{aimed, rank}}}
use Rattle.vb_world.proofs.world.World.set_targets.Given as goal

abbrev pub invariant-loop-key : goal.invariant-loop-key
invariant-loop-key g l = record {
  aims : (w : World) → IsWorld (λ b. (goal.Device-dyn g (b.vtable, b.value)).GuestBytes.mem b.value)
      (λ b. (goal.Device-dyn g (b.vtable, b.value)).GuestBytes.part b.value) l.fn.self w
      → IsWorld (λ b. (goal.Device-dyn g (b.vtable, b.value)).GuestBytes.mem b.value)
      (λ b. (goal.Device-dyn g (b.vtable, b.value)).GuestBytes.part b.value) l.self
      (record w { guests = aimed l.key l.targets w.guests }) × (l.next ≡ rank l.key w.guests);
}
