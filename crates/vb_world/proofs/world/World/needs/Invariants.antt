use Rattle.{std.proofs.Common.◌≡◌, vb_model.specs.World.World}
use Rattle.vb_world.{specs.Hosts.IsWorld, proofs.Aiming.{first_of, need_at}}
use Rattle.vb_world.proofs.world.World.needs.Given as goal

abbrev pub invariant-loop-key : goal.invariant-loop-key
invariant-loop-key g l = record {
  found : (w : World) → IsWorld
      (λ b. (goal.Device-dyn g (b.vtable, b.value)).GuestBytes.mem b.value)
      (λ b. (goal.Device-dyn g (b.vtable, b.value)).GuestBytes.part b.value) l.fn.self w
      → l.needs.items ≡ first_of l.key (need_at l.floor w.guests);
}
