use Rattle.std.proofs.Common.{◌≡◌, ◌≤◌, length, take, vec_len, vec_capacity}
use Rattle.{vb_model.specs.World.World, vb_world.{specs.Hosts.IsWorld, proofs.Runs.Ran}}
use Rattle.vb_world.proofs.world.World.run.Given as goal

abbrev pub invariant-loop-event : goal.invariant-loop-event
invariant-loop-event g l = record {
  ran : (w : World) → IsWorld (λ b. (goal.Device-dyn g (b.vtable, b.value)).GuestBytes.mem b.value)
      (λ b. (goal.Device-dyn g (b.vtable, b.value)).GuestBytes.part b.value) l.fn.self w
      → Ran (IsWorld (λ b. (goal.Device-dyn g (b.vtable, b.value)).GuestBytes.mem b.value)
      (λ b. (goal.Device-dyn g (b.vtable, b.value)).GuestBytes.part b.value) l.self) w
      (take l.event-index l.events) l.replies.items;
  room : length l.events ≤ vec_capacity l.replies;
  count : vec_len l.replies ≡ l.event-index;
}
