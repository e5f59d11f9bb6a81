use Rattle.std.proofs.Common.{subst, refl}
use Rattle.vb_monitor.specs.{declared.room.Room.Room, Machine.{Ahead, whole}, Steps.step_of}
use Rattle.vb_c.proofs.serving.leave_hints.Goals as goal

-- src/serving.rt:154:1
pub returns-clause-leaves : goal.returns-clause-leaves
returns-clause-leaves c = record {
  next = record { kind = c.args.kind; step = step_of c.leave_parts.new.self };
  device = c.leave_parts.new.device;
  kind_is = refl;
  step = λ cut x after outcome log at h. c.leave_parts.ensures.step cut x after outcome log at
      (subst (λ (r : Room). Ahead (whole c.args.regions.now c.args.kind after outcome)
      (step_of c.leave_parts.new.self) c.leave_parts.new.device r log) c.hand_over.ensures.stays h);
  hands = c.hand_over.ensures.hands;
}
