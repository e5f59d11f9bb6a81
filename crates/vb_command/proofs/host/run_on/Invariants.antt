use Rattle.std.{proofs.Common.{[], List, map, take}, specs.List.flat_map}
use Rattle.vb_model.{specs.declared.replies.Reply.Reply, specs.World.made}
use Rattle.vb_reply.{specs.Held.Puts, specs.Replies.line_of}
use Rattle.vb_world.{specs.Hosts.IsWorld, proofs.Runs.Ran}
use Rattle.vb_command.proofs.host.run_on.Given as goal

abbrev pub invariant-loop-event : goal.invariant-loop-event
invariant-loop-event g l = (replies : List Reply)
    × Ran (IsWorld (λ b. (goal.Device-dyn g (b.vtable, b.value)).GuestBytes.mem b.value)
    (λ b. (goal.Device-dyn g (b.vtable, b.value)).GuestBytes.part b.value) l.world)
    (made l.fn.frames
    (map (λ b. ((goal.Device-dyn g (b.vtable, b.value)).GuestBytes.part b.value).paced)
    l.fn.spares.items)) (take l.event-index l.events) replies × Puts (g.W.Write.contents l.fn.out)
    [] (g.W.Write.contents l.out) l.held.text.items (flat_map line_of replies)
