use Rattle.std.{proofs.Common.{take, rules}, proofs.lemmas.List.take_more}
use Rattle.vb_model.{specs.Run.last_world, specs.World.made}
use Rattle.vb_world.proofs.Runs.{ran_none, ran_on, safe_run, take_whole}
use Rattle.vb_world.proofs.world.World.run.Goals as goal

pub loop-event-init : goal.loop-event-init
loop-event-init g c = record {
  ran = λ w holds. rw c.in_ok-replies.ensures.items (ran_none w holds);
  room = search rules;
  count = search rules;
}

pub loop-event-preserved : goal.loop-event-preserved
loop-event-preserved g c = record {
  ran = λ w holds.
      let ran = c.loop-event.invariant.ran w holds in
      rw (
        c.push_reserved.ensures.items,
        take_more c.args.events.now c.loop-event.event-index c.event-item.result
            c.loop-event-test.true,
        ← c.event-item.is,
      ) (
      ran_on w (take c.loop-event.event-index c.args.events.now) c.loop-event.replies.items
      c.event-item.result c.step-reply.result ran c.step-reply.ensures
      );
  room = search rules;
  count = search rules;
}

pub step-reply-requires : goal.step-reply-requires
step-reply-requires g c = let (frames, spares, host) = c.requires.made in
    let ran = c.loop-event.invariant.ran (made frames spares) host in
    record { world = (last_world (made frames spares) ran.after, ran.holds) }

pub returns-clause-run : goal.returns-clause-run
returns-clause-run g c = λ frames spares host.
    let ran = c.loop-event.invariant.ran (made frames spares) host in
    let whole = take_whole c.loop-event.event-index c.args.events.now c.loop-event-test.false in
    let all = rw whole at ran in
    safe_run frames spares c.args.events.now c.loop-event.replies.items all
