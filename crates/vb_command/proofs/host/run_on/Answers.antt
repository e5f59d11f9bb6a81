use Rattle.std.{proofs.Common.{◌++◌, ◌∷◌, [], refl, take}, proofs.lemmas.List.take_more}
use Rattle.std.specs.List.{flat_map}
use Rattle.vb_model.specs.Run.{last_world}
use Rattle.vb_reply.{proofs.Putting.{put_in_all, put_nothing}, specs.Replies.line_of}
use Rattle.vb_world.proofs.Runs.{as_many, ran_none, ran_on, safe_run, take_whole}
use Rattle.vb_command.proofs.Playing.{lines_on}
use Rattle.vb_command.proofs.host.run_on.Goals as goal

pub loop-event-init : goal.loop-event-init
loop-event-init g c = (
  [],
  ran_none _ c.in_ok-world.ensures,
  put_nothing (g.W.Write.contents c.args.out.now) c.new-held.result.text.items c.new-held.ensures,
)

pub step-reply-requires : goal.step-reply-requires
step-reply-requires g c = let (replies, ran, puts) = c.loop-event.invariant in
    record { world = (last_world _ ran.after, ran.holds) }

pub loop-event-preserved : goal.loop-event-preserved
loop-event-preserved g c = let (replies, ran, puts) = c.loop-event.invariant in rw (
  take_more c.args.events.now c.loop-event.event-index c.event-item.result c.loop-event-test.true,
  ← c.event-item.is,
) (
  replies ++ c.step-reply.result ∷ [],
  ran_on _ (take c.loop-event.event-index c.args.events.now) replies c.event-item.result
      c.step-reply.result ran c.step-reply.ensures,
  lines_on (g.W.Write.contents c.args.out.now) (g.W.Write.contents c.loop-event.out)
      (g.W.Write.contents c.put_reply.new.out) [] c.loop-event.held.text.items
      c.put_reply.new.held.text.items replies c.step-reply.result puts c.in_ok-put_reply.ensures,
)

pub returns-clause-ok : goal.returns-clause-ok
returns-clause-ok g c = let (replies, ran, puts) = c.loop-event.invariant in
    let whole = take_whole c.loop-event.event-index c.args.events.now c.loop-event-test.false in
    let all = rw whole at ran in
    let (last, holds, safe) = safe_run c.args.frames _ c.args.events.now replies all in (
      replies,
      (last, safe),
      as_many _ _ _ _ safe.steps,
      put_in_all (g.W.Write.contents c.args.out.now) (g.W.Write.contents c.loop-event.out)
          (g.W.Write.contents c.release.new.out) [] c.loop-event.held.text.items
          (flat_map line_of replies) refl puts c.in_ok-release.ensures.written,
    )
