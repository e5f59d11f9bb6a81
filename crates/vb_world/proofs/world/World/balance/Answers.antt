use Rattle.{std.proofs.Common.{◌∙◌, sym, ap, List, length}, vb_model.specs.HostEvents.with_targets}
use Rattle.vb_virtio.specs.Targets.{Need}
use Rattle.vb_world.proofs.Balancing.{balanced, short, as_many_needs}
use Rattle.vb_world.proofs.world.World.balance.Goals as goal

pub set_targets-requires-clause-one_each : goal.set_targets-requires-clause-one_each
set_targets-requires-clause-one_each g c = let (w, host) = c.requires.world in
    let are = c.in-Ok.ensures.answer.1 in
    ap (λ (l : List _). length l) c.as_slice-in-Ok.ensures ∙ are.one_each
    ∙ ap (λ (l : List Need). length l) (c.as_slice.ensures.value ∙ c.needs-needs.ensures w host)
    ∙ as_many_needs c.args.floor w ∙ sym host.count

pub returns-in-Ok : goal.returns-in-Ok
returns-in-Ok g c = λ w host. let (none, are) = c.in-Ok.ensures.answer in (
  record w { guests = with_targets c.as_slice-in-Ok.result.now w.guests },
  c.set_targets.ensures w host,
  rw (c.into_numbers.ensures, c.as_slice-in-Ok.ensures)
      (balanced w c.args.floor c.frames.result c.as_slice.result.now c.in-Ok.targets
      (c.as_slice.ensures.value ∙ c.needs-needs.ensures w host) (c.frames.ensures ∙ host.frames) none are),
)

pub returns-in-Err : goal.returns-in-Err
returns-in-Err g c = λ w host.
    let (some, left) = c.in-Err.ensures.answer in (
      w,
      host,
      short w c.args.floor c.frames.result c.in-Err.short.missing c.as_slice.result.now
          (c.as_slice.ensures.value ∙ c.needs-needs.ensures w host) (c.frames.ensures ∙ host.frames) some left,
    )
