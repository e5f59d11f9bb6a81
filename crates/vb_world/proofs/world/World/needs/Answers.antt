use Rattle.std.proofs.Common.{sym, ◌∙◌, ap, refl, false, arith}
use Rattle.vb_virtio.specs.Targets.{Need}
use Rattle.arrayvec.specs.ArrayVec.{ArrayVec}
use Rattle.vb_world.proofs.{Calls.guest_of, world.World.needs.Goals.{in-Some, in_default}}
use Rattle.vb_world.proofs.Balancing.{need_found, need_missing, need_room, needs_found}
use Rattle.vb_world.proofs.world.World.needs.Goals as goal

pub loop-key-init : goal.loop-key-init
loop-key-init g c = record { found = λ w host. c.new-needs.ensures }

pub spare-requires : goal.spare-requires
spare-requires g c = let (w, host) = c.requires.world in
    let has = guest_of _ _ _ _ _ w c.loop-key.key c.in-Some.slot.now host (sym c.in-Some.ensures) in
    (false, has.guest, has.stands)

pub push-requires : goal.push-requires
push-requires g c = let (w, host) = c.requires.world in (
  omega arith,
  need_room _ _ _ _ _ w c.args.floor c.loop-key.key c.in-Some.slot.now c.loop-key.needs.items
      host (sym c.in-Some.ensures) (c.loop-key.invariant.found w host),
)

pub loop-key-preserved : goal.loop-key-preserved
loop-key-preserved g c = elim c.match-get.branch [
  | in-Some some ↦ record {
    found = λ w host. ap (λ (v : ArrayVec Need). v.items) some.needs-is ∙ (some.push.ensures.items
        ∙ need_found _ _ _ _ _ w c.args.floor c.loop-key.key some.in-Some.slot.now
        c.loop-key.needs.items _ host (sym some.in-Some.ensures)
        (c.loop-key.invariant.found w host) (λ guest stands. rw (
          some.pages.ensures.answer false guest stands,
          some.spare.ensures false guest stands,
        ) refl));
  }
  | in_default none ↦ record {
    found = λ w host. ap (λ (v : ArrayVec Need). v.items) none.needs-is
        ∙ need_missing _ _ _ _ _ w c.args.floor c.loop-key.key c.loop-key.needs.items host
        (sym none.in_default.ensures) (c.loop-key.invariant.found w host);
  }
]

pub returns : goal.returns
returns g c = λ w host. needs_found _ _ _ _ _ w c.args.floor c.loop-key.key c.loop-key.needs.items
    host (omega (arith, c.loop-key-test.false, c.capacity-key-end.ensures.slots))
    (c.loop-key.invariant.found w host)
