use Rattle.std.proofs.Common.{false, sym, ◌∙◌, refl, arith}
use Rattle.vb_world.proofs.Balancing.{target_there, target_set, target_missing, targets_set}
use Rattle.vb_world.proofs.world.World.set_targets.Goals.{in-Some, in_default}
use Rattle.vb_world.proofs.world.World.set_targets.Goals as goal

pub loop-key-init : goal.loop-key-init
loop-key-init g c = record { aims = λ w host. (host, refl) }

pub offset_bounds-targets-next : goal.offset_bounds-targets-next
offset_bounds-targets-next g c = let (w, host) = c.requires.world in
    let (now, at) = c.loop-key.invariant.aims w host in
    let there = target_there _ _ _ _ _ w c.args.targets.now c.loop-key.key c.loop-key.next
    c.in-Some.slot.now (c.requires.one_each ∙ host.count) now (sym c.in-Some.ensures.value) at in
    omega (arith, there, c.requires.one_each, host.count, host.few)

pub bounds-targets-next : goal.bounds-targets-next
bounds-targets-next g c = let (w, host) = c.requires.world in
    let (now, at) = c.loop-key.invariant.aims w host in
    target_there _ _ _ _ _ w c.args.targets.now c.loop-key.key c.loop-key.next
    c.in-Some.slot.now (c.requires.one_each ∙ host.count) now (sym c.in-Some.ensures.value) at

pub overflow_add-next : goal.overflow_add-next
overflow_add-next g c = let (w, host) = c.requires.world in
    let (now, at) = c.loop-key.invariant.aims w host in
    let there = target_there _ _ _ _ _ w c.args.targets.now c.loop-key.key c.loop-key.next
    c.in-Some.slot.now (c.requires.one_each ∙ host.count) now (sym c.in-Some.ensures.value) at in
    omega (arith, there, c.requires.one_each, host.count, host.few)

pub loop-key-preserved : goal.loop-key-preserved
loop-key-preserved g c = elim c.match-get_mut.branch [
  | in-Some some ↦ record {
    aims = λ w host.
        let (now, at) = c.loop-key.invariant.aims w host in
        rw (some.self-is, some.next-is)
        (target_set _ _ _ _ _ w c.args.targets.now c.loop-key.key c.loop-key.next
        some.in-Some.slot.now some.set_target.new.self _ (c.requires.one_each ∙ host.count) now
        (sym some.in-Some.ensures.value) at refl
        (λ guest stands. some.set_target.ensures.aims false guest stands));
  }
  | in_default none ↦ record {
    aims = λ w host.
        let (now, at) = c.loop-key.invariant.aims w host in
        rw (none.self-is, none.next-is)
        (target_missing _ _ _ _ _ w c.args.targets.now c.loop-key.key c.loop-key.next now
        (sym none.in_default.ensures.value) at);
  }
]

pub returns : goal.returns
returns g c = λ w host.
    let (now, at) = c.loop-key.invariant.aims w host in
    let all = targets_set _ _ _ _ _ w c.args.targets.now c.loop-key.key host
    (omega (arith, c.loop-key-test.false, c.capacity-key-end.ensures.slots)) in rw (← all) now
