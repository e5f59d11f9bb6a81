use Rattle.std.proofs.Common.{◌≡◌, ◌∙◌, ◌==◌, false, None, Ok, Err, ap, rules, arith}
use Rattle.vb_virtio.specs.declared.layout.TheConstants.{STATISTICS_QUEUE}
use Rattle.vb_device.proofs.Serves.{first_found, settles_so, used_first}
use Rattle.vb_device.proofs.balloon.BalloonDevice.use_first.Goals as goal

pub unreachable-requires : goal.unreachable-requires
unreachable-requires g c =
    let other : (c.args.queue == STATISTICS_QUEUE) ≡ false = search rules in
    let did = rw c.in-Err.is at c.settle.ensures.by in
    absurd (settles_so c.args.queue _ _ _ _ _ (c.requires.taken other) did)

pub returns : goal.returns
returns g c = let other : (c.args.queue == STATISTICS_QUEUE) ≡ false = search rules in
    let free = c.requires.taken other in
    let found = first_found c.args.queue c.args.self.now.part free in
    let did = rw c.in-Ok.is at c.settle.ensures.by in
    used_first c.args.queue found.0 _ _ _ _ _ _ other free found.1 c.requires.none _ did
    c.use_chain.ensures
