use Rattle.std.proofs.Common.{arith, ◌<◌, length}
use Rattle.vb_world.proofs.Plugs.{plugged, not_plugged, device_back, spare_of, first_removed}
use Rattle.vb_world.{proofs.Plugs.spare_like, proofs.KeeperFrames.stands_keeping}
use Rattle.vb_world.proofs.world.World.plug_first_spare.Goals as goal

pub new-requires : goal.new-requires
new-requires g c = let (w, host) = c.requires.world in
    let first = first_removed c.args.self.now.spares.items c.remove-device.result
    c.remove-device.new.self.items (omega (arith, c.requires.some, c.args.self.now.spares.ok))
    c.remove-device.ensures.value c.remove-device.ensures.items in
    let spare = (spare_of _ _ _ _ _ w c.remove-device.result c.remove-device.new.self.items host
    first).spare.0 in record { unused = spare.unused; own = spare.own; config = c.requires.config }

pub returns-in-Ok : goal.returns-in-Ok
returns-in-Ok g c = λ w host.
    let first = first_removed c.args.self.now.spares.items c.remove-device.result
    c.remove-device.new.self.items (omega (arith, c.requires.some, c.args.self.now.spares.ok))
    c.remove-device.ensures.value c.remove-device.ensures.items in
    let new = c.insert_reserved-guest.ensures in
    let spare = (spare_of _ _ _ _ _ w c.remove-device.result c.remove-device.new.self.items host
    first).spare.0 in
    (plugged _ _ _ _ _ w c.insert_reserved-guest.result c.in-Ok.slot
    c.insert_reserved-guest.new.self c.remove-device.result c.remove-device.new.self.items
    c.args.config.pages c.args.config.queue_size c.args.config.processors host first
    c.requires.few new.key
    new.was_vacant new.updates new.len new.capacity _ (λ p spare. spare.1) (stands_keeping _ _ _ _ _ _ spare.keeps c.in-Ok.ensures.made))

pub returns-in-Err : goal.returns-in-Err
returns-in-Err g c = λ w host.
    let some : 0 < length c.args.self.now.spares.items =
    omega (arith, c.requires.some, c.args.self.now.spares.ok) in
    let first = first_removed c.args.self.now.spares.items c.remove-device.result
    c.remove-device.new.self.items some c.remove-device.ensures.value
    c.remove-device.ensures.items in
    let back = device_back _ _ _ _ _ w c.remove-device.result c.in-Err.refused.device
    c.remove-device.new.self.items host first
    (λ p. spare_like p c.in-Err.ensures.refused.0 c.in-Err.ensures.refused.1) in
    (w, rw c.put_first.ensures back, not_plugged _ _ _ _ _ w _ _ _ host some)
