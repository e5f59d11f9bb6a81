use Rattle.{std.proofs.Common.{sym, false}, vb_world.proofs.KeeperFrames.steps_asked}
use Rattle.vb_world.proofs.Calls.{guest_step, guest_frames, guest_of, no_guest_step}
use Rattle.vb_world.proofs.world.World.call.Goals as goal

pub call-requires : goal.call-requires
call-requires g c = let (w, host) = c.requires.world in
    let is = sym c.in-Some.ensures.value in
    let has = guest_of _ _ _ _ _ w c.args.guest c.in-Some.slot.now host is in
    record {
      stands = (
        false,
        has.guest,
        has.stands,
        λ e. guest_frames _ _ _ _ _ w c.args.guest c.in-Some.slot.now host is has,
      );
    }

pub returns-in-Some : goal.returns-in-Some
returns-in-Some g c =
    λ w host. guest_step _ _ _ _ _ w c.args.guest c.in-Some.slot.now c.call.new.self _ _ _ host
    (sym c.in-Some.ensures.value) (λ guest stands. steps_asked _ _ _ _ _ guest _ _ stands.own.flag
    (c.call.ensures.step false guest stands))

pub returns-in-None : goal.returns-in-None
returns-in-None g c =
    λ w host. (w, host, no_guest_step _ _ _ _ _ w c.args.guest _ host (sym c.in-None.ensures.value))
