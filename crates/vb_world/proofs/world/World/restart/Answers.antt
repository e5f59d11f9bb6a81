use Rattle.{std.proofs.Common.{sym, false}, vb_world.proofs.Calls.{guest_of, guest_frames}}
use Rattle.vb_world.proofs.Lives.{restarted, not_restarted, returned}
use Rattle.vb_world.proofs.world.World.restart.Goals as goal

pub restart-requires : goal.restart-requires
restart-requires g c = let (w, host) = c.requires.world in
    let is = sym c.in-Some.ensures.value in
    let has = guest_of _ _ _ _ _ w c.args.guest c.in-Some.slot.now host is in (
      false,
      has.guest,
      has.stands,
      λ e. guest_frames _ _ _ _ _ w c.args.guest c.in-Some.slot.now host is has,
    )

pub returns-in-Some : goal.returns-in-Some
returns-in-Some g c = λ w host. restarted _ _ _ _ _ w c.args.guest c.in-Some.slot.now
    c.restart.new.self c.restart.new.keeper host (sym c.in-Some.ensures.value) (λ guest stands.
    let life = c.restart.ensures.life false guest stands in
    (life.stands, returned _ _ guest stands.own.flag life.moves))

pub returns-in-None : goal.returns-in-None
returns-in-None g c = λ w host.
    (w, host, not_restarted _ _ _ _ _ w c.args.guest host (sym c.in-None.ensures.value))
