use Rattle.{std.proofs.Common.{sym, false}, vb_world.proofs.Calls.{guest_of, guest_frames}}
use Rattle.vb_world.proofs.Lives.{unplugged, not_unplugged, returned}
use Rattle.vb_world.proofs.world.World.unplug.Goals as goal

pub empty-requires : goal.empty-requires
empty-requires g c = let (w, host) = c.requires.world in
    let is = sym c.in-Some.ensures.value in
    let has = guest_of _ _ _ _ _ w c.args.guest c.in-Some.slot host is in (
      false,
      has.guest,
      has.stands,
      λ e. guest_frames _ _ _ _ _ w c.args.guest c.in-Some.slot host is has,
    )

pub returns-in-Some : goal.returns-in-Some
returns-in-Some g c = λ w host.
    let gone = c.in-Some.ensures in
    unplugged _ _ _ _ _ w c.args.guest c.in-Some.slot c.try_remove.new.self c.empty.new.keeper
    host (sym gone.value) gone.updates gone.len gone.key_is_next gone.capacity (λ guest stands.
    returned _ _ guest stands.own.flag (c.empty.ensures.returned false guest stands))

pub returns-in-None : goal.returns-in-None
returns-in-None g c = λ w host.
    let none = c.in-None.ensures in
    (w, rw none.absent host, not_unplugged _ _ _ _ _ w c.args.guest host (sym none.value))
