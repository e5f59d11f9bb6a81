use Rattle.std.proofs.Common.{sym, false}
use Rattle.vb_world.proofs.Calls.{guest_of, guest_query, no_guest_query}
use Rattle.vb_world.proofs.world.World.query.Goals as goal

pub returns-in-Some : goal.returns-in-Some
returns-in-Some g c = λ w host. guest_query _ _ _ _ _ w c.args.guest c.in-Some.slot.now _ _ host
    (sym c.in-Some.ensures) (λ guest stands. c.query.ensures.answer false guest stands)

pub returns-in-None : goal.returns-in-None
returns-in-None g c =
    λ w host. no_guest_query _ _ _ _ _ w c.args.guest _ host (sym c.in-None.ensures)

pub query-requires : goal.query-requires
query-requires g c = let (w, host) = c.requires.world in
    let has = guest_of _ _ _ _ _ w c.args.guest c.in-Some.slot.now host (sym c.in-Some.ensures) in
    record { stands = (false, has.guest, has.stands) }
