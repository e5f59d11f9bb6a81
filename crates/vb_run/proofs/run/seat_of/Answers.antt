use Rattle.vb_run.proofs.Starting.{guest_parts}
use Rattle.vb_run.proofs.run.seat_of.Goals as goal

pub scripts_of-requires : goal.scripts_of-requires
scripts_of-requires g c =
    rw c.as_slice.ensures.value (guest_parts c.args.plan.now c.requires.plan).1

pub start-requires-clause-config : goal.start-requires-clause-config
start-requires-clause-config g c = (guest_parts c.args.plan.now c.requires.plan).0
