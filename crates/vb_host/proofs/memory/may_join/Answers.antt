use Rattle.std.proofs.Common.{◌∙◌, arith}
use Rattle.vb_host.proofs.Grants.{join_beyond, join_from_beyond, join_itself, join_few}
use Rattle.vb_host.proofs.memory.may_join.Goals as goal

pub returns-then-guest-seats : goal.returns-then-guest-seats
returns-then-guest-seats c = join_beyond c.args.seats.now c.args.guest c.args.added c.if-guest-seats.true

pub returns-then-added-seats : goal.returns-then-added-seats
returns-then-added-seats c = join_from_beyond c.args.seats.now c.args.guest c.args.added c.if-added-seats.true

pub returns-then-guest-added : goal.returns-then-guest-added
returns-then-guest-added c = join_itself c.args.seats.now c.args.guest c.args.added c.if-guest-added.true

pub returns : goal.returns
returns c = c.are_few.ensures ∙ join_few c.args.seats.now c.args.guest c.args.added c.if-guest-seats.false c.if-added-seats.false c.if-guest-added.false (omega (arith, c.apart_of.ensures, c.if-apart_of-gt0.false))
