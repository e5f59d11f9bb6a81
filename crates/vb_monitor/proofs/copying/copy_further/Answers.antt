use Rattle.std.proofs.Common.{arith}
use Rattle.vb_monitor.proofs.{CopyLemmas.few_pieces, LeftLemmas.copies_fewer}
use Rattle.vb_monitor.proofs.copying.copy_further.Goals as goal

pub returns-in-Some-clause-left : goal.returns-in-Some-clause-left
returns-in-Some-clause-left c =
    let lt = c.in-Some.ensures.fewer (few_pieces c.args.place.count c.args.room.now.pieces
    c.first_pieces-pieces.result.now c.first_pieces-pieces.ensures (omega arith)) in
    let less = copies_fewer c.args.regions.now c.args.place.piece c.args.place.done
    c.in-Some.found.piece c.in-Some.found.done lt in
    omega (arith, less, c.ask_part.ensures.left)
