use Rattle.std.proofs.Common.{arith, rules, subst, ◌≡◌, ◌+◌, ◌∷◌, List, drop, take}
use Rattle.vb_core.{specs.Pieces.pieces_in, specs.declared.pieces.ChainPiece.ChainPiece}
use Rattle.vb_monitor.specs.{Machine.{whole, served}, Pieces.parts_on, Steps.tally_of}
use Rattle.vb_monitor.specs.declared.room.TheConstants.{MAX_BYTES}
use Rattle.vb_monitor.proofs.{CopyLemmas.{copies_portion, few_pieces}, LeftLemmas.copies_fewer}
use Rattle.vb_monitor.proofs.copying.copy_on.Goals as goal

pub returns-then-into-eq-MAX_BYTES-clause-step : goal.returns-then-into-eq-MAX_BYTES-clause-step
returns-then-into-eq-MAX_BYTES-clause-step c after outcome log h =
    let w = whole c.args.regions.now c.args.kind after outcome in
    let t = tally_of c.args.step.now in
    let place = c.args.place in
    let found = c.in-Some.found in
    let is : c.args.into ≡ MAX_BYTES = search rules in
    copies_portion w (served w t place.head) c.args.device.now t c.args.into place.done
    (drop place.piece (pieces_in (take place.count c.args.room.now.pieces))) c.args.room.now.bytes
    found.part _ log is (omega arith)
    (subst (λ (ps : List ChainPiece). parts_on c.args.into place.done (drop place.piece (pieces_in ps)) ≡
    found.part ∷ parts_on (c.args.into + found.part.length) found.done (drop found.piece (pieces_in ps)))
    c.first_pieces-pieces.ensures c.in-Some.ensures.parts)
    (c.name_portion.ensures.step after outcome log h)

pub returns-else-into-eq-MAX_BYTES-clause-left : goal.returns-else-into-eq-MAX_BYTES-clause-left
returns-else-into-eq-MAX_BYTES-clause-left c =
    let lt = c.in-Some.ensures.fewer (few_pieces c.args.place.count c.args.room.now.pieces
    c.first_pieces-pieces.result.now c.first_pieces-pieces.ensures (omega arith)) in
    let less = copies_fewer c.args.regions.now c.args.place.piece c.args.place.done
    c.in-Some.found.piece c.in-Some.found.done lt in
    omega (arith, less, c.ask_part.ensures.left)
