use Rattle.std.proofs.Common.{rules, ◌≡◌, ◌∙◌, ◌+◌, ◌-◌, ◌<◌, ap, sym, subst, arith, ℕ}
use Rattle.std.proofs.Common.{List, Option, Some, None, length, take, drop, length-take, ◌≤◌}
use Rattle.vb_chain.specs.declared.{fault.ChainFault.ChainFault, pieces.Piece.Piece}
use Rattle.vb_core.specs.{Pieces.pieces_in, declared.pieces.ChainPiece.ChainPiece, Devices.ring_of}
use Rattle.vb_core.specs.declared.device.Device.{Device}
use Rattle.vb_monitor.specs.{Accesses.Access, Ends.Whole, declared.outcome.Tally.Tally}
use Rattle.vb_monitor.specs.Chains.{row_of, in_row, FollowsBy, Follows, longest}
use Rattle.vb_monitor.specs.{Chains.memory_end, Machine.serves}
use Rattle.vb_monitor.proofs.TableRowLemmas.{Tested, breaks_in_row, ends_in_row, goes_in_row}
use Rattle.vb_monitor.proofs.TableRowLemmas.{At, tested_within, none_left, room_for, one_there, longest_few}
use Rattle.vb_monitor.proofs.rows.walk_row.Goals.{After-chain_fault, After-place_in_row}
use Rattle.vb_monitor.proofs.rows.walk_row.Goals as goal

-- the descriptor that is next was tested
tested : (c : After-chain_fault) (o : Option ChainFault) → c.chain_fault.result ≡ o →
    Tested c.args.size c.args.end c.loop-fault.writing c.loop-fault.count c.loop-fault.pieces
    (take 16 (drop c.loop-fault.into c.args.row.now)) c.descriptor_at-descriptor.result o
tested c o e = tested_within c.args.size c.args.end c.loop-fault.writing c.loop-fault.count
    c.loop-fault.pieces (take 16 (drop c.loop-fault.into c.args.row.now))
    c.descriptor_at-descriptor.result o c.descriptor_at-descriptor.ensures
    c.loop-fault.invariant.room c.loop-fault.invariant.below
    (sym c.chain_fault.ensures ∙ e)

-- all pieces were seen before it
seen : (c : After-chain_fault) →
    c.loop-fault.count ≡ length (take c.loop-fault.count c.loop-fault.pieces)
seen c =
    let most = longest_few c.args.size in
    let below = c.loop-fault.invariant.below in
    let room = c.loop-fault.invariant.room in
    omega (arith, most, below, room, length-take c.loop-fault.count c.loop-fault.pieces)

-- it names another, which the row has or hasn't
onward : (c : After-place_in_row) (w : Whole) (d : Device) (t : Tally) (o : Option (List ℕ))
    (log : List Access) → Tested c.args.size c.args.end c.loop-fault.writing c.loop-fault.count
    c.loop-fault.pieces (take 16 (drop c.loop-fault.into c.args.row.now))
    c.descriptor_at-descriptor.result None →
    c.loop-fault.count ≡ length (take c.loop-fault.count c.loop-fault.pieces) →
    in_row (row_of c.args.walk.first c.args.row.now) c.descriptor_at-descriptor.result.next ≡ o →
    (ring_of w.kind d).size ≡ c.args.size → memory_end d ≡ c.args.end →
    FollowsBy o w d t
    (Follows (longest c.args.size - (c.loop-fault.count + 1 + 1)) w d t (serves w t d c.args.walk.head))
    (serves w t d c.args.walk.head) (row_of c.args.walk.first c.args.row.now)
    c.descriptor_at-descriptor.result.next c.is_writing-writing.result
    (pieces_in (take (c.loop-fault.count + 1) c.push_piece.new.pieces)) log →
    At w d t c.args.walk.head c.args.size (row_of c.args.walk.first c.args.row.now)
    c.args.walk.count c.args.walk.writing
    (pieces_in (take c.args.walk.count c.args.pieces.now)) (take 16 c.args.row.now) log
onward c w d t o log sound all has e f h =
    c.loop-fault.invariant.goes w d t log e f
    (goes_in_row c.args.size c.args.end w d t c.args.walk.head
    (row_of c.args.walk.first c.args.row.now) c.loop-fault.writing c.is_writing-writing.result
    c.loop-fault.count c.loop-fault.pieces
    (pieces_in (take (c.loop-fault.count + 1) c.push_piece.new.pieces))
    (take 16 (drop c.loop-fault.into c.args.row.now)) c.descriptor_at-descriptor.result o log
    sound (sym c.has_next.ensures ∙ c.if-not-has_next.false) all
    c.is_writing-writing.ensures c.push_piece.ensures has e f h)

pub returns-then-visited-from-clause-goes : goal.returns-then-visited-from-clause-goes
returns-then-visited-from-clause-goes c w d t log e f h =
    let most : longest c.args.size ≤ length (take c.args.walk.count c.args.pieces.now) =
    omega (
      arith,
      c.if-visited-from.true,
      c.from.ensures,
      c.longest.ensures,
      ap (λ (l : List ChainPiece). length l) c.first_pieces-visited.ensures,
    ) in
    none_left c.args.size c.args.end w d t c.args.walk.head
    (row_of c.args.walk.first c.args.row.now) c.args.walk.writing c.args.walk.count
    c.args.pieces.now (take 16 c.args.row.now) log most e f h

pub returns-in-Some-clause-goes : goal.returns-in-Some-clause-goes
returns-in-Some-clause-goes c w d t log e f h =
    c.loop-fault.invariant.goes w d t log e f
    (breaks_in_row c.args.size c.args.end w d t c.args.walk.head
    (row_of c.args.walk.first c.args.row.now) c.loop-fault.writing c.loop-fault.count
    c.loop-fault.pieces (take 16 (drop c.loop-fault.into c.args.row.now))
    c.descriptor_at-descriptor.result c.in-Some.fault log
    (tested (goal.at.returns-in-Some-clause-goes c).After-chain_fault _ c.in-Some.is) e f h)

pub returns-then-not-has_next-clause-goes : goal.returns-then-not-has_next-clause-goes
returns-then-not-has_next-clause-goes c w d t log e f h =
    c.loop-fault.invariant.goes w d t log e f
    (ends_in_row c.args.size c.args.end w d t c.args.walk.head
    (row_of c.args.walk.first c.args.row.now) c.loop-fault.writing c.loop-fault.count
    c.loop-fault.pieces (pieces_in (take (c.loop-fault.count + 1) c.push_piece.new.pieces))
    (take 16 (drop c.loop-fault.into c.args.row.now)) c.descriptor_at-descriptor.result log
    (tested (goal.at.returns-then-not-has_next-clause-goes c).After-chain_fault None
    c.in_default.is) (sym c.has_next.ensures ∙ c.if-not-has_next.true) c.push_piece.ensures e f h)

pub returns-in-None-clause-goes : goal.returns-in-None-clause-goes
returns-in-None-clause-goes c w d t log e f h =
    let at = goal.at.returns-in-None-clause-goes c in
    onward at.After-place_in_row w d t None log (tested at.After-chain_fault None c.in_default.is)
    (seen at.After-chain_fault) (search rules) e f
    (h (subst (λ (ps : List Piece). 0 < length ps) (sym c.push_piece.ensures) (one_there _ _)))

pub loop-fault-preserved : goal.loop-fault-preserved
loop-fault-preserved c = record {
  within = c.place_in_row.ensures.within c.in-Some-place_in_row.place c.in-Some-place_in_row.is;
  room = c.push_piece.array_long;
  since = omega (arith, c.loop-fault.invariant.since);
  below = room_for c.args.size c.args.end c.loop-fault.writing c.loop-fault.count
      c.descriptor_at-descriptor.result (sym c.chain_fault.ensures ∙ c.in_default.is)
      (sym c.has_next.ensures ∙ c.if-not-has_next.false);
  goes = λ w d t log e f h. onward (goal.at.loop-fault-preserved c).After-place_in_row w d t
      (Some (take 16 (drop c.in-Some-place_in_row.place c.args.row.now))) log
      (tested (goal.at.loop-fault-preserved c).After-chain_fault None c.in_default.is)
      (seen (goal.at.loop-fault-preserved c).After-chain_fault) (search rules) e f h;
}
