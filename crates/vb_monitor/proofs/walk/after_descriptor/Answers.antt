use Rattle.std.proofs.Common.{◌≡◌, ◌∙◌, ◌+◌, ◌-◌, ap, sym, subst, ℕ, List, take}
use Rattle.vb_core.specs.declared.{device.Device.Device, ring.Virtqueue.Virtqueue}
use Rattle.vb_core.specs.{Devices.ring_of, Pieces.pieces_in}
use Rattle.vb_monitor.specs.declared.{outcome.Outcome.Outcome, rows.RowEnd.RowEnd}
use Rattle.vb_monitor.specs.{Accesses.Access, Rows.EndsRow}
use Rattle.vb_monitor.specs.Machine.{whole, serves, row_in, row_bytes}
use Rattle.vb_monitor.specs.Chains.{longest, row_of, Follows}
use Rattle.vb_monitor.proofs.TableRowLemmas.{At}
use Rattle.vb_monitor.proofs.walk.after_descriptor.Goals.{After-walk_row-walked}
use Rattle.vb_monitor.specs.Steps.{tally_of}
use Rattle.vb_monitor.proofs.walk.after_descriptor.Goals as goal

-- what the walk within the row ends in
goes : (c : After-walk_row-walked) (after : Device) (outcome : Outcome) (log : List Access) (end : RowEnd)
    → c.walk_row-walked.result.end ≡ end →
    EndsRow end (whole c.args.regions.now c.args.kind after outcome) c.args.device.now
    (tally_of c.args.step.now) (Follows (longest (ring_of c.args.kind c.args.device.now).size
    - (c.walk_row-walked.result.count + 1)) (whole c.args.regions.now c.args.kind after outcome)
    c.args.device.now (tally_of c.args.step.now)
    (serves (whole c.args.regions.now c.args.kind after outcome) (tally_of c.args.step.now) c.args.device.now
    c.args.walk.head)) (serves (whole c.args.regions.now c.args.kind after outcome) (tally_of c.args.step.now)
    c.args.device.now c.args.walk.head) c.walk_row-walked.result.writing
    (pieces_in (take c.walk_row-walked.result.count c.walk_row-walked.new.pieces)) log →
    At (whole c.args.regions.now c.args.kind after outcome) c.args.device.now (tally_of c.args.step.now)
    c.args.walk.head (ring_of c.args.kind c.args.device.now).size
    (row_in c.args.walk c.args.room.now.bytes) c.args.walk.count c.args.walk.writing
    (pieces_in (take c.args.walk.count c.args.room.now.pieces))
    (take 16 (take (row_bytes c.args.walk) c.args.room.now.bytes)) log
goes c after outcome log end is =
    let w = whole c.args.regions.now c.args.kind after outcome in
    let d = c.args.device.now in
    let t = (tally_of c.args.step.now) in
    let walk = c.args.walk in
    let walked = c.walk_row-walked.result in
    let ps = pieces_in (take walk.count c.args.room.now.pieces) in
    let qs = pieces_in (take walked.count c.walk_row-walked.new.pieces) in
    let size : c.ring-size.result.size ≡ (ring_of c.args.kind d).size =
    ap (λ (r : Virtqueue). r.size) c.ring-size.ensures in
    let copied : c.first_bytes-row.result.now ≡ take (row_bytes walk) c.args.room.now.bytes =
    c.first_bytes-row.ensures ∙ ap (λ (n : ℕ). take n c.args.room.now.bytes) c.row_bytes.ensures in
    subst (λ (end : RowEnd). EndsRow end w d t (Follows (longest (ring_of c.args.kind d).size
    - (walked.count + 1)) w d t (serves w t d walk.head)) (serves w t d walk.head) walked.writing
    qs log → At w d t walk.head (ring_of c.args.kind d).size
    (row_in walk c.args.room.now.bytes) walk.count walk.writing ps
    (take 16 (take (row_bytes walk) c.args.room.now.bytes)) log) is
    (subst (λ (n : ℕ). EndsRow walked.end w d t (Follows (longest n - (walked.count + 1)) w d t
    (serves w t d walk.head)) (serves w t d walk.head) walked.writing qs log →
    At w d t walk.head n (row_in walk c.args.room.now.bytes) walk.count walk.writing ps
    (take 16 (take (row_bytes walk) c.args.room.now.bytes)) log) size
    (subst (λ (row : List ℕ). EndsRow walked.end w d t
    (Follows (longest c.ring-size.result.size - (walked.count + 1)) w d t (serves w t d walk.head))
    (serves w t d walk.head) walked.writing qs log →
    At w d t walk.head c.ring-size.result.size (row_of walk.first row) walk.count walk.writing ps
    (take 16 row) log) copied
    (c.walk_row-walked.ensures.goes w d t log (sym size) (sym c.memory_end-end.ensures))))

pub returns-in-Broken-clause-step : goal.returns-in-Broken-clause-step
returns-in-Broken-clause-step c after outcome log h =
    goes (goal.at.returns-in-Broken-clause-step c).After-walk_row-walked after outcome log _ c.in-Broken.is
    (c.fail.ensures.step after outcome
    (record c.args.room.now { pieces = c.walk_row-walked.new.pieces }) log h)

pub returns-in-Last-clause-step : goal.returns-in-Last-clause-step
returns-in-Last-clause-step c after outcome log h =
    goes (goal.at.returns-in-Last-clause-step c).After-walk_row-walked after outcome log _ c.in-Last.is
    (c.serve_pieces.ensures.step after outcome log h)

pub returns-in-Leaves-clause-step : goal.returns-in-Leaves-clause-step
returns-in-Leaves-clause-step c after outcome log h =
    goes (goal.at.returns-in-Leaves-clause-step c).After-walk_row-walked after outcome log _ c.in-Leaves.is
    (λ some. c.ask_next.ensures.step after outcome
    (record c.args.room.now { pieces = c.walk_row-walked.new.pieces }) log
    some h)
