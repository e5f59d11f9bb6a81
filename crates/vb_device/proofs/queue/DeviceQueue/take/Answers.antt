use Rattle.std.proofs.{Common.{◌≡◌, true, ◌∙◌, ℕ, ◌∷◌, [], Result}, lemmas.List.Elements.All-append}
use Rattle.std.proofs.Common.{false, rules, ◌*◌, List, Option, Ok, Err, sym, ap}
use Rattle.{std.specs.Prelude.length, vb_device.specs.QueueState.{QueueState, IsTaken, is_full}}
use Rattle.vb_virtio.specs.Queues.{Request}
use Rattle.vb_virtio.specs.declared.statistics.LastStatistics.{LastStatistics}
use Rattle.{vb_ram.specs.Pages.Pages, vb_ring.specs.{declared.device.Taken.Taken, Ends.DeviceEnd}}
use Rattle.vb_chain.specs.declared.{fault.ChainFault.ChainFault, pieces.Piece.Piece}
use Rattle.{vb_chain.specs.Table.descriptor_at, vb_request.proofs.Chains.chain_fits}
use Rattle.vb_request.specs.{Asked.{request_of, noted}, declared.statistics.Statistics.Statistics}
use Rattle.vb_device.proofs.{FromNext.{next_busy, next_idle}, queue.DeviceQueue.take.Given.Over}
use Rattle.vb_device.proofs.Takes.{IsOpen, next_none, next_err, next_wrong, next_right, one_all}
use Rattle.vb_device.proofs.queue.DeviceQueue.take.Goals.{After-pop_descriptor_chain_into}
use Rattle.vb_device.proofs.queue.DeviceQueue.take.Goals as goal

-- what the device knows of its guest's memory
abbrev was : Statistics → LastStatistics
was last = record { free = last.free; total = last.total }

last_is : (last : Statistics) (said : LastStatistics) →
    (last.free ≡ said.free) × (last.total ≡ said.total) → was last ≡ said
last_is last said e = ap (λ (f : Option ℕ). record { free = f; total = last.total }) e.0 ∙
    ap (λ (t : Option ℕ). record { free = said.free; total = t }) e.1

-- the queue's size and the chain's pieces in the place of what was read
read_so : (q n size : ℕ) (mem : Pages) (read pieces : List Piece)
    (answer : Result (List ℕ) ChainFault) → n ≡ size → read ≡ pieces
    → request_of q n mem read ≡ answer → request_of q size mem pieces ≡ answer
read_so q n size mem read pieces answer e f h = ap (λ (k : ℕ). request_of q k mem pieces) (sym e)
    ∙ (ap (request_of q n mem) (sym f) ∙ h)

pub returns-then-is_full : goal.returns-then-is_full
returns-then-is_full g c =
    let full : is_full c.args.self.now.number c.args.self.now ≡ true = search rules in
    next_busy c.args.self.now.number (g.G.GuestBytes.mem c.args.ram.now) c.args.self.now
    (was c.args.last.now) full

pub returns-then-pages-eq0 : goal.returns-then-pages-eq0
returns-then-pages-eq0 g c =
    let free : is_full c.args.self.now.number c.args.self.now ≡ false = search rules in
    let none : length (g.G.GuestBytes.mem c.args.ram.now) ≡ 0 = search rules in
    next_idle c.args.self.now.number (g.G.GuestBytes.mem c.args.ram.now)
    c.args.self.now (was c.args.last.now) free none (c.requires.idle none)

-- the queue, as the call finds it
may_take : (g : Over) (c : After-pop_descriptor_chain_into g)
    → IsOpen c.self.inside.number c.self.inside.queue c.self.inside.taken
may_take g c = (
  ap (λ (x : QueueState). is_full x.number x) c.self.view_is
      ∙ (sym c.is_full.ensures ∙ c.if-is_full.false),
  ap (λ (x : QueueState). x.ring.ready) c.self.view_is ∙ c.requires.ready,
)

pub returns-in-Err : goal.returns-in-Err
returns-in-Err g c = let may = may_take g (goal.at.returns-in-Err g c).After-pop_descriptor_chain_into in
    rw (← c.self.view_is) (rw c.broken.ensures (next_err c.self.inside.number _ _ _ _
    (was c.args.last.now) c.in-Err.fault may c.in-Err.ensures.pops))

pub returns-in-None : goal.returns-in-None
returns-in-None g c =
    let may = may_take g (goal.at.returns-in-None g c).After-pop_descriptor_chain_into in
    let pops = rw c.in-None.is at c.in-Ok.ensures.pops in rw (← c.self.view_is)
    (next_none c.self.inside.number _ _ _ _ (was c.args.last.now) may pops)

pub take-requires-clause-inside : goal.take-requires-clause-inside
take-requires-clause-inside g c =
    let taken : Taken =
    record { head = c.in-Some.head; chain = c.pop_descriptor_chain_into.new.chain } in
    let pops = rw c.in-Some.is at c.in-Ok.ensures.pops in rw c.pieces.ensures
    (chain_fits (descriptor_at (g.G.GuestBytes.mem c.args.ram.now) c.self.inside.queue.layout.table)
    c.self.inside.queue.size (4096 * length (g.G.GuestBytes.mem c.args.ram.now))
    taken.head taken.chain pops.found.2)

pub invariant_of-self-in-Ok-take : goal.invariant_of-self-in-Ok-take
invariant_of-self-in-Ok-take g c =
    let taken : Taken =
    record { head = c.in-Some.head; chain = c.pop_descriptor_chain_into.new.chain } in
    let pops = rw c.in-Some.is at c.in-Ok.ensures.pops in
    let size : c.pop_descriptor_chain_into.new.self.size ≡ c.self.inside.queue.size =
    ap (λ (q : DeviceEnd). q.size) pops.state in
    let new : Request =
    record { head = taken.head; pages = c.in-Ok-take.ensures.taken.0; visited = 0 } in
    let is : IsTaken c.self.inside.queue.size new = record {
      head = pops.found.2.chain.inside;
      above = rw (← c.size.ensures) c.in-Ok-take.ensures.taken.2;
    } in rw size (rw c.in-Ok-take.ensures.taken.3
    (All-append (IsTaken c.self.inside.queue.size) c.self.inside.taken (new ∷ [])
    c.self.invariant (one_all (IsTaken c.self.inside.queue.size) new is)))

pub returns-in-Ok-take : goal.returns-in-Ok-take
returns-in-Ok-take g c =
    let may = may_take g (goal.at.returns-in-Ok-take g c).After-pop_descriptor_chain_into in
    let q : ℕ = c.self.inside.number in
    let mem : Pages = g.G.GuestBytes.mem c.args.ram.now in
    let taken : Taken =
    record { head = c.in-Some.head; chain = c.pop_descriptor_chain_into.new.chain } in
    let pops = rw c.in-Some.is at c.in-Ok.ensures.pops in
    let good : request_of q c.self.inside.queue.size mem taken.chain ≡
    Ok c.in-Ok-take.ensures.taken.0 =
    read_so q _ _ mem _ _ _ c.size.ensures c.pieces.ensures c.in-Ok-take.ensures.taken.1 in
    let said : was c.take.new.last ≡ noted q mem taken.chain (was c.args.last.now) =
    last_is c.take.new.last (noted q mem c.pieces.result.now (was c.args.last.now))
    c.in-Ok-take.ensures.said
    ∙ ap (λ (xs : List Piece). noted q mem xs (was c.args.last.now)) c.pieces.ensures in
    rw (← c.self.view_is) (rw c.in-Ok-take.ensures.taken.3
    (next_right q mem _ _ _ _ (was c.take.new.last) taken _ may pops good said))

pub returns-in-Err-take : goal.returns-in-Err-take
returns-in-Err-take g c =
    let may = may_take g (goal.at.returns-in-Err-take g c).After-pop_descriptor_chain_into in
    let q : ℕ = c.self.inside.number in
    let mem : Pages = g.G.GuestBytes.mem c.args.ram.now in
    let taken : Taken =
    record { head = c.in-Some.head; chain = c.pop_descriptor_chain_into.new.chain } in
    let pops = rw c.in-Some.is at c.in-Ok.ensures.pops in
    let bad : request_of q c.self.inside.queue.size mem taken.chain ≡ Err c.in-Err-take.wrong =
    read_so q _ _ mem _ _ _ c.size.ensures c.pieces.ensures c.in-Err-take.ensures.fault in
    rw (← c.self.view_is) (rw c.in-Err-take.ensures.kept
    (rw c.broken-in-Err-take.ensures (rw c.in-Err-take.ensures.err
    (next_wrong q mem _ _ _ _ (was c.args.last.now) taken c.in-Err-take.wrong may pops bad
    c.go_to_previous_position.ensures))))
