use Rattle.std.proofs.Common.{◌≡◌, ◌∙◌, ◌+◌, ◌%◌, Ok, length, take, sym, ap, subst, arith}
use Rattle.std.specs.Prelude.{slice_index}
use Rattle.vb_virtio.proofs.Tables.{length-each_from}
use Rattle.vb_chain.specs.Written.{IsRoute}
use Rattle.vb_ring.specs.contracts.driver.DriverRing.{the_view}
use Rattle.vb_ring.{specs.Numbers.numbers, specs.Ends.{DriverEnd, is_unused, next_path}}
use Rattle.vb_ring.{specs.Calls.AddsBy, proofs.Assemble.{adds_along, next_route, next_chain}}
use Rattle.vb_ring.proofs.driver.DriverRing.add_along.Goals as goal

pub write_chain-requires-clause-route : goal.write_chain-requires-clause-route
write_chain-requires-clause-route g c = let old : DriverEnd = the_view c.self.inside in
    let along : c.deref-path.result.now ≡ next_path old (length c.args.pieces.now) =
    c.deref-path.ensures.0 ∙ c.find_free.ensures.found c.if-not-find_free.false ∙ ap (λ k. take
    (length c.args.pieces.now) (numbers (is_unused old.owner) k)) c.self.invariant.table in
    subst (IsRoute old.size) (sym along) (next_route old (length c.args.pieces.now))

pub claim-requires : goal.claim-requires
claim-requires g c = let old : DriverEnd = the_view c.self.inside in
    let along : c.deref-path.result.now ≡ next_path old (length c.args.pieces.now) =
    c.deref-path.ensures.0 ∙ c.find_free.ensures.found c.if-not-find_free.false ∙ ap (λ k. take
    (length c.args.pieces.now) (numbers (is_unused old.owner) k)) c.self.invariant.table in
    let count : length c.deref-path.result.now ≡ length c.args.pieces.now =
    ap length c.deref-path.ensures.0 ∙ c.find_free.ensures.count c.if-not-find_free.false in
    next_chain old
    (length c.args.pieces.now) c.deref-path.result.now c.self.invariant c.requires.some along count

pub invariant_of-self : goal.invariant_of-self
invariant_of-self g c = grind (arith, length-each_from)

pub returns-clause-adds : goal.returns-clause-adds
returns-clause-adds g c = let old : DriverEnd = the_view c.self.inside in
    let along : c.deref-path.result.now ≡ next_path old (length c.args.pieces.now) =
    c.deref-path.ensures.0 ∙ c.find_free.ensures.found c.if-not-find_free.false ∙ ap (λ k. take
    (length c.args.pieces.now) (numbers (is_unused old.owner) k)) c.self.invariant.table in
    let count : length c.deref-path.result.now ≡ length c.args.pieces.now =
    ap length c.deref-path.ensures.0 ∙ c.find_free.ensures.count c.if-not-find_free.false in
    subst (λ (v : DriverEnd). AddsBy (g.G.GuestBytes.mem c.args.ram.now)
    (g.G.GuestBytes.mem c.put_avail.new.ram) v
    (record old { published = (old.published + 1) % 65536; owner = c.claim.new.self })
    c.args.pieces.now (Ok (slice_index c.deref-path.result.now 0))) c.self.view_is
    (adds_along (g.G.GuestBytes.mem c.args.ram.now) (g.G.GuestBytes.mem c.write_chain.new.ram)
    (g.G.GuestBytes.mem c.put_avail.new.ram) old c.args.pieces.now c.deref-path.result.now
    c.claim.new.self along c.self.invariant c.requires.some count c.write_chain.ensures.put
    c.write_chain.ensures.others c.write_chain.ensures.rest c.put_avail.ensures.puts
    c.claim.ensures)

pub new-path-requires : goal.new-path-requires
new-path-requires g c = omega (arith, c.requires.few)

pub find_free-requires : goal.find_free-requires
find_free-requires g c = search (arith)

pub deref-path-requires : goal.deref-path-requires
deref-path-requires g c = omega (arith, c.requires.few)
