use Rattle.std.proofs.Common.{rules, ◌≡◌, ◌+◌, ◌*◌, ◌∷◌, ◌++◌, [], List, ℕ, ap, sym, ◌∙◌, arith}
use Rattle.std.proofs.Common.{false, subst, Bool, ◌||◌}
use Rattle.vb_chain.specs.{declared.pieces.Piece.Piece, Table.descriptor_at, Rules.first_fault}
use Rattle.vb_chain.specs.{Rules.{piece_of, has_next, is_writable}, Chain.FaultGives}
use Rattle.vb_chain.proofs.Walking.{Walked, walked_init, walked_fault, walked_chain, walked_more}
use Rattle.vb_chain.proofs.steps.follow.Goals as goal

pub loop-visited-init : goal.loop-visited-init
loop-visited-init g c = let d = descriptor_at (g.G.GuestBytes.mem c.args.ram.now) c.args.table in
    let start = walked_init d c.args.size (4096 * c.from.result) c.args.head (omega arith) in
    record {
      more = omega arith;
      inside = omega arith;
      walked = (
        c.args.head ∷ [],
        subst (λ (ps : List Piece). Walked d c.args.size (4096 * c.from.result) c.args.head
            (c.args.head ∷ []) 0 c.args.head false ps) (sym c.requires.empty) start,
      );
    }

pub returns-in-Some-clause-fault : goal.returns-in-Some-clause-fault
returns-in-Some-clause-fault g c =
    let d = descriptor_at (g.G.GuestBytes.mem c.args.ram.now) c.args.table in
    let end = 4096 * c.from.result in
    let broken = ap (first_fault c.args.size end c.loop-visited.writing c.loop-visited.visited)
    (sym c.read_descriptor-descriptor.ensures) ∙ sym c.descriptor_fault.ensures ∙ c.in-Some.is in
    let told = walked_fault d c.args.size end c.args.head c.loop-visited.invariant.walked.0 _ _ _ _
    c.in-Some.fault c.loop-visited.invariant.walked.1 broken in
    subst (λ (n : ℕ). FaultGives d c.args.size (4096 * n) c.args.head c.in-Some.fault)
    (c.from.ensures ∙ c.pages.ensures) told

pub returns-then-not-has_next-clause-chain : goal.returns-then-not-has_next-clause-chain
returns-then-not-has_next-clause-chain g c = grind (arith, walked_chain)

pub loop-visited-preserved : goal.loop-visited-preserved
loop-visited-preserved g c =
    let d = descriptor_at (g.G.GuestBytes.mem c.args.ram.now) c.args.table in
    let end = 4096 * c.from.result in
    let x = c.read_descriptor-descriptor.result in
    let is : x ≡ d c.loop-visited.index = c.read_descriptor-descriptor.ensures in
    let sound = ap (first_fault c.args.size end c.loop-visited.writing c.loop-visited.visited)
    (sym is) ∙ sym c.descriptor_fault.ensures ∙ c.in_default.is in
    let more = ap has_next (sym is) ∙ sym c.has_next.ensures ∙ c.if-not-has_next.false in
    let path = c.loop-visited.invariant.walked.0 in
    let W : ℕ → Bool → List Piece → Type 0 = λ n b ps. Walked d c.args.size end c.args.head
    (path ++ (d c.loop-visited.index).next ∷ []) (c.loop-visited.visited + 1) n b ps in
    let pieces : c.push.new.self ≡ c.loop-visited.chain ++ piece_of (d c.loop-visited.index) ∷ [] =
    c.push.ensures ∙ ap (λ (b : Bool). c.loop-visited.chain
    ++ record { addr = x.addr; len = x.len; writable = b } ∷ []) c.is_writable-writable.ensures
    ∙ ap (λ y. c.loop-visited.chain ++ piece_of y ∷ []) is in
    let step = walked_more d c.args.size end c.args.head path _ _ _ _
    c.loop-visited.invariant.walked.1 sound more in record {
      more = search rules;
      inside = search rules;
      walked = (
        path ++ (d c.loop-visited.index).next ∷ [],
        subst (λ (n : ℕ). W n (c.loop-visited.writing || c.is_writable-writable.result)
            c.push.new.self) (ap (λ y. y.next) (sym is))
            (subst (λ (b : Bool). W (d c.loop-visited.index).next (c.loop-visited.writing || b)
            c.push.new.self) (ap is_writable (sym is) ∙ sym c.is_writable-writable.ensures)
            (subst (λ (ps : List Piece). W (d c.loop-visited.index).next
            (c.loop-visited.writing || is_writable (d c.loop-visited.index)) ps) (sym pieces)
            step)),
      );
    }
