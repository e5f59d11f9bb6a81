use Rattle.std.proofs.Common.{◌≡◌, ◌∙◌, true, take, ap, arith}
use Rattle.vb_ring.{specs.Ends.released, specs.Entries.is_head}
use Rattle.vb_ring.proofs.KeptLaws.{some_out, release_after}
use Rattle.vb_ring.proofs.owners.Owners.release.Goals as goal

pub overflow_sub-self : goal.overflow_sub-self
overflow_sub-self c = let owner = take c.self.inside.count c.self.inside.owner in
    let head : is_head owner c.args.head ≡ true =
    ap (λ xs. is_head xs c.args.head) c.self.view_is ∙ c.requires in
    some_out owner c.self.inside.count c.self.inside.out c.args.head c.self.inside.from
    c.self.inside.last c.self.invariant head

pub invariant_of-self : goal.invariant_of-self
invariant_of-self c = let owner = take c.self.inside.count c.self.inside.owner in
    let head : is_head owner c.args.head ≡ true =
    ap (λ xs. is_head xs c.args.head) c.self.view_is ∙ c.requires in
    release_after owner c.release.new.owner _ c.self.inside.count c.self.inside.out
    c.self.inside.from c.min-self-inside.result c.self.inside.last c.args.head c.self.invariant head
    (omega (arith, c.min-self-inside.ensures)) (omega (arith, c.min-self-inside.ensures))
    (c.release.ensures ∙ ap (λ k. released c.args.head (take k c.self.inside.owner)) c.from-2.ensures)
