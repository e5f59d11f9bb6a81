use Rattle.std.proofs.Common.{◌∙◌, ◌-◌, ℕ, List, Option, length, take, sym, ap, subst, arith, refl}
use Rattle.std.specs.Prelude.{slice_index}
use Rattle.vb_ring.{specs.Kept.IsFreeChain, specs.Ends.claimed, proofs.Numbers.length-numbers}
use Rattle.vb_ring.proofs.KeptLaws.{claim_after}
use Rattle.vb_ring.proofs.owners.Owners.claim.Goals as goal

pub overflow_add-self : goal.overflow_add-self
overflow_add-self c = search (arith)

pub overflow_add-self-2 : goal.overflow_add-self-2
overflow_add-self-2 c = grind (arith, length-numbers)

pub invariant_of-self : goal.invariant_of-self
invariant_of-self c = let owner = take c.self.inside.count c.self.inside.owner in
    let path = c.args.path.now in
    claim_after owner c.claim.new.owner _ c.self.inside.count c.self.inside.out c.self.inside.from
    c.self.inside.last path c.from-2.result (slice_index path 0) (slice_index path (length path - 1))
    c.self.invariant c.self.told
    (subst (λ (xs : List (Option ℕ)). IsFreeChain xs path) (sym c.self.view_is) c.requires)
    refl refl c.from-2.ensures (c.claim.ensures
    ∙ ap (λ k. claimed path (slice_index path 0) (take k c.self.inside.owner)) c.from.ensures)
