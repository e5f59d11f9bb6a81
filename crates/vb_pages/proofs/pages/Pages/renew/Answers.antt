use Rattle.std.proofs.Common.{◌≡◌, ℕ, List, [], length, map, replicate, ap, ◌∙◌, arith}
use Rattle.vb_pages.specs.Areas.{unreserved}
use Rattle.vb_pages.proofs.{FreeLemmas.{free_of, nothing, flat-empty}, HeldLemmas.held_of}
use Rattle.vb_pages.proofs.PagesLemmas.{kept_at, state_of, same_state, fresh_kept, map_nothing}
use Rattle.vb_pages.proofs.pages.Pages.renew.Goals as goal

pub invariant_of-self : goal.invariant_of-self
invariant_of-self c = let f = c.self.inside.free in
    let n : held_of c.self.inside.held.pages [] ≡ held_of (length f.areas) [] =
    ap (λ (i : ℕ). held_of i []) c.self.invariant.pages in kept_at c.renew.new.self
    (free_of (unreserved (length f.areas) f.reserved) (map (λ (l : List ℕ). nothing) f.lists)
    f.reserved) c.clear.new.self (held_of (length f.areas) []) c.renew.ensures (c.clear.ensures ∙ n)
    (fresh_kept (length f.areas) f.reserved (map (λ (l : List ℕ). nothing) f.lists) (flat-empty f.lists))

pub returns : goal.returns
returns c = let f = c.self.inside.free in
    let v : state_of f c.self.inside.held.blocks ≡ c.args.self.now = c.self.view_is in
    let free : c.renew.new.self ≡ free_of (unreserved (length f.areas) f.reserved)
    (replicate (length f.lists) nothing) f.reserved = c.renew.ensures
    ∙ ap (λ (xs : List (List ℕ)). free_of (unreserved (length f.areas) f.reserved) xs f.reserved)
    (map_nothing f.lists) in grind (arith, same_state, free_of)
