use Rattle.std.proofs.{Common.{◌≡◌, ◌<◌, List, length, subst, ◌∙◌, sym}, lemmas.List.get_or_default}
use Rattle.{std.proofs.Common.ℕ, vb_pages.specs.FreePages.{FreePages, list_of, TakesSingle}}
use Rattle.vb_pages.proofs.{ServingLemmas.{takes_any_sound, single_sound}, FreeLemmas.free_of}
use Rattle.vb_pages.proofs.FreeLemmas.{nothing}
use Rattle.vb_pages.proofs.free.FreePages.take_once.Goals as goal

pub invariant_of-self : goal.invariant_of-self
invariant_of-self c =
    takes_any_sound (free_of c.self.inside.areas c.self.inside.lists.items c.self.inside.reserved) c.take.new.self
    c.args.order c.take.result c.self.invariant c.take.ensures

pub invariant_of-self-2 : goal.invariant_of-self-2
invariant_of-self-2 c =
    let f = free_of c.self.inside.areas c.self.inside.lists.items c.self.inside.reserved in
    let v : f ≡ c.args.self.now = c.self.view_is in
    let l : c.args.cpu < length f.lists =
    subst (λ (x : FreePages). c.args.cpu < length x.lists) (sym v) c.requires.cpu in
    let item : c.index_mut.result.now ≡ list_of f c.args.cpu = c.index_mut.ensures.value
    ∙ get_or_default f.lists c.args.cpu c.index_mut.result.now nothing l in
    single_sound f c.args.cpu c.take-2.new.areas c.take-2.new.self c.take-2.result c.self.invariant
    l (subst (λ (xs : List ℕ). TakesSingle f.areas xs c.take-2.result c.take-2.new.areas
    c.take-2.new.self) item c.take-2.ensures)
