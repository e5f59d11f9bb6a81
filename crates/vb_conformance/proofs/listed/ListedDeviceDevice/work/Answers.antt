use Rattle.std.proofs.Common.{◌≡◌, ◌≤◌, List, Bool, sym, subst, length}
use Rattle.std.specs.Prelude.{vec_capacity, MatchOption, ⊤}
use Rattle.vb_virtio.specs.Tests.{pages_where}
use Rattle.vb_conformance.{specs.declared.listed.PageList.PageList, proofs.PageLists.work_keeps}
use Rattle.vb_conformance.proofs.listed.ListedDeviceDevice.work.Goals as goal

pub invariant_of-self : goal.invariant_of-self
invariant_of-self c = subst (λ (flags : List Bool). MatchOption c.self.inside.listed ⊤
    (λ (list : PageList). (length flags ≡ list.pages) × (list.pages ≤ vec_capacity list.numbers)
    × (list.numbers.items ≡ pages_where (λ flag. flag) flags)))
    (sym (work_keeps _ _ _ _ _ c.work.ensures)) c.self.invariant
