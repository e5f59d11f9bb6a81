use Rattle.std.proofs.Common.{◌≡◌, ◌∙◌, ◌≤◌, List, ℕ, Bool, ap, length}
use Rattle.std.specs.Prelude.{vec_capacity, count_by}
use Rattle.vb_virtio.specs.Tests.{pages_where}
use Rattle.vb_device.specs.State.{DeviceState}
use Rattle.vb_conformance.specs.declared.listed.PageList.{PageList}
use Rattle.vb_conformance.proofs.PageLists.{told, listed_count, listed_fits}
use Rattle.vb_conformance.proofs.listed.ListedDeviceDevice.ballooned_count.Goals as goal

pub count-requires : goal.count-requires
count-requires c =
    let facts = told (λ (list : PageList). (length c.self.inside.inner.part.ballooned ≡ list.pages)
    × (list.pages ≤ vec_capacity list.numbers)
    × (list.numbers.items ≡ pages_where (λ flag. flag) c.self.inside.inner.part.ballooned))
    c.self.inside.listed c.in-Some.list c.in-Some.is c.self.invariant in
    listed_fits c.self.inside.inner.part.ballooned c.in-Some.list.numbers.items c.in-Some.list.pages
    facts.0 facts.2

pub returns-in-Some : goal.returns-in-Some
returns-in-Some c =
    let facts = told (λ (list : PageList). (length c.self.inside.inner.part.ballooned ≡ list.pages)
    × (list.pages ≤ vec_capacity list.numbers)
    × (list.numbers.items ≡ pages_where (λ flag. flag) c.self.inside.inner.part.ballooned))
    c.self.inside.listed c.in-Some.list c.in-Some.is c.self.invariant in
    c.count.ensures
    ∙ (ap (λ (xs : List ℕ). length xs) facts.2 ∙ (listed_count c.self.inside.inner.part.ballooned
    ∙ ap (λ (v : DeviceState). count_by (λ (flag : Bool). flag) v.part.ballooned) c.self.view_is))
