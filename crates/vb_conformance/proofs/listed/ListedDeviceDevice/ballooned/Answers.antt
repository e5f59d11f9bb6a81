use Rattle.std.{proofs.Common.{◌≡◌, ◌∙◌, ◌≤◌, List, ℕ, ap, length}, specs.Prelude.vec_capacity}
use Rattle.vb_virtio.specs.Tests.{is_in, pages_where}
use Rattle.vb_model.specs.Guest.{is_ballooned}
use Rattle.vb_device.specs.State.{DeviceState}
use Rattle.vb_conformance.{specs.declared.listed.PageList.PageList, proofs.PageLists.{told, listed_is}}
use Rattle.vb_conformance.proofs.listed.ListedDeviceDevice.ballooned.Goals as goal

pub returns-in-Some : goal.returns-in-Some
returns-in-Some c =
    let facts = told (λ (list : PageList). (length c.self.inside.inner.part.ballooned ≡ list.pages)
    × (list.pages ≤ vec_capacity list.numbers)
    × (list.numbers.items ≡ pages_where (λ flag. flag) c.self.inside.inner.part.ballooned))
    c.self.inside.listed c.in-Some.list c.in-Some.is c.self.invariant in
    c.has.ensures ∙ (ap (λ (xs : List ℕ). is_in c.args.page xs) facts.2
    ∙ (listed_is c.self.inside.inner.part.ballooned c.args.page
    ∙ ap (λ (v : DeviceState). is_ballooned v.part.ballooned c.args.page) c.self.view_is))
