use Rattle.std.proofs.Common.{◌≡◌, ◌<◌, length, set, Some, ◌∙◌, ap, arith, subst}
use Rattle.vb_ram.specs.Pages.{Pages, Covers, Wrote, page_at}
use Rattle.vb_ram.proofs.PageLemmas.{page_read, wrote}
use Rattle.vb_ram.proofs.memory.RamGuestBytes.write.Goals as goal

pub returns-clause-bytes : goal.returns-clause-bytes
returns-clause-bytes c =
    let covers : Covers c.args.self.now c.args.page c.args.offset (length c.args.bytes.now) =
    c.in_ok-check.ensures.ok in
    let mem = c.self.inside.pages.items in
    let there : c.args.page < length mem =
    omega (arith, covers.page, ap (λ (now : Pages). length now) c.self.view_is) in
    let was : page_at mem c.args.page ≡ Some c.in-Some.frame =
    page_read mem c.args.page _ there c.index_mut.ensures.value ∙ c.in-Some.is in
    let done = wrote mem c.args.page c.args.offset c.args.bytes.now c.in-Some.frame c.put.new.self
    there was c.put.ensures.number c.put.ensures.len c.put.ensures.put in
    subst (λ (old : Pages). Wrote old (set mem c.args.page (Some c.put.new.self)) c.args.page
    c.args.offset c.args.bytes.now) c.self.view_is done
