use Rattle.std.proofs.Common.{◌≡◌, ◌<◌, length, set, List, ℕ, Option, Some, ◌∙◌, sym, ap, arith, subst}
use Rattle.vb_virtio.specs.Memory.{zero_page}
use Rattle.vb_ram.specs.{Pages.{Page, Pages, Cleared, contents_of, page_at}, Put.PutAt}
use Rattle.vb_ram.proofs.{Contents.length-zero_page, PageLemmas.{page_read, wrote, cleared}}
use Rattle.vb_ram.proofs.PageLemmas.{put_zeros, is_memory-set}
use Rattle.vb_ram.proofs.memory.RamGuestBytes.clear_page.Goals as goal

pub invariant_of-self-2 : goal.invariant_of-self-2
invariant_of-self-2 c = let mem = c.self.inside.pages.items in
    let covers = c.in_ok-check.ensures.ok in
    let there : c.args.page < length mem =
    omega (arith, covers.page, ap (λ (now : Pages). length now) c.self.view_is) in
    let full : length c.clear.new.self.bytes ≡ 4096 =
    ap (λ (frame : Page). length frame.bytes) c.clear.ensures ∙ length-zero_page in
    is_memory-set _ mem c.args.page (Some c.clear.new.self) there c.self.invariant full

pub returns-clause-cleared : goal.returns-clause-cleared
returns-clause-cleared c = let mem = c.self.inside.pages.items in
    let covers = c.in_ok-check.ensures.ok in
    let there : c.args.page < length mem =
    omega (arith, covers.page, ap (λ (now : Pages). length now) c.self.view_is) in
    let was : page_at mem c.args.page ≡ Some c.in-Some.frame =
    page_read mem c.args.page _ there c.index_mut.ensures.value ∙ c.in-Some.is in
    let old : Page = c.in-Some.frame in
    let new : Page = c.clear.new.self in
    let number : new.number ≡ old.number = ap (λ (frame : Page). frame.number) c.clear.ensures in
    let zeros : new.bytes ≡ zero_page = ap (λ (frame : Page). frame.bytes) c.clear.ensures in
    let whole : length old.bytes ≡ 4096 = ap (λ (page : Option Page). length (contents_of page))
    (sym was) ∙ c.self.invariant.whole.sizes c.args.page in
    let put : PutAt old.bytes new.bytes 0 zero_page =
    subst (λ (bytes : List ℕ). PutAt old.bytes bytes 0 zero_page) (sym zeros)
    (put_zeros old.bytes whole) in
    let size : length new.bytes ≡ length old.bytes =
    ap (λ (bytes : List ℕ). length bytes) zeros ∙ length-zero_page ∙ sym whole in
    subst (λ (m : Pages). Cleared m (set mem c.args.page (Some new)) c.args.page) c.self.view_is
    (cleared mem (set mem c.args.page (Some new)) c.args.page
    (wrote mem c.args.page 0 zero_page old new there was number size put))
