use Rattle.std.proofs.Common.{◌≡◌, ◌/◌, ◌%◌, ◌^◌, List, Bool, ℕ, sym, ◌∙◌, ap}
use Rattle.{vb_bits.specs.Sets.has, vb_pages.specs.Table.{order_at, set_of_order}}
use Rattle.vb_pages.proofs.{Aligned.multiple_of, TableLemmas.{member_listed, listed_member}}
use Rattle.vb_pages.proofs.table.Table.is_listed.Goals as goal

pub returns-then-page-size-eq0 : goal.returns-then-page-size-eq0
returns-then-page-size-eq0 c = let t = c.args.self.now in
    let p = c.args.page in
    let k = c.args.order in
    let size : c.size_of-size.result ≡ 2 ^ k = c.size_of-size.ensures.size in
    let aligned : p % 2 ^ k ≡ 0 = ap (λ (n : ℕ). p % n) (sym size) ∙ c.if-page-size-eq0.true in
    let member : c.contains.result ≡ has (set_of_order k t) (p / 2 ^ k) = c.contains.ensures
    ∙ ap (λ (xs : List Bool). has xs (p / c.size_of-size.result)) c.of_order-blocks.ensures.set
    ∙ ap (λ (n : ℕ). has (set_of_order k t) (p / n)) size in (
      λ h. ap (order_at t) (sym (multiple_of p (2 ^ k) aligned))
          ∙ member_listed t k (p / 2 ^ k) (sym member ∙ h),
      λ h. member ∙ listed_member t k p c.of_order-blocks.ensures.blocks h,
    )
