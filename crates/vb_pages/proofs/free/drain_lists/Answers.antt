use Rattle.std.proofs.Common.{◌≡◌, ◌<◌, ◌+◌, ℕ, List, length, get_or, ap, ◌∙◌}
use Rattle.std.{proofs.Common.arith, specs.Prelude.count_by, proofs.lemmas.List.get_or_default}
use Rattle.vb_pages.proofs.FreeLemmas.{drained_none, next_once, next_drained}
use Rattle.vb_pages.{specs.Areas.with_pages, proofs.FreeLemmas.{all_drained, nothing}}
use Rattle.vb_pages.proofs.free.drain_lists.Goals as goal

pub loop-list-init : goal.loop-list-init
loop-list-init c = drained_none c.args.areas.now c.args.lists.now

pub drain-requires : goal.drain-requires
drain-requires c = grind (arith, get_or_default, nothing, next_once)

pub loop-list-preserved : goal.loop-list-preserved
loop-list-preserved c = let i = c.loop-list.list-index in
    let inside : i < length c.loop-list.lists = omega (arith, c.loop-list.auto.lists) in
    let item : get_or c.loop-list.lists i c.list-item.result ≡ get_or c.loop-list.lists i nothing =
    get_or_default c.loop-list.lists i c.list-item.result nothing inside in
    let areas : c.drain.new.areas
    ≡ with_pages (get_or c.loop-list.lists i nothing) c.loop-list.areas =
    c.drain.ensures.areas ∙ ap (λ (xs : List ℕ). with_pages xs c.loop-list.areas) item in
    let count : count_by (λ f. f) c.drain.new.areas
    ≡ count_by (λ f. f) c.loop-list.areas + length (get_or c.loop-list.lists i nothing) =
    omega (arith, c.drain.ensures.count, ap length item) in rw c.drain.ensures.empty
    (next_drained c.args.areas.now c.args.lists.now c.requires i c.loop-list.areas c.loop-list.lists
    c.loop-list.invariant c.loop-list-test.true c.drain.new.areas areas count)

pub returns : goal.returns
returns c = grind (
  arith,
  all_drained c.args.areas.now c.args.lists.now c.loop-list.list-index c.loop-list.areas c.loop-list.lists c.loop-list-test.false c.loop-list.invariant,
)
