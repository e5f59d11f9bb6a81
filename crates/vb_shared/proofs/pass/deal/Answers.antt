use Rattle.std.proofs.Common.{◌≡◌, ℕ, ◌+◌, ◌-◌, [], ◌∷◌, ◌++◌, List, None, sym, ap, ◌∙◌, arith}
use Rattle.vb_shared.{specs.Rule.view_of, specs.Steps.{held_of, new_holdings}}
use Rattle.vb_shared.{specs.Passes.{Pass, new_passes}, proofs.Lists.new_passes_next}
use Rattle.vb_shared.proofs.pass.deal.Goals as goal

pub loop-tag-preserved : goal.loop-tag-preserved
loop-tag-preserved c =
    let i = c.loop-tag.invariant in
    let e = c.new_place-place.ensures in
    let tag : ℕ = c.loop-tag.tag in
    let less : c.args.guests - tag - 1 ≡ c.args.guests - (tag + 1) = omega arith in (
      e.tables.0 ∙ i.0,
      e.opener ∙ ap (λ (n : ℕ). (view_of (new_holdings (c.loop-tag.tag + 1) n), [])) less,
      c.in_ok-push.ensures.items ∙ ap (λ (passes : List Pass). passes ++ record {
        table = c.new_place-place.result.table_id;
        tag = c.loop-tag.tag;
        held = held_of c.new_place-place.result.me.0;
        found = None;
      } ∷ []) i.2 ∙ (λ k. new_passes c.args.opener.table_id 0 c.loop-tag.tag ++ record {
        table = (e.tables.1 ∙ i.0) k;
        tag = c.loop-tag.tag;
        held = held_of (e.pass k).0;
        found = None;
      } ∷ []) ∙ sym (new_passes_next c.args.opener.table_id c.loop-tag.tag),
    )
