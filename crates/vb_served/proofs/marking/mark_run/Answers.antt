use Rattle.std.proofs.Common.{◌≡◌, ◌<◌, ◌+◌, ◌∙◌, ℕ, List, ap, arith, get_or, length}
use Rattle.std.proofs.lemmas.List.{take_all, FromFn.{length-range_with_len, get_or-range_with_len}}
use Rattle.vb_core.specs.Ballooned.{is_entering}
use Rattle.vb_core.specs.Runs.{pages_of_run}
use Rattle.vb_device.specs.Discards.{flagged}
use Rattle.vb_device.proofs.Marks.{flagged_none, flag_more}
use Rattle.vb_served.proofs.marking.mark_run.Goals as goal

pub loop-k-init : goal.loop-k-init
loop-k-init c = flagged_none (is_entering c.args.marking) c.args.ballooned.now

pub loop-k-preserved : goal.loop-k-preserved
loop-k-preserved c =
    let pages : List ℕ = pages_of_run c.args.run in
    let lt : c.loop-k.k < length pages =
    omega (arith, c.loop-k-test.true, length-range_with_len c.args.run.first c.args.run.count) in
    let page : ℕ = c.from.result + c.from-in-loop-k.result in
    let at : get_or pages c.loop-k.k 0 ≡ page = grind (
      arith,
      get_or-range_with_len,
      c.loop-k-test.true,
      c.from.ensures,
      c.from-in-loop-k.ensures,
    ) in
    c.mark_page.ensures ∙ flag_more c.args.ballooned.now c.loop-k.ballooned pages c.loop-k.k
    page (is_entering c.args.marking) lt at c.loop-k.invariant

pub returns : goal.returns
returns c = c.loop-k.invariant
    ∙ ap (λ (ps : List ℕ). flagged ps (is_entering c.args.marking) c.args.ballooned.now)
    (take_all c.loop-k.k (pages_of_run c.args.run) (omega (
      arith,
      c.loop-k-test.false,
      length-range_with_len c.args.run.first c.args.run.count,
    )))
