use Rattle.std.proofs.Common.{◌∙◌, sym, ap, arith, ℕ, List, Bool, true, false, cond, length, set}
use Rattle.std.{proofs.Common.{take, get_or}, proofs.lemmas.List.take_more}
use Rattle.vb_pages.{specs.Areas.block_at, specs.PageState.with_free_block}
use Rattle.vb_driver.{specs.Areas.{flags_of, is_free_at, all_given}, specs.Places.marked}
use Rattle.vb_driver.proofs.Placing.{is_in-at, length-marked, marked-get, marked_more, marked_none}
use Rattle.vb_driver.proofs.Flags.{for_itself, for_both, not_before, given_more}
use Rattle.vb_driver.proofs.areas.Allocator.give_all.Goals as goal

pub loop-page-init : goal.loop-page-init
loop-page-init c = grind (arith, marked_none, for_itself)

pub give_free-requires-clause-unreserved : goal.give_free-requires-clause-unreserved
give_free-requires-clause-unreserved c = let i = c.loop-page.page-index in omega (
  arith,
  c.loop-page.invariant.0.same.reserved,
  c.requires.unreserved (get_or c.args.pages.now i 0)
      (is_in-at c.args.pages.now i c.loop-page-test.true),
)

pub give_free-requires-clause-inside : goal.give_free-requires-clause-inside
give_free-requires-clause-inside c = let pages = c.args.pages.now in
    let i = c.loop-page.page-index in
    let here = c.requires.inside (get_or pages i 0) (is_in-at pages i c.loop-page-test.true) in
    omega (
      arith,
      here,
      ap (λ (l : List Bool). length l) c.loop-page.invariant.0.free,
      length-marked (take i pages) true (flags_of c.args.self.now.free),
    )

pub give_free-requires-clause-taken : goal.give_free-requires-clause-taken
give_free-requires-clause-taken c = let pages = c.args.pages.now in
    let i = c.loop-page.page-index in let x = get_or pages i 0 in
    let old = flags_of c.args.self.now.free in
    ap (λ (l : List Bool). is_free_at l x) c.loop-page.invariant.0.free ∙ (marked-get
    (take i pages) true old x false (c.requires.inside x (is_in-at pages i c.loop-page-test.true))
    ∙ (ap (λ (v : Bool). cond v true (is_free_at old x))
    (not_before pages i c.loop-page-test.true (c.requires.once x))
    ∙ c.requires.taken x (is_in-at pages i c.loop-page-test.true)))

pub give_free-requires-clause-uncovered : goal.give_free-requires-clause-uncovered
give_free-requires-clause-uncovered c = grind (arith, is_in-at)

pub loop-page-preserved : goal.loop-page-preserved
loop-page-preserved c = let pages = c.args.pages.now in let i = c.loop-page.page-index in
    let x = get_or pages i 0 in let old = c.args.self.now in
    let more = take_more pages i 0 c.loop-page-test.true in (
      record {
        free = c.give_free.ensures.state.free ∙ (ap (λ (l : List Bool). set l x true)
            c.loop-page.invariant.0.free ∙ (sym (marked_more (take i pages) x true
            (flags_of old.free) (c.requires.inside x (is_in-at pages i c.loop-page-test.true)))
            ∙ ap (λ (l : List ℕ). marked l true (flags_of old.free)) (sym more)));
        held = c.give_free.ensures.state.held ∙ c.loop-page.invariant.0.held;
        same = for_both c.loop-page.invariant.0.same c.give_free.ensures.state.same;
      },
      c.give_free.ensures.areas ∙ (ap (with_free_block (block_at x 0)) c.loop-page.invariant.1
          ∙ (sym (given_more (take i pages) x old)
          ∙ ap (λ (l : List ℕ). all_given l old) (sym more))),
    )
