use Rattle.std.proofs.Common.{◌≡◌, ◌∙◌}
use Rattle.std.proofs.Common.{sym, ap, arith, ℕ, List, Bool, true, cond, take, ◌+◌, ◌++◌, ◌∷◌, []}
use Rattle.vb_virtio.specs.Tests.{pages_where}
use Rattle.vb_model.specs.declared.places.Place.{Place}
use Rattle.vb_model.specs.declared.places.Place.TheVariants.{Reserved}
use Rattle.{vb_model.specs.Pages.is_reporting, vb_pages.specs.PageState.PageState}
use Rattle.vb_pages.{specs.Areas.with_pages, proofs.ListsLemmas.{with_none, with_append_turned}}
use Rattle.vb_driver.proofs.Placing.{length-marked, marked-get, marked_none, marked_append}
use Rattle.vb_driver.proofs.{Placing.{pages_more, not_in_first, none_where}, Flags.for_itself}
use Rattle.vb_driver.{proofs.Flags.for_both, specs.{Places.marked, Areas.{flags_of, areas_with}}}
use Rattle.vb_driver.proofs.areas.Allocator.give_reported.Goals as goal

pub returns-then-count-eq0-clause-state : goal.returns-then-count-eq0-clause-state
returns-then-count-eq0-clause-state c = grind (arith, none_where, marked_none, for_itself)

pub returns-then-count-eq0-clause-areas : goal.returns-then-count-eq0-clause-areas
returns-then-count-eq0-clause-areas c = grind (arith, none_where, with_none)

pub loop-page-init : goal.loop-page-init
loop-page-init c = grind (arith, marked_none, for_itself, with_none)

pub give_if_reported-requires-clause-unreserved : goal.give_if_reported-requires-clause-unreserved
give_if_reported-requires-clause-unreserved c reported = grind arith

pub give_if_reported-requires-clause-inside : goal.give_if_reported-requires-clause-inside
give_if_reported-requires-clause-inside c = grind (arith, length-marked)

pub give_if_reported-requires-clause-taken : goal.give_if_reported-requires-clause-taken
give_if_reported-requires-clause-taken c reported = grind (arith, marked-get, not_in_first)

pub give_if_reported-requires-clause-uncovered : goal.give_if_reported-requires-clause-uncovered
give_if_reported-requires-clause-uncovered c reported = grind arith

pub loop-page-preserved : goal.loop-page-preserved
loop-page-preserved c = let places = c.args.places.now in let page = c.loop-page.page in
    let old = c.args.self.now in let before = pages_where is_reporting (take page places) in
    let one : List ℕ = cond (is_reporting c.place.result) (page ∷ []) [] in
    let more : pages_where is_reporting (take (page + 1) places) ≡ before ++ one =
    pages_more is_reporting places page Reserved
    (omega (arith, c.loop-page-test.true, c.pages-page-end.ensures))
    ∙ ap (λ (p : Place). before ++ cond (is_reporting p) (page ∷ []) []) (sym c.place.ensures) in (
      record {
        free = c.give_if_reported.ensures.state.free ∙ (ap (λ (l : List Bool). marked one true l)
            c.loop-page.invariant.0.free ∙ (marked_append before one true (flags_of old.free)
            ∙ ap (λ (l : List ℕ). marked l true (flags_of old.free)) (sym more)));
        held = c.give_if_reported.ensures.state.held ∙ c.loop-page.invariant.0.held;
        same = for_both c.loop-page.invariant.0.same c.give_if_reported.ensures.state.same;
      },
      c.give_if_reported.ensures.areas ∙ (ap (λ (s : PageState). record s {
        free = areas_with one s.free;
      }) c.loop-page.invariant.1 ∙ ap (λ (set : List Bool). record old
          { free = record old.free { areas = set } }) (with_append_turned one before old.free.areas
          ∙ ap (λ (l : List ℕ). with_pages l old.free.areas) (sym more))),
    )
