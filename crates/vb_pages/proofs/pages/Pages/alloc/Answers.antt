use Rattle.std.proofs.Common.{◌≡◌, ◌<◌, not, length, ap, ◌∙◌, sym, refl, arith}
use Rattle.{std.specs.Prelude.◌&&◌, vb_model.specs.{Pages.covers, Driver.with_block}}
use Rattle.vb_pages.proofs.PagesLemmas.{kept_at, state_of, drained_kept, out_kept, out_free}
use Rattle.vb_pages.specs.{Areas.block_at, PageState.{PageState, is_free_page}}
use Rattle.vb_pages.proofs.FreeLemmas.{nothing, drained_times}
use Rattle.vb_pages.proofs.{ServingLemmas.serves_is_block, HeldLemmas.held_of}
use Rattle.vb_pages.proofs.PagesLemmas.{out_fits, out_outside, out_left, none_free, free_same}
use Rattle.vb_pages.proofs.pages.Pages.alloc.Goals as goal

pub invariant_of-self : goal.invariant_of-self
invariant_of-self c = grind (
  arith,
  drained_kept c.self.inside.free c.self.inside.held c.take.ensures.sound c.self.invariant,
)

pub returns-in_default-clause-none : goal.returns-in_default-clause-none
returns-in_default-clause-none c e s b free =
    let v : state_of c.self.inside.free c.self.inside.held.blocks ≡ c.args.self.now =
    c.self.view_is in
    none_free c.self.inside.free c.self.inside.held c.args.cpu c.args.order c.take.ensures.sound
    c.self.invariant c.in_default.ensures.serves.1 s b
    (λ p t. ap (λ (x : PageState). is_free_page x p) v ∙ free p t)

pub returns-in_default-clause-same : goal.returns-in_default-clause-same
returns-in_default-clause-same c e = grind (arith, state_of, free_same, drained_times, nothing)

pub add-requires-clause-block : goal.add-requires-clause-block
add-requires-clause-block c = grind (arith, serves_is_block)

pub add-requires-clause-fits : goal.add-requires-clause-fits
add-requires-clause-fits c = let l : c.args.cpu < length c.self.inside.free.lists = omega arith in
    out_fits c.self.inside.free c.take.new.self c.self.inside.held c.args.cpu c.args.order
    c.in-Some.start c.take.ensures.sound c.self.invariant l c.in-Some.ensures.serves

pub add-requires-clause-outside : goal.add-requires-clause-outside
add-requires-clause-outside c = grind (arith, out_outside)

pub invariant_of-self-2 : goal.invariant_of-self-2
invariant_of-self-2 c = let l : c.args.cpu < length c.self.inside.free.lists = omega arith in
    kept_at c.take.new.self c.take.new.self c.add.new.self (held_of c.self.inside.held.pages
    (with_block (block_at c.in-Some.start c.args.order) c.self.inside.held.blocks)) refl
    c.add.ensures
    (out_kept c.self.inside.free c.take.new.self c.self.inside.held c.args.cpu c.args.order
    c.in-Some.start c.take.ensures.sound c.self.invariant l c.in-Some.ensures.serves)

pub returns-clause-was_free : goal.returns-clause-was_free
returns-clause-was_free c = let l : c.args.cpu < length c.self.inside.free.lists = omega arith in
    let v : state_of c.self.inside.free c.self.inside.held.blocks ≡ c.args.self.now =
    c.self.view_is in (
      serves_is_block c.self.inside.free c.take.new.self c.args.cpu c.args.order c.in-Some.start
          c.in-Some.ensures.serves,
      λ p t. ap (λ (x : PageState). is_free_page x p) (sym v)
          ∙ out_free c.self.inside.free c.take.new.self c.self.inside.held c.args.cpu c.args.order
          c.in-Some.start c.take.ensures.sound c.self.invariant l c.in-Some.ensures.serves p t,
    )

pub returns-clause-left : goal.returns-clause-left
returns-clause-left c p = let l : c.args.cpu < length c.self.inside.free.lists = omega arith in
    let v : state_of c.self.inside.free c.self.inside.held.blocks ≡ c.args.self.now =
    c.self.view_is in
    out_left c.self.inside.free c.take.new.self c.self.inside.held c.args.cpu c.args.order
    c.in-Some.start c.take.ensures.sound c.self.invariant l c.in-Some.ensures.serves p
    ∙ ap (λ (x : PageState). is_free_page x p
    && not (covers p (block_at c.in-Some.start c.args.order))) v
