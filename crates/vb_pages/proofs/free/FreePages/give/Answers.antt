use Rattle.std.proofs.{Common.{◌≡◌, ◌<◌, ◌≤◌, ◌+◌, ℕ, List, [], ◌∷◌, length}, lemmas.Bool.eqb-false}
use Rattle.{std.proofs.Common.{take, ap, subst, ◌∙◌, sym, arith}, vb_pages.proofs.ListsLemmas.Once}
use Rattle.std.{proofs.lemmas.List.{get_or_default, length-append}, specs.Prelude.{◌==◌, false}}
use Rattle.vb_pages.proofs.{FreeLemmas.{block_sound, free_of}, free.FreePages.give.Goals.After-push}
use Rattle.vb_pages.proofs.FreeLemmas.{front_once, spilled_sound, pushed_sound, longer, room_zero}
use Rattle.vb_pages.{specs.FreePages.{FreePages, HasRoomFor, list_of}, proofs.FreeLemmas.nothing}
use Rattle.vb_pages.proofs.free.FreePages.give.Goals as goal

pub invariant_of-self : goal.invariant_of-self
invariant_of-self c = grind (arith, free_of, block_sound)

module _ (c : After-push) (low : c.args.order ≤ 0) where
  abbrev f : FreePages
  f = free_of c.self.inside.areas c.self.inside.lists.items c.self.inside.reserved

  view : f ≡ c.args.self.now
  view = c.self.view_is

  there : c.args.cpu < length f.lists
  there = subst (λ (x : FreePages). c.args.cpu < length x.lists) (sym view) c.requires.cpu

  room : HasRoomFor f c.args.start 0
  room = room_zero f c.args.start c.args.order low
      (subst (λ (x : FreePages). HasRoomFor x c.args.start c.args.order) (sym view) c.requires.room)

  -- the list with the page
  pushed : c.push.new.self ≡ longer f c.args.cpu c.args.start c.self.invariant there room
  pushed = grind (arith, get_or_default, nothing, there)

pub drain-requires : goal.drain-requires
drain-requires c = let d = (goal.at.drain-requires c).After-push in
    let low : c.args.order ≤ 0 = omega arith in subst (λ (xs : List ℕ). Once c.self.inside.areas xs)
    (ap (take 8) (sym (pushed d low)) ∙ sym c.split_front.ensures.front)
    (front_once (f d low) c.args.cpu c.args.start c.self.invariant (there d low) (room d low))

pub invariant_of-self-then-is_full : goal.invariant_of-self-then-is_full
invariant_of-self-then-is_full c = let d = (goal.at.invariant_of-self-then-is_full c).After-push in
    let low : c.args.order ≤ 0 = omega arith in
    let front : c.split_front.result
    ≡ take 8 (longer (f d low) c.args.cpu c.args.start c.self.invariant (there d low)
    (room d low)) = c.split_front.ensures.front ∙ ap (take 8) (pushed d low) in
    grind (arith, longer, there, room, pushed, free_of, spilled_sound)

pub invariant_of-self-else-is_full : goal.invariant_of-self-else-is_full
invariant_of-self-else-is_full c = let d = (goal.at.invariant_of-self-else-is_full c).After-push in
    let low : c.args.order ≤ 0 = omega arith in
    let e = pushed d low in
    let not_full : (length c.push.new.self == 16) ≡ false =
    sym c.is_full.ensures ∙ c.if-is_full.false in
    let differs : length c.push.new.self ≡ 16
    → ⊥ = eqb-false (length c.push.new.self) 16 not_full in
    let most : length (longer (f d low) c.args.cpu c.args.start c.self.invariant (there d low)
    (room d low)) ≡ length (list_of (f d low) c.args.cpu) + 1 = length-append
    (list_of (f d low) c.args.cpu) (c.args.start ∷ []) in
    let short : length (longer (f d low) c.args.cpu c.args.start c.self.invariant (there d low)
    (room d low)) < 16 = omega
    (arith, most, c.self.invariant.short c.args.cpu, ap length e, differs) in rw e
    (pushed_sound (f d low) c.args.cpu c.args.start c.self.invariant (there d low) (room d low)
    short)
