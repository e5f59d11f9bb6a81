use Rattle.std.proofs.Common.{◌≡◌, ◌<◌, ◌≤◌, ◌+◌, ℕ, List, [], ◌∷◌, ◌++◌, Bool, length, Some, inl}
use Rattle.std.{proofs.Common.{inr, ◌∙◌, sym, arith, length-append}, proofs.lemmas.Bool.cases_lt}
use Rattle.vb_pages.{specs.Areas.{HasNoBlock, TakesBlock}, specs.FreePages.TakesPages}
use Rattle.vb_pages.proofs.ListsLemmas.{takes_more, takes_none}
use Rattle.vb_pages.proofs.lists.PageList.refill.Goals.{in-Some, in_default}
use Rattle.vb_pages.proofs.lists.PageList.refill.Goals as goal

-- as many pages as turns, or the areas have none
abbrev Kept : List Bool → List ℕ → List Bool → ℕ → Type 0
Kept set list areas n =
    TakesPages set list areas × (length list ≤ n) × (length list < n → HasNoBlock areas 0)

one_more : (set mid new : List Bool) (list : List ℕ) (page n : ℕ) → Kept set list mid n
    → TakesBlock mid 0 (Some page) new → Kept set (list ++ page ∷ []) new (n + 1)
one_more set mid new list page n h t = elim (cases_lt (length list) n) [
  | inl less ↦ absurd (takes_none mid new page (h.2 less) t)
  | inr all ↦ grind (arith, takes_more, length-append)
]

no_more : (set mid new : List Bool) (list : List ℕ) (n : ℕ) → Kept set list mid n → HasNoBlock mid 0
    → new ≡ mid → Kept set list new (n + 1)
no_more set mid new list n h none e = rw e (h.0, omega (arith, h.1), λ l. none)

pub loop-count-preserved : goal.loop-count-preserved
loop-count-preserved c = let n = c.loop-count._count in elim c.match-take.branch [
  | in-Some w ↦
      let next : c.loop-count.self ++ w.in-Some.page ∷ [] ≡ c.match-take.self =
      sym (w.self-is ∙ w.push.ensures) in rw (← next)
      (one_more c.args.areas.now c.loop-count.areas c.take.new.self c.loop-count.self
      w.in-Some.page n c.loop-count.invariant w.in-Some.ensures)
  | in_default w ↦ rw w.self-is
      (no_more c.args.areas.now c.loop-count.areas c.take.new.self c.loop-count.self n
      c.loop-count.invariant w.in_default.ensures.0 w.in_default.ensures.1)
]
