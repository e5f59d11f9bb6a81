use Rattle.{std.proofs.Common.{◌≡◌, ◌-◌, ◌<◌, ◌≤◌, ℕ, length, true}, vb_pages.specs.Areas.has}
use Rattle.vb_pages.proofs.areas.Areas.fill.Given as goal

-- the pages that were gone over are in, and no others
abbrev pub invariant-loop-page : goal.invariant-loop-page
invariant-loop-page l = (length l.self ≡ l.pages) × (l.reserved ≤ l.page)
    × ((p : ℕ) → has l.self p ≡ true → (l.reserved ≤ p) × (p < l.page))
    × ((p : ℕ) → l.reserved ≤ p → p < l.page → p < l.pages → has l.self p ≡ true)

abbrev pub decreases-loop-page : goal.decreases-loop-page
decreases-loop-page l = l.pages - l.page
