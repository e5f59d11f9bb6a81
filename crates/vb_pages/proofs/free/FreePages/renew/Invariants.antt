use Rattle.{std.proofs.Common.{◌≡◌, ◌<◌, ℕ, get_or}, vb_pages.proofs.FreeLemmas.nothing}
use Rattle.vb_pages.proofs.free.FreePages.renew.Given as goal

abbrev pub invariant-loop-list : goal.invariant-loop-list
invariant-loop-list l = (k : ℕ) → k < l.list-index → get_or l.list-items k nothing ≡ nothing
