use Rattle.{std.proofs.Common.{◌≡◌, replicate}, vb_pages.proofs.FreeLemmas.nothing}
use Rattle.vb_pages.proofs.free.FreePages.new.Given as goal

abbrev pub invariant-loop-cpu : goal.invariant-loop-cpu
invariant-loop-cpu l = l.lists.items ≡ replicate l._cpu nothing
