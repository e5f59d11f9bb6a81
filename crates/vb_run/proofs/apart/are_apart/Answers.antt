use Rattle.std.{proofs.Common.rules, proofs.lemmas.List.Sorted.IsNonDecreasingBy-from_sort}
use Rattle.vb_run.proofs.Distinct.{apart, rising_apart}
use Rattle.vb_run.proofs.apart.are_apart.Goals as goal

pub returns : goal.returns
returns c = (
  λ rising. apart c.args.reports.now c.in_ok-frames.frames.items c.sort_unstable.new.self.items
      c.in_ok-frames.ensures c.sort_unstable.ensures.permutation (search (rising, rules)),
  λ are. c.is_rising.ensures.1
      (rw c.as_slice.ensures.value (rising_apart c.args.reports.now c.in_ok-frames.frames.items
      c.sort_unstable.new.self.items c.in_ok-frames.ensures c.sort_unstable.ensures.permutation
      (IsNonDecreasingBy-from_sort (λ n. n) _ c.sort_unstable.ensures.sorted) are)),
)
