use Rattle.std.{proofs.Common.{◌≡◌, ◌*◌, ◌-◌, ◌^◌, min, count_by}, specs.List.range_with_len}
use Rattle.vb_core.specs.Ballooned.{is_ballooned}
use Rattle.vb_core.proofs.ballooned.count_ballooned.Given as goal

abbrev pub invariant-loop-word : goal.invariant-loop-word
invariant-loop-word l =
    l.count ≡ min (count_by (is_ballooned l.set) (range_with_len 0 (64 * l.word-index))) (2 ^ 64 - 1)
