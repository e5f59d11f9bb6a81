use Rattle.std.proofs.Common.{◌<◌, All, take}
use Rattle.vb_command.proofs.ports.are_below.Given as goal

abbrev pub invariant-loop-number : goal.invariant-loop-number
invariant-loop-number l = All (λ n. n < l.bound) (take l.number-index l.numbers)
