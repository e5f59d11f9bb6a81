use Rattle.std.proofs.Common.{◌≡◌, take}
use Rattle.vb_served.specs.Store.{last_value}
use Rattle.vb_served.proofs.figures.last_value.Given as goal

abbrev pub invariant-loop-k : goal.invariant-loop-k
invariant-loop-k l = l.found ≡ last_value l.tag (take l.k l.figures)
