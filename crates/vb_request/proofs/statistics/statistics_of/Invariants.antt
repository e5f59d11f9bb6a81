use Rattle.std.proofs.Common.{◌≡◌, take}
use Rattle.vb_request.specs.Statistics.{statistics_of, last_of}
use Rattle.vb_request.proofs.statistics.statistics_of.Given as goal

abbrev pub invariant-loop-k : goal.invariant-loop-k
invariant-loop-k l = record {
  free : l.said.free ≡ last_of 4 (take l.k (statistics_of l.bytes));
  total : l.said.total ≡ last_of 5 (take l.k (statistics_of l.bytes));
}
