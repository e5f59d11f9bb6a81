use Rattle.std.proofs.Common.{◌<◌, List, ℕ}
use Rattle.vb_chain.{specs.Table.descriptor_at, proofs.Walking.Walked}
use Rattle.vb_chain.proofs.steps.follow.Given as goal

abbrev pub invariant-loop-visited : goal.invariant-loop-visited
invariant-loop-visited g l = record {
  more : l.visited < l.size;
  inside : l.index < l.size;
  walked : (path : List ℕ) × Walked (descriptor_at (g.G.GuestBytes.mem l.ram) l.table)
      l.size l.end l.head path l.visited l.index l.writing l.chain;
}
