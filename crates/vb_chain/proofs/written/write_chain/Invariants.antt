use Rattle.std.{proofs.Common.{◌≡◌, ◌≢◌, ◌*◌, ◌<◌, ℕ, length}, specs.Prelude.slice_index}
use Rattle.vb_ram.specs.Pages.{SameBut}
use Rattle.vb_chain.{specs.Table.descriptor_at, specs.Written.linked}
use Rattle.vb_chain.proofs.written.write_chain.Given as goal

abbrev pub invariant-loop-k : goal.invariant-loop-k
invariant-loop-k g l = record {
  put : (j : ℕ) → j < l.k → descriptor_at (g.G.GuestBytes.mem l.ram) l.table (slice_index l.path j)
      ≡ linked l.path l.pieces j;
  others : (i : ℕ) → ((j : ℕ) → j < length l.path → slice_index l.path j ≢ i)
      → descriptor_at (g.G.GuestBytes.mem l.ram) l.table i
      ≡ descriptor_at (g.G.GuestBytes.mem l.initial.ram) l.table i;
  part : g.G.GuestBytes.part l.ram ≡ g.G.GuestBytes.part l.initial.ram;
  rest : SameBut (g.G.GuestBytes.mem l.initial.ram) (g.G.GuestBytes.mem l.ram) l.table 0
      (16 * l.size);
}
