use Rattle.std.proofs.Common.{◌≡◌, ℕ, ◌<◌, ◌+◌, ◌*◌, slice_index}
use Rattle.vb_ram.specs.Pages.{field, SameBut}
use Rattle.vb_driver.proofs.memory.write_numbers.Given as goal

abbrev pub invariant-loop-k : goal.invariant-loop-k
invariant-loop-k g l = record {
  names : (k : ℕ) → k < l.k
      → field 4 (g.G.GuestBytes.mem l.ram) l.page (l.offset + 4 * k) ≡ slice_index l.pages k;
  part : g.G.GuestBytes.part l.ram ≡ g.G.GuestBytes.part l.initial.ram;
  rest : SameBut (g.G.GuestBytes.mem l.initial.ram) (g.G.GuestBytes.mem l.ram) l.page l.offset
      (l.offset + 4 * l.k);
}
