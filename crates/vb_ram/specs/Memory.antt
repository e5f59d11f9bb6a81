-- What is always true of a guest's memory.
use Rattle.std.specs.Prelude.{ℕ, ◌^◌, ◌<◌}
use Rattle.vb_ram.specs.Pages.{Pages, IsWhole}

-- No more pages than a number of 32 bits counts, each of 4096 bytes.
pub record IsMemory (count : ℕ) (mem : Pages) : Type 0 where
  pub few : count < 2 ^ 32
  pub whole : IsWhole mem
