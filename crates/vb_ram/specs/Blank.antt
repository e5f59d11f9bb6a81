-- A frame's bytes, of which only the first are held: those after are zeros.
use Rattle.std.specs.Prelude.{ℕ, ◌≤◌, List, ◌++◌, length, drop}
use Rattle.vb_virtio.specs.Memory.{zero_page}
use Rattle.vb_virtio.specs.declared.limits.TheConstants.{PAGE_SIZE}

-- the bytes that a frame shows where these are held: zeros up to the page's end after them
abbrev pub shown : List ℕ → List ℕ
shown bytes = bytes ++ drop (length bytes) zero_page

-- no more than a page is held, for which there is room
pub record HoldsPage (bytes : List ℕ) (capacity : ℕ) : Type 0 where
  pub few : length bytes ≤ PAGE_SIZE
  pub room : PAGE_SIZE ≤ capacity
