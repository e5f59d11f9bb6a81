-- Bytes of a page, and of memory.
-- The headline needs all of it.
use Rattle.std.specs.Prelude.{ℕ, List, replicate, ◌+◌, ◌++◌, length, take, drop}
use Rattle.vb_virtio.specs.declared.limits.TheConstants.{PAGE_SIZE}

-- the bytes of a page that nothing was written to; never computed, since it is long
unfoldable pub zero_page : List ℕ
zero_page = replicate PAGE_SIZE 0

-- bytes with others in their place from the offset on
abbrev pub overwritten : (offset : ℕ) (bytes old : List ℕ) → List ℕ
overwritten offset bytes old = take offset old ++ (bytes ++ drop (offset + length bytes) old)
