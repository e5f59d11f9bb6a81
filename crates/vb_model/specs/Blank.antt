-- A page has its 4096 bytes, and reads as zeros without a frame.
use Rattle.std.specs.Prelude.{◌≡◌, ℕ, ◌<◌, List, [], Option, None, length, slice_index_or}
use Rattle.vb_virtio.specs.declared.limits.TheConstants.{PAGE_SIZE}
use Rattle.vb_virtio.specs.Memory.{zero_page}
use Rattle.vb_model.specs.Guest.{Guest, frame_of}

-- The tables of frames and contents have an entry for each page, each page has its bytes, and a
-- page without a frame has zeros.
pub record AreBlank (pages : ℕ) (frames : List (Option ℕ)) (contents : List (List ℕ)) : Type 0 where
  pub framed : length frames ≡ pages
  pub filled : length contents ≡ pages
  pub whole : (page : ℕ) → page < pages → length (slice_index_or contents page []) ≡ PAGE_SIZE
  pub blank : (page : ℕ) → page < pages → frame_of frames page ≡ None
      → slice_index_or contents page [] ≡ zero_page

abbrev pub IsBlank : Guest → Type 0
IsBlank g = AreBlank g.config.pages g.frames g.contents
