-- Pages lose their frames.
use Rattle.std.specs.Prelude.{ℕ, List, None}
use Rattle.std.specs.Option.{option_to_list}
use Rattle.std.specs.List.{flat_map}
use Rattle.vb_virtio.specs.Tests.{marked}
pub use Rattle.vb_virtio.specs.Tests.{flagged}
use Rattle.vb_ram.specs.Pages.{Pages, frame_at}

-- These pages have no frame any more, and all others are as before.
abbrev pub discarded : List ℕ → Pages → Pages
discarded pages mem = marked pages None mem

-- The numbers of the frames that back these pages, in the pages' order.
abbrev pub frames_behind : Pages → List ℕ → List ℕ
frames_behind mem pages = flat_map (λ page. option_to_list (frame_at mem page)) pages
