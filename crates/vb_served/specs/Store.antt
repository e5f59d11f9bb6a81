-- Guest memory with the frames that its pages lost, and what each access makes of it.
use Rattle.std.specs.Prelude.{◌≡◌, ℕ, ◌/◌, ◌%◌, Bool, true, false, List, ◌++◌, length, map, IsSome}
use Rattle.std.specs.Prelude.{Option, None}
use Rattle.std.specs.List.{range_with_len}
use Rattle.std.specs.Int.{w16, w32, from_le_bytes, to_le_bytes}
use Rattle.vb_virtio.specs.Limits.{page_size}
use Rattle.vb_virtio.specs.declared.layout.TheConstants.{FREE_MEMORY_TAG, TOTAL_MEMORY_TAG}
use Rattle.vb_virtio.specs.declared.statistics.LastStatistics.{LastStatistics}
use Rattle.vb_ram.specs.Pages.{Pages, frame_at, Covers, Wrote}
use Rattle.vb_request.specs.Request.{bytes_from, each_once}
use Rattle.vb_request.specs.Statistics.{Statistic as SaidStatistic, last_of}
use Rattle.vb_device.specs.Discards.{discarded, frames_behind, flagged}
use Rattle.vb_core.specs.declared.kinds.Kind.{Kind}
use Rattle.vb_core.specs.declared.kinds.Kind.TheVariants.{Inflate, Deflate, Statistics, Hint}
use Rattle.vb_core.specs.declared.kinds.Kind.TheVariants.{Report}
use Rattle.vb_core.specs.declared.runs.Run.{Run}
use Rattle.vb_core.specs.declared.statistics.Statistic.{Statistic}
use Rattle.vb_core.specs.Runs.{pages_of_runs}
use Rattle.vb_monitor.specs.declared.cuts.Cut.{Cut}
use Rattle.vb_monitor.specs.Accesses.{Access, ReadWord, CopyBytes, Acquire, Release, Full}
use Rattle.vb_monitor.specs.Accesses.{TellPages, TellFigures, TellId, Pause, Discard, WriteNumber}
use Rattle.vb_monitor.specs.Accesses.{WriteWord}

-- Guest memory, the numbers of the frames that were taken from its pages and are kept, which pages
-- are ballooned, and what the last buffer of statistics said.
pub record Store : Type 0 where
  pub mem : Pages
  pub loose : List ℕ
  pub ballooned : List Bool
  pub last : LastStatistics

-- The pages of a part that is discarded.
abbrev pub pages_of_cut : Cut → List ℕ
pages_of_cut cut = range_with_len (cut.offset / page_size) (cut.length / page_size)

-- Bytes were put at an address, where its page has a frame and all of them; elsewhere nothing was.
pub record Puts (a : ℕ) (bytes : List ℕ) (s t : Store) : Type 0 where
  pub loose : t.loose ≡ s.loose
  pub ballooned : t.ballooned ≡ s.ballooned
  pub last : t.last ≡ s.last
  pub put : Covers s.mem (a / page_size) (a % page_size) (length bytes) →
      IsSome (frame_at s.mem (a / page_size)) →
      Wrote s.mem t.mem (a / page_size) (a % page_size) bytes
  pub kept : (¬ (Covers s.mem (a / page_size) (a % page_size) (length bytes))) →
      t.mem ≡ s.mem
  pub bare : frame_at s.mem (a / page_size) ≡ None → t.mem ≡ s.mem

-- The flags of the ballooned pages once these runs were told: an inflate's pages are put in, a
-- deflate's are taken out.
abbrev pub marked_by : Kind → List Run → List Bool → List Bool
marked_by Inflate runs flags = flagged (pages_of_runs runs) true flags
marked_by Deflate runs flags = flagged (pages_of_runs runs) false flags
marked_by Statistics runs flags = flags
marked_by Hint runs flags = flags
marked_by Report runs flags = flags

abbrev pub with_marks : Kind → List Run → Store → Store
with_marks kind runs s = record s { ballooned = marked_by kind runs s.ballooned }

-- What a figure says, as one that was read of memory.
abbrev pub as_said : Statistic → SaidStatistic
as_said figure = record { tag = figure.tag; value = figure.value }

-- The value of the last of these figures that has the tag, if one has it.
abbrev pub last_value : ℕ → List Statistic → Option ℕ
last_value tag figures = last_of tag (map as_said figures)

-- What these figures say of the guest's memory; those of other tags are skipped.
abbrev pub last_in : List Statistic → LastStatistics
last_in figures = record {
  free = last_value FREE_MEMORY_TAG figures;
  total = last_value TOTAL_MEMORY_TAG figures;
}

abbrev pub with_figures : List Statistic → Store → Store
with_figures figures s = record s { last = last_in figures }

-- What an access makes of memory, which is one region: what is read is what memory has then, as
-- zeros where a page has no frame; pages that are told are ballooned, or no more, and figures are
-- the last ones; an id of hints changes nothing; what is discarded loses its frames, which are
-- loose then.
abbrev pub After : Store → Access → Store → Type 0
After s (ReadWord at answer) t =
    (answer ≡ from_le_bytes w16 (bytes_from s.mem at.offset 2)) × (t ≡ s)
After s (CopyBytes at answer) t =
    (answer ≡ bytes_from s.mem at.offset (length answer)) × (t ≡ s)
After s Acquire t = t ≡ s
After s Release t = t ≡ s
After s Full t = t ≡ s
After s (TellPages kind runs named) t = t ≡ with_marks kind runs s
After s (TellFigures figures) t = t ≡ with_figures figures s
After s (TellId id) t = t ≡ s
After s Pause t = t ≡ s
After s (Discard cut) t =
    (t.mem ≡ discarded (pages_of_cut cut) s.mem)
    × (t.loose ≡ s.loose ++ frames_behind s.mem (each_once (pages_of_cut cut)))
    × (t.ballooned ≡ s.ballooned)
    × (t.last ≡ s.last)
After s (WriteNumber at number) t = Puts at.offset (to_le_bytes w32 number) s t
After s (WriteWord at word) t = Puts at.offset (to_le_bytes w16 word) s t
