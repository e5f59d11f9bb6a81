-- Reports and hints, by their pieces.
use Rattle.std.specs.Prelude.{◌≡◌, ℕ, ◌/◌, Bool, true, false, not, ◌&&◌, nat_le, List, length}
use Rattle.std.specs.Prelude.{map, take}
use Rattle.std.specs.Prelude.{Option, Some, None, Result, Ok, Err, IsOk}
use Rattle.std.specs.List.{list_any}
use Rattle.vb_virtio.specs.declared.limits.TheConstants.{MAX_REPORT_PIECES}
use Rattle.vb_virtio.specs.Limits.{page_size}
use Rattle.vb_chain.specs.declared.pieces.Piece.{Piece}
use Rattle.vb_chain.specs.declared.fault.ChainFault.{ChainFault}
use Rattle.vb_request.specs.Report.{report_request}
use Rattle.vb_core.specs.declared.runs.Run.{Run}
use Rattle.vb_core.specs.declared.name.Named.{Named}
use Rattle.vb_core.specs.declared.settings.TheConstants.{MEMORY_LIMIT}
use Rattle.vb_core.specs.declared.kinds.Kind.{Kind}
use Rattle.vb_core.specs.declared.kinds.Kind.TheVariants.{Inflate, Deflate, Statistics, Hint}
use Rattle.vb_core.specs.declared.kinds.Kind.TheVariants.{Report}
use Rattle.vb_core.specs.declared.device.Denial.{Denial}
use Rattle.vb_core.specs.declared.device.Device.{Device}
use Rattle.vb_core.specs.Devices.{call_denial}
use Rattle.vb_core.specs.Name.{after_chain, told}

-- The pages of a piece of whole pages.
abbrev pub run_of : Piece → Run
run_of piece = record { first = piece.addr / page_size; count = piece.len / page_size }

-- No guest has memory where the piece begins.
abbrev pub is_beyond : Piece → Bool
is_beyond piece = nat_le MEMORY_LIMIT piece.addr

-- The kind's chains name pages by their pieces: reports do, and hints.
abbrev pub names_by_pieces : Kind → Bool
names_by_pieces Inflate = false
names_by_pieces Deflate = false
names_by_pieces Statistics = false
names_by_pieces Hint = true
names_by_pieces Report = true

-- What a chain of these pieces is refused for, with room for this many runs.
abbrev pub pieces_denial : Kind → List Piece → ℕ → Device → Option Denial
pieces_denial kind pieces room d =
    call_denial kind (names_by_pieces kind)
    (nat_le MAX_REPORT_PIECES room && not (list_any is_beyond pieces)) d

-- What pieces name that are a report of `count` runs, or a hint, or what is wrong with them.
abbrev pub named_by : ℕ → Result (List ℕ) ChainFault → Result Named ChainFault
named_by count (Err fault) = Err fault
named_by count (Ok pages) = Ok (record { runs = count; pages = length pages; skipped = 0 })

abbrev pub report_named : List Piece → ℕ → Result Named ChainFault
report_named pieces reserved = named_by (length pieces) (report_request pieces reserved)

-- A report or a hint of these pieces, whatever they are.
pub record NamesPiecesBy (kind : Kind) (pieces : List Piece) (room : ℕ) (runs : List Run)
    (d1 d2 : Device) (result : Result Named Denial) : Type 0 where
  pub denied : (why : Denial) → pieces_denial kind pieces room d1 ≡ Some why →
      (result ≡ Err why) × (d2 ≡ d1)
  pub answer : pieces_denial kind pieces room d1 ≡ None →
      result ≡ told (report_named pieces d1.settings.reserved_pages)
  pub device : pieces_denial kind pieces room d1 ≡ None →
      d2 ≡ after_chain kind (report_named pieces d1.settings.reserved_pages) d1
  pub runs_are : IsOk result → take (length pieces) runs ≡ map run_of pieces
