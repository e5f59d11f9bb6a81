-- The pages that a chain of queue 4 names: whole pages in a row, by pieces that the device may
-- write (profile).
use Rattle.std.specs.Prelude.{◌≡◌, ℕ, ◌+◌, ◌^◌, ◌<◌, ◌≤◌, ◌/◌, ◌%◌, ◌==◌, ◌||◌, Bool, not, nat_lt}
use Rattle.std.specs.Prelude.{List, [], ◌∷◌, length, slice_get}
use Rattle.std.specs.Prelude.{if◌then◌else◌, Option, Some, None, Result, Err, MatchOption}
use Rattle.std.specs.List.{list_any, flat_map, range_with_len}
use Rattle.vb_virtio.specs.declared.limits.TheConstants.{MAX_REPORT_PIECES}
use Rattle.vb_virtio.specs.Limits.{page_size}
use Rattle.vb_chain.specs.declared.pieces.Piece.{Piece}
use Rattle.vb_chain.specs.declared.fault.ChainFault.{ChainFault}
use Rattle.vb_chain.specs.declared.fault.ChainFault.TheVariants.{WrongDirection, BadLength, BadPage}
use Rattle.vb_chain.specs.declared.fault.ChainFault.TheVariants.{ReservedPage}
use Rattle.vb_request.specs.declared.named.NamedRun.{NamedRun}
use Rattle.vb_request.specs.Request.{first_of_both, unless_fault}

-- The pages of a piece of whole pages, rising.
abbrev pub pages_of_piece : Piece → List ℕ
pages_of_piece piece = range_with_len (piece.addr / page_size) (piece.len / page_size)

-- Those of all pieces, in their order; a page that is named again is there again.
abbrev pub pages_of_pieces : List Piece → List ℕ
pages_of_pieces pieces = flat_map pages_of_piece pieces

-- The piece isn't some whole pages long.
abbrev pub has_bad_length : Piece → Bool
has_bad_length piece = (piece.len == 0) || not (piece.len % page_size == 0)

-- What is wrong with where a piece begins, where n pages are reserved.
abbrev pub piece_fault : ℕ → Piece → Option ChainFault
piece_fault reserved piece =
    if not (piece.addr % page_size == 0) then Some BadPage
    else (if nat_lt (piece.addr / page_size) reserved then Some ReservedPage else None)

-- What is wrong with the first wrong piece.
abbrev pub first_piece_fault : ℕ → List Piece → Option ChainFault
first_piece_fault reserved [] = None
first_piece_fault reserved (piece ∷ pieces) =
    first_of_both (piece_fault reserved piece) (first_piece_fault reserved pieces)

-- The pages that a chain of these pieces names, or what is wrong with it, where n pages are
-- reserved.
abbrev pub report_request : List Piece → ℕ → Result (List ℕ) ChainFault
report_request pieces reserved =
    if list_any (λ piece. not piece.writable) pieces then Err WrongDirection
    else (if nat_lt MAX_REPORT_PIECES (length pieces) || list_any has_bad_length pieces
    then Err BadLength
    else unless_fault (first_piece_fault reserved pieces) (pages_of_pieces pieces))

-- These pages have the run's numbers from its place on.
pub record IsRun (pages : List ℕ) (run : NamedRun) : Type 0 where
  pub at : (i : ℕ) → i < run.count → slice_get pages (run.at + i) ≡ Some (run.first + i)
  pub below : run.first + run.count ≤ 2 ^ 32

-- A run that begins with the page of number `k`; none where there are no more than `k` pages. How
-- long it is, is left open, so that a list may be told in the runs that its owner keeps.
abbrev pub RunsFrom : List ℕ → ℕ → Option NamedRun → Type 0
RunsFrom pages k result =
    MatchOption result (length pages ≤ k) (λ run.
    (run.at ≡ k) × (0 < run.count) × IsRun pages run)
