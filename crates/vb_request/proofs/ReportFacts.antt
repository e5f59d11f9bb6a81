-- The pages of a report, and what is wrong with one, worked out.
use Rattle.std.proofs.Common.{◌≡◌, ℕ, true, false, [], ◌∷◌, map, replicate, refl}
use Rattle.std.specs.Prelude.{Some, None, Ok, Err}
use Rattle.vb_chain.specs.declared.pieces.Piece.{Piece}
use Rattle.vb_chain.specs.declared.fault.ChainFault.TheVariants.{WrongDirection, BadLength, BadPage}
use Rattle.vb_chain.specs.declared.fault.ChainFault.TheVariants.{ReservedPage}
use Rattle.vb_request.specs.Report.{pages_of_pieces, has_bad_length, piece_fault, first_piece_fault}
use Rattle.vb_request.specs.Report.{report_request}

abbrev piece : ℕ → ℕ → Piece
piece addr len = record { addr = addr; len = len; writable = true }

-- pages rise in a piece, and pieces stay in their order; page 2 is named twice
pages : pages_of_pieces (piece 36864 4096 ∷ piece 8192 12288 ∷ piece 8192 4096 ∷ [])
    ≡ 9 ∷ 2 ∷ 3 ∷ 4 ∷ 2 ∷ []
pages = refl

-- ---- what is wrong with a piece

lengths : map (λ len. has_bad_length (piece 0 len)) (0 ∷ 4095 ∷ 4096 ∷ 4097 ∷ 8192 ∷ [])
    ≡ true ∷ true ∷ false ∷ true ∷ false ∷ []
lengths = refl

-- of memory whose first two pages are reserved: where a piece begins
begins : map (λ addr. piece_fault 2 (piece addr 8192)) (0 ∷ 1 ∷ 4096 ∷ 8192 ∷ 8193 ∷ [])
    ≡ Some ReservedPage ∷ Some BadPage ∷ Some ReservedPage ∷ None ∷ Some BadPage ∷ []
begins = refl

first_is_told : map (first_piece_fault 2) ((piece 8192 4096 ∷ piece 4096 4096 ∷ piece 1 4096 ∷ [])
    ∷ (piece 1 4096 ∷ piece 4096 4096 ∷ []) ∷ [])
    ≡ Some ReservedPage ∷ Some BadPage ∷ []
first_is_told = refl

-- ---- reports

named : report_request (piece 36864 4096 ∷ piece 8192 8192 ∷ []) 2 ≡ Ok (9 ∷ 2 ∷ 3 ∷ [])
named = refl

-- a piece to be read is told first, wherever it is, then a wrong length, then a wrong page
not_named : map (λ pieces. report_request pieces 2)
    ((piece 1 4095 ∷ record { addr = 8192; len = 4096; writable = false } ∷ [])
    ∷ (piece 1 4096 ∷ piece 8192 4095 ∷ []) ∷ (piece 4096 4096 ∷ piece 1 4096 ∷ []) ∷ [])
    ≡ Err WrongDirection ∷ Err BadLength ∷ Err ReservedPage ∷ []
not_named = refl

-- of no piece, and of 32, which are the most
none_and_most : map (λ n. report_request (replicate n (piece 8192 4096)) 2) (0 ∷ 32 ∷ 33 ∷ [])
    ≡ Ok [] ∷ Ok (replicate 32 2) ∷ Err BadLength ∷ []
none_and_most = refl
