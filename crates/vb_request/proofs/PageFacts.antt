-- The bytes and numbers of a request, and what is wrong with one, worked out.
use Rattle.std.proofs.Common.{◌≡◌, ℕ, true, false, [], ◌∷◌, map, replicate, refl}
use Rattle.std.specs.Prelude.{Some, None, Ok, Err}
use Rattle.vb_ram.specs.Pages.{Pages, byte_at}
use Rattle.vb_chain.specs.declared.pieces.Piece.{Piece}
use Rattle.vb_chain.specs.declared.fault.ChainFault.TheVariants.{WrongDirection, BadLength, BadPage}
use Rattle.vb_chain.specs.declared.fault.ChainFault.TheVariants.{ReservedPage}
use Rattle.vb_request.specs.Request.{bytes_of, numbers_of, each_once, is_request_length}
use Rattle.vb_request.specs.Request.{request_length, number_fault, first_number_fault, page_request}

-- ---- bytes and numbers

-- eight pages, of which page 1 has the numbers 7, 3, 7, 1 and 8
abbrev memory : Pages
memory = None ∷ Some (record {
  number = 5;
  bytes = 7 ∷ 0 ∷ 0 ∷ 0 ∷ 3 ∷ 0 ∷ 0 ∷ 0 ∷ 7 ∷ 0 ∷ 0 ∷ 0 ∷ 1 ∷ 0 ∷ 0 ∷ 0 ∷ 8 ∷ 0 ∷ 0 ∷ 0 ∷ [];
}) ∷ replicate 6 None

abbrev read : ℕ → ℕ → Piece
read addr len = record { addr = addr; len = len; writable = false }

abbrev written : ℕ → ℕ → Piece
written addr len = record { addr = addr; len = len; writable = true }

-- a piece goes on in the next page, and the next piece follows it
bytes : bytes_of memory (read 4094 3 ∷ read 4104 2 ∷ []) ≡ 0 ∷ 0 ∷ 7 ∷ 7 ∷ 0 ∷ []
unfolding byte_at bytes_of
bytes = refl

-- lowest byte first, and a rest of fewer than four bytes is none
numbers : numbers_of (1 ∷ 2 ∷ 3 ∷ 4 ∷ 5 ∷ 0 ∷ 0 ∷ 0 ∷ 6 ∷ 7 ∷ 8 ∷ []) ≡ 0x04030201 ∷ 5 ∷ []
unfolding numbers_of
numbers = refl

once : each_once (7 ∷ 3 ∷ 7 ∷ 5 ∷ 3 ∷ 7 ∷ []) ≡ 7 ∷ 3 ∷ 5 ∷ []
once = refl

-- ---- lengths

-- some numbers of four bytes each, and 1024 bytes at most
lengths : map is_request_length (0 ∷ 4 ∷ 6 ∷ 1024 ∷ 1028 ∷ [])
    ≡ false ∷ true ∷ false ∷ true ∷ false ∷ []
lengths = refl

-- all pieces count together; one to be written is told first, wherever it is
of_pieces : map request_length ([] ∷ (read 0 3 ∷ read 0 5 ∷ []) ∷ (read 0 4 ∷ read 0 1022 ∷ [])
    ∷ (read 0 3 ∷ written 0 4 ∷ []) ∷ [])
    ≡ Err BadLength ∷ Ok 8 ∷ Err BadLength ∷ Err WrongDirection ∷ []
of_pieces = refl

-- ---- numbers that are wrong

-- of eight pages, of which two are reserved; and of fewer than are reserved
wrong_numbers : map (number_fault 2 8) (0 ∷ 1 ∷ 2 ∷ 7 ∷ 8 ∷ [])
    ≡ Some ReservedPage ∷ Some ReservedPage ∷ None ∷ None ∷ Some BadPage ∷ []
wrong_numbers = refl

both_wrong : number_fault 8 2 5 ≡ Some BadPage
both_wrong = refl

first_is_told : map (first_number_fault 2 8)
    ((3 ∷ 1 ∷ 8 ∷ []) ∷ (3 ∷ 8 ∷ 1 ∷ []) ∷ (3 ∷ 7 ∷ []) ∷ [])
    ≡ Some ReservedPage ∷ Some BadPage ∷ None ∷ []
first_is_told = refl

-- ---- requests

-- three numbers that name two pages, a reserved one as the fourth, one past the end as the fifth
named : map (λ pieces. page_request memory pieces 2) ((read 4096 12 ∷ []) ∷ (read 4096 20 ∷ [])
    ∷ (read 4112 4 ∷ read 4096 16 ∷ []) ∷ [])
    ≡ Ok (7 ∷ 3 ∷ []) ∷ Err ReservedPage ∷ Err BadPage ∷ []
unfolding byte_at bytes_of numbers_of page_request
named = refl

-- a piece to be written is told before a wrong length, and that before a wrong number
not_named : map (λ pieces. page_request memory pieces 2) ((read 4112 6 ∷ written 0 4 ∷ [])
    ∷ (read 4112 6 ∷ []) ∷ [])
    ≡ Err WrongDirection ∷ Err BadLength ∷ []
unfolding page_request
not_named = refl
