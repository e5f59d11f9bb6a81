-- There is room for the bytes of a chain.
use Rattle.std.proofs.Common.{◌≡◌, ◌∙◌, refl, arith, ℕ, ◌+◌, ◌≤◌, List, [], ◌∷◌, length, Ok}
use Rattle.std.proofs.lemmas.{Bool.Decides.nat_tests, List.length-append}
use Rattle.std.proofs.lemmas.List.FromFn.{length-map-range_with_len}
use Rattle.std.proofs.lemmas.List.Sums.{sum_by-cons}
use Rattle.vb_chain.specs.declared.pieces.Piece.{Piece}
use Rattle.vb_request.specs.Request.{total_length, request_length}
use Rattle.vb_request.specs.Statistics.{statistics_length}
use Rattle.vb_monitor.specs.{Still.{bytes_from, bytes_of}, Chains.id_length}

pub so_many : (byte : ℕ → ℕ) (pieces : List Piece) →
    length (bytes_of byte pieces) ≡ total_length pieces
so_many byte [] = refl
so_many byte (p ∷ ps) =
    let more : total_length (p ∷ ps) ≡ p.len + total_length ps =
    sum_by-cons (λ (q : Piece). q.len) p ps in
    omega (
      arith,
      more,
      length-append (bytes_from byte p.addr p.len) (bytes_of byte ps),
      length-map-range_with_len byte p.addr p.len,
      so_many byte ps,
    )

few_of : (pieces : List Piece) (n : ℕ) → request_length pieces ≡ Ok n → total_length pieces ≤ 1024
few_of pieces n e = grind (arith, nat_tests)

pub request_room : (byte : ℕ → ℕ) (pieces : List Piece) (n : ℕ) → request_length pieces ≡ Ok n →
    length (bytes_of byte pieces) ≤ 1024
request_room byte pieces n e = omega (arith, so_many byte pieces, few_of pieces n e)

few_figures : (pieces : List Piece) (n : ℕ) → statistics_length pieces ≡ Ok n →
    total_length pieces ≤ 1020
few_figures pieces n e = grind (arith, nat_tests)

pub buffer_room : (byte : ℕ → ℕ) (pieces : List Piece) (n : ℕ) → statistics_length pieces ≡ Ok n →
    length (bytes_of byte pieces) ≤ 1020
buffer_room byte pieces n e = omega (arith, so_many byte pieces, few_figures pieces n e)

total_so : (pieces : List Piece) (n : ℕ) → request_length pieces ≡ Ok n → n ≡ total_length pieces
total_so pieces n e = grind (arith, nat_tests)

pub request_bytes : (byte : ℕ → ℕ) (pieces : List Piece) (n : ℕ) → request_length pieces ≡ Ok n →
    length (bytes_of byte pieces) ≡ n
request_bytes byte pieces n e = omega (arith, so_many byte pieces, total_so pieces n e)

buffer_total : (pieces : List Piece) (n : ℕ) → statistics_length pieces ≡ Ok n →
    n ≡ total_length pieces
buffer_total pieces n e = grind (arith, nat_tests)

pub buffer_bytes : (byte : ℕ → ℕ) (pieces : List Piece) (n : ℕ) → statistics_length pieces ≡ Ok n →
    length (bytes_of byte pieces) ≡ n
buffer_bytes byte pieces n e = omega (arith, so_many byte pieces, buffer_total pieces n e)

four_of : (pieces : List Piece) (n : ℕ) → id_length pieces ≡ Ok n → total_length pieces ≡ 4
four_of pieces n e = grind (arith, nat_tests)

pub id_bytes : (byte : ℕ → ℕ) (pieces : List Piece) (n : ℕ) → id_length pieces ≡ Ok n →
    length (bytes_of byte pieces) ≡ 4
id_bytes byte pieces n e = so_many byte pieces ∙ four_of pieces n e
