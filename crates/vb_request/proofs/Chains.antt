-- The pieces of a chain lie in memory, as `read_chain_into` wants them.
use Rattle.std.specs.Prelude.{◌≡◌, ℕ, ◌+◌, ◌<◌, ◌≤◌, Bool, false, List, ◌∷◌, All, length, map}
use Rattle.std.{proofs.lemmas.List.{get_or-map, length-map}, specs.Prelude.{slice_index, None}}
use Rattle.std.proofs.lemmas.{List.Elements.All-from_get_or, Bool.ltb-false}
use Rattle.std.{proofs.Common.{sym, subst, arith, take}, specs.List.list_any}
use Rattle.vb_chain.specs.{declared.descriptor.Descriptor.Descriptor, Chain.ChainGives}
use Rattle.vb_chain.specs.declared.{pieces.Piece.Piece, fault.ChainFault.ChainFault}
use Rattle.vb_chain.specs.{Rules.{piece_of, first_broken, first_fault, is_writable}, Written.empty}

second_holds : (b c : Bool) (f h : ChainFault) (rest : List (Bool × ChainFault)) →
    first_broken ((b, f) ∷ (c, h) ∷ rest) ≡ None → c ≡ false
second_holds b c f h rest e = search (arith)

fits_of : (q end : ℕ) (writing : Bool) (k : ℕ) (x : Descriptor) →
    first_fault q end writing k x ≡ None → x.addr + x.len ≤ end
fits_of q end writing k x e = grind (arith, ltb-false, second_holds)

pub chain_fits : (d : ℕ → Descriptor) (q end h : ℕ) (pieces : List Piece) →
    ChainGives d q end h pieces → All (λ piece. piece.addr + piece.len ≤ end) pieces
chain_fits d q end h pieces gives = subst (λ (xs : List Piece). All
    (λ piece. piece.addr + piece.len ≤ end) xs) (sym gives.pieces_are) (All-from_get_or
    (λ piece. piece.addr + piece.len ≤ end) (map (λ i. piece_of (d i)) gives.path) empty (λ k lt.
    let inside : k < length gives.path =
    omega (arith, lt, length-map gives.path (λ i. piece_of (d i))) in
    subst (λ (piece : Piece). piece.addr + piece.len ≤ end)
    (sym (get_or-map (λ n. piece_of (d n)) gives.path k 0 empty inside))
    (fits_of q end (list_any (λ i. is_writable (d i)) (take k gives.path)) k
    (d (slice_index gives.path k)) (gives.chain.sound k inside))))
