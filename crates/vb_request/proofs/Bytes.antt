-- Bytes of guest memory in a row.
use Rattle.std.proofs.Common.{sym, ◌∙◌, ap, arith, get_or, take, inl, inr, length-append}
use Rattle.std.proofs.lemmas.{Bool.cases_lt, Grind.flat_map-append, List.{append-nil, take_more}}
use Rattle.std.proofs.lemmas.List.{ext_get_or, get_or_append_left, get_or-append_right}
use Rattle.std.proofs.lemmas.List.FromFn.{get_or-map-range_with_len, length-map-range_with_len}
use Rattle.std.{proofs.lemmas.List.Sums.sum_by_more, specs.List.list_any, specs.Prelude.{◌≡◌, ℕ}}
use Rattle.std.specs.Prelude.{◌+◌, ◌-◌, ◌/◌, ◌%◌, ◌<◌, ◌≤◌, ◌⊎◌, true, false, List, [], ◌∷◌, ◌++◌}
use Rattle.std.specs.Prelude.{length, slice_index, Result, Ok, Err, refl, Bool, if◌then◌else◌}
use Rattle.vb_ram.specs.Pages.{Pages, byte_at}
use Rattle.vb_chain.{specs.declared.pieces.Piece.Piece, specs.declared.fault.ChainFault.ChainFault}
use Rattle.vb_chain.specs.declared.fault.ChainFault.TheVariants.{WrongDirection, BadLength}
use Rattle.vb_request.specs.Request.{byte_of_address, bytes_from, bytes_of, total_length}
use Rattle.vb_request.specs.Request.{is_request_length, numbers_of, pages_of_numbers}
use Rattle.vb_request.specs.Request.{request_length, page_request}

pub bytes_from-length : (mem : Pages) (addr len : ℕ) → length (bytes_from mem addr len) ≡ len
bytes_from-length mem addr len = length-map-range_with_len (byte_of_address mem) addr len

-- bytes that were read from one page
pub run_is : (mem : Pages) (addr n : ℕ) (out : List ℕ) → length out ≡ n → addr % 4096 + n ≤ 4096 →
    ((k : ℕ) → k < n → slice_index out k ≡ byte_at mem (addr / 4096) (addr % 4096 + k))
    → out ≡ bytes_from mem addr n
run_is mem addr n out len fits read = ext_get_or 0 out (bytes_from mem addr n)
    (len ∙ sym (bytes_from-length mem addr n)) (λ k l. read k (omega (arith, l, len)) ∙
    sym (get_or-map-range_with_len (byte_of_address mem) addr n k (addr + k) 0
    (omega (arith, l, len)) refl ∙ here k (omega (arith, l, len))))
  where
    here : (k : ℕ) → k < n →
        byte_of_address mem (addr + k) ≡ byte_at mem (addr / 4096) (addr % 4096 + k)
    here k l = let page : (addr + k) / 4096 ≡ addr / 4096 = omega (arith, fits, l) in
        let offset : (addr + k) % 4096 ≡ addr % 4096 + k = omega (arith, fits, l) in
        ap (λ (p : ℕ). byte_at mem p ((addr + k) % 4096)) page ∙
        ap (byte_at mem (addr / 4096)) offset

-- bytes in two parts
pub bytes_from-append : (mem : Pages) (addr a b : ℕ) →
    bytes_from mem addr a ++ bytes_from mem (addr + a) b ≡ bytes_from mem addr (a + b)
bytes_from-append mem addr a b = ext_get_or 0 (bytes_from mem addr a ++ bytes_from mem (addr + a) b)
    (bytes_from mem addr (a + b)) (both ∙ sym (bytes_from-length mem addr (a + b))) (λ k l.
    at k (omega (arith, l, both)) (cases_lt k a) ∙
    sym (get_or-map-range_with_len (byte_of_address mem) addr (a + b) k (addr + k) 0
    (omega (arith, l, both)) refl))
  where
    both : length (bytes_from mem addr a ++ bytes_from mem (addr + a) b) ≡ a + b
    both = omega (
      arith,
      length-append (bytes_from mem addr a) (bytes_from mem (addr + a) b),
      bytes_from-length mem addr a,
      bytes_from-length mem (addr + a) b,
    )

    at : (k : ℕ) → k < a + b → (k < a) ⊎ (a ≤ k) → get_or (bytes_from mem addr a
        ++ bytes_from mem (addr + a) b) k 0 ≡ byte_of_address mem (addr + k)
    at k l (inl lt) = get_or_append_left (bytes_from mem addr a) (bytes_from mem (addr + a) b) 0 k
        (omega (arith, lt, bytes_from-length mem addr a))
        ∙ get_or-map-range_with_len (byte_of_address mem) addr a k (addr + k) 0 lt refl
    at k l (inr past) = let same : addr + a + (k - a) ≡ addr + k = omega arith in
        get_or-append_right (bytes_from mem addr a) (bytes_from mem (addr + a) b) a k 0
        (bytes_from-length mem addr a) past ∙ get_or-map-range_with_len
        (byte_of_address mem) (addr + a) b (k - a) (addr + k) 0 (omega (arith, l, past)) same

-- one more piece
pub pieces_more : (mem : Pages) (pieces : List Piece) (i : ℕ) (d : Piece) (so_far new : List ℕ) →
    i < length pieces → so_far ≡ bytes_of mem (take i pieces) →
    new ≡ so_far ++ bytes_from mem (get_or pieces i d).addr (get_or pieces i d).len
    → new ≡ bytes_of mem (take (i + 1) pieces)
unfolding bytes_of
pieces_more mem pieces i d so_far new lt e f = grind (
  arith,
  take_more pieces i d lt,
  flat_map-append (λ piece. bytes_from mem piece.addr piece.len) (take i pieces) (get_or pieces i d ∷ []),
  append-nil (bytes_from mem (get_or pieces i d).addr (get_or pieces i d).len),
)

pub pieces_count : (mem : Pages) (pieces : List Piece) (i : ℕ) (d : Piece) (so_far new : List ℕ) →
    i < length pieces → length so_far ≡ total_length (take i pieces) →
    new ≡ so_far ++ bytes_from mem (get_or pieces i d).addr (get_or pieces i d).len
    → length new ≡ total_length (take (i + 1) pieces)
pieces_count mem pieces i d so_far new lt e f =
    grind (arith, length-append, bytes_from-length, sum_by_more)

-- ---- the three answers to a chain

refused_before : (writes wrong : Bool) (n : ℕ) (named : Result (List ℕ) ChainFault)
    (fault : ChainFault)
    → (if writes then Err WrongDirection else (if wrong then Err BadLength else Ok n)) ≡ Err fault
    → (if writes then Err WrongDirection else (if wrong then Err BadLength else named)) ≡ Err fault
refused_before writes wrong n named fault e = search (arith)

read_behind : (writes wrong : Bool) (n m : ℕ) (named : Result (List ℕ) ChainFault)
    → (if writes then Err WrongDirection else (if wrong then Err BadLength else Ok n)) ≡ Ok m
    → (if writes then Err WrongDirection else (if wrong then Err BadLength else named)) ≡ named
read_behind writes wrong n m named e = search (arith)

pub refused_request : (mem : Pages) (pieces : List Piece) (reserved : ℕ) (fault : ChainFault)
    → request_length pieces ≡ Err fault → page_request mem pieces reserved ≡ Err fault
unfolding page_request
refused_request mem pieces reserved fault e = grind (arith, refused_before)

pub read_numbers : (mem : Pages) (pieces : List Piece) (reserved total : ℕ)
    → request_length pieces ≡ Ok total → page_request mem pieces reserved
    ≡ pages_of_numbers reserved (length mem) (numbers_of (bytes_of mem pieces))
unfolding page_request
read_numbers mem pieces reserved total e = grind (arith, read_behind)

pub by_numbers : (mem : Pages) (pieces : List Piece) (reserved : ℕ)
    → list_any (λ piece. piece.writable) pieces ≡ false
    → is_request_length (total_length pieces) ≡ true → page_request mem pieces reserved
    ≡ pages_of_numbers reserved (length mem) (numbers_of (bytes_of mem pieces))
unfolding page_request
by_numbers mem pieces reserved e f = rw (e, f) refl
