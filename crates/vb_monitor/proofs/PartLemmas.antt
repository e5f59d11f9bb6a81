-- Parts of pieces, one piece after the other.
use Rattle.std.proofs.Common.{◌≡◌, ◌∙◌, ap, sym, subst, refl, arith, ℕ, zero, suc, ◌+◌, ◌-◌, ◌%◌, ◌<◌, ◌≤◌}
use Rattle.std.proofs.Common.{Bool, true, false, List, [], ◌∷◌, ◌++◌, length, drop, get_or}
use Rattle.std.{specs.Prelude.{if◌then◌else◌, ◌==◌, min}, proofs.lemmas.List.{drop_more, drop_all}}
use Rattle.std.proofs.lemmas.Bool.Decides.{nat_tests}
use Rattle.vb_chain.specs.declared.pieces.Piece.{Piece}
use Rattle.vb_core.{specs.Pieces.{piece_in, pieces_in}, specs.declared.pieces.ChainPiece.ChainPiece}
use Rattle.vb_core.proofs.PieceLemmas.{get_in, length_in}
use Rattle.vb_monitor.specs.declared.{parts.Part.Part, room.TheConstants.MAX_BYTES}
use Rattle.vb_monitor.specs.Pieces.{next_part, parts_of, parts_on}

-- ---- one part

some_length : (a b c : ℕ) → 0 < a → 0 < b → 0 < c → 1 ≤ min a (min b c)
some_length a b c x y z = omega (arith, x, y, z)

pub some_bytes : (p : Piece) (done into : ℕ) → done < p.len → 1 ≤ (next_part p done into).length
some_bytes p done into lt =
    some_length (p.len - done) (4096 - (p.addr + done) % 4096) (MAX_BYTES - into % MAX_BYTES)
    (omega (arith, lt)) (omega arith) (omega arith)

pub few_bytes : (p : Piece) (done into : ℕ) → done < p.len →
    done + (next_part p done into).length ≤ p.len
few_bytes p done into lt = omega (arith, lt)

-- ---- as many as there are

none_left : (len done : ℕ) → len - done ≤ 0 → (len - done == 0) ≡ true
none_left len done le = grind (arith, nat_tests)

pub no_parts : (n : ℕ) (p : Piece) (done into : ℕ) → p.len - done ≤ 0 → parts_of n p done into ≡ []
no_parts zero p done into le = refl
no_parts (suc n) p done into le = let part = next_part p done into in
    ap (λ (b : Bool). if b then [] else part ∷ parts_of n p (done + part.length) (into + part.length))
    (none_left p.len done le)

pub more_parts : (n : ℕ) (p : Piece) (done into : ℕ) → done < p.len →
    parts_of (suc n) p done into ≡ next_part p done into ∷
    parts_of n p (done + (next_part p done into).length) (into + (next_part p done into).length)
more_parts n p done into lt = let part = next_part p done into in
    let some : (p.len - done == 0) ≡ false = grind (arith, nat_tests) in
    ap (λ (b : Bool). if b then [] else part ∷ parts_of n p (done + part.length) (into + part.length))
    some

enough_by : (b : Bool) (n m : ℕ) (p : Piece) (done into : ℕ)
    (on : (d i : ℕ) → p.len - d ≤ n → p.len - d ≤ m → parts_of n p d i ≡ parts_of m p d i) →
    (p.len - done == 0) ≡ b → p.len - done ≤ suc n → p.len - done ≤ suc m →
    parts_of (suc n) p done into ≡ parts_of (suc m) p done into
enough_by true n m p done into on e a b =
    let none : p.len - done ≤ 0 = grind (arith, nat_tests) in
    no_parts (suc n) p done into none ∙ sym (no_parts (suc m) p done into none)
enough_by false n m p done into on e a b =
    let lt : done < p.len = grind (arith, nat_tests) in
    let some = some_bytes p done into lt in
    let part = next_part p done into in
    more_parts n p done into lt
    ∙ (ap (λ (l : List Part). part ∷ l) (on (done + part.length) (into + part.length)
    (omega (arith, a, some)) (omega (arith, b, some)))
    ∙ sym (more_parts m p done into lt))

pub enough_parts : (n m : ℕ) (p : Piece) (done into : ℕ) → p.len - done ≤ n → p.len - done ≤ m →
    parts_of n p done into ≡ parts_of m p done into
enough_parts zero m p done into a b = sym (no_parts m p done into a)
enough_parts (suc n) zero p done into a b = no_parts (suc n) p done into b
enough_parts (suc n) (suc m) p done into a b = enough_by (p.len - done == 0) n m p done into
    (λ d i x y. enough_parts n m p d i x y) refl a b

-- ---- pieces

here_so : (k : ℕ) (p : Piece) (ps : List Piece) (done into : ℕ) → p.len - done ≡ suc k →
    parts_of (p.len - done) p done into ++ parts_on (into + (p.len - done)) 0 ps ≡
    next_part p done into ∷ parts_on (into + (next_part p done into).length)
    (done + (next_part p done into).length) (p ∷ ps)
here_so k p ps done into e =
    let part = next_part p done into in
    let lt : done < p.len = omega (arith, e) in
    let some = some_bytes p done into lt in
    let few = few_bytes p done into lt in
    let rest : into + (p.len - done) ≡
    (into + part.length) + (p.len - (done + part.length)) = omega (arith, few) in
    ap (λ (n : ℕ). parts_of n p done into ++ parts_on (into + (p.len - done)) 0 ps) e
    ∙ (ap (λ (l : List Part). l ++ parts_on (into + (p.len - done)) 0 ps)
    (more_parts k p done into lt)
    ∙ (ap (λ (l : List Part). part ∷ (l ++ parts_on (into + (p.len - done)) 0 ps))
    (enough_parts k (p.len - (done + part.length)) p (done + part.length) (into + part.length)
    (omega (arith, e, some)) (omega arith))
    ∙ ap (λ (i : ℕ). part ∷ (parts_of (p.len - (done + part.length)) p (done + part.length)
    (into + part.length) ++ parts_on i 0 ps)) rest))

pub part_first : (p : Piece) (ps : List Piece) (done into : ℕ) → done < p.len →
    parts_on into done (p ∷ ps) ≡ next_part p done into ∷
    parts_on (into + (next_part p done into).length) (done + (next_part p done into).length) (p ∷ ps)
part_first p ps done into lt =
    let e : p.len - done ≡ suc (p.len - (done + 1)) = omega (arith, lt) in
    here_so (p.len - (done + 1)) p ps done into e

pub part_here : (ps : List Piece) (n done into : ℕ) (d : Piece) → n < length ps →
    done < (get_or ps n d).len → parts_on into done (drop n ps) ≡
    next_part (get_or ps n d) done into ∷
    parts_on (into + (next_part (get_or ps n d) done into).length)
    (done + (next_part (get_or ps n d) done into).length) (drop n ps)
part_here ps n done into d lt h =
    let p = get_or ps n d in
    let part = next_part p done into in
    subst (λ (l : List Piece). parts_on into done l ≡
    part ∷ parts_on (into + part.length) (done + part.length) l) (sym (drop_more ps n d lt))
    (part_first p (drop (n + 1) ps) done into h)

pub part_on : (ps : List Piece) (n done into : ℕ) (d : Piece) → n < length ps →
    (get_or ps n d).len ≤ done → parts_on into done (drop n ps) ≡ parts_on into 0 (drop (n + 1) ps)
part_on ps n done into d lt h =
    let p = get_or ps n d in
    let none : p.len - done ≡ 0 = omega (arith, h) in
    let same : into + 0 ≡ into = omega arith in
    ap (λ (l : List Piece). parts_on into done l) (drop_more ps n d lt)
    ∙ (ap (λ (k : ℕ). parts_of k p done into ++ parts_on (into + k) 0 (drop (n + 1) ps)) none
    ∙ ap (λ (i : ℕ). parts_on i 0 (drop (n + 1) ps)) same)

pub part_end : (ps : List Piece) (n done into : ℕ) → length ps ≤ n → parts_on into done (drop n ps) ≡ []
part_end ps n done into le = ap (λ (l : List Piece). parts_on into done l) (drop_all n ps le)

-- ---- a portion later

again_by : (b : Bool) (n : ℕ) (p : Piece) (done i j : ℕ)
    (on : (d a c : ℕ) → a % MAX_BYTES ≡ c % MAX_BYTES → parts_of n p d a ≡ parts_of n p d c) →
    (p.len - done == 0) ≡ b → i % MAX_BYTES ≡ j % MAX_BYTES →
    parts_of (suc n) p done i ≡ parts_of (suc n) p done j
again_by true n p done i j on e m =
    let none : p.len - done ≤ 0 = grind (arith, nat_tests) in
    no_parts (suc n) p done i none ∙ sym (no_parts (suc n) p done j none)
again_by false n p done i j on e m =
    let lt : done < p.len = grind (arith, nat_tests) in
    let part = next_part p done in
    let same : part i ≡ part j = ap (λ (x : ℕ). record {
      address = p.addr;
      plus = done;
      length = min (p.len - done) (min (4096 - (p.addr + done) % 4096) (MAX_BYTES - x));
    }) m in
    let long : (part i).length ≡ (part j).length = ap (λ (x : Part). x.length) same in
    let on_so : (i + (part i).length) % MAX_BYTES ≡ (j + (part j).length) % MAX_BYTES =
    omega (arith, m, long) in
    more_parts n p done i lt
    ∙ (ap (λ (x : Part). x ∷ parts_of n p (done + (part i).length) (i + (part i).length)) same
    ∙ (ap (λ (k : ℕ). part j ∷ parts_of n p (done + k) (i + (part i).length)) long
    ∙ (ap (λ (l : List Part). part j ∷ l) (on (done + (part j).length) (i + (part i).length)
    (j + (part j).length) on_so)
    ∙ sym (more_parts n p done j lt))))

parts_again : (n : ℕ) (p : Piece) (done i j : ℕ) → i % MAX_BYTES ≡ j % MAX_BYTES →
    parts_of n p done i ≡ parts_of n p done j
parts_again zero p done i j m = refl
parts_again (suc n) p done i j m =
    again_by (p.len - done == 0) n p done i j (λ d a c e. parts_again n p d a c e) refl m

pub all_again : (ps : List Piece) (done i j : ℕ) → i % MAX_BYTES ≡ j % MAX_BYTES →
    parts_on i done ps ≡ parts_on j done ps
all_again [] done i j m = refl
all_again (p ∷ ps) done i j m =
    let k = p.len - done in
    let on : (i + k) % MAX_BYTES ≡ (j + k) % MAX_BYTES = omega (arith, m) in
    ap (λ (l : List Part). l ++ parts_on (i + k) 0 ps) (parts_again k p done i j m)
    ∙ ap (λ (l : List Part). parts_of k p done j ++ l) (all_again ps 0 (i + k) (j + k) on)

-- ---- buffers

less_in : (bs : List ChainPiece) (n : ℕ) → n < length bs → n < length (pieces_in bs)
less_in bs n lt = subst (λ (m : ℕ). n < m) (sym (length_in bs)) lt

more_in : (bs : List ChainPiece) (n : ℕ) → length bs ≤ n → length (pieces_in bs) ≤ n
more_in bs n le = subst (λ (m : ℕ). m ≤ n) (sym (length_in bs)) le

pub here_in : (bs : List ChainPiece) (n done into : ℕ) (d : ChainPiece) → n < length bs →
    done < (get_or bs n d).length → parts_on into done (drop n (pieces_in bs)) ≡
    next_part (piece_in (get_or bs n d)) done into ∷
    parts_on (into + (next_part (piece_in (get_or bs n d)) done into).length)
    (done + (next_part (piece_in (get_or bs n d)) done into).length) (drop n (pieces_in bs))
here_in bs n done into d lt = subst (λ (p : Piece). done < p.len →
    parts_on into done (drop n (pieces_in bs)) ≡ next_part p done into ∷
    parts_on (into + (next_part p done into).length) (done + (next_part p done into).length)
    (drop n (pieces_in bs))) (get_in bs n d lt)
    (part_here (pieces_in bs) n done into (piece_in d) (less_in bs n lt))

pub on_in : (bs : List ChainPiece) (n done into : ℕ) (d : ChainPiece) → n < length bs →
    (get_or bs n d).length ≤ done →
    parts_on into done (drop n (pieces_in bs)) ≡ parts_on into 0 (drop (n + 1) (pieces_in bs))
on_in bs n done into d lt = subst (λ (p : Piece). p.len ≤ done →
    parts_on into done (drop n (pieces_in bs)) ≡ parts_on into 0 (drop (n + 1) (pieces_in bs)))
    (get_in bs n d lt) (part_on (pieces_in bs) n done into (piece_in d) (less_in bs n lt))

pub end_in : (bs : List ChainPiece) (n done into : ℕ) → length bs ≤ n →
    parts_on into done (drop n (pieces_in bs)) ≡ []
end_in bs n done into le = part_end (pieces_in bs) n done into (more_in bs n le)

pub ruleset part_steps = (here_in, on_in, end_in)
