-- How far a walk has come, and what it says at its end.
use Rattle.std.proofs.Common.{◌≡◌, ℕ, ◌+◌, ◌<◌, List, [], ◌∷◌, ◌++◌, Bool, true, false, ◌||◌, Some}
use Rattle.std.proofs.lemmas.List.{length_push, get_or_append_left, get_or_push, take-append-le}
use Rattle.std.specs.{List.list_any, Prelude.slice_index}
use Rattle.std.proofs.lemmas.List.{Folds.list_any_more, take_at, take_all, map_more}
use Rattle.std.proofs.Common.{None, length, map, take, sym, ◌∙◌, ap, inr, arith}
use Rattle.vb_chain.specs.{Rules.{is_writable, piece_of, first_fault}, declared.pieces.Piece.Piece}
use Rattle.vb_chain.specs.declared.{descriptor.Descriptor.Descriptor, fault.ChainFault.ChainFault}
use Rattle.vb_chain.specs.{Chain.{IsPath, fault_at, ChainGives, FaultGives}, Rules.has_next}

-- i descriptors of a path have been visited, and index, its last, is next
pub record Walked (d : ℕ → Descriptor) (q end head : ℕ) (path : List ℕ) (i index : ℕ)
    (writing : Bool) (pieces : List Piece) : Type 0 where
  pub inside : head < q
  pub is_path : IsPath d head path
  pub count : length path ≡ i + 1
  pub last : slice_index path i ≡ index
  pub sound : (k : ℕ) → k < i → fault_at d q end path k ≡ None
  pub writes : writing ≡ list_any (λ j. is_writable (d j)) (take i path)
  pub read : pieces ≡ map (λ j. piece_of (d j)) (take i path)

pub walked_init : (d : ℕ → Descriptor) (q end head : ℕ) → head < q
    → Walked d q end head (head ∷ []) 0 head false []
walked_init d q end head lt = grind arith

-- what is at a place that was visited is the same on the longer path
pub fault_kept : (d : ℕ → Descriptor) (q end : ℕ) (path : List ℕ) (j k : ℕ) → k < length path
    → fault_at d q end (path ++ j ∷ []) k ≡ fault_at d q end path k
fault_kept d q end path j k lt = grind (arith, take-append-le, get_or_append_left)

-- the rule that is broken at the last place
pub fault_last : (d : ℕ → Descriptor) (q end head : ℕ) (path : List ℕ) (i index : ℕ)
    (writing : Bool) (pieces : List Piece) → Walked d q end head path i index writing pieces
    → fault_at d q end path i ≡ first_fault q end writing i (d index)
fault_last d q end head path i index writing pieces w = grind arith

pub walked_fault : (d : ℕ → Descriptor) (q end head : ℕ) (path : List ℕ) (i index : ℕ)
    (writing : Bool) (pieces : List Piece) (f : ChainFault)
    → Walked d q end head path i index writing pieces
    → first_fault q end writing i (d index) ≡ Some f → FaultGives d q end head f
walked_fault d q end head path i index writing pieces f w e = inr (
  path,
  record {
    inside = w.inside;
    is_path = w.is_path;
    sound = λ k h. w.sound k (omega (arith, w.count));
    breaks = λ k h. let at : k ≡ i = omega (arith, w.count) in
        ap (fault_at d q end path) at ∙ fault_last d q end head path i index writing pieces w ∙ e;
  },
)

pub walked_chain : (d : ℕ → Descriptor) (q end head : ℕ) (path : List ℕ) (i index : ℕ)
    (writing : Bool) (pieces : List Piece) → Walked d q end head path i index writing pieces
    → i < q → first_fault q end writing i (d index) ≡ None → has_next (d index) ≡ false
    → ChainGives d q end head (pieces ++ piece_of (d index) ∷ [])
walked_chain d q end head path i index writing pieces w lt e stop =
    let all : take (i + 1) path ≡ path = take_all (i + 1) path (omega (arith, w.count)) in record {
      path = path;
      chain = grind arith;
      pieces_are = ap (λ xs. xs ++ piece_of (d index) ∷ []) w.read
          ∙ ap (λ n. map (λ j. piece_of (d j)) (take i path) ++ piece_of (d n) ∷ []) (sym w.last)
          ∙ sym (map_more (λ j. piece_of (d j)) path i 0 (omega (arith, w.count)))
          ∙ ap (map (λ j. piece_of (d j))) all;
    }

-- one descriptor more has been visited
pub walked_more : (d : ℕ → Descriptor) (q end head : ℕ) (path : List ℕ) (i index : ℕ)
    (writing : Bool) (pieces : List Piece) → Walked d q end head path i index writing pieces
    → first_fault q end writing i (d index) ≡ None → has_next (d index) ≡ true
    → Walked d q end head (path ++ (d index).next ∷ []) (i + 1) (d index).next
    (writing || is_writable (d index)) (pieces ++ piece_of (d index) ∷ [])
walked_more d q end head path i index writing pieces w e more = let j = (d index).next in
    let size : length (path ++ j ∷ []) ≡ length path + 1 = length_push path j in
    let here : (k : ℕ) → k < length path → slice_index (path ++ j ∷ []) k ≡ slice_index path k =
    λ k h. get_or_append_left path (j ∷ []) 0 k h in
    let last : slice_index (path ++ j ∷ []) (i + 1) ≡ j = get_or_push path j 0 (i + 1) w.count in
    let cut : take (i + 1) (path ++ j ∷ []) ≡ path = take_at path (j ∷ []) (i + 1) w.count in
    let all : take (i + 1) path ≡ path = take_all (i + 1) path (omega (arith, w.count)) in record {
      inside = w.inside;
      is_path = grind arith;
      count = omega (arith, size, w.count);
      last = last;
      sound = grind (arith, fault_kept);
      writes = ap (λ b. b || is_writable (d index)) w.writes ∙ ap
          (λ n. list_any (λ j. is_writable (d j)) (take i path) || is_writable (d n)) (sym w.last)
          ∙ sym (list_any_more (λ j. is_writable (d j)) path i 0 (omega (arith, w.count)))
          ∙ ap (list_any (λ j. is_writable (d j))) (all ∙ sym cut);
      read = ap (λ xs. xs ++ piece_of (d index) ∷ []) w.read
          ∙ ap (λ n. map (λ j. piece_of (d j)) (take i path) ++ piece_of (d n) ∷ []) (sym w.last)
          ∙ sym (map_more (λ j. piece_of (d j)) path i 0 (omega (arith, w.count)))
          ∙ ap (map (λ j. piece_of (d j))) (all ∙ sym cut);
    }
