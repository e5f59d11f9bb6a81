-- Laws of chains, for the crates above.
use Rattle.std.specs.Prelude.{◌≡◌, ℕ, ◌+◌, ◌<◌, ◌≤◌, List, [], ◌∷◌, Bool, true, false, None, length}
use Rattle.std.proofs.lemmas.List.{ext_get_or, length-map, get_or-map, length-take-le, get_or-take}
use Rattle.std.specs.{List.list_any, Prelude.{slice_index, refl, suc, slice_index_or, nat_lt, ◌||◌}}
use Rattle.std.proofs.{Common.{sym, ◌∙◌, ap, arith, map}, lemmas.{Bool.le-ltb, Grind.common_steps}}
use Rattle.vb_chain.specs.declared.{descriptor.Descriptor.Descriptor, pieces.Piece.Piece}
use Rattle.vb_chain.specs.Rules.{flag, has_next, is_writable, piece_of, first_fault}
use Rattle.vb_chain.specs.{Chain.ChainGives, Written.{link_to, linked, empty, IsRoute, AreSound}}

-- one descriptor with no NEXT, on which no rule is broken, is a chain
pub single_chain : (d : ℕ → Descriptor) (q end head : ℕ) (x : Descriptor) → head < q → d head ≡ x
    → has_next x ≡ false → first_fault q end false 0 x ≡ None
    → ChainGives d q end head (piece_of x ∷ [])
single_chain d q end head x lt is stop fine = record {
  path = head ∷ [];
  chain = grind arith;
  pieces_are = ap (λ y. piece_of y ∷ []) (sym is);
}

-- the flags say what they were made of
pub flags_next : (more writable : Bool) (piece : Piece) (n : ℕ)
    → has_next (link_to (record piece { writable = writable }) more n) ≡ more
flags_next more writable piece n = grind arith

pub flags_writable : (more writable : Bool) (piece : Piece) (n : ℕ)
    → is_writable (link_to (record piece { writable = writable }) more n) ≡ writable
flags_writable more writable piece n = grind arith

-- no rule is broken where each of them is kept
pub no_fault : (q end : ℕ) (writing : Bool) (k : ℕ) (x : Descriptor) → flag x 4 ≡ false
    → x.addr + x.len ≤ end → (writing ≡ true → is_writable x ≡ true)
    → (has_next x ≡ true → (x.next < q) × (k + 1 < q)) → first_fault q end writing k x ≡ None
no_fault q end writing k x direct fits way next = grind (arith, common_steps)

-- a test that some element meets, where one does
any_at : (p : ℕ → Bool) (xs : List ℕ) → list_any p xs ≡ true
    → (k : ℕ) × (k < length xs) × (p (slice_index xs k) ≡ true)
any_at p [] h = cc
any_at p (x ∷ xs) h = first (p x) refl (any_at p xs) where
  first : (b : Bool) → p x ≡ b
      → (list_any p xs ≡ true → (k : ℕ) × (k < length xs) × (p (slice_index xs k) ≡ true))
      → (k : ℕ) × (k < length (x ∷ xs)) × (p (slice_index (x ∷ xs) k) ≡ true)
  first true e more = (0, omega arith, e)
  first false e more = let rest : list_any p xs ≡ true = ap (λ b. b || list_any p xs) (sym e) ∙ h in
      let found = more rest in (suc found.0, omega (arith, found.1), found.2)

-- what was written along a route is a chain of these pieces
pub written_chain : (d : ℕ → Descriptor) (q end : ℕ) (path : List ℕ) (pieces : List Piece)
    → IsRoute q path → length path ≡ length pieces → length path ≤ q → AreSound end pieces
    → ((k : ℕ) → k < length path → d (slice_index path k) ≡ linked path pieces k)
    → ChainGives d q end (slice_index path 0) pieces
written_chain d q end path pieces route pair short sound put =
    let goes : (k : ℕ) → k < length path
    → has_next (d (slice_index path k)) ≡ nat_lt (k + 1) (length path) = λ k h. ap has_next
    (put k h) ∙ flags_next (nat_lt (k + 1) (length path)) (slice_index_or pieces k empty).writable
    (slice_index_or pieces k empty) (slice_index path (k + 1)) in
    let writes : (k : ℕ) → k < length path → is_writable (d (slice_index path k))
    ≡ (slice_index_or pieces k empty).writable = λ k h. ap is_writable (put k h)
    ∙ flags_writable (nat_lt (k + 1) (length path)) (slice_index_or pieces k empty).writable
    (slice_index_or pieces k empty) (slice_index path (k + 1)) in record {
      path = path;
      chain = grind (arith, any_at, length-take-le, get_or-take, le-ltb);
      pieces_are = ext_get_or empty pieces (map (λ i. piece_of (d i)) path)
          (sym (length-map path (λ i. piece_of (d i)) ∙ pair)) (λ i h.
          grind (arith, get_or-map));
    }

-- a chain has a piece, and no more pieces than the table has descriptors
pub chain_size : (d : ℕ → Descriptor) (q end head : ℕ) (pieces : List Piece)
    → ChainGives d q end head pieces → (0 < length pieces) × (length pieces ≤ q)
chain_size d q end head pieces gives = grind (arith, length-map)
