-- Two tables that agree give the same chains and the same faults.
use Rattle.std.proofs.Common.{◌≡◌, ◌∙◌, ℕ, zero, suc, ◌+◌, ◌<◌, Bool, true, false, List, [], ◌∷◌}
use Rattle.std.proofs.lemmas.{Bool.leb-false, List.{get_or-take, length-take}}
use Rattle.std.specs.{List.list_any, Prelude.{◌&&◌, ◌||◌}}
use Rattle.std.proofs.Common.{None, refl, length, get_or, map, sym, ap, arith, inl, inr}
use Rattle.vb_chain.specs.declared.{descriptor.Descriptor.Descriptor, fault.ChainFault.ChainFault}
use Rattle.vb_chain.specs.{Rules.{has_next, first_fault}, declared.pieces.Piece.Piece}
use Rattle.vb_chain.specs.Chain.{IsPath, fault_at, ChainGives, FaultGives}

-- The two give the same descriptors of a table of n.
abbrev pub Agree : ℕ → (ℕ → Descriptor) → (ℕ → Descriptor) → Type 0
Agree q d e = (i : ℕ) → i < q → d i ≡ e i

pub agree_back : (q : ℕ) (d e : ℕ → Descriptor) → Agree q d e → Agree q e d
agree_back q d e same i lt = sym (same i lt)

-- ---- lists

any_same : (f g : ℕ → Bool) (xs : List ℕ) → ((j : ℕ)
    → j < length xs → f (get_or xs j 0) ≡ g (get_or xs j 0)) → list_any f xs ≡ list_any g xs
any_same f g [] same = refl
any_same f g (x ∷ xs) same = ap (λ (b : Bool). b || list_any f xs) (same 0 (omega arith))
    ∙ ap (λ (b : Bool). g x || b) (any_same f g xs (λ j lt. same (suc j) (omega arith)))

map_same : (f g : ℕ → Piece) (xs : List ℕ) →
    ((j : ℕ) → j < length xs → f (get_or xs j 0) ≡ g (get_or xs j 0)) → map f xs ≡ map g xs
map_same f g [] same = refl
map_same f g (x ∷ xs) same = ap (λ (p : Piece). p ∷ map f xs) (same 0 (omega arith))
    ∙ ap (λ (ps : List Piece). g x ∷ ps) (map_same f g xs (λ j lt. same (suc j) (omega arith)))

-- ---- the numbers of a path

goes_on : (a b : Bool) → (a && b) ≡ false → a ≡ true → b ≡ false
goes_on true b e h = e
goes_on false b e h = absurd cc

-- a descriptor that breaks no rule and goes on names one of the table
next_below : (q end : ℕ) (writing : Bool) (k : ℕ) (x : Descriptor) →
    first_fault q end writing k x ≡ None → has_next x ≡ true → x.next < q
next_below q end writing k x e more = grind (arith, leb-false, goes_on)

path_below : (d : ℕ → Descriptor) (q end head : ℕ) (path : List ℕ) → head < q → IsPath d head path →
    ((k : ℕ) → k + 1 < length path → fault_at d q end path k ≡ None) →
    (k : ℕ) → k < length path → get_or path k 0 < q
path_below d q end head path inside is sound zero lt = omega (arith, is.begins, inside)
path_below d q end head path inside is sound (suc k) lt =
    let short : k + 1 < length path = omega (arith, lt) in grind (arith, one k, next_below)
  where
    one : (n : ℕ) → suc n ≡ n + 1
    one n = omega arith

-- ---- what is said of a path

same_fault : (d e : ℕ → Descriptor) (q end : ℕ) (path : List ℕ) →
    ((k : ℕ) → k < length path → d (get_or path k 0) ≡ e (get_or path k 0)) →
    (k : ℕ) → k < length path → fault_at d q end path k ≡ fault_at e q end path k
same_fault d e q end path same k lt = grind (arith, any_same, length-take, get_or-take)

pub same_chain : (d e : ℕ → Descriptor) (q end h : ℕ) (pieces : List Piece) → Agree q d e →
    ChainGives d q end h pieces → ChainGives e q end h pieces
same_chain d e q end h pieces agree gives = let chain = gives.chain in
    let path : List ℕ = gives.path in
    let below : (k : ℕ) → k < length path → get_or path k 0 < q = path_below
    d q end h path chain.inside chain.is_path (λ k lt. chain.sound k (omega (arith, lt))) in
    grind (arith, same_fault, map_same)

pub same_break : (d e : ℕ → Descriptor) (q end h : ℕ) (fault : ChainFault) → Agree q d e →
    FaultGives d q end h fault → FaultGives e q end h fault
same_break d e q end h fault agree (inl none) = inl none
same_break d e q end h fault agree (inr (path, breaks)) =
    grind (arith, path_below d q end h path breaks.inside breaks.is_path breaks.sound, same_fault)
