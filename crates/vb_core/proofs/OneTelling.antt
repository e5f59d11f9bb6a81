-- Just one list of runs tells given numbers.
use Rattle.std.proofs.Common.{arith, ◌≡◌, ◌∙◌, ℕ, List, [], ◌∷◌, ◌++◌, refl, sym, ap}
use Rattle.std.{specs.Prelude.{Option, Some}, proofs.lemmas.Bool.ne_eqb}
use Rattle.vb_core.{specs.declared.runs.Run.Run, proofs.RunLemmas.{longer, longer_from}}
use Rattle.vb_core.specs.Runs.{joined, Grows, one_page, IsApartFrom, IsApart, IsPart, Tell}

-- a number that joins neither end isn't taken in
not_joined : (run next : Run) (n : ℕ) → IsApartFrom run n → joined run n ≡ Some next → ⊥
not_joined run next n away e = grind (arith, ne_eqb, longer, longer_from)

same_next : (o : Option Run) (x y : Run) → o ≡ Some x → o ≡ Some y → x ≡ y
same_next o x y e f = cc

cons_parts : (n k : ℕ) (xs ys : List ℕ) → n ∷ xs ≡ k ∷ ys → (n ≡ k) × (xs ≡ ys)
cons_parts n k xs ys e = (cc, cc)

nil_cons : (ns : List ℕ) (n : ℕ) (xs : List ℕ) → ns ≡ [] → ns ≡ n ∷ xs → ⊥
nil_cons ns n xs e f = cc

-- of two parts at the front of one list, each up to a number that joins neither end, both end there
one_part : (old run other : Run) (more also rest left : List ℕ) → Grows old more run →
    Grows old also other → IsApart run rest → IsApart other left →
    more ++ rest ≡ also ++ left → (run ≡ other) × (rest ≡ left)
one_part old run other [] [] rest left g h a b e = (g ∙ sym h, e)
one_part old run other [] (n ∷ also) rest left g h a b e = grind (arith, not_joined)
one_part old run other (n ∷ more) [] rest left g h a b e = grind (arith, not_joined)
one_part old run other (n ∷ more) (k ∷ also) rest left g h a b e =
    let parts = cons_parts n k (more ++ rest) (also ++ left) e in
    let next : g.0 ≡ h.0 = same_next (joined old n) g.0 h.0 g.1.0 (rw parts.0 h.1.0) in
    one_part g.0 run other more also rest left g.1.1 (rw next h.1.1) a b parts.1

-- a list that begins with a part has its first number
opened : (run : Run) (ns part rest : List ℕ) (is : IsPart run ns part rest) →
    ns ≡ is.grows.0 ∷ (is.grows.1.0 ++ rest)
opened run ns part rest is = is.whole ∙ ap (λ (xs : List ℕ). xs ++ rest) is.grows.1.1.0

pub told_once : (runs others : List Run) (ns : List ℕ) → Tell runs ns → Tell others ns →
    runs ≡ others
told_once [] [] ns t u = refl
told_once [] (run ∷ others) ns t u = absurd (nil_cons ns _ _ t (opened run ns u.0 u.1.0 u.1.1.0))
told_once (run ∷ runs) [] ns t u = absurd (nil_cons ns _ _ u (opened run ns t.0 t.1.0 t.1.1.0))
told_once (run ∷ runs) (other ∷ others) ns t u = let is : IsPart run ns t.0 t.1.0 = t.1.1.0 in
    let so : IsPart other ns u.0 u.1.0 = u.1.1.0 in
    let parts = cons_parts is.grows.0 so.grows.0 (is.grows.1.0 ++ t.1.0) (so.grows.1.0 ++ u.1.0)
    (sym (opened run ns t.0 t.1.0 is) ∙ opened other ns u.0 u.1.0 so) in
    let start : Grows (one_page is.grows.0) so.grows.1.0 other = rw parts.0 so.grows.1.1.1 in
    let same = one_part (one_page is.grows.0) run other is.grows.1.0 so.grows.1.0 t.1.0 u.1.0
    is.grows.1.1.1 start t.1.1.1.0 u.1.1.1.0 parts.1 in
    let behind : runs ≡ others = told_once runs others t.1.0 t.1.1.1.1 (rw same.1 u.1.1.1.1) in
    ap (λ (r : Run). r ∷ runs) same.0 ∙ ap (λ (rs : List Run). other ∷ rs) behind
