-- What passes a test, of lists that stand by rising number.
use Rattle.std.proofs.Common.{◌≡◌, ℕ, zero, suc, ◌+◌, ◌<◌, ◌≤◌, Bool, true, false, cond, List, []}
use Rattle.std.proofs.Common.{◌∷◌, ◌++◌, map, inl, inr, refl, sym, ◌∙◌, ap, arith}
use Rattle.std.{specs.Prelude.{◌&&◌, filter}, specs.List.{range_with_len, flat_map}}
use Rattle.std.{proofs.lemmas.List.Elements.filter-append, proofs.lemmas.Bool.cases_eq}

pub filter_twice : {A : Type 0} (keep test : A → Bool) (xs : List A)
    → filter keep (filter test xs) ≡ filter (λ x. test x && keep x) xs
filter_twice keep test [] = refl
filter_twice {A = A} keep test (x ∷ xs) = grind (arith, filter_twice keep test xs)

-- ---- a list by number

pub filter_none : {A : Type 0} (test : A → Bool) (f : ℕ → A) (a n : ℕ) → ((k : ℕ)
    → a ≤ k → k < a + n → test (f k) ≡ false) → filter test (map f (range_with_len a n)) ≡ []
filter_none test f a zero h = refl
filter_none test f a (suc n) h =
    ap (λ (v : Bool). cond v (f a ∷ filter test (map f (range_with_len (a + 1) n)))
    (filter test (map f (range_with_len (a + 1) n)))) (h a (omega arith) (omega arith))
    ∙ filter_none test f (a + 1) n (λ k l u. h k (omega arith) (omega arith))

pub filter_same : {A : Type 0} (test other : A → Bool) (f : ℕ → A) (a n : ℕ)
    → ((k : ℕ) → a ≤ k → k < a + n → test (f k) ≡ other (f k))
    → filter test (map f (range_with_len a n)) ≡ filter other (map f (range_with_len a n))
filter_same test other f a zero h = refl
filter_same {A = A} test other f a (suc n) h =
    ap (λ (v : Bool). cond v (f a ∷ filter test (map f (range_with_len (a + 1) n)))
    (filter test (map f (range_with_len (a + 1) n)))) (h a (omega arith) (omega arith))
    ∙ ap (λ (ys : List A). cond (other (f a)) (f a ∷ ys) ys)
    (filter_same test other f (a + 1) n (λ k l u. h k (omega arith) (omega arith)))

pub filter_one : {A : Type 0} (test : A → Bool) (f : ℕ → A) (j a n : ℕ) → a ≤ j → j < a + n
    → test (f j) ≡ true → ((k : ℕ) → a ≤ k → k < a + n → (k ≡ j → ⊥) → test (f k) ≡ false)
    → filter test (map f (range_with_len a n)) ≡ f j ∷ []
filter_one test f j a zero l u here others = absurd (omega arith)
filter_one {A = A} test f j a (suc n) l u here others = elim (cases_eq a j) [
  | inl e ↦ grind (arith, filter_none)
  | inr d ↦ ap (λ (v : Bool). cond v (f a ∷ filter test (map f (range_with_len (a + 1) n)))
      (filter test (map f (range_with_len (a + 1) n))))
      (others a (omega arith) (omega arith) (λ e. d e)) ∙ filter_one test f j
      (a + 1) n (omega arith) (omega arith) here (λ k b c. others k (omega arith) (omega arith))
]

-- ---- lists by number, one after the other

pub flat_none : {A : Type 0} (test : A → Bool) (g : ℕ → List A) (a n : ℕ) → ((k : ℕ) → a ≤ k
    → k < a + n → filter test (g k) ≡ []) → filter test (flat_map g (range_with_len a n)) ≡ []
flat_none test g a zero h = refl
flat_none {A = A} test g a (suc n) h =
    filter-append test (g a) (flat_map g (range_with_len (a + 1) n)) ∙ (ap (λ (ys : List A). ys
    ++ filter test (flat_map g (range_with_len (a + 1) n))) (h a (omega arith) (omega arith))
    ∙ flat_none test g (a + 1) n (λ k l u. h k (omega arith) (omega arith)))

pub flat_same : {A : Type 0} (test other : A → Bool) (g : ℕ → List A) (a n : ℕ)
    → ((k : ℕ) → a ≤ k → k < a + n → filter test (g k) ≡ filter other (g k))
    → filter test (flat_map g (range_with_len a n)) ≡ filter other (flat_map g (range_with_len a n))
flat_same test other g a zero h = refl
flat_same {A = A} test other g a (suc n) h =
    filter-append test (g a) (flat_map g (range_with_len (a + 1) n))
    ∙ (ap (λ (ys : List A). ys ++ filter test (flat_map g (range_with_len (a + 1) n)))
    (h a (omega arith) (omega arith)) ∙ (ap (λ (ys : List A). filter other (g a) ++ ys)
    (flat_same test other g (a + 1) n (λ k l u. h k (omega arith) (omega arith)))
    ∙ sym (filter-append other (g a) (flat_map g (range_with_len (a + 1) n)))))

-- one element at s passes the first test; what comes after it passes both or none
pub flat_split : {A : Type 0} (test other : A → Bool) (g : ℕ → List A) (s : ℕ) (x : A) (a n : ℕ)
    → a ≤ s → s < a + n → ((k : ℕ) → k < s → filter test (g k) ≡ [])
    → ((k : ℕ) → k < s → filter other (g k) ≡ []) → filter test (g s) ≡ x
    ∷ [] → filter other (g s) ≡ [] → ((k : ℕ) → s < k → filter test (g k) ≡ filter other (g k))
    → filter test (flat_map g (range_with_len a n))
    ≡ x ∷ filter other (flat_map g (range_with_len a n))
flat_split test other g s x a zero l u b c here gone after = absurd (omega arith)
flat_split {A = A} test other g s x a (suc n) l u b c here gone after =
    let rest : List A = flat_map g (range_with_len (a + 1) n) in elim (cases_eq a s) [
      | inl e ↦ grind (arith, filter-append, flat_same)
      | inr d ↦ filter-append test (g a) rest
          ∙ (ap (λ (ys : List A). ys ++ filter test rest) (b a (omega arith))
          ∙ (flat_split test other g s x (a + 1) n (omega arith) (omega arith) b c here gone after
          ∙ ap (λ (ys : List A). x ∷ ys) (sym (filter-append other (g a) rest
          ∙ ap (λ (ys : List A). ys ++ filter other rest) (c a (omega arith))))))
    ]
