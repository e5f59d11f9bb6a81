-- Distinct numbers, each once, are the same numbers.
use Rattle.std.specs.Prelude.{◌≡◌, ℕ, ◌==◌, ◌||◌, Bool, true, false, not, cond}
use Rattle.std.{specs.Prelude.{List, [], ◌∷◌, IsTrue, filter, refl}, proofs.Common.{sym, ◌∙◌, ap}}
use Rattle.vb_virtio.specs.Tests.{is_in, AllDistinct}
use Rattle.vb_request.specs.Request.{each_once}

not_true : (b : Bool) → IsTrue (not b) → b ≡ false
not_true true h = absurd (let e : false ≡ true = h in cc)
not_true false h = refl

-- all numbers but this one
abbrev but : ℕ → List ℕ → List ℕ
but n ns = filter (λ m. not (m == n)) ns

-- of a list without the number they are the list
but_absent : (n : ℕ) (xs : List ℕ) → is_in n xs ≡ false → but n xs ≡ xs
but_absent n [] e = refl
but_absent n (x ∷ xs) e = step (x == n) refl e (but_absent n xs) where
  step : (b : Bool) → (x == n) ≡ b → ((x == n) || is_in n xs) ≡ false → (is_in n xs ≡ false
      → but n xs ≡ xs) → cond (not (x == n)) (x ∷ but n xs) (but n xs) ≡ x ∷ xs
  step true is out more =
      absurd (let both : true ≡ false = sym (ap (λ v. v || is_in n xs) is) ∙ out in cc)
  step false is out more = ap (λ v. cond (not v) (x ∷ but n xs) (but n xs)) is
      ∙ ap (λ l. x ∷ l) (more (sym (ap (λ v. v || is_in n xs) is) ∙ out))

pub distinct_each_once : (ns : List ℕ) → AllDistinct ns → each_once ns ≡ ns
distinct_each_once [] distinct = refl
distinct_each_once (n ∷ ns) distinct = ap (λ l. n ∷ but n l) (distinct_each_once ns distinct.1)
    ∙ ap (λ l. n ∷ l) (but_absent n ns (not_true (is_in n ns) distinct.0))
