-- Held blocks in a table.
use Rattle.std.proofs.Common.{◌≡◌, ℕ, zero, suc, ◌+◌, ◌-◌, ◌%◌, ◌^◌, ◌<◌, ◌≤◌, inl, inr, Bool, true}
use Rattle.std.proofs.Common.{false, List, [], ◌∷◌, length, set, replicate, Option, Some, None}
use Rattle.std.proofs.lemmas.Bool.{both_ways, or_cases, or_left, and_from, eq-eqb, cond-true}
use Rattle.std.{proofs.Common.{refl, sym, ◌∙◌, ap, arith}, specs.Prelude.◌==◌, specs.List.list_any}
use Rattle.std.{proofs.lemmas.Bool.false_from_ne_true, proofs.lemmas.Nat.pow_pos}
use Rattle.vb_model.specs.{Pages.{Block, covers, is_same_block}, Driver.{with_block, without_block}}
use Rattle.vb_pages.{proofs.Aligned.{aligned_same, floor_aligned}, specs.Areas.block_at}
use Rattle.vb_pages.specs.{Held.{HeldBlocks, blocks_from, blocks_of}, Table.{order_at, AreBlocks}}

moved : (f i : ℕ) → suc f + i ≡ f + suc i
moved f i = omega arith

-- a block before all others is first
with_front : (b : Block) (f : ℕ) (t : List (Option ℕ)) → b.start < f
    → with_block b (blocks_from f t) ≡ b ∷ blocks_from f t
with_front b f [] h = refl
with_front b f (None ∷ t) h = with_front b (suc f) t (omega arith)
with_front b f (Some j ∷ t) h = grind arith

blocks_from-with : (f i k : ℕ) (t : List (Option ℕ)) → i < length t → order_at t i ≡ None
    → blocks_from f (set t i (Some k)) ≡ with_block (block_at (f + i) k) (blocks_from f t)
blocks_from-with f i k [] h e = absurd (omega arith)
blocks_from-with f zero k (None ∷ t) h e =
    grind (arith, with_front (block_at (f + 0) k) (suc f) t (omega arith))
blocks_from-with f zero k (Some j ∷ t) h e = absurd (let bad : Some j ≡ None = e in cc)
blocks_from-with f (suc i) k (None ∷ t) h e =
    grind (arith, blocks_from-with (suc f) i k t (omega arith) e)
blocks_from-with f (suc i) k (Some j ∷ t) h e =
    grind (arith, blocks_from-with (suc f) i k t (omega arith) e)

same_here : (f j k : ℕ) → j ≡ k → is_same_block (block_at f j) (block_at (f + 0) k) ≡ true
same_here f j k e = and_from (f == f + 0) (j == k) (eq-eqb f (f + 0) (omega arith)) (eq-eqb j k e)

blocks_from-without : (f i k : ℕ) (t : List (Option ℕ)) → order_at t i ≡ Some k
    → blocks_from f (set t i None) ≡ without_block (block_at (f + i) k) (blocks_from f t)
blocks_from-without f i k [] e = absurd (let bad : None ≡ Some k = e in cc)
blocks_from-without f zero k (None ∷ t) e = absurd (let bad : None ≡ Some k = e in cc)
blocks_from-without f zero k (Some j ∷ t) e = grind (arith, cond-true, same_here)
blocks_from-without f (suc i) k (None ∷ t) e = grind (arith, blocks_from-without (suc f) i k t e)
blocks_from-without f (suc i) k (Some j ∷ t) e = grind (arith, blocks_from-without (suc f) i k t e)

-- a test that a block of the table passes
any_from : (test : Block → Bool) (f : ℕ) (t : List (Option ℕ)) → list_any test (blocks_from f t)
    ≡ true → (i : ℕ) × (k : ℕ) × (order_at t i ≡ Some k) × (test (block_at (f + i) k) ≡ true)
any_from test f [] h = absurd (both_ways false refl h)
any_from test f (None ∷ t) h = let q = any_from test (suc f) t h in
    (suc q.0, q.1, q.2, ap (λ (n : ℕ). test (block_at n q.1)) (sym (moved f q.0)) ∙ q.3)
any_from test f (Some j ∷ t) h =
    elim (or_cases (test (block_at f j)) (list_any test (blocks_from (suc f) t)) h) [
      | inl e ↦ (
        0,
        j,
        refl,
        ap (λ (n : ℕ). test (block_at n j)) (let z : f + 0 ≡ f = omega arith in z) ∙ e,
      )
      | inr m ↦
          let q = any_from test (suc f) t m in
          (suc q.0, q.1, q.2, ap (λ (n : ℕ). test (block_at n q.1)) (sym (moved f q.0)) ∙ q.3)
    ]

any_to : (test : Block → Bool) (f : ℕ) (t : List (Option ℕ)) (i k : ℕ) → order_at t i ≡ Some k
    → test (block_at (f + i) k) ≡ true → list_any test (blocks_from f t) ≡ true
any_to test f [] i k e h = absurd (let bad : None ≡ Some k = e in cc)
any_to test f (None ∷ t) zero k e h = absurd (let bad : None ≡ Some k = e in cc)
any_to test f (None ∷ t) (suc i) k e h =
    any_to test (suc f) t i k e (ap (λ (n : ℕ). test (block_at n k)) (moved f i) ∙ h)
any_to test f (Some j ∷ t) zero k e h = grind (arith, or_left)
any_to test f (Some j ∷ t) (suc i) k e h =
    grind (arith, any_to test (suc f) t i k e (ap (λ (n : ℕ). test (block_at n k)) (moved f i) ∙ h))

-- ---- what callers need

pub blocks-with : (s k : ℕ) (t : List (Option ℕ)) → s < length t → order_at t s ≡ None
    → blocks_of (set t s (Some k)) ≡ with_block (block_at s k) (blocks_of t)
unfolding blocks_of
blocks-with s k t h e = grind (arith, blocks_from-with)

pub blocks-without : (s k : ℕ) (t : List (Option ℕ)) → order_at t s ≡ Some k
    → blocks_of (set t s None) ≡ without_block (block_at s k) (blocks_of t)
unfolding blocks_of
blocks-without s k t e = grind (arith, blocks_from-without 0 s k t e)

pub holds_at : (s k : ℕ) (t : List (Option ℕ))
    → list_any (λ h. is_same_block h (block_at s k)) (blocks_of t) ≡ true → order_at t s ≡ Some k
unfolding blocks_of
holds_at s k t h = grind (arith, any_from)

pub at_holds : (s k : ℕ) (t : List (Option ℕ)) → order_at t s ≡ Some k
    → list_any (λ h. is_same_block h (block_at s k)) (blocks_of t) ≡ true
unfolding blocks_of
at_holds s k t e = grind (arith, any_to)

pub covers_at : (p : ℕ) (t : List (Option ℕ)) → list_any (covers p) (blocks_of t) ≡ true
    → (s : ℕ) × (k : ℕ) × (order_at t s ≡ Some k) × (s ≤ p) × (p < s + 2 ^ k)
unfolding blocks_of
covers_at p t h = grind (arith, any_from (covers p) 0 t h)

pub at_covers : (p s k : ℕ) (t : List (Option ℕ)) → order_at t s ≡ Some k → s ≤ p → p < s + 2 ^ k
    → list_any (covers p) (blocks_of t) ≡ true
unfolding blocks_of
at_covers p s k t e l h = grind (arith, any_to)

-- no block covers the page, so none starts there
pub uncovered_empty : (s : ℕ) (t : List (Option ℕ)) → list_any (covers s) (blocks_of t) ≡ false
    → order_at t s ≡ None
uncovered_empty s t h = step (order_at t s) refl where
  step : (o : Option ℕ) → order_at t s ≡ o → o ≡ None
  step None e = refl
  step (Some k) e = let pos : 0 < 2 ^ k = pow_pos k in
      absurd (both_ways (list_any (covers s) (blocks_of t)) h
      (at_covers s s k t e (omega arith) (omega arith)))

pub covers_found : (p k : ℕ) (t : List (Option ℕ)) → order_at t (p - p % 2 ^ k) ≡ Some k
    → list_any (covers p) (blocks_of t) ≡ true
covers_found p k t e = let pos : 0 < 2 ^ k = pow_pos k in
    at_covers p (p - p % 2 ^ k) k t e (omega arith) (omega arith)

pub covers_not_found : (p : ℕ) (t : List (Option ℕ)) → AreBlocks t → ((k : ℕ)
    → k < 10 → order_at t (p - p % 2 ^ k) ≡ Some k → ⊥) → list_any (covers p) (blocks_of t) ≡ false
covers_not_found p t aligned none = false_from_ne_true (list_any (covers p) (blocks_of t)) (λ h.
    let q = covers_at p t h in
    let k = q.1 in
    let pos : 0 < 2 ^ k = pow_pos k in
    let low : p - p % 2 ^ k ≤ p = omega arith in
    let high : p < (p - p % 2 ^ k) + 2 ^ k = omega arith in
    let same : p - p % 2 ^ k ≡ q.0 = aligned_same (p - p % 2 ^ k) q.0
    (2 ^ k) p (floor_aligned p (2 ^ k) pos) (aligned.aligned q.0 k q.2) low high q.3 q.4 in
    let nine : k ≤ 9 = aligned.bounded q.0 k q.2 in
    none k (omega arith) (ap (order_at t) same ∙ q.2))

none_from : (f n : ℕ) → blocks_from f (replicate n None) ≡ []
none_from f zero = refl
none_from f (suc n) = none_from (suc f) n

pub blocks-none : (n : ℕ) → blocks_of (replicate n None) ≡ []
unfolding blocks_of
blocks-none n = none_from 0 n

abbrev pub held_of : ℕ → List Block → HeldBlocks
held_of pages blocks = record { pages = pages; blocks = blocks }

pub same_held : (m n : ℕ) (xs ys : List Block) → m ≡ n → xs ≡ ys → held_of m xs ≡ held_of n ys
same_held m n xs ys e l = ap (λ (i : ℕ). held_of i xs) e ∙ ap (λ (bs : List Block). held_of n bs) l
