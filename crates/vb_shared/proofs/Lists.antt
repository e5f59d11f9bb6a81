-- Numbers in a list, numbers from one on and below a bound, and passes that hold nothing.
use Rattle.std.proofs.Common.{◌≡◌, ◌≢◌, ℕ, zero, suc, ◌+◌, ◌≤◌, true, false}
use Rattle.std.proofs.Common.{not, ◌==◌, List, [], ◌∷◌, ◌++◌, refl, sym, ap, ◌∙◌, arith, eq-eqb}
use Rattle.std.proofs.{Common.{ne_eqb, eqb-true, replicate, None}, lemmas.Map.Views.any-filter_same}
use Rattle.{std.specs.Prelude.slice_index, atomic_table.specs.Seated.TableId}
use Rattle.{vb_device.specs.Own.{has, without}, vb_shared.specs.Passes.{Within, Pass, new_passes}}

-- ---- numbers in a list

-- the others stay
pub has_without : (ns : List ℕ) (f j : ℕ) → j ≢ f → has (without ns f) j ≡ has ns j
has_without ns f j ne = any-filter_same (λ n. n == j) (λ n. not (n == f)) true
    (λ n is. ap not (ne_eqb n f (λ e. ne (sym (eqb-true n j is) ∙ e)))) ns

pub has_not_without : (ns : List ℕ) (f : ℕ) → has (without ns f) f ≡ false
has_not_without ns f =
    any-filter_same (λ n. n == f) (λ n. not (n == f)) false (λ n is. ap not is) ns

-- a list that lacks the number
pub without_none : (ns : List ℕ) (f : ℕ) → has ns f ≡ false → without ns f ≡ ns
without_none [] f lacks = refl
without_none (n ∷ ns) f lacks = grind (arith, without_none ns f)

-- a number that comes and goes leaves the list as it was
pub without_added : (ns : List ℕ) (f : ℕ) → has ns f ≡ false → without (f ∷ ns) f ≡ ns
without_added ns f lacks = grind (arith, eq-eqb, without_none)

-- ---- from one on, below a bound

pub within_without : (i bound : ℕ) (ns : List ℕ) (f : ℕ) → Within i bound ns
    → Within i bound (without ns f)
within_without i bound [] f w = tt
within_without i bound (n ∷ ns) f w = grind (arith, within_without i bound ns f w.2)

pub within_next : (i bound : ℕ) (ns : List ℕ) → Within i bound ns
    → Within (i + 1) bound (without ns i)
within_next i bound [] w = tt
within_next i bound (n ∷ ns) w = grind (arith, within_next i bound ns w.2)

pub within_end : (bound : ℕ) (ns : List ℕ) → Within bound bound ns → ns ≡ []
within_end bound [] w = refl
within_end bound (n ∷ ns) w = let low = w.0 in let high = w.1 in absurd (omega arith)

pub within_absent : (i bound : ℕ) (ns : List ℕ) (f : ℕ) → Within i bound ns → bound ≤ f
    → has ns f ≡ false
within_absent i bound [] f w past = refl
within_absent i bound (n ∷ ns) f w past =
    grind (arith, ne_eqb n f (λ e. omega arith), within_absent i bound ns f w.2 past)

pub within_whole : (i bound : ℕ) (ns : List ℕ) (f : ℕ) → Within i bound ns → bound ≤ f
    → without ns f ≡ ns
within_whole i bound ns f w past = without_none ns f (within_absent i bound ns f w past)

-- ---- the start

pub zeros : (n f : ℕ) → slice_index (replicate n 0) f ≡ 0
zeros zero f = refl
zeros (suc n) zero = refl
zeros (suc n) (suc f) = zeros n f

abbrev pub new_pass : TableId → ℕ → Pass
new_pass table tag = record { table = table; tag = tag; held = []; found = None }

new_passes_push : (table : TableId) (tag n : ℕ)
    → new_passes table tag (suc n) ≡ new_passes table tag n ++ new_pass table (tag + n) ∷ []
new_passes_push table tag zero =
    let e : tag ≡ tag + 0 = omega arith in ap (λ (t : ℕ). new_pass table t ∷ []) e
new_passes_push table tag (suc n) = grind (arith, new_passes_push table (suc tag) n)

-- one more pass has the next tag
pub new_passes_next : (table : TableId) (n : ℕ)
    → new_passes table 0 (n + 1) ≡ new_passes table 0 n ++ new_pass table n ∷ []
new_passes_next table n = grind (arith, new_passes_push)
