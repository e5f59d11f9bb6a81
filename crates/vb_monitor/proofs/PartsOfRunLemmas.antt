-- The parts of runs are pages of these runs.
use Rattle.std.proofs.Common.{◌≡◌, inl, inr, subst, refl, arith, ℕ, suc, ◌+◌, ◌*◌, ◌-◌, ◌≤◌, Bool, true, false, List, [], ◌∷◌, ◌++◌, Some}
use Rattle.std.specs.Prelude.{slice_get, if◌then◌else◌}
use Rattle.std.proofs.lemmas.Bool.Decides.{nat_tests}
use Rattle.vb_core.specs.declared.runs.Run.{Run}
use Rattle.vb_monitor.specs.{declared.regions.Region.Region, declared.cuts.Cut.Cut, Regions.meets}
use Rattle.vb_monitor.specs.Regions.{cut_of, cuts_from, cuts_of, first_both, end_both}
use Rattle.vb_monitor.specs.PartsOfRuns.{IsPartOf, ArePartsOf}

begins_there : (r : Region) (run : Run) (n : ℕ) → meets r run ≡ true →
    r.guest + (cut_of n r run).offset ≡ 4096 * first_both r run
begins_there r run n h = grind (arith, nat_tests)

above_first : (r : Region) (run : Run) → run.first ≤ first_both r run
above_first r run = grind (arith, nat_tests)

below_end : (r : Region) (run : Run) → meets r run ≡ true →
    first_both r run + (end_both r run - first_both r run) ≤ run.first + run.count
below_end r run h = grind (arith, nat_tests)

is_part : (all : List Region) (r : Region) (run : Run) (n : ℕ) → meets r run ≡ true →
    slice_get all n ≡ Some r → IsPartOf all run (cut_of n r run)
is_part all r run n h there = record {
  region = r;
  first = first_both r run;
  count = end_both r run - first_both r run;
  there = there;
  begins = begins_there r run n h;
  long = refl;
  in_file = refl;
  above = above_first r run;
  below = below_end r run h;
}

parts_by : (all : List Region) (r : Region) (rs : List Region) (n : ℕ) (run : Run)
    (runs : List Run) (b : Bool) → meets r run ≡ b → slice_get all n ≡ Some r
    → ArePartsOf all (run ∷ runs) (cuts_from (n + 1) rs run) → ArePartsOf all (run ∷ runs)
    (if b then cut_of n r run ∷ cuts_from (n + 1) rs run else cuts_from (n + 1) rs run)
parts_by all r rs n run runs true e there rest = (inl (is_part all r run n e there), rest)
parts_by all r rs n run runs false e there rest = rest

parts_from : (all rs : List Region) (n : ℕ) (run : Run) (runs : List Run) →
    ((k : ℕ) (r : Region) → slice_get rs k ≡ Some r → slice_get all (n + k) ≡ Some r) →
    ArePartsOf all (run ∷ runs) (cuts_from n rs run)
parts_from all [] n run runs inside = tt
parts_from all (r ∷ rs) n run runs inside =
    let zero_on : n + 0 ≡ n = omega arith in
    parts_by all r rs n run runs (meets r run) refl
    (subst (λ (k : ℕ). slice_get all k ≡ Some r) zero_on (inside 0 r refl))
    (parts_from all rs (n + 1) run runs (λ k s e.
    let on : n + suc k ≡ n + 1 + k = omega arith in
    subst (λ (j : ℕ). slice_get all j ≡ Some s) on (inside (suc k) s e)))

of_more : (all : List Region) (run : Run) (runs : List Run) (cuts : List Cut) →
    ArePartsOf all runs cuts → ArePartsOf all (run ∷ runs) cuts
of_more all run runs [] h = tt
of_more all run runs (cut ∷ cuts) h = (inr h.0, of_more all run runs cuts h.1)

both_parts : (all : List Region) (runs : List Run) (xs ys : List Cut) → ArePartsOf all runs xs →
    ArePartsOf all runs ys → ArePartsOf all runs (xs ++ ys)
both_parts all runs [] ys a b = b
both_parts all runs (x ∷ xs) ys a b = (a.0, both_parts all runs xs ys a.1 b)

pub parts_of_runs : (all : List Region) (runs : List Run) → ArePartsOf all runs (cuts_of all runs)
parts_of_runs all [] = tt
parts_of_runs all (run ∷ runs) = both_parts all
    (run ∷ runs) (cuts_from 0 all run) (cuts_of all runs) (parts_from all all 0 run runs (λ k r e.
    let on : k ≡ 0 + k = omega arith in subst (λ (j : ℕ). slice_get all j ≡ Some r) on e))
    (of_more all run runs (cuts_of all runs) (parts_of_runs all runs))
