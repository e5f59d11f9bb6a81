-- What is found lies within a region.
use Rattle.std.proofs.Common.{◌≡◌, subst, refl, arith, ℕ, suc, ◌+◌, ◌-◌, ◌≤◌}
use Rattle.std.proofs.Common.{Bool, true, false, List, [], ◌∷◌, ◌++◌, Some}
use Rattle.std.{specs.Prelude.{slice_get, if◌then◌else◌}, proofs.lemmas.Bool.Decides.nat_tests}
use Rattle.vb_core.specs.declared.{kinds.Kind.Kind, runs.Run.Run}
use Rattle.vb_core.specs.declared.kinds.Kind.TheVariants.{Inflate, Deflate, Statistics, Hint, Report}
use Rattle.vb_monitor.specs.Regions.{is_region, holds, spot_from, spot, meets, cut_of, cuts_from}
use Rattle.vb_monitor.specs.{Regions.cuts_of, Giving.cuts_for, Touched.IsWithin}
use Rattle.vb_monitor.specs.declared.{cuts.Cut.Cut, regions.Region.Region, regions.Spot.Spot}

-- the bytes lie in the region that is n after the first one
pub record IsIn (rs : List Region) (k offset len : ℕ) : Type 0 where
  pub region : Region
  pub there : slice_get rs k ≡ Some region
  pub possible : is_region region ≡ true
  pub inside : offset + len ≤ region.length

abbrev Found : List Region → ℕ → ℕ → Spot → Type 0
Found rs n len at = (k : ℕ) × ((at.region ≡ n + k) × IsIn rs k at.offset len)

is_held : (r : Region) (a len : ℕ) → holds r a len ≡ true →
    (is_region r ≡ true) × ((a - r.guest) + len ≤ r.length)
is_held r a len h = (grind (arith, nat_tests), grind (arith, nat_tests))

found_by : (r : Region) (rs : List Region) (n a len : ℕ) (at : Spot)
    (further : spot_from (n + 1) rs a len ≡ Some at → Found rs (n + 1) len at) (b : Bool) →
    holds r a len ≡ b →
    (if b then Some (record { region = n; offset = a - r.guest }) else spot_from (n + 1) rs a len) ≡
    Some at → Found (r ∷ rs) n len at
found_by r rs n a len at further true e h =
    let is : record { region = n; offset = a - r.guest } ≡ at = cc in
    let held = is_held r a len e in
    subst (λ (s : Spot). Found (r ∷ rs) n len s) is
    (0, (omega arith, record { region = r; there = refl; possible = held.0; inside = held.1 }))
found_by r rs n a len at further false e h =
    let (k, (is, x)) = further h in
    let on : IsIn (r ∷ rs) (suc k) at.offset len =
    record { region = x.region; there = x.there; possible = x.possible; inside = x.inside } in
    (suc k, (omega (arith, is), on))

found : (rs : List Region) (n a len : ℕ) (at : Spot) → spot_from n rs a len ≡ Some at →
    Found rs n len at
found [] n a len at h = absurd cc
found (r ∷ rs) n a len at h =
    found_by r rs n a len at (λ e. found rs (n + 1) a len at e) (holds r a len) refl h

pub within : (rs : List Region) (a len : ℕ) (at : Spot) → spot rs a len ≡ Some at →
    IsWithin rs at.region at.offset len
within rs a len at h =
    let (k, (e, x)) = found rs 0 a len at h in
    let is : k ≡ at.region = omega (arith, e) in
    subst (λ (k : ℕ). IsWithin rs k at.offset len) is
    (record { region = x.region; there = x.there; possible = x.possible; inside = x.inside })

-- ---- parts of runs

is_cut : (r : Region) (run : Run) (n : ℕ) → meets r run ≡ true →
    (is_region r ≡ true) × ((cut_of n r run).offset + (cut_of n r run).length ≤ r.length)
is_cut r run n h = (grind (arith, nat_tests), grind (arith, nat_tests))

-- each part lies within its region
abbrev pub AllWithin : List Region → List Cut → Type 0
AllWithin regions [] = Unit {0}
AllWithin regions (cut ∷ cuts) =
    IsWithin regions cut.region cut.offset cut.length × AllWithin regions cuts

cuts_by : (all : List Region) (r : Region) (rs : List Region) (n : ℕ) (run : Run) (b : Bool) →
    meets r run ≡ b → slice_get all n ≡ Some r → AllWithin all (cuts_from (n + 1) rs run) →
    AllWithin all
    (if b then cut_of n r run ∷ cuts_from (n + 1) rs run else cuts_from (n + 1) rs run)
cuts_by all r rs n run true e there rest =
    let is = is_cut r run n e in
    (record { region = r; there = there; possible = is.0; inside = is.1 }, rest)
cuts_by all r rs n run false e there rest = rest

run_within : (all rs : List Region) (n : ℕ) (run : Run) →
    ((k : ℕ) (r : Region) → slice_get rs k ≡ Some r → slice_get all (n + k) ≡ Some r) →
    AllWithin all (cuts_from n rs run)
run_within all [] n run inside = tt
run_within all (r ∷ rs) n run inside =
    let zero_on : n + 0 ≡ n = omega arith in
    cuts_by all r rs n run (meets r run) refl
    (subst (λ (k : ℕ). slice_get all k ≡ Some r) zero_on (inside 0 r refl))
    (run_within all rs (n + 1) run (λ k s e.
    let on : n + suc k ≡ n + 1 + k = omega arith in
    subst (λ (j : ℕ). slice_get all j ≡ Some s) on (inside (suc k) s e)))

both_within : (all : List Region) (xs ys : List Cut) → AllWithin all xs → AllWithin all ys →
    AllWithin all (xs ++ ys)
both_within all [] ys a b = b
both_within all (x ∷ xs) ys a b = (a.0, both_within all xs ys a.1 b)

runs_within : (all : List Region) (runs : List Run) → AllWithin all (cuts_of all runs)
runs_within all [] = tt
runs_within all (run ∷ runs) = both_within all (cuts_from 0 all run) (cuts_of all runs)
    (run_within all all 0 run (λ k r e.
    let on : k ≡ 0 + k = omega arith in subst (λ (j : ℕ). slice_get all j ≡ Some r) on e))
    (runs_within all runs)

pub cuts_within : (all : List Region) (kind : Kind) (kept : Bool) (runs : List Run) →
    AllWithin all (cuts_for kind kept all runs)
cuts_within all Inflate true runs = tt
cuts_within all Inflate false runs = runs_within all runs
cuts_within all Deflate kept runs = tt
cuts_within all Statistics kept runs = tt
cuts_within all Hint true runs = tt
cuts_within all Hint false runs = runs_within all runs
cuts_within all Report true runs = tt
cuts_within all Report false runs = runs_within all runs
