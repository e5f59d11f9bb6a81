-- How many parts the runs of a chain's pages have.
use Rattle.std.proofs.Common.{◌≡◌, arith, ℕ, suc, ◌+◌, ◌*◌, ◌≤◌, Bool, true, false, List, [], ◌∷◌}
use Rattle.std.{proofs.Common.{◌++◌, length}, specs.Prelude.if◌then◌else◌}
use Rattle.vb_core.specs.declared.runs.Run.{Run}
use Rattle.vb_monitor.specs.Regions.{meets, cut_of, cuts_from, cuts_of}
use Rattle.vb_monitor.specs.declared.cuts.Cut.{Cut}
use Rattle.vb_monitor.{specs.declared.regions.Region.Region}

longer_cuts : (xs ys : List Cut) → length (xs ++ ys) ≡ length xs + length ys
longer_cuts [] ys = omega arith
longer_cuts (x ∷ xs) ys = let both = longer_cuts xs ys in omega (arith, both)

part_of_run : (r : Region) (n : ℕ) (run : Run) (cuts : List Cut) (k : ℕ) (b : Bool) →
    length cuts ≤ k → length (if b then cut_of n r run ∷ cuts else cuts) ≤ suc k
part_of_run r n run cuts k true h = omega (arith, h)
part_of_run r n run cuts k false h = omega (arith, h)

parts_of_run : (rs : List Region) (n : ℕ) (run : Run) → length (cuts_from n rs run) ≤ length rs
parts_of_run [] n run = omega arith
parts_of_run (r ∷ rs) n run = part_of_run r n run
    (cuts_from (n + 1) rs run) (length rs) (meets r run) (parts_of_run rs (n + 1) run)

one_run_more : (r k a b : ℕ) → a ≤ r → b ≤ k * r → a + b ≤ suc k * r
one_run_more r k a b h i = grind (arith)

pub few_cuts : (rs : List Region) (runs : List Run) →
    length (cuts_of rs runs) ≤ length runs * length rs
few_cuts rs [] = omega arith
few_cuts rs (run ∷ runs) =
    let both = longer_cuts (cuts_from 0 rs run) (cuts_of rs runs) in
    let sum = one_run_more (length rs) (length runs) (length (cuts_from 0 rs run))
    (length (cuts_of rs runs)) (parts_of_run rs 0 run) (few_cuts rs runs) in
    omega (arith, both, sum)
