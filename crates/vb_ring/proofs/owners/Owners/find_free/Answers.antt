use Rattle.std.proofs.Common.{◌≡◌, ◌+◌, ◌<◌, ℕ, Bool, true, List, [], ◌∷◌, ◌++◌, length, take, ap}
use Rattle.std.{proofs.Common.arith, proofs.lemmas.List.length_push}
use Rattle.vb_ring.proofs.Numbers.{numbers_none, numbers_yes, numbers_no, numbers_prefix}
use Rattle.vb_ring.{specs.Numbers.numbers, proofs.Numbers.length-numbers}
use Rattle.vb_ring.proofs.owners.Owners.find_free.Goals.{then-is_free+else-len-count, else-is_free}
use Rattle.vb_ring.proofs.owners.Owners.find_free.Goals as goal

-- the numbers found below i and i itself are the first ones of all
first_ones : (p : ℕ → Bool) (n i count : ℕ) (xs ys : List ℕ) → xs ≡ numbers p i → p i ≡ true
    → ys ≡ xs ++ i ∷ [] → length ys ≡ count → i < n → ys ≡ take count (numbers p n)
first_ones p n i count xs ys below pass grown len lt =
    grind (arith, numbers_yes p i pass, numbers_prefix p (i + 1) n (omega (arith, lt)))

pub is_free-requires : goal.is_free-requires
is_free-requires g c = omega (arith, ap length c.self.view_is, c.self.invariant.size)

pub loop-i-init : goal.loop-i-init
loop-i-init g c = grind (arith, numbers_none)

pub push-requires : goal.push-requires
push-requires g c = grind (arith, length-numbers)

pub loop-i-preserved : goal.loop-i-preserved
loop-i-preserved g c =
    grind (arith, then-is_free+else-len-count, numbers_yes, length_push, else-is_free, numbers_no)

pub returns-then-len-count-clause-found : goal.returns-then-len-count-clause-found
returns-then-len-count-clause-found g c h2 = grind (arith, first_ones)

pub returns-clause-few : goal.returns-clause-few
returns-clause-few g c h2 = search (arith)
