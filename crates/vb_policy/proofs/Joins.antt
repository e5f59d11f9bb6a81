-- Targets with what is forced of each guest, place by place; and what is asked of all.
use Rattle.std.proofs.Common.{◌≡◌, ℕ, zero, suc, ◌+◌, ◌-◌, ◌<◌, ◌^◌, List, [], ◌∷◌, length}
use Rattle.std.proofs.Common.{get_or, take, min, map, true, false, refl, ap, subst, arith, ◌∙◌}
use Rattle.std.proofs.Math.ListN.{set}
use Rattle.vb_policy.specs.declared.figures.Budget.{Budget}
use Rattle.vb_policy.specs.declared.figures.Figures.{Figures}
use Rattle.vb_policy.specs.declared.guest.Decision.{Decision}
use Rattle.vb_policy.specs.declared.guest.Guest.{Guest}
use Rattle.vb_policy.specs.declared.guest.Host.{Host}
use Rattle.vb_policy.specs.Asking.{Asks, host_of, joined, starves}
use Rattle.vb_policy.specs.Decisions.{Decides}
use Rattle.vb_policy.specs.Needs.{forced, guest_of, yielding}

join_next : (b : Budget) (i : ℕ) (guests : List Figures) (targets : List ℕ) (d : Figures) (e : ℕ)
    → i < length guests → length targets ≡ length guests
    → set (joined b (take i guests) targets) i
    (min (get_or targets i e + forced b (get_or guests i d)) (2 ^ 32 - 1))
    ≡ joined b (take (suc i) guests) targets
join_next b i [] targets d e l m = absurd (omega (arith, l))
join_next b i (g ∷ guests) [] d e l m = absurd (omega (arith, m))
join_next b zero (g ∷ guests) (t ∷ targets) d e l m = refl
join_next b (suc i) (g ∷ guests) (t ∷ targets) d e l m =
    ap (λ (xs : List ℕ). min (t + forced b g) (2 ^ 32 - 1) ∷ xs)
    (join_next b i guests targets d e (omega (arith, l)) (omega (arith, m)))

-- one that has its target not yet
not_joined : (b : Budget) (i : ℕ) (guests : List Figures) (targets : List ℕ) (e : ℕ)
    → i < length guests → length targets ≡ length guests
    → get_or (joined b (take i guests) targets) i e ≡ get_or targets i e
not_joined b i [] targets e l m = absurd (omega (arith, l))
not_joined b i (g ∷ guests) [] e l m = absurd (omega (arith, m))
not_joined b zero (g ∷ guests) (t ∷ targets) e l m = refl
not_joined b (suc i) (g ∷ guests) (t ∷ targets) e l m =
    not_joined b i guests targets e (omega (arith, l)) (omega (arith, m))

pub join_more : (b : Budget) (i : ℕ) (guests : List Figures) (targets : List ℕ) (d : Figures)
    (e : ℕ) → i < length guests → length targets ≡ length guests
    → set (joined b (take i guests) targets) i
    (min (get_or (joined b (take i guests) targets) i e + forced b (get_or guests i d))
    (2 ^ 32 - 1)) ≡ joined b (take (i + 1) guests) targets
join_more b i guests targets d e l m =
    let same : suc i ≡ i + 1 = omega arith in rw (not_joined b i guests targets e l m)
    (subst (λ (k : ℕ). set (joined b (take i guests) targets) i
    (min (get_or targets i e + forced b (get_or guests i d)) (2 ^ 32 - 1))
    ≡ joined b (take k guests) targets) same
    (join_next b i guests targets d e l m))

-- ---- what is asked of all

-- what is decided of this host and these guests
pub decides_so : (host is : Host) (gs are : List Guest) (d : Decision) (targets : List ℕ)
    → host ≡ is → gs ≡ are → Decides host gs d targets → Decides is are d targets
decides_so host is gs are d targets h g by =
    subst (λ (k : Host). Decides k are d targets) h
    (subst (λ (ks : List Guest). Decides host ks d targets) g by)

pub asks : (b : Budget) (guests : List Figures) (host : Host) (gs : List Guest) (result : Decision)
    (decided targets final : List ℕ) → host ≡ host_of b guests → gs ≡ map (guest_of b) guests
    → Decides host gs result decided → (starves b guests ≡ false → targets ≡ decided)
    → (starves b guests ≡ true → (d : Decision)
    × Decides (host_of b guests) (map (yielding b) guests) d targets)
    → final ≡ joined b guests targets → Asks b guests result final
asks b guests host gs result decided targets final h g is usual first e = record {
  decided = decided;
  decides = decides_so host (host_of b guests) gs (map (guest_of b) guests) result decided h g is;
  usual = λ s. e ∙ ap (λ (ts : List ℕ). joined b guests ts) (usual s);
  first = λ s. ((first s).0, targets, (first s).1, e);
}
