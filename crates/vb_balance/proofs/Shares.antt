-- Targets by a level.
use Rattle.std.proofs.Common.{◌≡◌, ◌≢◌, ℕ, ◌+◌, ◌-◌, ◌<◌, ◌≤◌, List, length, get_or, set, map}
use Rattle.std.{proofs.Common.{sum, ◌∙◌, arith, ◌⊎◌, inl, inr, min}, proofs.lemmas.List.length-set}
use Rattle.std.proofs.lemmas.List.{length-map, get_or-set_same, get_or-set_other, take_more_set}
use Rattle.std.{proofs.lemmas.List.take_all, proofs.lemmas.Bool.{cases_order, cases_lt}}
use Rattle.std.proofs.lemmas.List.Sums.{sum_by_more, sum_by_push, sum-map}
use Rattle.vb_virtio.specs.Targets.{Need, AreTargets, GivesBefore, missing, spare_at}
use Rattle.vb_virtio.proofs.Sums.{sum-le}
use Rattle.vb_balance.specs.Levels.{spare_from, spared_from, IsLevel, AreGiven}
use Rattle.vb_balance.proofs.Spares.{spare_of, counts_at_most}

-- what a guest gives, and what is left for others then
pub record Gives (spare level left target after : ℕ) : Type 0 where
  pub above : level < spare → (target ≡ spare) × (after ≡ left)
  pub below : spare < level → (target ≡ 0) × (after ≡ left)
  pub at_it : spare ≡ level → (target ≡ min level left) × (after ≡ left - target)

pub gives_at_it : (spare level left target after : ℕ) → spare ≡ level → target ≡ min level left
    → after ≡ left - target → Gives spare level left target after
gives_at_it spare level left target after e t a = grind arith

pub gives_elsewhere : (spare level left target after : ℕ) → spare ≢ level
    → (level < spare → target ≡ spare) → (spare < level → target ≡ 0) → after ≡ left
    → Gives spare level left target after
gives_elsewhere spare level left target after ne above below a = grind arith

-- the guest that has just got its target, and those before it
reads : (needs : List Need) (i : ℕ) (targets : List ℕ) (target : ℕ) (n : Need)
    → i < length targets → spare_at needs i ≡ n.spare → (k : ℕ) → k < i + 1
    → ((k ≡ i) × (get_or (set targets i target) k 0 ≡ target) × (spare_at needs k ≡ n.spare))
    ⊎ ((k < i) × (get_or (set targets i target) k 0 ≡ get_or targets k 0))
reads needs i targets target n listed own k l = grind (arith, get_or-set_same, get_or-set_other)

-- one more guest has its target
pub one_more : (needs : List Need) (level rest i : ℕ) (targets : List ℕ)
    (left target after : ℕ) (n : Need) → AreGiven needs level rest i targets left
    → i < length needs → n ≡ get_or needs i n → Gives n.spare level left target after
    → AreGiven needs level rest (i + 1) (set targets i target) after
one_more needs level rest i targets left target after n s here e g =
    let listed : i < length targets = omega (arith, here, s.one_each) in
    let own : spare_at needs i ≡ n.spare = spare_of needs i n here e in
    record {
      one_each = length-set targets i target ∙ s.one_each;
      above = λ k l more. elim (reads needs i targets target n listed own k l) [
        | inl last ↦ omega (arith, last.1, last.2, (g.above (omega (arith, more, last.2))).0)
        | inr old ↦ omega (arith, old.1, s.above k old.0 more)
      ];
      below = λ k l less. elim (reads needs i targets target n listed own k l) [
        | inl last ↦ omega (arith, last.1, (g.below (omega (arith, less, last.2))).0)
        | inr old ↦ omega (arith, old.1, s.below k old.0 less)
      ];
      within = λ k l same. elim (reads needs i targets target n listed own k l) [
        | inl last ↦ omega (arith, last.1, (g.at_it (omega (arith, same, last.2))).0)
        | inr old ↦ omega (arith, old.1, s.within k old.0 same)
      ];
      in_turn = λ k j l before e1 e2 more. elim (reads needs i targets target n listed own k l) [
        | inl last ↦ search (arith, get_or-set_other)
        | inr old ↦
            let less : j < i = omega (arith, before, old.0) in
            get_or-set_other targets i j target 0 (λ same. omega (arith, less, same))
            ∙ s.in_turn k j old.0 before e1 e2 (omega (arith, more, old.1))
      ];
      all_of_it = λ more k l e1. elim (reads needs i targets target n listed own k l) [
        | inl last ↦
            let gives = g.at_it (omega (arith, e1, last.2)) in
            omega (arith, more, last.1, gives.0, gives.1)
        | inr old ↦ search arith
      ];
      shared = search (arith, take_more_set, sum_by_push, sum_by_more);
    }

-- where all at the level give what they can, that is what can be spared from the level on
all_give : (needs : List Need) (level rest : ℕ) (targets : List ℕ) (left : ℕ)
    → AreGiven needs level rest (length needs) targets left → 0 < left
    → spared_from needs level ≤ sum targets
all_give needs level rest targets left s more =
    let len : length (map (spare_from level) needs) ≡ length needs =
    length-map needs (spare_from level) in search (arith, sum-le, counts_at_most, get_or, sum-map)

-- a guest gives before another one of the level or above, and so gives what it can
all_before : (needs : List Need) (level rest : ℕ) (targets : List ℕ) (left i j : ℕ)
    → AreGiven needs level rest (length needs) targets left → i < length needs
    → j < length needs → 0 < get_or targets i 0 → level ≤ spare_at needs i
    → GivesBefore needs j i → get_or targets j 0 ≡ spare_at needs j
all_before needs level rest targets left i j s l m more reached h12 = grind arith

-- targets by the level of what is missing
pub by_level : (needs : List Need) (frames level lack rest : ℕ) (targets : List ℕ) (left : ℕ) → lack
    ≡ missing needs frames → rest ≡ lack - spared_from needs (level + 1) → IsLevel needs lack level
    → AreGiven needs level rest (length needs) targets left → AreTargets needs frames targets
by_level needs frames level lack rest targets left e r is s = record {
  one_each = s.one_each;
  within = search (arith, cases_order);
  enough = elim (cases_lt 0 left) [
    | inl more ↦ absurd (omega (
      arith,
      more,
      in_all,
      r,
      is.fits,
      is.enough,
      all_give needs level rest targets left s more,
    ))
    | inr none ↦ omega (arith, none, in_all, r, e, is.fits)
  ];
  in_order = search (arith, cases_lt, all_before);
} where
  in_all : sum targets + left ≡ spared_from needs (level + 1) + rest
  in_all = search (arith, take_all)
