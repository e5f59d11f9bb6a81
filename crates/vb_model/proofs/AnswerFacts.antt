-- Worked facts of what a balance answers: targets, or what stays missing.
use Rattle.std.proofs.Common.{◌≡◌, ℕ, List, [], ◌∷◌, refl, arith}
use Rattle.vb_virtio.specs.declared.refusals.Refusal.TheVariants.{Short, NoFrame}
use Rattle.vb_virtio.specs.Targets.{Need, AreTargets}
use Rattle.vb_model.specs.declared.replies.Reply.TheVariants.{Done, Targets, Refused}
use Rattle.vb_model.specs.Balance.{IsAnswer}

abbrev Same : ℕ → ℕ → Type 0
Same a b = a ≡ b

abbrev SameList : List ℕ → List ℕ → Type 0
SameList a b = a ≡ b

-- two guests of 64 pages: the first can spare 40, the second 30
abbrev needs : List Need
needs = record { pages = 64; spare = 40 } ∷ record { pages = 64; spare = 30 } ∷ []

-- ---- 100 frames: 28 are missing, and the first guest gives them alone

first_alone : AreTargets needs 100 (28 ∷ 0 ∷ [])
first_alone = grind arith

targets_of_the_first : IsAnswer 100 needs (Targets (28 ∷ 0 ∷ []))
targets_of_the_first = (28 ∷ 0 ∷ [], first_alone, refl)

-- an answer of these targets says that they are targets
are_targets : (a b : ℕ) → IsAnswer 100 needs (Targets (a ∷ b ∷ []))
    → AreTargets needs 100 (a ∷ b ∷ [])
are_targets a b h2 = grind arith

not_evenly : IsAnswer 100 needs (Targets (14 ∷ 14 ∷ [])) → ⊥
not_evenly answer = grind arith

not_too_little : IsAnswer 100 needs (Targets (27 ∷ 0 ∷ [])) → ⊥
not_too_little answer = grind arith

not_short : (more : ℕ) → IsAnswer 100 needs (Refused (Short more)) → ⊥
not_short more (targets, are, e) = cc

not_done : IsAnswer 100 needs Done → ⊥
not_done (targets, are, e) = cc

-- ---- 58 frames: the 70 that are missing are all that the guests can give

both_give : AreTargets needs 58 (40 ∷ 30 ∷ [])
both_give = grind arith

just_enough : IsAnswer 58 needs (Targets (40 ∷ 30 ∷ []))
just_enough = (40 ∷ 30 ∷ [], both_give, refl)

-- ---- fewer frames: what stays missing, and no target

short_by_one : IsAnswer 57 needs (Refused (Short 1))
short_by_one = refl

short_by_18 : IsAnswer 40 needs (Refused (Short 18))
short_by_18 = refl

not_by_another_number : IsAnswer 40 needs (Refused (Short 17)) → ⊥
not_by_another_number e = cc

not_for_another_reason : IsAnswer 40 needs (Refused NoFrame) → ⊥
not_for_another_reason e = cc

no_targets_though_short : (targets : List ℕ) → IsAnswer 40 needs (Targets targets) → ⊥
no_targets_though_short targets e = cc
