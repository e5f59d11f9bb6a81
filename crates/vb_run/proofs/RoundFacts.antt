-- Worked facts of the balancer's rounds: a look in each round, and a target where the round has one
-- for the guest.
use Rattle.std.proofs.Common.{◌≡◌, ◌∙◌, ℕ, List, [], ◌∷◌, refl, map, true, false, arith}
use Rattle.vb_virtio.specs.Targets.{Need}
use Rattle.vb_virtio.specs.declared.refusals.Refusal.TheVariants.{Short, NoFrame}
use Rattle.vb_model.specs.declared.calls.Actor.TheVariants.{Balancer, Worker}
use Rattle.vb_model.specs.declared.calls.Call.TheVariants.{Ask, SetTarget}
use Rattle.vb_model.specs.{declared.calls.Claim.TheVariants.GaveNoFrame, GuestRun.{Called, Looked}}
use Rattle.vb_model.specs.declared.replies.Reply.TheVariants.{Done, Targets, Refused}
use Rattle.vb_run.specs.{Reports.IsRound, declared.plan.{GuestPlan.GuestPlan, Plan.Plan}}
use Rattle.vb_run.specs.Rounds.{Rounded, is_of_round, round_entries}

-- two guests of 64 pages: the first can spare 40, the second 30
abbrev needs : List Need
needs = record { pages = 64; spare = 40 } ∷ record { pages = 64; spare = 30 } ∷ []

abbrev pub Same : ℕ → ℕ → Type 0
Same a b = a ≡ b

-- a round with targets: 28 of the missing pages, which the first guest gives; guest 1 gives none
abbrev pub shared : Rounded
shared = record { frames = 100; needs = needs; answer = Targets (28 ∷ 0 ∷ []) }

-- 40 frames, to which 18 pages stay missing
abbrev pub round : Rounded
round = record { frames = 40; needs = needs; answer = Refused (Short 18) }

abbrev rounds : List Rounded
rounds = shared ∷ round ∷ []

entries_of_guest_0 : round_entries 16 0 rounds
    ≡ Looked 16 40 ∷ Called Balancer (SetTarget 28) [] Done ∷ Looked 16 40 ∷ []
entries_of_guest_0 = refl

entries_of_guest_1 : round_entries 5 1 rounds
    ≡ Looked 5 30 ∷ Called Balancer (SetTarget 0) [] Done ∷ Looked 5 30 ∷ []
entries_of_guest_1 = refl

no_round : round_entries 16 0 [] ≡ []
no_round = refl

-- ---- which entries may be one of a round: looks, and targets that are set without a claim

entries_of_rounds : map is_of_round (Looked 5 30 ∷ Called Balancer (SetTarget 28) [] Done
    ∷ Called Balancer (SetTarget 28) (GaveNoFrame ∷ []) Done
    ∷ Called Balancer (SetTarget 28) [] (Refused NoFrame) ∷ Called (Worker 0) (SetTarget 28) [] Done
    ∷ Called Balancer Ask [] Done ∷ []) ≡ true ∷ true ∷ false ∷ false ∷ false ∷ false ∷ []
entries_of_rounds = refl

-- ---- rounds of a report: over all guests of the plan, for its frames

-- a plan of two guests with n frames
abbrev OfPlan : (pages more frames : ℕ) → (Plan → Type 0) → Type 0
OfPlan pages more frames Holds = (plan : Plan) (g h : GuestPlan) → plan.guests.items ≡ g
    ∷ h ∷ [] → g.config.pages ≡ pages → h.config.pages ≡ more → plan.frames ≡ frames → Holds plan

round_of_the_plan : OfPlan 64 64 40 (λ plan. IsRound plan round)
round_of_the_plan plan g h guests pages more frames = grind arith

another_number_of_frames : OfPlan 64 64 41 (λ plan. IsRound plan round → ⊥)
another_number_of_frames plan g h guests pages more frames r =
    let e : Same 40 41 = r.frames ∙ frames in omega arith

guest_of_another_size : OfPlan 64 80 40 (λ plan. IsRound plan round → ⊥)
guest_of_another_size plan g h guests pages more frames r = grind arith

guest_that_was_not_seen : (plan : Plan) (g h i : GuestPlan)
    → plan.guests.items ≡ g ∷ h ∷ i ∷ [] → IsRound plan round → ⊥
guest_that_was_not_seen plan g h i guests r = grind arith

guest_that_no_plan_has : (plan : Plan) (g : GuestPlan) → plan.guests.items ≡ g ∷ []
    → IsRound plan round → ⊥
guest_that_no_plan_has plan g guests r = grind arith

another_answer : OfPlan 64 64 40
    (λ plan. IsRound plan (record round { answer = Refused (Short 17) }) → ⊥)
another_answer plan g h guests pages more frames r = grind arith
