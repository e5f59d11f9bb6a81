-- Worked facts of needs and targets.
use Rattle.std.proofs.Common.{[], arith, map, refl, replicate, true, ℕ, ◌∷◌, ◌≡◌}
use Rattle.std.specs.Prelude.{None, Option, Some}
use Rattle.vb_virtio.proofs.TargetFacts.{first_alone}
use Rattle.vb_virtio.specs.declared.refusals.Refusal.TheVariants.{Short}
use Rattle.vb_model.proofs.Samples.{config, ready}
use Rattle.vb_model.specs.Balance.{need, spare}
use Rattle.vb_model.specs.Guest.{Guest}
use Rattle.vb_model.specs.HostEvents.{WorldStep}
use Rattle.vb_model.specs.{HostEvents.needs, World.World, declared.calls.Event.TheVariants.Balance}
use Rattle.vb_model.specs.declared.replies.Reply.TheVariants.{Refused}
use Rattle.vb_model.specs.declared.replies.Reply.{Reply, TheVariants.{Done, Targets}}

-- ---- what a guest of 64 pages can spare: min(48, ballooned + (free - floor))

-- n pages are ballooned, and m bytes were free
abbrev known : ℕ → Option ℕ → Guest
known ballooned free = record ready {
  ballooned = replicate ballooned true;
  last = record { free = free; total = Some 262144 };
}

floors : map (λ floor. spare floor (known 0 (Some 196608))) (0 ∷ 16 ∷ 40 ∷ 47 ∷ 48 ∷ 49 ∷ 1000 ∷ [])
    ≡ 48 ∷ 32 ∷ 8 ∷ 1 ∷ 0 ∷ 0 ∷ 0 ∷ []
floors = refl

-- ballooned pages are spared whatever the floor is
with_ballooned_pages : map (λ floor. spare floor (known 4 (Some 180224)))
    (0 ∷ 16 ∷ 40 ∷ 44 ∷ 45 ∷ 1000 ∷ []) ≡ 48 ∷ 32 ∷ 8 ∷ 4 ∷ 4 ∷ 4 ∷ []
with_ballooned_pages = refl

-- never more than the unreserved pages, however many are said to be free; of a larger guest more.
-- Where nothing is known, just the ballooned pages
at_most_all_unreserved : map (λ (floor, g). spare floor g) ((0, known 10 (Some 196608))
    ∷ (16, known 0 (Some 18446744073709551615)) ∷ (0, known 64 None)
    ∷ (16, record (known 4 (Some 458752)) { config = record config { pages = 128 } })
    ∷ (0, known 4 None) ∷ (16, known 4 None) ∷ []) ≡ 48 ∷ 48 ∷ 48 ∷ 100 ∷ 4 ∷ 4 ∷ []
at_most_all_unreserved = refl

-- bytes are counted in whole pages
whole_pages : map (λ free. spare 0 (known 0 (Some free))) (4095 ∷ 4096 ∷ 12287 ∷ 12288 ∷ []) ≡ 0 ∷ 1
    ∷ 2 ∷ 3 ∷ []
whole_pages = refl

-- a need has all pages of the guest, the reserved ones too
need_of_a_guest : need 16 (known 0 (Some 196608)) ≡ record { pages = 64; spare = 32 }
need_of_a_guest = refl

-- ---- a balance of two guests of 64 pages, of which each has 48 free, with 100 frames

abbrev world : Option Guest → Option Guest → World
world a b =
    record { frames = 100; guests = None ∷ a ∷ None ∷ b ∷ []; spares = true ∷ []; vacated = Some 2 }

abbrev aiming : ℕ → Guest
aiming target = record (known 0 (Some 196608)) { target = target }

-- the needs stand by rising number
needs_of_both : needs 16 (world (Some (aiming 3)) (Some (known 5 (Some 180224))))
    ≡ record { pages = 64; spare = 32 } ∷ record { pages = 64; spare = 33 } ∷ []
needs_of_both = refl

needs_from_0_on : needs 16 (record {
  frames = 100;
  guests = Some (known 1 None) ∷ Some (known 2 None) ∷ [];
  spares = [];
  vacated = None;
}) ≡ record { pages = 64; spare = 1 } ∷ record { pages = 64; spare = 2 } ∷ []
needs_from_0_on = refl

-- above a floor of 16 pages the first gives 28; nothing but the targets changes
balanced : WorldStep (world (Some (aiming 3)) (Some (aiming 5))) (Balance 16)
    (Targets (28 ∷ 0 ∷ [])) (world (Some (aiming 28)) (Some (aiming 0)))
balanced = ((28 ∷ 0 ∷ [], first_alone 32 32 100 28 (omega arith) (omega arith) refl, refl), refl)

-- above 40 they can spare 16 of 28, and no target changes
short : WorldStep (world (Some (aiming 3)) (Some (aiming 5))) (Balance 40) (Refused (Short 12))
    (world (Some (aiming 3)) (Some (aiming 5)))
short = (refl, refl)

-- no other answer, and no other targets than those of the answer
just_short : (reply : Reply) (v : World)
    → WorldStep (world (Some (aiming 3)) (Some (aiming 5))) (Balance 40) reply v
    → (reply ≡ Refused (Short 12)) × (v ≡ world (Some (aiming 3)) (Some (aiming 5)))
just_short reply v s = grind arith

just_as_answered : (v : World)
    → WorldStep (world (Some (aiming 3)) (Some (aiming 5))) (Balance 16) (Targets (28 ∷ 0 ∷ [])) v
    → v ≡ world (Some (aiming 28)) (Some (aiming 0))
just_as_answered v s = s.1

abbrev NeverAnswered : Reply → Type 0
NeverAnswered reply = (v : World)
    → WorldStep (world (Some (aiming 3)) (Some (aiming 5))) (Balance 16) reply v → ⊥

other_answers : NeverAnswered (Refused (Short 0)) × NeverAnswered (Targets (0 ∷ 28 ∷ []))
    × NeverAnswered (Targets (28 ∷ [])) × NeverAnswered (Targets (29 ∷ 0 ∷ [])) × NeverAnswered Done
other_answers = grind arith
