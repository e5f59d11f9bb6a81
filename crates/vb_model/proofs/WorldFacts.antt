-- Worked facts of the host: plugging guests in, numbers, spare devices, and which frames are given.
use Rattle.std.proofs.Common.{List, [], arith, false, inl, inr, refl, replicate, subst, true, ℕ}
use Rattle.std.proofs.Common.{◌++◌, ◌<◌}
use Rattle.vb_model.specs.{Step.{HonestStep}, World.{put_guest}}
use Rattle.std.{proofs.Common.{◌∷◌, ◌≡◌, ◌⊎◌}, specs.Prelude.{None, Option, Some}}
use Rattle.vb_model.proofs.Samples.{HappensJustSo}
use Rattle.vb_model.{proofs.Samples.{down, plug, ready}, specs.Guest.{Config, Guest, fresh}}
use Rattle.vb_model.specs.{HostEvents.{Plugs, WorldStep, with_targets}, HostFrames.Gives, World.World}
use Rattle.vb_model.specs.{World.made, declared.calls.{Call.TheVariants.SetTarget, Event.Event}}
use Rattle.vb_model.specs.declared.calls.Claim.{Claim, TheVariants.{Gave, GaveNoFrame, GaveNoMemory}}
use Rattle.vb_model.specs.declared.calls.Event.TheVariants.{Frames as CountFrames, Guest as OnGuest}
use Rattle.vb_model.specs.declared.calls.Event.TheVariants.{Query as OnQuery, Restart, Unplug}
use Rattle.vb_virtio.specs.declared.refusals.Refusal.{Refusal}
use Rattle.vb_virtio.specs.declared.refusals.Refusal.TheVariants.{BadConfig, NoDevice, NoGuest}
use Rattle.vb_virtio.specs.declared.refusals.Refusal.TheVariants.{NoMemory, TooMany}
use Rattle.vb_model.specs.declared.calls.Query.TheVariants.{Places}
use Rattle.vb_model.specs.declared.replies.Reply.{Reply, TheVariants.{Done, Frames, Plugged, Refused}}

abbrev world : List (Option Guest) → World
world guests = record
    { frames = 200; guests = guests; spares = false ∷ true ∷ true ∷ []; vacated = None }

abbrev without_spares : World → World
without_spares w = record w { spares = [] }

-- a guest of other sizes
abbrev wide : Config
wide = record { pages = 128; queue_size = 2; processors = 4; paced = false }

-- ---- a new guest

-- it is as its configuration says, with the pace of the first spare, which is used up
first_plug : WorldStep (made 64 (true ∷ false ∷ [])) (plug 64 8 1) (Plugged 0)
    (record { frames = 64; guests = Some down ∷ []; spares = false ∷ []; vacated = None })
first_plug = inr (0, refl, tt, refl, refl)

second_plug : WorldStep (world (Some ready ∷ [])) (plug 128 2 4) (Plugged 1)
    (record (world (Some ready ∷ Some (fresh wide 0) ∷ [])) { spares = true ∷ true ∷ [] })
second_plug = inr (1, refl, tt, refl, refl)

-- a number that was given up is used by the next plug, and by that one alone
abbrev gap : World
gap = record (world (Some ready ∷ None ∷ Some ready ∷ None ∷ [])) { vacated = Some 1 }

number_given_up : WorldStep gap (plug 128 2 4) (Plugged 1)
    (record (world (Some ready ∷ Some (fresh wide 0) ∷ Some ready ∷ None ∷ []))
    { spares = true ∷ true ∷ []; vacated = None })
number_given_up = inr (1, refl, refl, refl, refl)

no_other_number : (v : World) → WorldStep gap (plug 128 2 4) (Plugged 3) v → ⊥
no_other_number v h1 = grind arith

-- or there is no memory; nothing else comes of it
plugged_or_not : (reply : Reply) (v : World) → WorldStep gap (plug 128 2 4) reply v
    → ((reply ≡ Refused NoMemory) × (v ≡ gap)) ⊎ ((reply ≡ Plugged 1)
    × (v ≡ record (world (Some ready ∷ Some (fresh wide 0) ∷ Some ready ∷ None ∷ []))
    { spares = true ∷ true ∷ []; vacated = None }))
plugged_or_not reply v (inl none) = inl none
plugged_or_not reply v (inr (n, free, last, answer, same)) = inr (
  subst (λ (m : ℕ). reply ≡ Plugged m) last answer,
  subst (λ (m : ℕ). v ≡ record (put_guest m (Some (fresh wide 0)) gap)
      { spares = true ∷ true ∷ []; vacated = None }) last same,
)

-- with none given up any number that no guest has
any_free_number : WorldStep (record gap { vacated = None }) (plug 128 2 4) (Plugged 3)
    (record (world (Some ready ∷ None ∷ Some ready ∷ Some (fresh wide 0) ∷ []))
    { spares = true ∷ true ∷ [] })
any_free_number = inr (3, refl, tt, refl, refl)

no_number_twice : (v : World) → WorldStep (world (Some ready ∷ [])) (plug 128 2 4) (Plugged 0) v → ⊥
no_number_twice v h1 = grind arith

-- an allocation failure leaves the spare, and the number given up
no_memory_for_a_plug : WorldStep gap (plug 128 2 4) (Refused NoMemory) gap
no_memory_for_a_plug = inl (refl, refl)

-- the number given up is not another's, a number isn't used twice, and the answer is the number
abbrev NoPlug : World → Reply → Type 0
NoPlug w reply = (v : World) → Plugs wide (true ∷ true ∷ []) w reply v → ⊥

no_such_plug : NoPlug gap (Plugged 3) × NoPlug gap (Plugged 0) × NoPlug gap Done
    × NoPlug (world (Some ready ∷ [])) (Plugged 0)
no_such_plug = grind arith

just_so_plugged : (v : World) → Plugs wide (true ∷ []) gap (Plugged 1) v
    → v ≡ record (world (Some ready ∷ Some (fresh wide 0) ∷ Some ready ∷ None ∷ []))
    { spares = true ∷ []; vacated = None }
just_so_plugged v p = grind arith

-- ---- refusals of a plug: the configuration, then the number of guests, then the spares

abbrev eight : World
eight = world (None ∷ replicate 8 (Some ready))

abbrev Refuses : World → Event → Refusal → Type 0
Refuses w event refusal = WorldStep w event (Refused refusal) w

ninth_guest : Refuses eight (plug 64 8 1) TooMany
ninth_guest = (refl, refl)

-- a refused plug doesn't use the number up
refused_plugs : Refuses (without_spares eight) (plug 65 8 1) BadConfig
    × Refuses (without_spares eight) (plug 64 8 1) TooMany
    × Refuses (without_spares gap) (plug 64 8 1) NoDevice × Refuses gap (plug 64 3 1) BadConfig
    × Refuses gap (plug 64 8 5) BadConfig
refused_plugs = ((refl, refl), (refl, refl), (refl, refl), (refl, refl), (refl, refl))

-- numbers without a guest don't count
eighth_guest : WorldStep (world (None ∷ replicate 7 (Some ready))) (plug 128 2 4) (Plugged 8)
    (record (world (None ∷ replicate 7 (Some ready) ++ (Some (fresh wide 0) ∷ [])))
    { spares = true ∷ true ∷ [] })
eighth_guest = inr (8, refl, tt, refl, refl)

-- ---- numbers without a guest

abbrev NoGuestAt : ℕ → Type 0
NoGuestAt n = Refuses gap (Unplug n) NoGuest × Refuses gap (Restart n) NoGuest
    × Refuses gap (OnGuest n (SetTarget 1)) NoGuest × Refuses gap (OnQuery n Places) NoGuest

-- a number that was given up, and one past the last
numbers_without_a_guest : NoGuestAt 1 × NoGuestAt 4
numbers_without_a_guest = (
  ((refl, refl), (refl, refl), (refl, refl), (refl, refl)),
  ((refl, refl), (refl, refl), (refl, refl), (refl, refl)),
)

-- ---- one guest's event leaves the others

no_frame_claimed : WorldStep (world (Some ready ∷ None ∷ Some down ∷ Some ready ∷ []))
    (OnGuest 2 (SetTarget 7)) Done
    (world (Some ready ∷ None ∷ Some (record down { target = 7 }) ∷ Some ready ∷ []))
no_frame_claimed = ([], record down { target = 7 }, tt, (refl, (refl, refl)), refl)

-- and nothing else comes of it
its_target : (claims : List Claim) (reply : Reply) (after : Guest)
    → HonestStep down (SetTarget 7) claims reply after
    → (reply ≡ Done) × (after ≡ record down { target = 7 })
its_target [] reply after s = s.1
its_target (claim ∷ claims) reply after s = absurd (let t : claim ∷ claims ≡ [] = s.0 in cc)

just_that_target : (reply : Reply) (v : World)
    → WorldStep (world (Some ready ∷ None ∷ Some down ∷ Some ready ∷ [])) (OnGuest 2 (SetTarget 7))
    reply v → (reply ≡ Done)
    × (v ≡ world (Some ready ∷ None ∷ Some (record down { target = 7 }) ∷ Some ready ∷ []))
just_that_target reply v (claims, after, gives, step, same) =
    let aimed = its_target claims reply after step in (
      aimed.0,
      subst (λ (g : Guest). v ≡ world (Some ready ∷ None ∷ Some g ∷ Some ready ∷ [])) aimed.1 same,
    )

-- targets go to the guests in rising number, past the numbers that have none
targets_past_gaps : with_targets (5 ∷ 7 ∷ 9 ∷ []) (None ∷ Some ready
    ∷ None ∷ None ∷ Some down ∷ Some ready ∷ []) ≡ None ∷ Some (record ready { target = 5 })
    ∷ None ∷ None ∷ Some (record down { target = 7 }) ∷ Some (record ready { target = 9 }) ∷ []
targets_past_gaps = refl

-- ---- frames in use, and those that are not

abbrev with_frames : List (Option ℕ) → Option Guest
with_frames frames = Some (record ready { frames = frames })

frames_in_use : HappensJustSo
    (world (with_frames (Some 3 ∷ None ∷ Some 199 ∷ []) ∷ None ∷ with_frames (Some 0 ∷ []) ∷ []))
    CountFrames (Frames 3 197)
    (world (with_frames (Some 3 ∷ None ∷ Some 199 ∷ []) ∷ None ∷ with_frames (Some 0 ∷ []) ∷ []))
frames_in_use = ((refl, refl), λ reply v s. s)

-- ---- which frames are given: of five frames 0, 1 and 3 are out

abbrev Out : ℕ → Type 0
Out x = (x ≡ 0) ⊎ ((x ≡ 1) ⊎ (x ≡ 3))

below_2 : (x : ℕ) → x < 2 → Out x
below_2 x l = grind arith

two_is_not_out : Out 2 → ⊥
two_is_not_out h = grind arith

-- and 2, once it is given
abbrev OutThen : ℕ → Type 0
OutThen x = Out x ⊎ (x ≡ 2)

four_is_not_out : OutThen 4 → ⊥
four_is_not_out h = grind arith

below_4 : (x : ℕ) → x < 4 → OutThen x
below_4 x l = grind arith

below_5 : (x : ℕ) → x < 5 → OutThen x ⊎ (x ≡ 4)
below_5 x l = grind arith

-- first the least that isn't out, 2, then 4, and then there is none
least_first : Gives 5 Out (Gave 2 ∷ Gave 4 ∷ GaveNoFrame ∷ [])
least_first = grind arith

none_above_a_free_one : Gives 5 Out (Gave 4 ∷ []) → ⊥
none_above_a_free_one g = two_is_not_out (g.2 2 (omega arith))

none_that_is_out : Gives 5 Out (Gave 3 ∷ []) → ⊥
none_that_is_out g = g.1 (inr (inr refl))

none_past_the_last : Gives 2 (λ x. (x ≡ 0) ⊎ (x ≡ 1)) (Gave 2 ∷ []) → ⊥
none_past_the_last g = let l : 2 < 2 = g.0 in absurd (omega arith)

none_given_twice : Gives 5 Out (Gave 2 ∷ Gave 2 ∷ []) → ⊥
none_given_twice g = g.3.1 (inr refl)

-- no frame is left just where all are out
some_frame_is_left : Gives 5 Out (GaveNoFrame ∷ []) → ⊥
some_frame_is_left g = two_is_not_out (g.0 2 (omega arith))

-- an allocation failure may come while a frame is left, and only then; nothing is claimed after it
no_memory : Gives 5 Out (GaveNoMemory ∷ [])
no_memory = (2, omega arith, two_is_not_out, refl)

no_frame_before_no_memory : Gives 2 (λ x. x < 2) (GaveNoMemory ∷ []) → ⊥
no_frame_before_no_memory g = g.2 g.1

nothing_after_a_refused_claim : (Gives 5 Out (GaveNoMemory ∷ Gave 2 ∷ []) → ⊥)
    × (Gives 0 Out (GaveNoFrame ∷ Gave 2 ∷ []) → ⊥)
nothing_after_a_refused_claim = (
  λ g. (let e : Gave 2 ∷ [] ≡ [] = g.3 in cc),
  λ g. (let e : Gave 2 ∷ [] ≡ [] = g.1 in cc),
)
