-- Worked facts of scribbles and of what a rogue guest may need.
use Rattle.std.proofs.Common.{List, [], ap, arith, false, map, refl, replicate, true, ℕ, ◌++◌, ◌<◌}
use Rattle.std.{proofs.{Common.{◌∷◌, ◌≡◌}, lemmas.List.get_or-replicate}, specs.List.range_with_len}
use Rattle.std.specs.Prelude.{None, Option, Some, unwrap_or}
use Rattle.vb_model.proofs.Samples.{StepsJustSo}
use Rattle.vb_virtio.proofs.Differ.{differ}
use Rattle.vb_virtio.specs.declared.refusals.Refusal.TheVariants.{NoFrame, NoMemory, OutOfRam}
use Rattle.vb_model.proofs.Samples.{config, down, ready}
use Rattle.vb_model.specs.Guest.{Config, Guest}
use Rattle.vb_model.specs.{Guest.is_ballooned, Refusals.refusal_of, Rogue.{HasAllPages, RogueStep}}
use Rattle.vb_model.specs.{Rogue.{IsRogueAfter, LosesFrames, pages_to_back}, Step.HonestStep}
use Rattle.vb_model.specs.declared.calls.Call.TheVariants.{Alloc, Ask, Deflate, Finish, Free, Init}
use Rattle.vb_model.specs.declared.calls.Call.TheVariants.{Inflate, Oom, Read, Reap, Report, Reset}
use Rattle.vb_model.specs.declared.calls.Call.TheVariants.{Scribble, SetTarget, Stats, Sweep, Take}
use Rattle.vb_model.specs.declared.calls.{Call.TheVariants.{Work, Write}, Claim.Claim}
use Rattle.vb_model.specs.declared.calls.Claim.TheVariants.{Gave, GaveNoFrame, GaveNoMemory}
use Rattle.vb_model.specs.declared.{places.Place.TheVariants.{Lent, Used}, replies.Reply.Reply}
use Rattle.vb_model.specs.declared.replies.Reply.TheVariants.{Done, Idle, Refused}

-- ---- a scribble is refused outside memory or past the end of its page, whatever place the page is
-- at

bytes_in_a_page : map (refusal_of ready) (Scribble 0 0 (1 ∷ []) ∷ Scribble 63 4094 (1 ∷ 2 ∷ [])
    ∷ Scribble 16 4096 [] ∷ Scribble 0 4095 (1 ∷ 2 ∷ []) ∷ Scribble 64 0 (1 ∷ []) ∷ Scribble 64 0 []
    ∷ Scribble 63 4097 [] ∷ []) ++ (refusal_of down (Scribble 16 4096 []) ∷ [])
    ≡ replicate 3 None ++ (replicate 4 (Some OutOfRam) ++ (None ∷ []))
bytes_in_a_page = refl

refused_scribble : StepsJustSo ready (Scribble 64 0 (1 ∷ [])) [] (Refused OutOfRam) ready
refused_scribble = ((refl, refl, refl), λ reply new s. (s.1, s.2))

-- ---- a scribble on a page without a frame claims one; else, or of nothing, none

abbrev backed : List (Option ℕ) → Guest
backed of_16_and_17 =
    record ready { frames = replicate 16 None ++ (of_16_and_17 ++ replicate 46 None); target = 7 }

abbrev before : Guest
before = backed (Some 13 ∷ None ∷ [])

frames_needed : map (λ call. pages_to_back call before) (Scribble 17 0 (1 ∷ 2 ∷ [])
    ∷ Scribble 16 0 (1 ∷ []) ∷ Scribble 17 0 [] ∷ []) ≡ (17 ∷ []) ∷ [] ∷ [] ∷ []
frames_needed = refl

-- what is left is rogue, with the frame; all but its contents is as it was
abbrev marked : Guest
marked = record (backed (Some 13 ∷ Some 20 ∷ [])) { rogue = true }

no_flag : (page : ℕ) → page < 16 → is_ballooned marked.ballooned page ≡ false
no_flag page l = get_or-replicate 64 page false false (omega (arith, l))

scribbled : HonestStep before (Scribble 17 0 (1 ∷ [])) (Gave 20 ∷ []) Done marked
scribbled = search (arith, no_flag)

all_that_is_said : (reply : Reply) (new : Guest) → HonestStep before (Scribble 17 0 (1 ∷ []))
    (Gave 20 ∷ []) reply new → (reply ≡ Done) × (new ≡ record marked { contents = new.contents })
all_that_is_said reply new s = (s.1.answered, s.1.memory)

-- any bytes may be left, in any page
any_bytes : (bytes : List ℕ) → HonestStep before (Scribble 17 0 (1 ∷ [])) (Gave 20 ∷ []) Done
    (record marked { contents = replicate 64 bytes })
any_bytes bytes = search (arith, no_flag)

-- but as many pages as there were, and it isn't honest any more
abbrev NotLeft : Guest → Type 0
NotLeft new = HonestStep before (Scribble 17 0 (1 ∷ [])) (Gave 20 ∷ []) Done new → ⊥

no_other_sizes : NotLeft (record marked { contents = replicate 65 [] })
    × NotLeft (record marked { contents = [] }) × NotLeft (record marked { rogue = false })
no_other_sizes = (
  λ s. differ 65 64 refl s.1.state.sizes.filled,
  λ s. differ 0 64 refl s.1.state.sizes.filled,
  λ s. (let e : false ≡ true = s.1.state.still in cc),
)

-- a claim that is refused is the answer, and the guest stays honest
no_frame_for_a_scribble : StepsJustSo before (Scribble 17 0 (1 ∷ [])) (GaveNoFrame ∷ [])
    (Refused NoFrame) before
no_frame_for_a_scribble = ((refl, (refl, refl)), λ reply new s. s.1)

no_memory_for_a_scribble : StepsJustSo before (Scribble 17 0 (1 ∷ [])) (GaveNoMemory ∷ [])
    (Refused NoMemory) before
no_memory_for_a_scribble = ((refl, (refl, refl)), λ reply new s. s.1)

-- ---- what a rogue guest claims frames for: the same pages as an honest one

-- a rogue guest in some state
abbrev after : Guest
after = record (backed (Some 13 ∷ Some 20 ∷ [])) {
  rogue = true;
  status = 143;
  places = replicate 64 Lent;
  ballooned = replicate 16 false ++ (true ∷ replicate 47 false);
}

no_reserved_flag : (page : ℕ) → page < 16 → is_ballooned after.ballooned page ≡ false
no_reserved_flag page l = grind arith

frames_of_a_write : map (λ page. pages_to_back (Write page 0 (1 ∷ []))
    (record after { places = replicate 64 Used })) (17 ∷ 18 ∷ 64 ∷ []) ≡ [] ∷ (18 ∷ []) ∷ [] ∷ []
frames_of_a_write = refl

no_other_call_claims : map (λ call. pages_to_back call after) (Reset
    ∷ Alloc 0 0 ∷ Free 0 18 0 ∷ Read 18 0 1 ∷ Inflate 1 ∷ Deflate 1 ∷ Oom 1 ∷ Report 0 ∷ Stats
    ∷ Reap 0 ∷ Take 0 ∷ Work ∷ Finish 0 0 ∷ Sweep 18 ∷ Ask ∷ SetTarget 1
    -- refused before they claim
    ∷ Write 18 0 (1 ∷ []) ∷ Init 0x100000027 ∷ Scribble 18 4096 (1 ∷ []) ∷ []) ≡ replicate 19 []
no_other_call_claims = refl

frames_of_an_initialisation : pages_to_back (Init 0x100000027) (record after { status = 0 })
    ≡ range_with_len 0 13
frames_of_an_initialisation = refl

abbrev Same : ℕ → ℕ → Type 0
Same a b = a ≡ b

-- ---- a rogue guest's step: any answer and any state, but for frames, configuration and target

abbrev lost : Guest
lost = record after { frames = replicate 64 None; status = 0; features = 9 }

none_gained : LosesFrames after.frames (replicate 64 None)
none_gained page frame h = grind arith

frames_may_go : RogueStep after Work [] Idle lost
frames_may_go = grind (arith, config, no_reserved_flag, none_gained)

-- a page past the last is never ballooned, nor is memory ever longer or shorter
one_page_more : RogueStep after Work [] Idle (record lost { ballooned = replicate 65 false }) → ⊥
one_page_more s = let e : Same 65 64 = s.stays.sizes.flagged in omega arith

no_places : RogueStep after Work [] Idle (record lost { places = [] }) → ⊥
no_places s = let e : Same 0 64 = s.stays.sizes.placed in omega arith

-- each table by page has an entry for each page, and no more
a_table_of_another_length : (HasAllPages (record ready { places = replicate 65 Lent }) → ⊥)
    × (HasAllPages (record ready { ballooned = replicate 65 false }) → ⊥)
    × (HasAllPages (record ready { frames = replicate 65 None }) → ⊥)
    × (HasAllPages (record ready { frames = [] }) → ⊥)
    × (HasAllPages (record ready { contents = replicate 65 [] }) → ⊥)
    × (HasAllPages (record ready { contents = [] }) → ⊥)
a_table_of_another_length = (
  λ h. differ 65 64 refl h.placed,
  λ h. differ 65 64 refl h.flagged,
  λ h. differ 65 64 refl h.framed,
  λ h. differ 0 64 refl h.framed,
  λ h. differ 65 64 refl h.filled,
  λ h. differ 0 64 refl h.filled,
)

-- it stays rogue, with its configuration, and no reserved page of it is ballooned
not_honest_again : IsRogueAfter after (record after { rogue = false }) → ⊥
not_honest_again s = let e : false ≡ true = s.still in cc

another_configuration : IsRogueAfter after
    (record after { config = record config { queue_size = 16 } }) → ⊥
another_configuration s =
    let e : Same 16 8 = ap (λ (c : Config). c.queue_size) s.config in omega arith

last_reserved_ballooned : IsRogueAfter after
    (record after { ballooned = replicate 15 false ++ (true ∷ replicate 48 false) }) → ⊥
last_reserved_ballooned s = let e : true ≡ false = s.unreserved 15 (omega arith) in cc

-- a scribble that doesn't lie in a page is refused, of a rogue guest too
past_the_last_byte : (claims : List Claim) (reply : Reply) (new : Guest)
    → HonestStep after (Scribble 63 4095 (1 ∷ 2 ∷ [])) claims reply new
    → (claims ≡ []) × (reply ≡ Refused OutOfRam) × (new ≡ after)
past_the_last_byte claims reply new s = s

past_the_last_page : (claims : List Claim) (reply : Reply) (new : Guest)
    → HonestStep after (Scribble 64 0 []) claims reply new
    → (claims ≡ []) × (reply ≡ Refused OutOfRam) × (new ≡ after)
past_the_last_page claims reply new s = s

-- a rogue guest's scribble is answered as an honest one's: out of memory, no frame, done
scribbled_again : (reply : Reply) (new : Guest)
    → RogueStep after (Scribble 64 0 (1 ∷ [])) [] reply new
    → (reply ≡ Refused OutOfRam) × (new ≡ after)
scribbled_again reply new s = let told = s.scribble 64 0 (1 ∷ []) refl in (told.1, told.2)

no_frame_again : (reply : Reply) (new : Guest)
    → RogueStep after (Scribble 18 0 (1 ∷ [])) (GaveNoFrame ∷ []) reply new
    → (reply ≡ Refused NoFrame) × (new ≡ after)
no_frame_again reply new s = (s.scribble 18 0 (1 ∷ []) refl).1

done_again : (reply : Reply) (new : Guest) → RogueStep after (Scribble 17 0 (1 ∷ [])) [] reply new
    → reply ≡ Done
done_again reply new s = (s.scribble 17 0 (1 ∷ []) refl).1.answered

frame_not_claimed : (reply : Reply) (new : Guest)
    → RogueStep after (Scribble 18 0 (1 ∷ [])) [] reply new → ⊥
frame_not_claimed reply new s = (s.scribble 18 0 (1 ∷ []) refl).0

-- `target` sets it as in an honest guest
target_is_set : (reply : Reply) (new : Guest) → RogueStep after (SetTarget 5) [] reply new
    → new.target ≡ 5
target_is_set reply new s = s.target

-- by no other call
target_stays : RogueStep after Work [] Idle (record lost { target = 8 }) → ⊥
target_stays s = let e : Same 8 7 = s.target in omega arith

-- a frame enters by a claim alone, at the page that it was claimed for
unclaimed_frame : RogueStep after Work [] Idle
    (record after { frames = replicate 16 None ++ (Some 13 ∷ Some 20 ∷ Some 3 ∷ replicate 45 None) })
    → ⊥
unclaimed_frame s =
    let e : Same 0 3 = ap (λ (o : Option ℕ). unwrap_or o 0) (s.frames 18 3 refl) in omega arith

abbrev holding : Guest
holding = record after { places = replicate 64 Used }

abbrev with_frames : List (Option ℕ) → Guest
with_frames frames = record holding { frames = replicate 16 None ++ (Some 13 ∷ Some 20 ∷ frames) }

frame_of_another_page : (reply : Reply) → RogueStep holding (Write 18 0 (1 ∷ [])) (Gave 3 ∷ []) reply
    (with_frames (None ∷ Some 3 ∷ replicate 44 None)) → ⊥
frame_of_another_page reply s =
    let e : Same 0 3 = ap (λ (o : Option ℕ). unwrap_or o 0) (s.frames 19 3 refl) in omega arith

another_frame : (reply : Reply) → RogueStep holding (Write 18 0 (1 ∷ [])) (Gave 3 ∷ []) reply
    (with_frames (Some 4 ∷ replicate 45 None)) → ⊥
another_frame reply s =
    let e : Same 3 4 = ap (λ (o : Option ℕ). unwrap_or o 0) (s.frames 18 4 refl) in omega arith

-- a refusal for lack of a frame needs a claim
no_frame_without_a_claim : (new : Guest)
    → RogueStep after (Write 18 0 (1 ∷ [])) [] (Refused NoFrame) new → ⊥
no_frame_without_a_claim new s = let e : None ≡ Some NoFrame = s.no_frame refl in cc

-- one on an allocation failure too, or a read, and it changes nothing
no_memory_without_a_claim : (new : Guest)
    → RogueStep after (Write 18 0 (1 ∷ [])) [] (Refused NoMemory) new → ⊥
no_memory_without_a_claim new s = grind arith

no_memory_for_a_take : (new : Guest) → RogueStep after (Take 0) [] (Refused NoMemory) new → ⊥
no_memory_for_a_take new s = grind arith

-- a read may find none
no_memory_for_a_read : RogueStep after (Read 17 0 1) [] (Refused NoMemory) after
no_memory_for_a_read = grind (arith, no_reserved_flag)

no_memory_keeps_all : (new : Guest)
    → RogueStep after (Read 17 0 1) [] (Refused NoMemory) new → new ≡ after
no_memory_keeps_all new s = s.refused NoMemory refl
