-- Worked facts of reads and writes.
use Rattle.std.proofs.Common.{List, [], inl, inr, map, refl, replicate, ℕ, ◌++◌, ◌∷◌, ◌≡◌, ◌⊎◌}
use Rattle.std.specs.Prelude.{None, Option, Some, drop}
use Rattle.vb_model.proofs.Samples.{StepsJustSo}
use Rattle.vb_model.{proofs.Samples.{config, down, ready}, specs.{Driver.pages_needed, Guest.Guest}}
use Rattle.vb_virtio.specs.Memory.{zero_page}
use Rattle.vb_virtio.specs.declared.refusals.Refusal.{Refusal}
use Rattle.vb_virtio.specs.declared.refusals.Refusal.TheVariants.{BadCpu, BadOrder, NoFrame}
use Rattle.vb_virtio.specs.declared.refusals.Refusal.TheVariants.{NoMemory, NotHeld, OutOfRam}
use Rattle.vb_model.specs.Refusals.{refusal_of}
use Rattle.vb_model.specs.Step.{HonestStep}
use Rattle.vb_model.specs.declared.calls.Call.{Call, TheVariants.{Alloc, Free, Read, Write}}
use Rattle.vb_model.specs.declared.calls.Claim.TheVariants.{Gave, GaveNoFrame, GaveNoMemory}
use Rattle.vb_model.specs.declared.places.Place.TheVariants.{Free as FreePlace, Lent, Reserved}
use Rattle.vb_model.specs.declared.places.Place.TheVariants.{Used}
use Rattle.vb_model.specs.declared.replies.Reply.{Reply, TheVariants.{Done, ReadBytes, Refused}}

-- pages 16 to 18 are used; pages 16 and 17 have frames. A short list represents the bytes of a page
abbrev frames : Option ℕ → List (Option ℕ)
frames of_18 = replicate 16 None ++ (Some 13 ∷ Some 14 ∷ of_18 ∷ replicate 45 None)

abbrev contents : List ℕ → List ℕ → List (List ℕ)
contents of_17 of_18 =
    replicate 16 zero_page ++ ((60 ∷ 61 ∷ []) ∷ of_17 ∷ of_18 ∷ replicate 45 zero_page)

abbrev holding : List ℕ → Option ℕ → List ℕ → Guest
holding of_17 frame_of_18 of_18 = record ready {
  places = replicate 16 Reserved ++ (replicate 3 Used ++ replicate 45 FreePlace);
  frames = frames frame_of_18;
  contents = contents of_17 of_18;
}

abbrev five_bytes : List ℕ
five_bytes = 1 ∷ 2 ∷ 3 ∷ 4 ∷ 5 ∷ []

abbrev before : Guest
before = holding five_bytes None zero_page

-- ---- read: n bytes from the offset on, or an allocation failure for the reply

read_three : HonestStep before (Read 17 1 3) [] (ReadBytes (2 ∷ 3 ∷ 4 ∷ [])) before
read_three = (refl, (inl refl, refl))

read_no_memory : HonestStep before (Read 17 1 3) [] (Refused NoMemory) before
read_no_memory = (refl, (inr refl, refl))

just_read : (reply : Reply) (new : Guest) → HonestStep before (Read 17 1 3) [] reply new
    → ((reply ≡ ReadBytes (2 ∷ 3 ∷ 4 ∷ [])) ⊎ (reply ≡ Refused NoMemory)) × (new ≡ before)
just_read reply new s = (s.1.0, s.1.1)

-- ---- write: these bytes from the offset on, all else as it was

written_two : StepsJustSo before (Write 17 1 (8 ∷ 9 ∷ [])) [] Done
    (holding (1 ∷ 8 ∷ 9 ∷ 4 ∷ 5 ∷ []) None zero_page)
written_two = ((refl, (refl, refl)), λ reply new s. s.1)

-- a page without a frame gets one first, and is zero but for these bytes
written_to_a_bare_page : StepsJustSo before (Write 18 0 (8 ∷ 9 ∷ [])) (Gave 33 ∷ []) Done
    (holding five_bytes (Some 33) (8 ∷ 9 ∷ drop 2 zero_page))
written_to_a_bare_page = ((refl, (refl, refl)), λ reply new s. s.1)

-- or nothing is changed
no_frame_for_a_write : StepsJustSo before (Write 18 0 (8 ∷ [])) (GaveNoFrame ∷ []) (Refused NoFrame)
    before
no_frame_for_a_write = ((refl, (refl, refl)), λ reply new s. s.1)

no_memory_for_a_write : StepsJustSo before (Write 18 0 (8 ∷ [])) (GaveNoMemory ∷ [])
    (Refused NoMemory) before
no_memory_for_a_write = ((refl, (refl, refl)), λ reply new s. s.1)

-- a write of nothing needs no frame
frames_needed : pages_needed 18 [] before ∷ pages_needed 18 (0 ∷ 0 ∷ []) before
    ∷ pages_needed 17 (0 ∷ []) before ∷ [] ≡ [] ∷ (18 ∷ []) ∷ [] ∷ []
frames_needed = refl

-- ---- refusals: used pages alone, and then bytes of that page alone

abbrev refusals : Guest → List Call → List (Option Refusal)
refusals g calls = map (refusal_of g) calls

used_pages_alone : map (λ page. refusals before (Read page 5000 1 ∷ Write page 5000 (1 ∷ []) ∷ []))
    (16 ∷ 18 ∷ 0 ∷ 15 ∷ 19 ∷ 63 ∷ 64 ∷ [])
    ≡ replicate 2 (replicate 2 (Some OutOfRam)) ++ replicate 5 (replicate 2 (Some NotHeld))
used_pages_alone = refl

lent_is_not_used : refusals (record before { places = replicate 64 Lent })
    (Read 17 0 1 ∷ Write 17 0 [] ∷ []) ≡ replicate 2 (Some NotHeld)
lent_is_not_used = refl

within_the_page : refusals before (Read 17 4092 4 ∷ Read 17 4096 0 ∷ Write 17 4094 (1 ∷ 2 ∷ [])
    ∷ Write 17 4096 [] ∷ Read 17 4093 4 ∷ Read 17 4097 0 ∷ Write 17 4095 (1 ∷ 2 ∷ [])
    ∷ Write 17 4097 [] ∷ []) ≡ replicate 4 None ++ replicate 4 (Some OutOfRam)
within_the_page = refl

-- whether the device is initialised doesn't matter
before_an_initialisation : refusal_of (record before { status = 0 }) (Read 17 0 1)
    ∷ refusal_of (record before { status = 131 }) (Write 17 0 (1 ∷ []))
    ∷ refusal_of down (Alloc 0 0) ∷ [] ≡ replicate 3 None
before_an_initialisation = refl

-- ---- orders and processors are tested before blocks

abbrev two_processors : Guest
two_processors = record ready { config = record config { processors = 2 } }

blocks_in_order : refusals two_processors
    (Alloc 0 0 ∷ Alloc 1 0 ∷ Alloc 2 0 ∷ Alloc 2 10 ∷ Alloc 2 9
    ∷ []) ≡ None ∷ None ∷ Some BadCpu ∷ Some BadOrder ∷ Some BadCpu ∷ []
blocks_in_order = refl

free_is_tested_alike : refusals two_processors (Free 2 16 10 ∷ Free 2 16 9 ∷ Free 1 16 9 ∷ [])
    ≡ Some BadOrder ∷ Some BadCpu ∷ Some NotHeld ∷ []
free_is_tested_alike = refl
