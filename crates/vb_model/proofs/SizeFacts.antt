-- Worked facts of a guest of 80 pages whose queues have 256 descriptors, and so rings of two pages.
use Rattle.std.proofs.Common.{List, [], ap, arith, false, length, map, refl, replicate, true, ℕ}
use Rattle.std.proofs.Common.{◌++◌, ◌∷◌, ◌≡◌}
use Rattle.vb_model.proofs.Samples.{StepsJustSo}
use Rattle.vb_virtio.proofs.Differ.{differ}
use Rattle.vb_virtio.specs.declared.refusals.Refusal.TheVariants.{NoFrame}
use Rattle.vb_model.specs.Sizes.{HasSmallShape}
use Rattle.std.{specs.Prelude.{Option, Some, None, ◌+◌}, specs.List.range_with_len}
use Rattle.vb_model.specs.declared.calls.{Call.TheVariants.Init, Claim.Claim}
use Rattle.vb_model.specs.{declared.calls.Claim.TheVariants.{Gave, GaveNoFrame}, Life.lacking}
use Rattle.vb_model.specs.Driver.{AreClaimsFor}
use Rattle.vb_model.specs.{declared.replies.Reply.TheVariants.{Ready, Refused}, Balance.spare}
use Rattle.vb_model.specs.Pages.{all_free, maximal_free_blocks, is_wholly_free}
use Rattle.vb_model.specs.{Requests.BufferPosted, Guest.{Guest, Config, fresh}}
use Rattle.vb_model.specs.{Orderly.IsOrderly, Rogue.IsRogueAfter, StepLaws.HasNoReservedBallooned}
use Rattle.vb_model.specs.declared.places.Place.TheVariants.{Reserved, Free as FreePlace}

abbrev large : Config
large = record { pages = 80; queue_size = 256; processors = 1; paced = false }

-- as it is plugged in, and the same with queues of 128
abbrev down : Guest
down = fresh large 0

abbrev one_page_rings : Guest
one_page_rings = fresh (record large { queue_size = 128 }) 0

-- ---- pages

reserved_at_first : down.places ≡ replicate 32 Reserved ++ replicate 48 FreePlace
reserved_at_first = refl

sixteen_of_small_queues : one_page_rings.places ≡ replicate 16 Reserved ++ replicate 64 FreePlace
sixteen_of_small_queues = refl

page_31_free : IsOrderly
    (record down { places = replicate 31 Reserved ++ replicate 49 FreePlace }) → ⊥
page_31_free o = let e : false ≡ true = o.unreserved 31 (omega arith) in cc

page_32_reserved : IsOrderly
    (record down { places = replicate 33 Reserved ++ replicate 47 FreePlace }) → ⊥
page_32_reserved o = let e : true ≡ false = o.unreserved 32 (omega arith) in cc

-- no block ends past the last page
blocks_of_80_pages : map (λ reserved. maximal_free_blocks (all_free reserved 80)) (16 ∷ 32 ∷ [])
    ≡ (record { start = 16; order = 4 } ∷ record { start = 32; order = 5 }
    ∷ record { start = 64; order = 4 } ∷ [])
    ∷ (record { start = 32; order = 5 } ∷ record { start = 64; order = 4 } ∷ []) ∷ []
blocks_of_80_pages = refl

past_the_end : map (λ order. is_wholly_free down.places (record { start = 64; order = order }))
    (3 ∷ 4 ∷ 5 ∷ 6 ∷ []) ≡ true ∷ true ∷ false ∷ false ∷ []
past_the_end = refl

-- ---- initialisation: buffers first, then the rings after the first 16 pages

start : lacking down ≡ 4 ∷ 5 ∷ 6 ∷ 7 ∷ 8 ∷ 9 ∷ 10 ∷ 11 ∷ 12 ∷ 16 ∷ 17 ∷ 18 ∷ 19 ∷ 20 ∷ 21 ∷ 22 ∷ 23
    ∷ []
start = refl

start_of_small_queues : lacking one_page_rings ≡ range_with_len 0 13
start_of_small_queues = refl

-- one that has frames for pages 0 to 20 lacks the last three
some_there : lacking (record down { frames = map Some (range_with_len 0 21) ++ replicate 59 None })
    ≡ 21 ∷ 22 ∷ 23 ∷ []
some_there = refl

abbrev seventeen : List Claim
seventeen = map (λ k. Gave (k + 20)) (range_with_len 0 17)

abbrev seventeen_frames : List (Option ℕ)
seventeen_frames = replicate 4 None ++ (map Some (range_with_len 20 9)
    ++ (replicate 3 None ++ (map Some (range_with_len 29 8) ++ replicate 56 None)))

initialised : StepsJustSo down (Init 0x100000027) seventeen Ready (record down {
  status = 15;
  features = 0x100000027;
  buffer = BufferPosted (record { free = 196608; total = 327680 });
  frames = seventeen_frames;
})
initialised = ((refl, (refl, refl)), λ reply new s. s.1)

thirteen_are_too_few : AreClaimsFor (lacking down) (map (λ k. Gave (k + 20)) (range_with_len 0 13)) → ⊥
thirteen_are_too_few a = a

no_frame_left : StepsJustSo down (Init 0x100000027) (Gave 20 ∷ Gave 21 ∷ GaveNoFrame ∷ [])
    (Refused NoFrame) down
no_frame_left = ((refl, (refl, refl)), λ reply new s. s.1)

-- ---- what it can spare: never its 32 reserved pages

all_but_reserved : spare 0 (record down { last = record { free = Some 1000000; total = None } })
    ∷ spare 0 (record one_page_rings { last = record { free = Some 1000000; total = None } }) ∷ [] ≡ 48
    ∷ 64 ∷ []
all_but_reserved = refl

-- ---- none of the reserved pages is ballooned, if it is rogue neither

page_31_ballooned : HasNoReservedBallooned
    (record down { ballooned = replicate 31 false ++ (true ∷ replicate 48 false) }) → ⊥
page_31_ballooned h = let e : true ≡ false = h 31 (omega arith) in cc

rogue_with_page_31 : IsRogueAfter down
    (record down { ballooned = replicate 31 false ++ (true ∷ replicate 48 false); rogue = true })
    → ⊥
rogue_with_page_31 s = let e : true ≡ false = s.unreserved 31 (omega arith) in cc

-- ---- what queues of up to 128 have, and those of 256 don't: 16 reserved pages, each ring in a page
-- of its own, all of them in pages 0 to 3, and a start that needs pages 0 to 12

no_small_shape : (HasSmallShape 256 → ⊥) × (HasSmallShape 256 → ⊥) × (HasSmallShape 256 → ⊥)
    × (HasSmallShape 256 → ⊥)
no_small_shape = (
  λ s. differ 32 16 refl s.reserved,
  λ s. differ 22 3 refl (s.rings 4),
  λ s. (let e : false ≡ true = s.pages 3 in cc),
  λ s. differ 17 13 refl (ap (λ (pages : List ℕ). length pages) s.start),
)
