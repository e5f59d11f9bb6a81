-- Worked facts of a guest's lives: initialisation, reset, restart and unplugging.
use Rattle.std.proofs.Common.{List, [], false, map, refl, replicate, true, ℕ, ◌++◌, ◌+◌, ◌∷◌, ◌≡◌}
use Rattle.std.specs.{List.range_with_len, Prelude.{None, Option, Some}}
use Rattle.vb_model.proofs.Samples.{HappensJustSo, StepsJustSo, config, down, mixed_places, ready}
use Rattle.vb_model.proofs.Samples.{request}
use Rattle.vb_virtio.specs.Statistics.{no_statistics}
use Rattle.vb_virtio.specs.Memory.{zero_page}
use Rattle.vb_virtio.specs.declared.refusals.Refusal.TheVariants.{AlreadyUp, FeatureNotOffered}
use Rattle.vb_virtio.specs.declared.refusals.Refusal.TheVariants.{NoFrame, NoMemory, VersionMissing}
use Rattle.vb_model.specs.Driver.{AreClaimsFor}
use Rattle.vb_model.specs.Guest.{Guest, is_ready}
use Rattle.vb_model.specs.{HostFrames.used_frames, Life.after_reset, Step.HonestStep, World.World}
use Rattle.vb_model.specs.{Life.{after_restart, lacking}, Refusals.refusal_of}
use Rattle.vb_model.specs.Requests.{BufferPosted, BufferTaken, NoBuffer, Requests, no_requests}
use Rattle.vb_model.specs.{declared.calls.Call.TheVariants.Init}
use Rattle.vb_model.specs.declared.calls.{Call.TheVariants.{Reset, SetTarget}, Claim.{Claim, TheVariants.Gave}}
use Rattle.vb_model.specs.declared.calls.Claim.TheVariants.{GaveNoFrame, GaveNoMemory}
use Rattle.vb_model.specs.declared.calls.Event.TheVariants.{Restart, Unplug}
use Rattle.vb_model.specs.declared.places.Place.TheVariants.{Free as FreePlace, Reserved, Stranded}
use Rattle.vb_model.specs.declared.places.Place.TheVariants.{Used}
use Rattle.vb_model.specs.declared.replies.Reply.TheVariants.{Done, Ready, Refused}

-- ---- a guest with something in every field

-- two requests in each stage
abbrev in_each_stage : ℕ → Requests
in_each_stage page = record {
  posted = request 0 (page ∷ []) 0 ∷ request 1 ((page + 1) ∷ []) 0 ∷ [];
  taken = request 2 ((page + 2) ∷ []) 1 ∷ request 3 ((page + 3) ∷ []) 0 ∷ [];
  done = request 4 ((page + 4) ∷ []) 1 ∷ request 5 ((page + 5) ∷ []) 1 ∷ [];
}

abbrev full_frames : List (Option ℕ)
full_frames = map (λ page. Some (page + 100)) (range_with_len 0 40) ++ replicate 24 None

-- a short list represents the bytes of a page that was written
abbrev full_contents : List (List ℕ)
full_contents = replicate 37 zero_page ++ ((1 ∷ []) ∷ (2 ∷ []) ∷ replicate 25 zero_page)

-- 21 pages are free, 2 used, 3 giving, 4 lent, 5 taking, 6 stranded, 7 reporting
abbrev full : Guest
full = record {
  config = config;
  places = mixed_places;
  held = record { start = 37; order = 0 } ∷ record { start = 38; order = 0 } ∷ [];
  inflate = in_each_stage 39;
  deflate = in_each_stage 46;
  report = in_each_stage 57;
  buffer = BufferTaken (record { free = 86016; total = 262144 });
  ballooned = replicate 42 false ++ (replicate 4 true ++ replicate 18 false);
  status = 15;
  features = 0x100000027;
  target = 9;
  actual = 7;
  last = record { free = Some 86016; total = Some 262144 };
  frames = full_frames;
  contents = full_contents;
  rogue = false;
}

-- as plugged in, with the target kept: no frame, all unreserved pages free, honest
abbrev renewed : Guest
renewed = record {
  config = config;
  places = replicate 16 Reserved ++ replicate 48 FreePlace;
  held = [];
  inflate = no_requests;
  deflate = no_requests;
  report = no_requests;
  buffer = NoBuffer;
  ballooned = replicate 64 false;
  status = 0;
  features = 0;
  target = 9;
  actual = 0;
  last = no_statistics;
  frames = replicate 64 None;
  contents = replicate 64 zero_page;
  rogue = false;
}

-- ---- reset

-- giving, lent and taking pages are stranded, reporting ones free; requests, buffer, statistics,
-- features and the ballooned set are gone; configuration, held blocks, target, frames and contents
-- stay
reset : StepsJustSo full Reset [] Done (record renewed {
  places = replicate 16 Reserved ++ (replicate 21 FreePlace
      ++ (replicate 2 Used ++ (replicate 18 Stranded ++ replicate 7 FreePlace)));
  held = record { start = 37; order = 0 } ∷ record { start = 38; order = 0 } ∷ [];
  frames = full_frames;
  contents = full_contents;
})
reset = ((refl, (refl, refl)), λ reply new s. s.1)

-- it may come at any status
reset_of_a_failed_guest : refusal_of (record full { status = 131 }) Reset ∷ refusal_of down Reset
    ∷ [] ≡ None ∷ None ∷ []
reset_of_a_failed_guest = refl

target_is_set : StepsJustSo full (SetTarget 5) [] Done (record full { target = 5 })
target_is_set = ((refl, (refl, refl)), λ reply new s. s.1)

-- ---- restart

abbrev three_guests : Option Guest → World
three_guests middle = record {
  frames = 200;
  guests = Some ready ∷ middle ∷ Some down ∷ [];
  spares = true ∷ false ∷ [];
  vacated = Some 3;
}

-- of three guests just the one is renewed; the host stays as it was
restart : HappensJustSo (three_guests (Some full)) (Restart 1) Done (three_guests (Some renewed))
restart = ((refl, refl), λ reply v s. s)

-- a rogue guest is honest again
restart_of_a_rogue : HappensJustSo (three_guests (Some (record full { rogue = true }))) (Restart 1) Done
    (three_guests (Some renewed))
restart_of_a_rogue = ((refl, refl), λ reply v s. s)

frames_go_back : used_frames (three_guests (Some full)) ∷ used_frames (three_guests (Some renewed))
    ∷ [] ≡ 40 ∷ 0 ∷ []
frames_go_back = refl

-- ---- unplugging

-- the guest is gone, its frames with it, and its number is the one last given up; its device isn't
-- a spare again
unplug : HappensJustSo (three_guests (Some full)) (Unplug 1) Done
    (record (three_guests None) { vacated = Some 1 })
unplug = ((refl, refl), λ reply v s. s)

frames_are_gone : used_frames (three_guests None) ≡ 0
frames_are_gone = refl

-- ---- initialisation

-- pages 0 to 12 get frames, in rising order
rings_and_buffers : lacking down ≡ 0 ∷ 1 ∷ 2 ∷ 3 ∷ 4 ∷ 5 ∷ 6 ∷ 7 ∷ 8 ∷ 9 ∷ 10 ∷ 11 ∷ 12 ∷ []
rings_and_buffers = refl

just_those_without_frames : lacking
    (record down { frames = Some 7 ∷ None ∷ Some 8 ∷ replicate 10 (Some 9) ++ replicate 51 None })
    ≡ 1 ∷ []
just_those_without_frames = refl

-- after a reset all have their frames still
none_after_a_reset : lacking (after_reset full) ≡ []
none_after_a_reset = refl

abbrev thirteen : List Claim
thirteen = map (λ k. Gave (k + 20)) (range_with_len 0 13)

abbrev thirteen_frames : List (Option ℕ)
thirteen_frames = map (λ k. Some (k + 20)) (range_with_len 0 13) ++ replicate 51 None

-- without STATS_VQ there is no statistics buffer
initialised : StepsJustSo down (Init 0x100000025) thirteen Ready
    (record down { status = 15; features = 0x100000025; frames = thirteen_frames })
initialised = ((refl, (refl, refl)), λ reply new s. s.1)

-- a guest needn't agree to tell the host
initialised_untold : StepsJustSo down (Init 0x100000026) thirteen Ready (record down {
  status = 15;
  features = 0x100000026;
  buffer = BufferPosted (record { free = 196608; total = 262144 });
  frames = thirteen_frames;
})
initialised_untold = ((refl, (refl, refl)), λ reply new s. s.1)

with_version_alone : StepsJustSo down (Init 0x100000000) thirteen Ready
    (record down { status = 15; features = 0x100000000; frames = thirteen_frames })
with_version_alone = ((refl, (refl, refl)), λ reply new s. s.1)

untold_but_refused : (new : Guest)
    → HonestStep down (Init 0x100000026) thirteen (Refused VersionMissing) new → ⊥
untold_but_refused new s = let e : Refused VersionMissing ≡ Ready = s.1.0 in cc

-- one claim for each of the pages, no more and no less, and none after one that is refused
one_claim_too_few : AreClaimsFor (0 ∷ 1 ∷ []) (Gave 5 ∷ []) → ⊥
one_claim_too_few a = a

one_claim_too_many : AreClaimsFor (0 ∷ []) (Gave 5 ∷ Gave 6 ∷ []) → ⊥
one_claim_too_many a = let e : Gave 6 ∷ [] ≡ [] = a in cc

none_after_no_frame : AreClaimsFor (0 ∷ 1 ∷ []) (GaveNoFrame ∷ Gave 5 ∷ []) → ⊥
none_after_no_frame a = let e : Gave 5 ∷ [] ≡ [] = a in cc

none_after_no_memory : AreClaimsFor (0 ∷ 1 ∷ []) (GaveNoMemory ∷ Gave 5 ∷ []) → ⊥
none_after_no_memory a = let e : Gave 5 ∷ [] ≡ [] = a in cc

-- the first claim that is refused is the answer, and no frame stays
no_frame_left : StepsJustSo down (Init 0x100000027) (Gave 20 ∷ Gave 21 ∷ GaveNoFrame ∷ [])
    (Refused NoFrame) down
no_frame_left = ((refl, (refl, refl)), λ reply new s. s.1)

no_memory_left : StepsJustSo down (Init 0x100000027) (Gave 20 ∷ GaveNoMemory ∷ []) (Refused NoMemory)
    down
no_memory_left = ((refl, (refl, refl)), λ reply new s. s.1)

-- features that are refused leave the status at 131 and what was accepted in the negotiation; the
-- frames stay
version_missing : StepsJustSo down (Init 0x27) thirteen (Refused VersionMissing)
    (record down { status = 131; features = 0x27; frames = thirteen_frames })
version_missing = ((refl, (refl, refl)), λ reply new s. s.1)

no_features : StepsJustSo down (Init 0) thirteen (Refused VersionMissing)
    (record down { status = 131; features = 0; frames = thirteen_frames })
no_features = ((refl, (refl, refl)), λ reply new s. s.1)

-- none were accepted that aren't offered
not_offered : StepsJustSo down (Init 0x100000067) thirteen (Refused FeatureNotOffered)
    (record down { status = 131; features = 0; frames = thirteen_frames })
not_offered = ((refl, (refl, refl)), λ reply new s. s.1)

-- the features come after the frames
frames_before_features : StepsJustSo down (Init 0x26) (GaveNoFrame ∷ []) (Refused NoFrame) down
frames_before_features = ((refl, (refl, refl)), λ reply new s. s.1)

-- a guest that is up, or has given up, has to be reset first
up_already : refusal_of ready (Init 0)
    ∷ refusal_of (record down { status = 131 }) (Init 0x100000027)
    ∷ refusal_of (after_reset full) (Init 0x100000027) ∷ refusal_of (after_restart full)
    (Init 0x100000027) ∷ [] ≡ Some AlreadyUp ∷ Some AlreadyUp ∷ None ∷ None ∷ []
up_already = refl

-- ready is 15 and nothing else
just_15_is_ready : map (λ status. is_ready (record ready { status = status }))
    (0 ∷ 1 ∷ 3 ∷ 11 ∷ 14 ∷ 15 ∷ 79 ∷ 131 ∷ 143 ∷ []) ≡ false ∷ false ∷ false ∷ false ∷ false ∷ true
    ∷ false ∷ false ∷ false ∷ []
just_15_is_ready = refl
