-- Rogue guests in what the host counts and does: their frames, they themselves, their needs and
-- their targets are as any guest's.
use Rattle.std.proofs.Common.{◌≡◌, true, false, List, [], ◌∷◌, ◌++◌, replicate, refl}
use Rattle.std.specs.Prelude.{Option, Some, None}
use Rattle.vb_model.proofs.Samples.{HappensJustSo}
use Rattle.vb_model.specs.declared.replies.Reply.TheVariants.{Balloon, Done, Frames, Refused}
use Rattle.vb_virtio.specs.declared.refusals.Refusal.TheVariants.{TooMany}
use Rattle.vb_model.specs.Guest.{Guest, fresh}
use Rattle.vb_model.{specs.HostEvents.{WorldStep, needs, with_targets}, specs.Queries.Answers}
use Rattle.vb_model.{specs.declared.calls.Event.TheVariants.Restart, specs.World.World}
use Rattle.vb_model.{specs.HostFrames.{IsOut, used_frames}, proofs.Samples.{config, ready, plug}}
use Rattle.vb_model.{specs.declared.replies.Reply.Reply, specs.HostRefusals.plugged_count}
use Rattle.vb_model.specs.declared.calls.Event.TheVariants.{Frames as CountFrames}
use Rattle.vb_model.specs.declared.calls.Query.TheVariants.{Balloon as QueryBalloon}

-- pages 16 and 17 have frames 5 and 9, page 18 is ballooned, and three pages were said to be free
abbrev rogue : Guest
rogue = record ready {
  rogue = true;
  target = 7;
  actual = 4;
  ballooned = replicate 18 false ++ (true ∷ replicate 45 false);
  last = record { free = Some 12288; total = None };
  frames = replicate 16 None ++ (Some 5 ∷ Some 9 ∷ replicate 46 None);
}

abbrev world : List (Option Guest) → World
world guests = record { frames = 64; guests = guests; spares = true ∷ []; vacated = None }

abbrev both : World
both = world (Some ready ∷ Some rogue ∷ [])

its_frames_are_used : used_frames both ≡ 2
its_frames_are_used = refl

its_frames_are_counted : HappensJustSo both CountFrames (Frames 2 62) both
its_frames_are_counted = ((refl, refl), λ reply v s. s)

its_frames_are_out : IsOut both 9
its_frames_are_out = (1, 17, record { guest = rogue; is_there = refl; has = refl })

it_is_counted : plugged_count both ≡ 2
it_is_counted = refl

eight_of_them : HappensJustSo (world (replicate 8 (Some rogue))) (plug 64 8 1) (Refused TooMany)
    (world (replicate 8 (Some rogue)))
eight_of_them = ((refl, refl), λ reply v s. s)

-- its ballooned page, and what is free above the floor
it_has_a_need : needs 1 both
    ≡ record { pages = 64; spare = 0 } ∷ record { pages = 64; spare = 3 } ∷ []
it_has_a_need = refl

it_gets_its_target : with_targets (11 ∷ 12 ∷ []) both.guests
    ≡ Some (record ready { target = 11 }) ∷ Some (record rogue { target = 12 }) ∷ []
it_gets_its_target = refl

-- a question is answered with its state's values
it_is_asked : (reply : Reply) → Answers QueryBalloon rogue reply
    → reply ≡ Balloon (record { ballooned = 1; actual = 4; target = 7; status = 15 })
it_is_asked reply answered = answered

-- a restart leaves it as plugged in, with its target
it_starts_anew : (v : World) → WorldStep both (Restart 1) Done v
    → v ≡ world (Some ready ∷ Some (fresh config 7) ∷ [])
it_starts_anew v s = s.1
