-- What guests that haven't agreed to tell the host are refused: an inflate while a deflate is out,
-- and a sweep.
use Rattle.std.proofs.Common.{List, [], false, map, refl, replicate, true, ◌++◌, ◌∷◌, ◌≡◌}
use Rattle.{std.specs.Prelude.{Bool, None, Some}, vb_model.proofs.UntoldFacts.{each_stage, framed}}
use Rattle.vb_model.proofs.Samples.{StepsJustSo, at, config, new_request, ready, request, untold}
use Rattle.vb_virtio.specs.FirstRefusal.{Cause, ◌⇒◌}
use Rattle.vb_virtio.specs.Queues.{Request}
use Rattle.vb_virtio.specs.declared.refusals.Refusal.TheVariants.{QueueFull, DeflatePending}
use Rattle.vb_virtio.specs.declared.refusals.Refusal.TheVariants.{NeedsReset, Nothing, NoFeature}
use Rattle.vb_virtio.specs.declared.refusals.Refusal.TheVariants.{NotBallooned, NotReady}
use Rattle.vb_model.specs.Requests.{Requests, no_requests}
use Rattle.vb_model.specs.{Guest.Guest, declared.calls.Call.TheVariants.{Report, Sweep, Take, Work}}
use Rattle.vb_model.specs.Refusals.{refusal_of}
use Rattle.vb_model.specs.{Step.HonestStep, Tables.{sweep_causes, inflate_causes, request_causes}}
use Rattle.vb_model.specs.declared.calls.Call.TheVariants.{Alloc, Deflate, Inflate, Oom, Reap}
use Rattle.vb_model.specs.declared.places.Place.TheVariants.{Free as FreePlace, Giving, Lent}
use Rattle.vb_model.specs.declared.places.Place.TheVariants.{Reserved, Stranded, Taking}
use Rattle.vb_model.specs.declared.replies.Reply.TheVariants.{Posted, Refused, Swept}
use Rattle.vb_model.proofs.UntoldFacts.{places, three_lent, both, posted, asked, no_head_out}

-- ---- no page is offered while a deflate is outstanding, at whatever stage

-- nine pages are wanted and 48 are free
abbrev pending : Guest → Requests → Guest
pending g rs = record g { deflate = rs; target = 9 }

-- stranded pages wait as well
abbrev stranded : Requests → Guest
stranded rs = record untold { places = places Stranded Stranded Lent; deflate = rs }

-- nor where none could be offered: no page is wanted, or none is asked for
inflates_wait : map (λ (guest, n). map (λ rs. refusal_of (guest rs) (Inflate n)) each_stage)
    ((pending untold, 1) ∷ (stranded, 1) ∷ ((λ rs. record (pending untold rs) { target = 0 }), 1)
    ∷ (pending untold, 0) ∷ []) ≡ map (λ last. replicate 3 (Some DeflatePending) ++ (last ∷ []))
    (None ∷ None ∷ Some Nothing ∷ Some Nothing ∷ [])
inflates_wait = refl

not_where_it_tells : map (λ n. map (λ rs. refusal_of (pending ready rs) (Inflate n)) each_stage)
    (1 ∷ 0 ∷ []) ≡ replicate 4 None ∷ replicate 4 (Some Nothing) ∷ []
not_where_it_tells = refl

-- at queue size 2 one or two inflates are out
abbrev narrow : List Request → Guest
narrow rs = record (pending untold (posted both)) {
  config = record config { queue_size = 2 };
  inflate = record { posted = rs; taken = []; done = request 1 (20 ∷ []) 1 ∷ [] };
}

full_queue_first : refusal_of (narrow (request 0 (21 ∷ []) 0 ∷ [])) (Inflate 1)
    ∷ refusal_of (narrow []) (Inflate 1) ∷ [] ≡ Some QueueFull ∷ Some DeflatePending ∷ []
full_queue_first = refl

status_before_that : map
    (λ status. refusal_of (record (narrow (request 0 (21 ∷ []) 0 ∷ [])) { status = status })
    (Inflate 1)) (0 ∷ 11 ∷ 79 ∷ 131 ∷ 143 ∷ []) ≡ replicate 5 (Some NotReady)
status_before_that = refl

-- requests of other kinds don't matter
other_kinds : refusal_of (record (pending untold no_requests)
    { inflate = posted (request 0 (20 ∷ []) 0); report = posted (request 0 (21 ∷ []) 0) })
    (Inflate 1) ≡ None
other_kinds = refl

-- nor is any other call refused for it
just_inflates : map (refusal_of (record (asked FreePlace untold) { target = 0 })) (Deflate 1 ∷ Oom 1
    ∷ Report 0 ∷ Reap 0 ∷ Reap 1 ∷ Take 0 ∷ Take 1 ∷ Work ∷ Alloc 0 0 ∷ []) ≡ replicate 9 None
just_inflates = refl

inflate_changes_nothing : StepsJustSo (pending untold (posted both)) (Inflate 1) []
    (Refused DeflatePending) (pending untold (posted both))
inflate_changes_nothing = ((refl, refl, refl), λ reply new s. (s.1, s.2))

offered_too_early : (new : Guest)
    → HonestStep (pending untold (posted both)) (Inflate 1) [] (Posted 0 1) new → ⊥
offered_too_early new s = let e : Posted 0 1 ≡ Refused DeflatePending = s.1 in cc

-- where it tells, free pages are offered beside those that it takes
offered_where_it_tells : HonestStep (record (asked Taking ready) { target = 9 }) (Inflate 1) []
    (Posted 0 1) (record (asked Taking ready) {
      target = 9;
      places = replicate 16 Reserved ++ (Taking ∷ Taking ∷ Lent ∷ Giving ∷ replicate 44 FreePlace);
      inflate = posted (request 0 (19 ∷ []) 0);
    })
offered_where_it_tells = (refl, (19 ∷ [], refl, (refl, tt), refl, (0, no_head_out, refl, refl)))

-- ---- no page is swept, since a ballooned one may be in use

-- nor one that is lent while no deflate is out
no_sweep : map (λ page. refusal_of (framed true (posted both)) (Sweep page)) (16 ∷ 18 ∷ 20 ∷ [])
    ++ map (refusal_of (three_lent untold)) (Sweep 16 ∷ []) ≡ replicate 4 (Some NoFeature)
no_sweep = refl

sweep_where_it_tells : map (λ page. refusal_of (three_lent ready) (Sweep page)) (16 ∷ 18 ∷ 20 ∷ [])
    ≡ None ∷ None ∷ Some NotBallooned ∷ []
sweep_where_it_tells = refl

sweep_by_status : map (λ status. refusal_of (record (three_lent untold) { status = status })
    (Sweep 16)) (15 ∷ 79 ∷ 0 ∷ 11 ∷ 131 ∷ 143 ∷ []) ≡ Some NoFeature ∷ Some NeedsReset
    ∷ replicate 4 (Some NotReady)
sweep_by_status = refl

sweep_changes_nothing : StepsJustSo (framed true (posted both)) (Sweep 16) [] (Refused NoFeature)
    (framed true (posted both))
sweep_changes_nothing = ((refl, refl, refl), λ reply new s. (s.1, s.2))

swept_in_use : (new : Guest) → HonestStep (framed true (posted both)) (Sweep 16) [] (Swept true) new
    → ⊥
swept_in_use new s = let e : Swept true ≡ Refused NoFeature = s.1 in cc

-- ---- the causes, in their order

abbrev inflate_tests : Bool → Bool → Bool → Bool → List Cause
inflate_tests a b c d =
    (a ⇒ NotReady) ∷ (b ⇒ QueueFull) ∷ (c ⇒ DeflatePending) ∷ (d ⇒ Nothing) ∷ []

inflate_in_order : inflate_causes (at 0 0x100000026) 1 (new_request 8 8 0)
    ∷ inflate_causes (at 15 0x100000026) 1 (new_request 7 8 1)
    ∷ inflate_causes (at 15 0x100000026) 0 (new_request 7 8 1)
    ∷ inflate_causes (at 15 0x100000027) 8 (new_request 7 8 1) ∷ []
    ≡ inflate_tests true true true true ∷ inflate_tests false false true false
    ∷ replicate 2 (inflate_tests false false false false)
inflate_in_order = refl

deflate_in_order : request_causes 0 false (new_request 8 8 0) ≡ (true ⇒ NotReady) ∷ (false ⇒ NoFeature)
    ∷ (true ⇒ QueueFull) ∷ (true ⇒ Nothing) ∷ []
deflate_in_order = refl

abbrev sweep_tests : Bool → Bool → Bool → Bool → List Cause
sweep_tests a b c d =
    (a ⇒ NotReady) ∷ (b ⇒ NeedsReset) ∷ (c ⇒ NoFeature) ∷ (d ⇒ NotBallooned) ∷ []

sweep_in_order : sweep_causes (at 207 0x100000026) false ∷ sweep_causes (at 15 0x100000026) true
    ∷ sweep_causes (at 15 0x100000027) true ∷ [] ≡ sweep_tests true true true true
    ∷ sweep_tests false false true false ∷ sweep_tests false false false false ∷ []
sweep_in_order = refl
