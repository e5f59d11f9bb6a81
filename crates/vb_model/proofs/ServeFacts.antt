-- Worked facts of a device that serves a queue.
use Rattle.std.proofs.Common.{List, [], false, map, refl, replicate, true, ℕ, ◌++◌, ◌∷◌, ◌≡◌}
use Rattle.std.specs.Prelude.{None, Option, Some}
use Rattle.vb_model.proofs.{Agreeing.honest_agree, Faults.honest_no_fault, Samples.{StepsJustSo}}
use Rattle.vb_model.proofs.Samples.{down, ready, request, without_reporting, without_stats_vq}
use Rattle.vb_virtio.specs.Queues.{Inflating, Request}
use Rattle.vb_virtio.specs.declared.refusals.Refusal.{Refusal}
use Rattle.vb_virtio.specs.declared.refusals.Refusal.TheVariants.{Busy, NeedsReset, NoQueue}
use Rattle.vb_virtio.specs.declared.refusals.Refusal.TheVariants.{NotReady}
use Rattle.vb_model.specs.Device.{settled, used, visited}
use Rattle.vb_model.specs.Guest.{Guest}
use Rattle.vb_model.specs.{Refusals.refusal_of, Requests.{BufferPosted, BufferTaken}}
use Rattle.vb_model.specs.Requests.{Requests}
use Rattle.vb_model.specs.{Step.HonestStep, declared.calls.{Call.TheVariants.Serve, Claim.Claim}}
use Rattle.vb_model.specs.declared.replies.Reply.{Reply, TheVariants.{Served, Taken}}

-- ---- what refuses it

abbrev taken : List Request → Requests
taken rs = record { posted = []; taken = rs; done = [] }

abbrev refusals : List Guest → List (Option Refusal)
refusals gs = map (λ g. refusal_of g (Serve 0)) gs

-- one taken request of the queue is enough, and one of another queue is none of its matter
by_state : refusals (ready ∷ down ∷ record ready { status = 79 } ∷ record ready { status = 143 }
    ∷ record ready { inflate = taken (request 0 (16 ∷ []) 1 ∷ []) }
    ∷ record ready { deflate = taken (request 0 (16 ∷ []) 1 ∷ []) } ∷ [])
    ≡ None ∷ Some NotReady ∷ Some NeedsReset ∷ Some NotReady ∷ Some Busy ∷ None ∷ []
by_state = refl

by_queue : map (λ q. refusal_of ready (Serve q)) (0 ∷ 1 ∷ 2 ∷ 3 ∷ 4 ∷ 5 ∷ [])
    ≡ None ∷ None ∷ None ∷ Some NoQueue ∷ None ∷ Some NoQueue ∷ []
by_queue = refl

by_feature : refusal_of without_stats_vq (Serve 2) ∷ refusal_of without_reporting (Serve 4)
    ∷ refusal_of without_reporting (Serve 2) ∷ refusal_of without_stats_vq (Serve 4) ∷ []
    ≡ Some NoQueue ∷ Some NoQueue ∷ None ∷ None ∷ []
by_feature = refl

abbrev with_taken_buffer : Guest
with_taken_buffer = record ready { buffer = BufferTaken (record { free = 4096; total = 8192 }) }

by_buffer : refusal_of with_taken_buffer (Serve 2) ∷ refusal_of with_taken_buffer (Serve 0) ∷ []
    ≡ Some Busy ∷ None ∷ []
by_buffer = refl

-- ---- what it does

-- whatever else an honest guest may be answered is this
just_so : (g : Guest) (q : ℕ) (answer : Reply) (after : Guest)
    → HonestStep g (Serve q) [] answer after → StepsJustSo g (Serve q) [] answer after
just_so g q answer after s =
    (s, λ reply new t. honest_agree g (Serve q) [] reply new answer after t s)

nothing_posted : StepsJustSo ready (Serve 0) [] (Served 0 None) ready
nothing_posted = just_so ready 0 (Served 0 None) ready (refl, (refl, refl))

-- two inflates of a paced device: both are used, with no visit of a page before
abbrev two_inflates : Guest
two_inflates = record ready {
  inflate = record {
    posted = request 0 (16 ∷ 17 ∷ []) 0 ∷ request 2 (18 ∷ []) 0 ∷ [];
    taken = [];
    done = request 1 (19 ∷ []) 1 ∷ [];
  };
}

abbrev one_taken : Guest
one_taken = record two_inflates {
  inflate = record {
    posted = request 2 (18 ∷ []) 0 ∷ [];
    taken = request 0 (16 ∷ 17 ∷ []) 0 ∷ [];
    done = request 1 (19 ∷ []) 1 ∷ [];
  };
}

abbrev one_used : Guest
one_used = settled Inflating (16 ∷ 17 ∷ []) (used Inflating 0 (request 0 (16 ∷ 17 ∷ []) 0) one_taken)

abbrev two_taken : Guest
two_taken = record one_used {
  inflate = record {
    posted = [];
    taken = request 2 (18 ∷ []) 0 ∷ [];
    done = request 1 (19 ∷ []) 1 ∷ request 0 (16 ∷ 17 ∷ []) 0 ∷ [];
  };
}

abbrev two_used : Guest
two_used = settled Inflating (18 ∷ []) (used Inflating 0 (request 2 (18 ∷ []) 0) two_taken)

both_served : StepsJustSo two_inflates (Serve 0) [] (Served 2 None) two_used
both_served = just_so two_inflates 0 (Served 2 None) two_used (
  refl,
  (
    one_taken,
    one_used,
    (refl, refl),
    (request 0 (16 ∷ 17 ∷ []) 0, refl, refl, refl),
    (
      two_taken,
      two_used,
      (refl, refl),
      (request 2 (18 ∷ []) 0, refl, refl, refl),
      (refl, refl),
    ),
  ),
)

-- they are used in their order, after the one that was used before, and their pages are ballooned
in_their_order : two_used.inflate ≡ record {
  posted = [];
  taken = [];
  done = request 1 (19 ∷ []) 1 ∷ request 0 (16 ∷ 17 ∷ []) 0 ∷ request 2 (18 ∷ []) 0 ∷ [];
}
in_their_order = refl

ballooned_then : two_used.ballooned
    ≡ replicate 16 false ++ (true ∷ true ∷ true ∷ replicate 45 false)
ballooned_then = refl

-- visits of the pages before the first finish would have left the same frames and contents
same_frames : (settled Inflating (16 ∷ 17 ∷ []) (visited Inflating 17 (visited Inflating 16
    one_taken))).frames ≡ one_used.frames
same_frames = refl

-- ---- the buffer of statistics is taken, and not used

abbrev with_buffer : Guest
with_buffer = record ready { buffer = BufferPosted (record { free = 4096; total = 8192 }) }

buffer_served : StepsJustSo with_buffer (Serve 2) [] (Served 1 None)
    (record with_taken_buffer { last = record { free = Some 4096; total = Some 8192 } })
buffer_served = just_so with_buffer 2 (Served 1 None)
    (record with_taken_buffer { last = record { free = Some 4096; total = Some 8192 } })
    (refl, (Taken 0, (refl, refl), refl))

-- ---- no honest guest's chain breaks a rule

none_broken : (g : Guest) (q chains rule : ℕ) (claims : List Claim) (new : Guest)
    → HonestStep g (Serve q) claims (Served chains (Some rule)) new → ⊥
none_broken g q chains rule claims new s =
    let bad = honest_no_fault g (Serve q) claims (Served chains (Some rule)) new s in cc
