-- Worked facts of the tables over plain values: statuses that an honest guest never has, and which
-- test goes first.
-- 79 is a ready device that needs a reset, 143 one whose driver gave up, 207 both.
use Rattle.std.proofs.Common.{List, [], false, map, refl, replicate, true, ℕ, ◌∷◌, ◌≡◌}
use Rattle.std.specs.Prelude.{None, Option, Some}
use Rattle.vb_virtio.specs.FirstRefusal.{Cause, first_refusal}
use Rattle.vb_virtio.specs.Queues.{Request}
use Rattle.vb_virtio.specs.Status.{work_causes}
use Rattle.vb_virtio.specs.declared.refusals.Refusal.{Refusal}
use Rattle.vb_virtio.specs.declared.refusals.Refusal.TheVariants.{Busy, DeflatePending, NeedsReset}
use Rattle.vb_virtio.specs.declared.refusals.Refusal.TheVariants.{NoFeature, NoQueue, NotBallooned}
use Rattle.vb_virtio.specs.declared.refusals.Refusal.TheVariants.{NotReady, NotTaken, NotWorked}
use Rattle.vb_virtio.specs.declared.refusals.Refusal.TheVariants.{Nothing, QueueFull}
use Rattle.vb_model.proofs.Samples.{at, new_request}
use Rattle.vb_model.specs.Tables.{ask_causes, driver_causes, finish_causes}
use Rattle.vb_model.specs.Tables.{inflate_causes, most_requests}
use Rattle.vb_model.specs.Tables.{reap_causes, request_causes, sweep_causes, take_causes}

-- ---- calls by the status

abbrev at_statuses : List ℕ → (ℕ → List Cause) → List (Option Refusal)
at_statuses statuses causes = map (λ status. first_refusal (causes status)) statuses

-- the driver's calls: whatever failed, it isn't ready; the table goes on where it is
drivers_calls : map (at_statuses (15 ∷ 79 ∷ 143 ∷ 207 ∷ []))
    ((λ s. inflate_causes (at s 0) 1 (new_request 16 16 0))
    ∷ (λ s. request_causes s false (new_request 16 16 0))
    ∷ (λ s. reap_causes 0 (at s 0)) ∷ (λ s. reap_causes 4 (at s 4294967303))
    ∷ (λ s. driver_causes s true) ∷ [])
    ≡ map (λ ready. ready ∷ replicate 3 (Some NotReady)) (Some QueueFull ∷ Some QueueFull
    ∷ None ∷ Some NoFeature ∷ Some NoFeature ∷ [])
drivers_calls = refl

requests_with_a_feature : at_statuses (15 ∷ 79 ∷ 143 ∷ [])
    (λ s. request_causes s true (new_request 16 16 0)) ≡ Some NoFeature
    ∷ replicate 2 (Some NotReady)
requests_with_a_feature = refl

-- the device's calls: not ready, then in need of a reset, then the rest. The feature comes after
-- the status, and before the limit, which is 1 chain of queue 2, and 16 of queue 4. Without
-- MUST_TELL_HOST no page is swept, ballooned or not
devices_calls : map (at_statuses (11 ∷ 15 ∷ 79 ∷ 143 ∷ 207 ∷ []))
    ((λ s. take_causes 0 (at s 0) 16) ∷ (λ s. take_causes 2 (at s 4294967333) 1)
    ∷ (λ s. take_causes 4 (at s 4294967303) 16) ∷ work_causes
    ∷ (λ s. finish_causes 0 (at s 0) true None) ∷ (λ s. sweep_causes (at s 1) false)
    ∷ (λ s. sweep_causes (at s 1) true) ∷ (λ s. sweep_causes (at s 0) false)
    ∷ (λ s. ask_causes s false) ∷ [])
    ≡ map (λ ready. Some NotReady ∷ ready ∷ Some NeedsReset ∷ Some NotReady ∷ Some NotReady ∷ [])
    (Some Busy ∷ Some NoQueue ∷ Some NoQueue ∷ None ∷ Some NotTaken ∷ Some NotBallooned ∷ None
    ∷ Some NoFeature ∷ Some NotTaken ∷ [])
devices_calls = refl

no_third_queue : map (at_statuses (0 ∷ 15 ∷ 79 ∷ []))
    ((λ s. reap_causes 3 (at s 0)) ∷ (λ s. take_causes 3 (at s 0) 0) ∷ [])
    ≡ replicate 2 (replicate 3 (Some NoQueue))
no_third_queue = refl

-- ---- the driver's calls on a ready device

-- with MUST_TELL_HOST, which is bit 0, pending deflates don't matter; without it they come after a
-- full queue and before a count of 0, and just that bit counts
inflates_in_order : map first_refusal (inflate_causes (at 15 1) 16 (new_request 15 16 0)
    ∷ inflate_causes (at 15 1) 16 (new_request 15 16 1)
    ∷ inflate_causes (at 15 0) 1 (new_request 16 16 0)
    ∷ inflate_causes (at 15 0) 1 (new_request 15 16 0)
    ∷ inflate_causes (at 15 0) 1 (new_request 15 16 1)
    ∷ inflate_causes (at 15 0) 0 (new_request 15 16 0)
    ∷ inflate_causes (at 15 0) 0 (new_request 15 16 1)
    ∷ map (λ features. inflate_causes (at 15 features) 16 (new_request 0 16 1))
    (0 ∷ 1 ∷ 4294967334 ∷ 4294967335 ∷ [])) ≡ Some Nothing ∷ None ∷ Some QueueFull
    ∷ Some DeflatePending ∷ Some DeflatePending ∷ Some Nothing ∷ None ∷ Some DeflatePending ∷ None
    ∷ Some DeflatePending ∷ None ∷ []
inflates_in_order = refl

deflates_in_order : map (λ count. first_refusal (request_causes 15 false (new_request 15 16 count)))
    (0 ∷ 1 ∷ []) ≡ Some Nothing ∷ None ∷ []
deflates_in_order = refl

no_reap_of_statistics : map (λ q. first_refusal (reap_causes q (at 15 4294967335)))
    (1 ∷ 2 ∷ 4 ∷ 5 ∷ []) ≡ None ∷ Some NoQueue ∷ None ∷ Some NoQueue ∷ []
no_reap_of_statistics = refl

most_of_each_size : map most_requests (2 ∷ 8 ∷ 16 ∷ 32 ∷ 128 ∷ []) ≡ 2 ∷ 8 ∷ 16 ∷ 16 ∷ 16 ∷ []
most_of_each_size = refl

-- ---- the device's calls on a ready device

takes_up_to_the_limit : map
    (λ (q, (features, taken)). first_refusal (take_causes q (at 15 features) taken))
    ((1, (0, 0)) ∷ (1, (0, 15)) ∷ (1, (0, 16)) ∷ (2, (2, 0)) ∷ (2, (2, 1)) ∷ (4, (32, 15))
    ∷ (4, (32, 16)) ∷ []) ≡ None ∷ None ∷ Some Busy ∷ None ∷ Some Busy ∷ None ∷ Some Busy ∷ []
takes_up_to_the_limit = refl

abbrev half_visited : Request
half_visited = record { head = 3; pages = 20 ∷ 21 ∷ []; visited = 1 }

finishes_half_visited : map first_refusal (finish_causes 0 (at 15 0) true (Some half_visited)
    ∷ finish_causes 0 (at 15 0) false (Some half_visited)
    ∷ finish_causes 1 (at 15 0) true (Some half_visited)
    ∷ finish_causes 0 (at 79 0) true (Some half_visited) ∷ []) ≡ Some NotWorked ∷ None ∷ None
    ∷ Some NeedsReset ∷ []
finishes_half_visited = refl

sweeps_by_feature : map (λ features. first_refusal (sweep_causes (at 15 features) true))
    (0 ∷ 1 ∷ 4294967334 ∷ 4294967335 ∷ []) ≡ Some NoFeature ∷ None ∷ Some NoFeature ∷ None ∷ []
sweeps_by_feature = refl
