-- Worked facts of who made the entries of a guest that was started.
use Rattle.std.proofs.Common.{◌≡◌, ◌<◌, ℕ, Bool, List, [], ◌∷◌, true, false, refl, sym, ap, arith}
use Rattle.{std.proofs.Common.{zero, suc, length}, vb_model.specs.GuestRun.{Entry, Called, Looked}}
use Rattle.std.{specs.Prelude.{slice_index_or, Contains}, proofs.lemmas.List.Elements.All-nil}
use Rattle.vb_model.specs.declared.calls.Call.TheVariants.{Init, Stats, Reap, Take, Work, Finish}
use Rattle.vb_model.specs.declared.replies.Reply.TheVariants.{Done, Ready, Filled, Idle, Empty}
use Rattle.vb_model.specs.declared.calls.Actor.TheVariants.{Starter, Processor, Worker, Balancer}
use Rattle.vb_model.specs.declared.calls.Call.{Call, TheVariants.{Ask, Serve, SetTarget, Sweep}}
use Rattle.vb_model.specs.declared.calls.Claim.TheVariants.{Gave, GaveNoFrame}
use Rattle.vb_model.specs.declared.replies.Reply.TheVariants.{Taken, Worked, Finished, Refused}
use Rattle.vb_virtio.specs.declared.refusals.Refusal.TheVariants.{NoFrame, NotTaken}
use Rattle.vb_run.specs.{Services.services, Made.{IsMade, AreMade}}

-- ---- which calls are a worker's: takes of the four queues, a visit, the first chain of each but
-- ---- the statistics queue, and the question for new statistics

abbrev is_service : Call → Bool
is_service (Take zero) = true
is_service (Take (suc zero)) = true
is_service (Take (suc (suc zero))) = true
is_service (Take (suc (suc (suc (suc zero))))) = true
is_service Work = true
is_service (Finish zero zero) = true
is_service (Finish (suc zero) zero) = true
is_service (Finish (suc (suc (suc (suc zero)))) zero) = true
is_service Ask = true
is_service _ = false

is_among : (call : Call) (k : ℕ) → k < length services → slice_index_or services k call ≡ call
    → is_service call ≡ true
is_among call (suc (suc (suc (suc (suc (suc (suc (suc (suc k))))))))) less e =
    let no : ⊥ = omega (arith, less) in absurd no
is_among call k less e = ap is_service (sym e)

only_services : (call : Call) → Contains services call → is_service call ≡ true
only_services call (k, less, e) = is_among call k less e

-- ---- entries of guest 1, which has two processors

first_processor : IsMade 1 2 (Called (Processor 1 0) Stats [] Filled)
first_processor = (refl, omega arith)

last_processor : IsMade 1 2 (Called (Processor 1 1) Stats [] Filled)
last_processor = (refl, omega arith)

processor_too_many : IsMade 1 2 (Called (Processor 1 2) Stats [] Filled) → ⊥
processor_too_many (same, less) = omega (arith, less)

another_guests_processor : IsMade 1 2 (Called (Processor 0 0) Stats [] Filled) → ⊥
another_guests_processor (same, less) = omega (arith, same)

first_service : IsMade 1 2 (Called (Worker 1) (Take 0) [] (Taken 3))
first_service = (refl, (0, omega arith, refl), refl)

visit : IsMade 1 2 (Called (Worker 1) Work [] (Worked 16 false))
visit = (refl, (4, omega arith, refl), refl)

last_service : IsMade 1 2 (Called (Worker 1) Ask [] Done)
last_service = (refl, (8, omega arith, refl), refl)

another_guests_worker : IsMade 1 2 (Called (Worker 0) (Take 0) [] (Taken 3)) → ⊥
another_guests_worker (same, service, found) = omega (arith, same)

-- a worker notes what found something, and makes no call but its own
nothing_taken : IsMade 1 2 (Called (Worker 1) (Take 0) [] Empty) → ⊥
nothing_taken (same, service, found) = absurd cc

nothing_to_visit : IsMade 1 2 (Called (Worker 1) Work [] Idle) → ⊥
nothing_to_visit (same, service, found) = absurd cc

refused_service : IsMade 1 2 (Called (Worker 1) (Finish 0 0) [] (Refused NotTaken)) → ⊥
refused_service (same, service, found) = absurd cc

reap_of_a_worker : IsMade 1 2 (Called (Worker 1) (Reap 0) [] Done) → ⊥
reap_of_a_worker (same, service, found) =
    let no : false ≡ true = only_services (Reap 0) service in absurd cc

serve_of_a_worker : IsMade 1 2 (Called (Worker 1) (Serve 0) [] Done) → ⊥
serve_of_a_worker (same, service, found) =
    let no : false ≡ true = only_services (Serve 0) service in absurd cc

sweep_of_a_worker : IsMade 1 2 (Called (Worker 1) (Sweep 16) [] Done) → ⊥
sweep_of_a_worker (same, service, found) =
    let no : false ≡ true = only_services (Sweep 16) service in absurd cc

take_of_no_queue : IsMade 1 2 (Called (Worker 1) (Take 3) [] (Taken 0)) → ⊥
take_of_no_queue (same, service, found) =
    let no : false ≡ true = only_services (Take 3) service in absurd cc

second_chain : IsMade 1 2 (Called (Worker 1) (Finish 0 1) [] (Finished 0)) → ⊥
second_chain (same, service, found) =
    let no : false ≡ true = only_services (Finish 0 1) service in absurd cc

target : IsMade 1 2 (Called Balancer (SetTarget 3) [] Done)
target = tt

look : IsMade 1 2 (Looked 16 32)
look = tt

start : IsMade 1 2 (Called Starter (Init 0x100000027) [] Ready) → ⊥
start made = made

abbrev Same : ℕ → ℕ → Type 0
Same a b = a ≡ b

-- the features that the first entry asks for
abbrev features_in : List Entry → ℕ
features_in (Called actor (Init features) claims reply ∷ rest) = features
features_in _ = 0

-- ---- whole histories: a start, whatever it was answered, and such entries after it

made : AreMade 1 2 (
    Called Starter (Init 0x100000027) (Gave 5 ∷ []) Ready ∷ Looked 16 32
    ∷ Called (Processor 1 1) Stats [] Filled ∷ []
    )
made = grind arith

refused_start : AreMade 1 2 (
    Called Starter (Init 0x100000027) (GaveNoFrame ∷ []) (Refused NoFrame) ∷ []
    )
refused_start = (GaveNoFrame ∷ [], Refused NoFrame, [], refl, All-nil (IsMade 1 2))

no_start : AreMade 1 2 [] → ⊥
no_start (claims, reply, rest, is, all) = absurd cc

other_features : AreMade 1 2 (Called Starter (Init 0x100000007) [] Ready ∷ []) → ⊥
other_features (claims, reply, rest, is, all) =
    let e : Same 0x100000007 0x100000027 = ap features_in is in omega (arith, e)

begun_by_a_processor : AreMade 1 2 (Called (Processor 1 0) Stats [] Filled ∷ []) → ⊥
begun_by_a_processor (claims, reply, rest, is, all) = absurd cc

begun_by_a_look : AreMade 1 2 (Looked 16 0 ∷ []) → ⊥
begun_by_a_look (claims, reply, rest, is, all) = absurd cc

-- the last of several entries counts as the first does
second_start : AreMade 1 2 (
    Called Starter (Init 0x100000027) [] Ready ∷ Looked 16 32
    ∷ Called Starter (Init 0x100000027) [] Ready ∷ []
    ) → ⊥
second_start h = grind arith
