-- Worked facts of what a guest's worker does, and of when nothing waits for it.
use Rattle.std.proofs.Common.{◌≡◌, ℕ, [], ◌∷◌, true, false, map, refl, ap, sym, ◌∙◌, arith}
use Rattle.{std.specs.Prelude.length, vb_model.specs.Requests.{BufferTaken, BufferDone, Figures}}
use Rattle.vb_model.proofs.{LifeSteps.fresh_consistent, OrderlySteps.fresh_order}
use Rattle.vb_model.{proofs.Performed.performed, specs.Guest.{Guest, Config, fresh}}
use Rattle.vb_model.specs.Orderly.{IsOrderly}
use Rattle.vb_virtio.specs.Queues.{Request}
use Rattle.vb_virtio.specs.declared.negotiation.TheConstants.{OFFERED_FEATURES}
use Rattle.vb_virtio.specs.declared.refusals.Refusal.{Refusal}
use Rattle.vb_virtio.specs.declared.refusals.Refusal.TheVariants.{NotReady, NotTaken}
use Rattle.vb_model.specs.Requests.{Requests, no_requests, NoBuffer, BufferPosted}
use Rattle.vb_model.specs.declared.calls.Call.TheVariants.{Take, Work, Finish, Ask, SetTarget}
use Rattle.vb_model.specs.declared.replies.Reply.TheVariants.{Done, Taken, Empty, Worked, Idle}
use Rattle.vb_model.specs.declared.replies.Reply.TheVariants.{Finished, Asked, Refused}
use Rattle.vb_run.specs.Services.{services, found_nothing, IsServed, is_waiting, IsTended, IsQuiet}

abbrev Same : ℕ → ℕ → Type 0
Same a b = a ≡ b

-- 64 pages, queues of 8, two processors, a paced device
abbrev config : Config
config = record { pages = 64; queue_size = 8; processors = 2; paced = true }

abbrev ready : Guest
ready = record (fresh config 0) { status = 15; features = 0x100000027 }

-- ---- features, and a worker's calls

features_of_a_driver : OFFERED_FEATURES ≡ 0x100000027
features_of_a_driver = refl

-- it takes from each queue, visits a page, uses the first request taken of each queue, and asks
calls_of_a_worker : services
    ≡ Take 0 ∷ Take 1 ∷ Take 2 ∷ Take 4 ∷ Work ∷ Finish 0 0 ∷ Finish 1 0 ∷ Finish 4 0 ∷ Ask ∷ []
calls_of_a_worker = refl

replies_to_a_worker : map found_nothing (Empty ∷ Idle ∷ Refused NotReady ∷ Refused NotTaken
    ∷ Taken 0 ∷ Worked 16 true ∷ Worked 16 false ∷ Finished 0 ∷ Asked ∷ Done ∷ [])
    ≡ true ∷ true ∷ true ∷ true ∷ false ∷ false ∷ false ∷ false ∷ false ∷ false ∷ []
replies_to_a_worker = refl

-- each refusal, for lack of a frame or memory too
refusals_to_a_worker : (refusal : Refusal) → found_nothing (Refused refusal) ≡ true
refusals_to_a_worker refusal = refl

-- ---- what waits for the device

abbrev request : Request
request = record { head = 0; pages = 16 ∷ []; visited = 0 }

abbrev posted : Requests
posted = record no_requests { posted = request ∷ [] }

abbrev taken : Requests
taken = record no_requests { taken = request ∷ [] }

abbrev done : Requests
done = record no_requests { done = request ∷ [] }

abbrev figures : Figures
figures = record { free = 196608; total = 262144 }

buffers_that_wait : map is_waiting (NoBuffer ∷ BufferPosted figures
    ∷ BufferTaken figures ∷ BufferDone figures ∷ []) ≡ false ∷ true ∷ true ∷ false ∷ []
buffers_that_wait = refl

nothing_waits : IsServed ready
nothing_waits = grind arith

-- what the device has used waits for the driver
all_is_used : IsServed
    (record ready { inflate = done; deflate = done; report = done; buffer = BufferDone figures })
all_is_used = grind arith

posted_inflate : IsServed (record ready { inflate = posted }) → ⊥
posted_inflate s = let e : Same 1 0 = ap length s.inflate.0 in omega arith

taken_inflate : IsServed (record ready { inflate = taken }) → ⊥
taken_inflate s = let e : Same 1 0 = ap length s.inflate.1 in omega arith

posted_deflate : IsServed (record ready { deflate = posted }) → ⊥
posted_deflate s = let e : Same 1 0 = ap length s.deflate.0 in omega arith

taken_deflate : IsServed (record ready { deflate = taken }) → ⊥
taken_deflate s = let e : Same 1 0 = ap length s.deflate.1 in omega arith

posted_report : IsServed (record ready { report = posted }) → ⊥
posted_report s = let e : Same 1 0 = ap length s.report.0 in omega arith

taken_report : IsServed (record ready { report = taken }) → ⊥
taken_report s = let e : Same 1 0 = ap length s.report.1 in omega arith

posted_buffer : IsServed (record ready { buffer = BufferPosted figures }) → ⊥
posted_buffer s = let e : true ≡ false = s.buffer in cc

taken_buffer : IsServed (record ready { buffer = BufferTaken figures }) → ⊥
taken_buffer s = let e : true ≡ false = s.buffer in cc

-- ---- a call that finds nothing leaves the guest as it is

nothing_to_work_on : IsQuiet ready Work
nothing_to_work_on = grind arith

-- not one that is done, though the target is as it was
target_set_again : IsQuiet ready (SetTarget 0) → ⊥
target_set_again q = let did = performed (SetTarget 0) ready q.claims q.reply ready q.step in
    let e : true ≡ false = sym q.nothing ∙ ap found_nothing did.1.0 in cc

another_target_set : IsQuiet ready (SetTarget 3) → ⊥
another_target_set q = let did = performed (SetTarget 3) ready q.claims q.reply ready q.step in
    let e : Same 0 3 = ap (λ (g : Guest). g.target) did.1.1 in omega arith

-- ---- a tended guest is honest, and a ready one has its buffer and all of a driver's own features

abbrev buffered : Guest
buffered = record ready { buffer = BufferDone figures }

-- as it is plugged in, no features accepted yet
plugged_in : IsTended (fresh config 0)
plugged_in = search (arith, fresh_consistent, fresh_order)

ready_with_a_buffer : IsTended buffered
ready_with_a_buffer = grind (arith, fresh_consistent config 0, fresh_order config 0)

rogue_guest : IsTended (record buffered { rogue = true }) → ⊥
rogue_guest t = let e : true ≡ false = t.honest in cc

no_buffer : IsTended ready → ⊥
no_buffer t = let e : false ≡ true = t.attentive.buffered in cc

-- neither consistent nor in order
pages_without_places : IsTended (record buffered { places = [] }) → ⊥
pages_without_places t = let e : Same 0 64 = t.consistent.sized in omega arith

request_of_a_free_page : IsTended (record buffered { inflate = posted }) → ⊥
request_of_a_free_page t = let e : Same 1 0 = (t.consistent.pages 16).inflating in omega arith

in_order : (g : Guest) → IsTended g → IsOrderly g
in_order g t = t.orderly

status_of_no_driver : IsTended (record buffered { status = 11 }) → ⊥
status_of_no_driver t = grind arith

fewer_features : IsTended (record buffered { features = 0x100000026 }) → ⊥
fewer_features t = let e : Same 0x100000026 0x100000027 = t.features refl in omega arith
