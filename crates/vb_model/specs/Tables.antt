-- How many pages the driver's calls move, and what each call is refused for, in the order in which
-- it is tested (profile). Both are here once, over plain values; a guest, a driver and a device
-- each put in their own. The headline needs all of it but the last part.
use Rattle.std.specs.Prelude.{◌++◌}
use Rattle.std.specs.Prelude.{ℕ, ◌+◌, ◌-◌, Bool, false, not, ◌==◌, ◌&&◌, ◌||◌, nat_lt, nat_le, List}
use Rattle.std.specs.Prelude.{[], ◌∷◌, if◌then◌else◌, Option, is_some, is_none}
use Rattle.std.specs.Prelude.{min, max, count_by, unwrap_or, option_map}
use Rattle.std.specs.List.{list_any, range_with_len}
use Rattle.vb_virtio.specs.declared.layout.TheConstants.{DEFLATE_QUEUE, STATISTICS_QUEUE}
use Rattle.vb_virtio.specs.declared.refusals.Refusal.TheVariants.{BadOrder, BadCpu, NotReady}
use Rattle.vb_virtio.specs.declared.refusals.Refusal.TheVariants.{QueueFull}
use Rattle.vb_virtio.specs.declared.refusals.Refusal.TheVariants.{DeflatePending, Nothing}
use Rattle.vb_virtio.specs.declared.refusals.Refusal.TheVariants.{NoFeature, NoQueue, Busy}
use Rattle.vb_virtio.specs.declared.refusals.Refusal.TheVariants.{NotTaken, NotWorked, NotBallooned}
use Rattle.vb_virtio.specs.declared.limits.TheConstants.{MAX_ORDER, MAX_OUTSTANDING}
use Rattle.vb_virtio.specs.declared.limits.TheConstants.{MAX_REQUEST_PAGES}
use Rattle.vb_virtio.specs.Queues.{Request, is_unvisited, kind_of_queue, lacks_feature}
use Rattle.vb_virtio.specs.Features.{must_tell_host}
use Rattle.vb_virtio.specs.FirstRefusal.{Cause, ◌⇒◌}
use Rattle.vb_virtio.specs.Status.{work_causes, is_up}
use Rattle.vb_model.specs.declared.places.Place.{Place}
use Rattle.vb_model.specs.declared.places.Place.TheVariants.{Free, Giving, Lent, Stranded}
use Rattle.vb_model.specs.Pages.{Block, block_at, is_place, is_wholly_free, is_same_block}

-- what a device and its driver have come to
pub record Negotiated : Type 0 where
  pub status : ℕ
  pub features : ℕ

-- a request that a call would post: how many of its kind are outstanding, how many there may be,
-- and how many pages or blocks it would name
pub record NewRequest : Type 0 where
  pub outstanding : ℕ
  pub most : ℕ
  pub count : ℕ

-- ---- the numbers of pages that the driver's calls move, at most `n` and at most those of a
-- request

-- an inflate offers the stranded pages, and others up to the target
abbrev pub pages_to_inflate : (places : List Place) (target n : ℕ) → ℕ
pages_to_inflate places target n =
    let stranded : ℕ = count_by (is_place Stranded) places in
    let missing : ℕ =
    target - count_by (is_place Lent) places - count_by (is_place Giving) places in
    min (min n MAX_REQUEST_PAGES)
    (min (max stranded missing) (stranded + count_by (is_place Free) places))

-- a deflate requests back what is above the target
abbrev pub pages_to_deflate : (places : List Place) (target n : ℕ) → ℕ
pages_to_deflate places target n =
    let lent : ℕ = count_by (is_place Lent) places in
    min (min n MAX_REQUEST_PAGES) (min lent (lent + count_by (is_place Giving) places - target))

-- and where memory is short any lent page
abbrev pub pages_when_short : List Place → ℕ → ℕ
pages_when_short places n = min (min n MAX_REQUEST_PAGES) (count_by (is_place Lent) places)

-- how many requests of queue 0 or 1, or blocks of a report, there may be at this queue size
abbrev pub most_requests : ℕ → ℕ
most_requests queue_size = min queue_size MAX_OUTSTANDING

-- ---- pages of the guest's own (Gorman, chapter 6)

-- no block of the order is wholly free
abbrev pub no_block_free : (places : List Place) (pages order : ℕ) → Bool
no_block_free places pages order =
    not (list_any (λ start. is_wholly_free places (block_at start order)) (range_with_len 0 pages))

-- the block isn't among those that are held
abbrev pub is_not_held : (held : List Block) (b : Block) → Bool
is_not_held held b = not (list_any (λ h. is_same_block h b) held)

-- of a block that a processor asks for, and of one that it gives back
abbrev pub block_causes : (order : ℕ) (is_no_cpu : Bool) (last : Cause) → List Cause
block_causes order is_no_cpu last =
    (nat_lt MAX_ORDER order ⇒ BadOrder) ∷ (is_no_cpu ⇒ BadCpu) ∷ last ∷ []

-- ---- the driver's calls

-- of each of them, and of stats nothing else; it lacks a feature if one is missing that it needs
abbrev pub driver_causes : (status : ℕ) (lacks : Bool) → List Cause
driver_causes status lacks = (not (is_up status) ⇒ NotReady) ∷ (lacks ⇒ NoFeature) ∷ []

-- deflate, which needs no feature, oom and report
abbrev pub request_causes : (status : ℕ) (lacks : Bool) → NewRequest → List Cause
request_causes status lacks new =
    driver_causes status lacks
    ++ (nat_le new.most new.outstanding ⇒ QueueFull)
    ∷ ((new.count == 0) ⇒ Nothing)
    ∷ []

-- inflate: where the guest doesn't tell the host first, pages to offer may be among those that a
-- pending deflate names, which would take them out of the balloon later
abbrev pub inflate_causes : Negotiated → (pending : ℕ) → NewRequest → List Cause
inflate_causes now pending new =
    (not (is_up now.status) ⇒ NotReady)
    ∷ (nat_le new.most new.outstanding ⇒ QueueFull)
    ∷ ((not (must_tell_host now.features) && nat_lt 0 pending) ⇒ DeflatePending)
    ∷ ((new.count == 0) ⇒ Nothing)
    ∷ []

-- of a reap, before the used ring is read
abbrev pub reap_causes : (q : ℕ) → Negotiated → List Cause
reap_causes q now =
    (not (is_some (kind_of_queue q)) ⇒ NoQueue)
    ∷ driver_causes now.status (lacks_feature now.features q)

-- ---- the device's calls

-- of what takes chains of the queue, before guest memory is read, where it is busy or isn't
abbrev pub chain_causes : (q : ℕ) → Negotiated → (busy : Bool) → List Cause
chain_causes q now busy =
    (not (is_some (kind_of_queue q) || (q == STATISTICS_QUEUE)) ⇒ NoQueue)
    ∷ work_causes now.status
    ++ (lacks_feature now.features q ⇒ NoQueue)
    ∷ (busy ⇒ Busy)
    ∷ []

-- of a take, where n chains of the queue are taken
abbrev pub take_causes : (q : ℕ) → Negotiated → (taken : ℕ) → List Cause
take_causes q now taken =
    chain_causes q now (nat_le (if q == STATISTICS_QUEUE then 1 else MAX_OUTSTANDING) taken)

-- of a serve, which none may be taken before
abbrev pub serve_causes : (q : ℕ) → Negotiated → (taken : ℕ) → List Cause
serve_causes q now taken = chain_causes q now (nat_lt 0 taken)

-- of a finish of this taken request, if there is one
abbrev pub finish_causes : (q : ℕ) → Negotiated → (paced : Bool) (taken : Option Request)
    → List Cause
finish_causes q now paced taken =
    (not (is_some (kind_of_queue q)) ⇒ NoQueue)
    ∷ work_causes now.status
    ++ (is_none taken ⇒ NotTaken)
    ∷ ((paced && not (q == DEFLATE_QUEUE) && unwrap_or (option_map is_unvisited taken) false)
    ⇒ NotWorked)
    ∷ []

-- of a sweep: without MUST_TELL_HOST a guest may use a ballooned page that it has requested back
abbrev pub sweep_causes : Negotiated → (ballooned : Bool) → List Cause
sweep_causes now ballooned =
    work_causes now.status
    ++ (not (must_tell_host now.features) ⇒ NoFeature)
    ∷ (not ballooned ⇒ NotBallooned)
    ∷ []

-- of the return of the statistics buffer, which is taken or isn't
abbrev pub ask_causes : (status : ℕ) (taken : Bool) → List Cause
ask_causes status taken = work_causes status ++ (not taken ⇒ NotTaken) ∷ []

-- ---- for laws and proofs

-- of a queue n chains may be taken at a time
abbrev pub most_taken : ℕ → ℕ
most_taken q = if q == STATISTICS_QUEUE then 1 else MAX_OUTSTANDING

abbrev pub has_unvisited : Option Request → Bool
has_unvisited taken = unwrap_or (option_map is_unvisited taken) false
