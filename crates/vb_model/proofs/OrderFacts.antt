-- Guests that are not in order, one for each thing that order promises; and answers that don't
-- agree.
use Rattle.std.proofs.Common.{List, [], ap, arith, false, map, refl, replicate, true, ℕ, ◌++◌, ◌∷◌}
use Rattle.std.{proofs.Common.{◌≡◌, ◌⊎◌}, specs.List.range_with_len}
use Rattle.vb_virtio.proofs.Differ.{differ}
use Rattle.vb_virtio.specs.Queues.{Request}
use Rattle.vb_virtio.specs.declared.refusals.Refusal.TheVariants.{NoMemory, NoPages, NotHeld}
use Rattle.vb_virtio.specs.declared.refusals.Refusal.TheVariants.{OutOfRam}
use Rattle.vb_model.proofs.Samples.{down, ready, request}
use Rattle.vb_model.specs.Determined.{Agree}
use Rattle.vb_model.specs.{Guest.Guest, Orderly.{AreAgreed, IsOrderly, IsRequestSound}}
use Rattle.vb_model.specs.Pages.{block_at}
use Rattle.vb_model.specs.Requests.{Requests}
use Rattle.vb_model.specs.declared.calls.Call.{Call}
use Rattle.vb_model.specs.declared.calls.Call.TheVariants.{Alloc, Ask, Deflate, Finish, Free}
use Rattle.vb_model.specs.declared.calls.Call.TheVariants.{Inflate, Init, Oom, Read, Reap, Report}
use Rattle.vb_model.specs.declared.calls.Call.TheVariants.{Reset, Scribble, SetTarget, Stats, Sweep}
use Rattle.vb_model.specs.declared.calls.Call.TheVariants.{Take, Work, Write}
use Rattle.vb_model.specs.declared.places.Place.TheVariants.{Free as FreePlace, Reserved}
use Rattle.vb_model.specs.declared.replies.Reply.TheVariants.{Done}
use Rattle.vb_model.specs.declared.replies.Reply.TheVariants.{Idle, Page, Posted, Refused}

abbrev Same : ℕ → ℕ → Type 0
Same a b = a ≡ b

-- ---- a request: no page twice, and no more visited than there are

unsound_requests : (IsRequestSound (request 0 (16 ∷ 17 ∷ 16 ∷ []) 0) → ⊥)
    × (IsRequestSound (request 0 (16 ∷ 17 ∷ []) 3) → ⊥)
unsound_requests = (λ r. omega (arith, r.distinct 16), λ r. omega (arith, r.visits))

-- ---- requests of one kind, at each of their stages

abbrev posted : List Request → Requests
posted rs = record { posted = rs; taken = []; done = [] }

-- one head at two stages
abbrev twice : Requests
twice =
    record { posted = request 3 (16 ∷ []) 0 ∷ []; taken = []; done = request 3 (17 ∷ []) 0 ∷ [] }

abbrev Disorderly : Guest → Type 0
Disorderly g = IsOrderly g → ⊥

head_twice : Disorderly (record ready { inflate = twice })
    × Disorderly (record ready { deflate = twice })
head_twice = (λ o. omega (arith, o.inflating.heads 3), λ o. omega (arith, o.deflating.heads 3))

-- nine requests at a queue size of 8, seventeen at 64; two reports
abbrev so_many : ℕ → Requests
so_many n = posted (map (λ head. request head [] 0) (range_with_len 0 n))

too_many : Disorderly (record ready { inflate = so_many 9 })
    × Disorderly (record ready { deflate = so_many 9 })
    × Disorderly
    (record ready { config = record ready.config { queue_size = 64 }; inflate = so_many 17 })
    × Disorderly (record ready { report = so_many 2 })
too_many = (
  λ o. omega (arith, o.inflating.few),
  λ o. omega (arith, o.deflating.few),
  λ o. omega (arith, o.inflating.few),
  λ o. omega (arith, o.reporting.few),
)

-- a request that names no page, and one that was visited past its last
abbrev second : List Request
second = request 0 [] 0 ∷ request 1 (16 ∷ []) 2 ∷ []

visited_past_the_last : Disorderly (record ready { inflate = posted second })
    × Disorderly (record ready { deflate = record { posted = []; taken = second; done = [] } })
    × Disorderly (record ready { report = record { posted = []; taken = []; done = second } })
visited_past_the_last = (
  λ o. omega (arith, o.inflating.posted.1.0.visits),
  λ o. omega (arith, o.deflating.taken.1.0.visits),
  λ o. omega (arith, o.reporting.done.1.0.visits),
)

-- ---- the status, and the table of places

abbrev OneOfThree : ℕ → Type 0
OneOfThree status = (status ≡ 0) ⊎ (status ≡ 15) ⊎ (status ≡ 131)

status_of : (status : ℕ) → IsOrderly (record ready { status = status }) → OneOfThree status
status_of status o = o.state

-- 16 pages are reserved
other_places : Disorderly
    (record ready { places = replicate 16 Reserved ++ replicate 49 FreePlace })
    × Disorderly (record ready { places = replicate 15 Reserved ++ replicate 49 FreePlace })
    × Disorderly (record ready { places = replicate 17 Reserved ++ replicate 47 FreePlace })
other_places = (
  λ o. differ 65 64 refl o.tabled,
  λ o. (let e : false ≡ true = o.unreserved 15 (omega arith) in cc),
  λ o. (let e : true ≡ false = o.unreserved 16 (omega arith) in cc),
)

-- the features of a guest that is ready: VERSION_1, and none that isn't offered
ready_without_version : Disorderly (record ready { features = 0x27 })
    × Disorderly (record ready { features = 0x10000002f })
ready_without_version = (
  λ o. (let e : false ≡ true = (o.agreed refl).version in cc),
  λ o. (let e : false ≡ true = (o.agreed refl).offered in cc),
)

-- MUST_TELL_HOST may be among them or not
agreed : AreAgreed 0x100000027 × AreAgreed 0x100000026 × AreAgreed 0x100000000
agreed = grind arith

-- ---- two answers to one call

other_guest : ready ≡ down → ⊥
other_guest e = let status : Same 15 0 = ap (λ (g : Guest). g.status) e in omega arith

-- of these calls reply and guest are determined
abbrev Determined : Call → Type 0
Determined call = (Agree call Done ready Idle ready → ⊥) × (Agree call Done ready Done down → ⊥)

determined_before : Determined (Init 0) × Determined Reset × Determined (Free 0 16 0)
    × Determined (Write 16 0 []) × Determined (Deflate 1) × Determined (Oom 1)
    × Determined (Report 0) × Determined Stats
determined_before = grind arith

determined_behind : Determined (Reap 0) × Determined (Take 0) × Determined Work
    × Determined (Finish 0 0) × Determined (Sweep 16) × Determined Ask × Determined (SetTarget 1)
determined_behind = grind arith

-- an allocation of one block leaves one guest, and it is refused or it isn't
one_block_two_guests : Agree (Alloc 0 0) (Page 16) ready (Page 16) down → ⊥
one_block_two_guests a = other_guest (a.0 refl)

refused_or_not : Agree (Alloc 0 0) (Refused NoPages) ready (Page 16) ready → ⊥
refused_or_not a = let e : Page 16 ≡ Refused NoPages = a.1 NoPages refl in cc

-- an inflate names as many pages either way, and where it names the same ones all is determined
other_count : Agree (Inflate 2) (Posted 0 1) ready (Posted 0 2) ready → ⊥
other_count a = cc

same_request_two_guests : Agree (Inflate 1) (Posted 0 1) ready (Posted 0 1) down → ⊥
same_request_two_guests a = other_guest (a.1 refl)

-- a read finds the same bytes, or no memory
other_bytes : Agree (Read 16 0 1) (Refused NotHeld) ready Done ready → ⊥
other_bytes h = grind arith

a_read_changes_nothing : Agree (Read 16 0 1) (Refused NoMemory) ready (Refused NoMemory) down → ⊥
a_read_changes_nothing a = other_guest a.0

-- a scribble is refused or it isn't, and refused it leaves one guest
done_or_not : Agree (Scribble 16 0 []) Done ready (Refused OutOfRam) ready → ⊥
done_or_not a = cc

refused_two_guests : Agree (Scribble 64 0 []) (Refused OutOfRam) ready (Refused OutOfRam) down → ⊥
refused_two_guests a = other_guest (a.1 OutOfRam refl)

-- ---- held blocks

blocks_askew : Disorderly (record ready { held = block_at 17 1 ∷ [] })
    × Disorderly (record ready { held = block_at 0 10 ∷ [] })
    × Disorderly (record ready { held = block_at 62 2 ∷ [] })
blocks_askew = (
  λ o. (let e : false ≡ true = o.blocks.0.aligned in cc),
  λ o. omega (arith, o.blocks.0.order),
  λ o. omega (arith, o.blocks.0.inside),
)

-- each of them, and not the first alone
second_block_askew : Disorderly (record ready { held = block_at 16 0 ∷ block_at 17 1 ∷ [] })
    × Disorderly (record ready { held = block_at 16 1 ∷ block_at 0 10 ∷ [] })
    × Disorderly (record ready { held = block_at 16 2 ∷ block_at 32 0 ∷ block_at 64 0 ∷ [] })
second_block_askew = (
  λ o. (let e : false ≡ true = o.blocks.1.0.aligned in cc),
  λ o. omega (arith, o.blocks.1.0.order),
  λ o. omega (arith, o.blocks.1.1.0.inside),
)
