-- Guests from which worked facts start.
use Rattle.std.proofs.{Common.{[], ◌≡◌}, lemmas.Bool.{and_parts}}
use Rattle.std.specs.{List.list_all, Prelude.{Bool, List, replicate, true, ℕ, ◌++◌, ◌∷◌}}
use Rattle.vb_virtio.specs.Queues.{Request}
use Rattle.vb_model.specs.Guest.{Config, Guest, fresh}
use Rattle.vb_model.specs.Tables.{Negotiated}
use Rattle.vb_model.specs.{HostEvents.{WorldStep}, Step.{HonestStep, Performs}, World.{World}}
use Rattle.vb_model.specs.declared.{calls.Call.{Call}, calls.Claim.{Claim}, replies.Reply.{Reply}}
use Rattle.vb_model.specs.{Tables.NewRequest, declared.calls.Event.{Event, TheVariants.Plug}}
use Rattle.vb_model.specs.declared.places.Place.{Place, TheVariants.{Free, Giving, Lent, Reporting}}
use Rattle.vb_model.specs.declared.places.Place.TheVariants.{Reserved, Stranded, Taking, Used}

-- 64 pages, queues of 8, one processor, a paced device
abbrev pub config : Config
config = record { pages = 64; queue_size = 8; processors = 1; paced = true }

-- initialised with all features; its 48 unreserved pages are free
abbrev pub ready : Guest
ready = record (fresh config 0) { status = 15; features = 0x100000027 }

-- the same, not initialised yet
abbrev pub down : Guest
down = fresh config 0

-- it hasn't agreed to tell the host: all features but MUST_TELL_HOST
abbrev pub untold : Guest
untold = record ready { features = 0x100000026 }

-- the features but the one of this bit
abbrev pub without_stats_vq : Guest
without_stats_vq = record ready { features = 0x100000025 }

abbrev pub without_reporting : Guest
without_reporting = record ready { features = 0x100000007 }

abbrev pub without_oom : Guest
without_oom = record ready { features = 0x100000023 }

-- each place has another number of pages: 21 free, 2 used, 3 giving, 4 lent, 5 taking, 6 stranded,
-- 7 reporting
abbrev pub mixed_places : List Place
mixed_places = replicate 16 Reserved
    ++ (replicate 21 Free ++ (replicate 2 Used ++ (replicate 3 Giving ++
    (replicate 4 Lent ++ (replicate 5 Taking ++ (replicate 6 Stranded ++ replicate 7 Reporting))))))

abbrev pub mixed : Guest
mixed = record ready { places = mixed_places }

-- the guest with page 16 at this place, and no other but reserved and free ones
abbrev pub page_16_at : Place → Guest → Guest
page_16_at place g = record g { places = replicate 16 Reserved ++ (place ∷ replicate 47 Free) }

-- a request for these pages, of which n are visited
abbrev pub request : ℕ → List ℕ → ℕ → Request
request head pages visited = record { head = head; pages = pages; visited = visited }

-- a guest of n pages, descriptors of each queue and processors is to be plugged in
abbrev pub plug : (pages queue_size processors : ℕ) → Event
plug pages queue_size processors =
    Plug (record { pages = pages; queue_size = queue_size; processors = processors })

-- ---- what a driver and its device know

abbrev pub at : ℕ → ℕ → Negotiated
at status features = record { status = status; features = features }

abbrev pub new_request : (outstanding most count : ℕ) → NewRequest
new_request outstanding most count =
    record { outstanding = outstanding; most = most; count = count }

-- ---- a step with this answer, which leaves this state; and there is no other answer, and no other
-- state

abbrev pub StepsJustSo : Guest → Call → List Claim → Reply → Guest → Type 0
StepsJustSo g call claims answer after = HonestStep g call claims answer after
    × ((reply : Reply) (new : Guest) → HonestStep g call claims reply new
    → (reply ≡ answer) × (new ≡ after))

-- a call that isn't refused
abbrev pub PerformsJustSo : Call → Guest → List Claim → Reply → Guest → Type 0
PerformsJustSo call g claims answer after = Performs call g claims answer after
    × ((reply : Reply) (new : Guest) → Performs call g claims reply new
    → (reply ≡ answer) × (new ≡ after))

abbrev pub HappensJustSo : World → Event → Reply → World → Type 0
HappensJustSo w event answer after = WorldStep w event answer after
    × ((reply : Reply) (v : World) → WorldStep w event reply v → (reply ≡ answer) × (v ≡ after))

-- ---- what isn't so

abbrev pub EachNot : {A : Type 0} → (A → Type 0) → List A → Type 0
EachNot P [] = Unit {0}
EachNot P (x ∷ xs) = (P x → ⊥) × EachNot P xs

-- none of these is so
pub record NoneOf {A : Type 0} (P : A → Type 0) (xs : List A) : Type 0 where
  pub each : EachNot P xs

-- each passes a test that nothing passes that is so
pub none_of : {A : Type 0} (P : A → Type 0) (test : A → Bool)
    → ((x : A) → test x ≡ true → P x → ⊥) → (xs : List A) → list_all test xs ≡ true → NoneOf P xs
none_of P test refutes [] h = record { each = tt }
none_of P test refutes (x ∷ xs) h = let parts = and_parts (test x) (list_all test xs) h in
    record { each = (refutes x parts.0, (none_of P test refutes xs parts.1).each) }
