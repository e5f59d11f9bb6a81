-- What the exact records of a guest's calls say, of bytes, frames and lives.
use Rattle.std.proofs.Common.{◌≡◌, ◌≢◌, ◌⊎◌, ℕ, true, false, List, [], ◌∷◌, refl, arith, ap}
use Rattle.std.specs.Prelude.{Bool, Option, Some, None, Result, Ok, Err, IsOk, is_some}
use Rattle.vb_model.{specs.declared.calls.Claim.Claim, specs.declared.places.Place.Place}
use Rattle.vb_model.specs.declared.calls.Call.TheVariants.{Ask, SetTarget, Free as FreeBlock, Write}
use Rattle.vb_model.specs.declared.calls.Call.TheVariants.{Take, Work, Finish, Alloc, Read, Sweep}
use Rattle.vb_model.specs.declared.calls.Call.TheVariants.{Scribble, Serve}
use Rattle.vb_model.specs.declared.calls.Claim.TheVariants.{Gave, GaveNoFrame, GaveNoMemory}
use Rattle.vb_virtio.specs.declared.refusals.Refusal.{Refusal}
use Rattle.vb_virtio.specs.declared.refusals.Refusal.TheVariants.{NoFrame, NoMemory, AlreadyUp}
use Rattle.vb_virtio.specs.declared.refusals.Refusal.TheVariants.{NotHeld, OutOfRam}
use Rattle.vb_model.specs.declared.replies.Reply.{Reply}
use Rattle.vb_model.specs.declared.places.Place.TheVariants.{Used, Free}
use Rattle.vb_guest.{specs.Supply.{Supply, IsClaimed}, specs.Promises.Moment, specs.Steps.IsBare}
use Rattle.vb_guest.specs.Exact.{IsHandedBack, IsReset, KeepsFrames, PutsBy, ReadsBy, FillsBy}
use Rattle.vb_guest.{specs.Exact.{Continues, InitialisesBy, IsQuiet}, specs.Dispatch.CallsBy}
use Rattle.vb_frames.specs.declared.keeper.Refused.TheVariants.{NoFrame as None_left, Memory}
use Rattle.vb_frames.specs.Out.{TableAnswers}
use Rattle.vb_driver.{specs.State.{DriverState, fresh_driver}, specs.Calls.{InitsBy, Unchanged}}
use Rattle.vb_ram.{specs.Pages.{Pages, frame_at, Wrote, Supplied}, specs.Part.{Part, no_part}}

-- page 1 has a frame
abbrev mem : Pages
mem = None ∷ Some (record { number = 7; bytes = 1 ∷ 2 ∷ 3 ∷ [] }) ∷ None ∷ []

abbrev places : List Place
places = Used ∷ Used ∷ Free ∷ []

abbrev asks : Supply
asks = record { keeps = false; own = []; out = true ∷ false ∷ [] }

-- ---- bytes that are read

reads : (result : Result (List ℕ) Refusal)
    → (ReadsBy mem places 1 1 2 result → (result ≡ Ok (2 ∷ 3 ∷ [])) ⊎ (result ≡ Err NoMemory))
    × (ReadsBy mem places 2 0 1 result → result ≡ Err NotHeld)
    × (ReadsBy mem places 1 4095 2 result → result ≡ Err OutOfRam)
reads result = (
  λ by. by.bytes refl (record { page = omega arith; bytes = omega arith }),
  λ by. by.unheld refl,
  λ by. by.outside refl (λ covers. omega (arith, covers.bytes)),
)

-- ---- bytes that are written, past the end, none, over a frame, and where there is none

writes_nothing : (s2 : Supply) (m2 : Pages) (p2 : Part) (claims : List Claim)
    (result : Result Bool Refusal)
    → (PutsBy TableAnswers asks s2 mem m2 no_part p2 claims 3 0 (5 ∷ []) result
    → (result ≡ Err OutOfRam) × IsQuiet asks s2 mem m2 no_part p2 claims)
    × (PutsBy TableAnswers asks s2 mem m2 no_part p2 claims 0 9 [] result
    → IsOk result × IsQuiet asks s2 mem m2 no_part p2 claims)
writes_nothing s2 m2 p2 claims result = (
  λ by. by.outside (λ covers. omega (arith, covers.page)),
  λ by. by.empty (record { page = omega arith; bytes = omega arith }) refl,
)

quiet : (s2 : Supply) (m2 : Pages) (p2 : Part) (claims : List Claim)
    → IsQuiet asks s2 mem m2 no_part p2 claims
    → (s2 ≡ asks) × (m2 ≡ mem) × (p2 ≡ no_part) × (claims ≡ [])
quiet s2 m2 p2 claims is = (is.supply, is.mem, is.part, is.none)

writes : (s2 : Supply) (m2 : Pages) (p2 : Part) (claims : List Claim) (result : Result Bool Refusal)
    → PutsBy TableAnswers asks s2 mem m2 no_part p2 claims 1 2 (5 ∷ []) result
    → IsOk result × Wrote mem m2 1 2 (5 ∷ []) × (p2 ≡ no_part) × (s2 ≡ asks) × (claims ≡ [])
writes s2 m2 p2 claims result by =
    by.backed (record { page = omega arith; bytes = omega arith }) refl

writes_without_a_frame : (s2 : Supply) (m2 : Pages) (p2 : Part) (claims : List Claim)
    (result : Result Bool Refusal)
    → PutsBy TableAnswers asks s2 mem m2 no_part p2 claims 0 2 (5 ∷ []) result
    → (claim : Claim) × (claims ≡ claim ∷ []) × IsClaimed TableAnswers asks s2 claim
    × (p2 ≡ record no_part { own = p2.own }) × FillsBy claim mem m2 0 2 (5 ∷ []) result
writes_without_a_frame s2 m2 p2 claims result by =
    let bare = by.bare (record { page = omega arith; bytes = omega arith }) (omega arith) refl in
    (bare.claim, bare.noted, bare.claimed, bare.part, bare.fills)

fills : (m2 : Pages) (result : Result Bool Refusal) → (FillsBy (Gave 1) mem m2 0 2 (5 ∷ []) result
    → IsOk result × ((between : Pages) × Supplied mem between 0 1 × Wrote between m2 0 2 (5 ∷ [])))
    × (FillsBy GaveNoFrame mem m2 0 2 (5 ∷ []) result → (result ≡ Err NoFrame) × (m2 ≡ mem))
    × (FillsBy GaveNoMemory mem m2 0 2 (5 ∷ []) result → (result ≡ Err NoMemory) × (m2 ≡ mem))
fills m2 result = (λ fills. fills, λ fills. fills, λ fills. fills)

-- ---- frames that stay, and those that came back

a_frame_that_goes : KeepsFrames mem (None ∷ None ∷ None ∷ []) → ⊥
a_frame_that_goes keeps =
    (let wrong : false ≡ true = ap (λ (o : Option ℕ). is_some o) (keeps 1) in absurd cc)

nothing_is_loose_then : (Did : Part → Type 0) (new : Part) → IsHandedBack Did new → new.loose ≡ []
nothing_is_loose_then Did new (part, did, is) = ap (λ (p : Part). p.loose) is

a_reset : (new : Part)
    → IsReset (record no_part { status = 15; target = 4; actual = 3; loose = 7 ∷ [] }) new
    → new ≡ record no_part { target = 4; own = new.own }
a_reset new is = is

bare : (m : Pages) (part : Part) → IsBare m part
    → ((page : ℕ) → frame_at m page ≡ None) × (part.loose ≡ [])
bare m part is = (is.frames, is.loose)

-- ---- an initialisation

abbrev driver : DriverState
driver = fresh_driver 64 8 1

-- not once the driver has begun, whatever the status is then
inits_twice : (status : ℕ) (out : List Bool) (m2 : Pages) (p2 : Part) (d2 : DriverState)
    (claims : List Claim) (result : Result Bool Refusal) → status ≢ 0
    → InitialisesBy TableAnswers asks out mem m2 (record no_part { status = status }) p2
    driver d2 claims 0 result
    → (result ≡ Err AlreadyUp) × (m2 ≡ mem) × (p2 ≡ record no_part { status = status })
    × (d2 ≡ driver) × (claims ≡ [])
inits_twice status out m2 p2 d2 claims result begun by =
    let left = by.up begun in (left.0, left.1.mem, left.1.part, left.1.driver, left.3)

continues : (m2 : Pages) (p2 : Part) (d2 : DriverState) (result : Result Bool Refusal)
    → (Continues {U = Bool} (Ok true) mem m2 no_part p2 driver d2 1 result
    → InitsBy mem m2 no_part p2 driver d2 1 result)
    × (Continues {U = Bool} (Err None_left) mem m2 no_part p2 driver d2 0 result
    → (result ≡ Err NoFrame) × Unchanged mem m2 no_part p2 driver d2)
    × (Continues {U = Bool} (Err Memory) mem m2 no_part p2 driver d2 0 result
    → (result ≡ Err NoMemory) × Unchanged mem m2 no_part p2 driver d2)
continues m2 p2 d2 result = (λ on. on, λ on. on, λ on. on)

-- ---- what a call leaves alone: the driver, or the device, or all of it

stays : (a b : Moment) (c : List Claim) (reply : Reply)
    → ((CallsBy TableAnswers a b c (Alloc 0 0) reply → (b.mem ≡ a.mem) × (b.part ≡ a.part))
    × (CallsBy TableAnswers a b c (FreeBlock 0 1 0) reply → (b.mem ≡ a.mem) × (b.part ≡ a.part))
    × (CallsBy TableAnswers a b c (Read 1 0 1) reply → b ≡ a))
    × ((CallsBy TableAnswers a b c (Write 1 0 []) reply → b.driver ≡ a.driver)
    × (CallsBy TableAnswers a b c (Scribble 1 0 []) reply → b.driver ≡ a.driver)
    × (CallsBy TableAnswers a b c (Take 0) reply → b.driver ≡ a.driver))
    × ((CallsBy TableAnswers a b c Work reply → b.driver ≡ a.driver)
    × (CallsBy TableAnswers a b c (Finish 0 0) reply → b.driver ≡ a.driver)
    × (CallsBy TableAnswers a b c (Serve 0) reply → b.driver ≡ a.driver)
    × (CallsBy TableAnswers a b c (Sweep 1) reply → b.driver ≡ a.driver))
    × (CallsBy TableAnswers a b c Ask reply → b.driver ≡ a.driver)
    × (CallsBy TableAnswers a b c (SetTarget 3) reply
    → (b.mem ≡ a.mem) × (b.part ≡ record (a.part) { target = 3 }) × (b.driver ≡ a.driver))
stays a b c reply = (
  (λ by. by.3, λ by. by.3, λ by. by.3),
  (λ by. by.3, λ by. by.3, λ by. by.3),
  (λ by. by.3, λ by. by.3, λ by. by.3, λ by. by.3),
  λ by. by.3,
  λ by. (by.1, by.2, by.3),
)
