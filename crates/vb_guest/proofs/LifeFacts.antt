-- What is said of a guest's steps, of frames that are supplied before an initialisation, and of new
-- lives.
use Rattle.std.proofs.Common.{◌≡◌, ◌↔◌, ℕ, ◌+◌, true, false, List, [], ◌∷◌, map, refl}
use Rattle.std.proofs.Common.{arith}
use Rattle.std.specs.Prelude.{Bool, Some, None, Result, Ok, Err, length}
use Rattle.vb_model.specs.declared.{calls.Claim.Claim, replies.Reply.Reply}
use Rattle.vb_model.specs.declared.calls.Claim.TheVariants.{Gave, GaveNoFrame}
use Rattle.vb_model.specs.declared.calls.Call.TheVariants.{Work}
use Rattle.vb_virtio.specs.declared.refusals.Refusal.{Refusal}
use Rattle.vb_virtio.specs.declared.refusals.Refusal.TheVariants.{NoFrame as NoFrameLeft, NoMemory}
use Rattle.vb_virtio.specs.Tests.{one_if, times}
use Rattle.vb_model.specs.Guest.{Guest}
use Rattle.vb_model.specs.Rogue.{GuestStep}
use Rattle.vb_model.specs.Life.{after_restart}
use Rattle.vb_model.specs.Driver.{given, claim_refusal, AreClaimsFor}
use Rattle.vb_ram.specs.{Pages.{Pages, frame_at, Supplied}, Part.{Part, no_part}}
use Rattle.vb_frames.specs.{Out.{TableAnswers, IsFree}, declared.keeper.Refused.Refused}
use Rattle.vb_frames.specs.declared.keeper.Refused.TheVariants.{NoFrame, Memory}
use Rattle.vb_driver.specs.State.{DriverState, fresh_driver}
use Rattle.vb_guest.specs.Lives.{is_bare, bare_from, AllSupplied, why_unsupplied, SuppliesBy}
use Rattle.vb_guest.specs.Supply.{Supply, supply_of, is_used, Moves, nothing, AnswersTo, IsClaimed}
use Rattle.vb_guest.specs.{Supply.AreClaimed, Exact.{Continues, InitialisesBy}}
use Rattle.vb_guest.specs.Steps.{backing_count, StepsOver, StepsAlone, StepsFreeing}
use Rattle.vb_guest.specs.Steps.{Restarts}

-- ---- frames that move: where the device has none, the keeper's do

abbrev asks : Supply
asks = record { keeps = false; own = []; out = true ∷ false ∷ [] }

supply : supply_of (record no_part { keeps = true; own = 7 ∷ [] }) (true ∷ [])
    ≡ record { keeps = true; own = 7 ∷ []; out = true ∷ [] }
supply = refl

moves : (s : Supply) (gained lost : ℕ → ℕ) → Moves asks s gained lost
    ↔ ((s.keeps ≡ false) × (false ≡ false → s.own ≡ []) × (false ≡ true → s.out ≡ true ∷ false ∷ [])
    × (length s.out ≡ 2)
    × ((n : ℕ) → one_if (is_used s n) + lost n ≡ one_if (is_used asks n) + gained n))
moves s gained lost = (
  λ are. (are.keeps, are.asked, are.untouched, are.count, are.balance),
  λ all. record {
    keeps = all.0;
    asked = all.1;
    untouched = all.2;
    count = all.3;
    balance = all.4;
  },
)

-- where it has its own, the keeper's stay
own_moves : (s : Supply) → Moves (record asks { keeps = true }) s nothing nothing
    → (s.keeps ≡ true) × (s.out ≡ true ∷ false ∷ [])
own_moves s are = (are.keeps, are.untouched refl)

claimed : (s : Supply) (claim : Claim) → IsClaimed TableAnswers asks s claim
    ↔ (Moves asks s (λ n. times n (given (claim ∷ []))) nothing
    × (false ≡ false → AnswersTo TableAnswers claim (true ∷ false ∷ []) s.out))
claimed s claim = (
  λ is. (is.moves, is.asked),
  λ all. record { moves = all.0; asked = all.1 },
)

answers : (new : List Bool)
    → (AnswersTo TableAnswers (Gave 1) (true ∷ false ∷ []) new
    → IsFree (true ∷ false ∷ []) 1 × (new ≡ true ∷ true ∷ []))
    × (AnswersTo TableAnswers GaveNoFrame (true ∷ false ∷ []) new → new ≡ true ∷ false ∷ [])
answers new = (λ is. (is.1, is.2), λ is. is.1)

-- ---- the pages that get a frame: of 0 to 12 those that have none, from a page on

abbrev mem : Pages
mem = None ∷ Some (record { number = 7; bytes = [] }) ∷ None ∷ []

bare : map (is_bare 8 mem) (0 ∷ 1 ∷ 2 ∷ 12 ∷ 13 ∷ []) ≡ true ∷ false ∷ true ∷ true ∷ false ∷ []
bare = refl

bare_pages : bare_from 8 mem 0 ∷ bare_from 8 mem 11 ∷ bare_from 256 mem 12 ∷ []
    ≡ (0 ∷ 2 ∷ 3 ∷ 4 ∷ 5 ∷ 6 ∷ 7 ∷ 8 ∷ 9 ∷ 10 ∷ 11 ∷ 12 ∷ []) ∷ (11 ∷ 12 ∷ [])
    ∷ (12 ∷ 16 ∷ 17 ∷ 18 ∷ 19 ∷ 20 ∷ 21 ∷ 22 ∷ 23 ∷ []) ∷ []
bare_pages = refl

supplied : (old new : Pages) → AllSupplied (1 ∷ 0 ∷ []) (5 ∷ 6 ∷ []) old new
    ↔ ((between : Pages)
    × ((first : Pages) × (first ≡ old) × (frame_at first 0 ≡ None) × Supplied first between 0 6)
    × (frame_at between 1 ≡ None) × Supplied between new 1 5)
supplied old new = (λ is. is, λ is. is)

supplied_by_too_few : (old new : Pages) → (AllSupplied (1 ∷ []) [] old new → ⊥)
    × (AllSupplied [] (5 ∷ []) old new → new ≡ old)
supplied_by_too_few old new = (λ is. is, λ is. is)

why : why_unsupplied {T = ℕ} (Ok 0) ∷ why_unsupplied {T = ℕ} (Err NoFrame)
    ∷ why_unsupplied {T = ℕ} (Err Memory) ∷ [] ≡ None ∷ Some NoFrameLeft ∷ Some NoMemory ∷ []
why = refl

supplies : (s : Supply) (noted : List Claim) (old new : Pages)
    → SuppliesBy {T = ℕ} TableAnswers asks s (Gave 9 ∷ []) noted (0 ∷ 1 ∷ []) old new (Ok 0)
    → (claims : List Claim) × (noted ≡ Gave 9 ∷ claims) × AreClaimsFor (0 ∷ 1 ∷ []) claims
    × AreClaimed TableAnswers asks claims × (claim_refusal claims ≡ None)
    × AllSupplied (0 ∷ 1 ∷ []) (given claims) old new
    × Moves asks s (λ n. times n (given claims)) nothing
supplies s noted old new by =
    (by.claims, by.noted, by.made, by.answered, by.answer, by.supplied.0, by.supplied.1)

supplies_none : (s : Supply) (noted : List Claim) (old new : Pages)
    → SuppliesBy {T = ℕ} TableAnswers asks s [] noted (0 ∷ 1 ∷ []) old new (Err NoFrame)
    → (claims : List Claim) × (claim_refusal claims ≡ Some NoFrameLeft) × (new ≡ old)
    × Moves asks s nothing nothing
supplies_none s noted old new by = (by.claims, by.answer, by.refused.0, by.refused.1)

-- ---- an initialisation supplies these pages first

abbrev driver : DriverState
driver = fresh_driver 64 8 1

inits : (out : List Bool) (m2 : Pages) (p2 : Part) (d2 : DriverState) (claims : List Claim)
    (result : Result ℕ Refusal)
    → InitialisesBy TableAnswers asks out mem m2 no_part p2 driver d2 claims 5 result
    → (m : Pages) × (part : Part) × (got : Result (Unit {0}) Refused)
    × (part ≡ record no_part { own = part.own })
    × SuppliesBy TableAnswers asks (supply_of part out) [] claims
    (0 ∷ 2 ∷ 3 ∷ 4 ∷ 5 ∷ 6 ∷ 7 ∷ 8 ∷ 9 ∷ 10 ∷ 11 ∷ 12 ∷ []) mem m got
    × Continues got m m2 part p2 driver d2 5 result
inits out m2 p2 d2 claims result by =
    let first = by.new refl in
    (first.mem, first.part, first.got, first.own, first.supplies, first.continues)

-- ---- steps: what they claim, what is afterwards, and the frames that move

steps_over : (New : Guest → Type 0) (s : Supply) (claims : List Claim) (g : Guest) (reply : Reply)
    → StepsOver New TableAnswers asks s claims g Work reply
    → (new : Guest) × New new × GuestStep g Work claims reply new
    × AreClaimed TableAnswers asks claims
    × Moves asks s (λ n. backing_count n new) (λ n. backing_count n g)
steps_over New s claims g reply by = (by.new, by.stands, by.step, by.answered, by.moves)

steps_alone : (New : Guest → Type 0) (g : Guest) (reply : Reply) → StepsAlone New g Work reply
    → (new : Guest) × New new × GuestStep g Work [] reply new × (new.frames ≡ g.frames)
steps_alone New g reply by = (by.new, by.stands, by.step, by.frames)

steps_freeing : (New : Guest → Type 0) (g : Guest) (reply : Reply)
    → StepsFreeing New (7 ∷ []) g Work reply
    → (new : Guest) × New new × GuestStep g Work [] reply new
    × (1 + backing_count 7 new ≡ backing_count 7 g) × (backing_count 8 new ≡ backing_count 8 g)
steps_freeing New g reply by = (by.new, by.stands, by.step, by.freed 7, omega (arith, by.freed 8))

restarts : (New : Guest → Type 0) (s : Supply) (g : Guest)
    → Restarts New asks s g
    ↔ (New (after_restart g) × Moves asks s nothing (λ n. backing_count n g))
restarts New s g = (
  λ by. (by.stands, by.moves),
  λ all. record { stands = all.0; moves = all.1 },
)
