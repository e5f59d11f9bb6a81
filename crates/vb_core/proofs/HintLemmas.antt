-- When a round of hints is open, over all that came to it.
use Rattle.std.proofs.Common.{◌≡◌, ◌≢◌, ℕ, ◌+◌, ◌^◌, ◌<◌, Bool, true, false, not, ◌&&◌, ◌==◌, List, []}
use Rattle.std.proofs.Common.{◌∷◌, ◌++◌, refl, sym, ◌∙◌, ap, subst, arith, nat_lt, if◌then◌else◌}
use Rattle.std.specs.List.{list_all}
use Rattle.std.proofs.lemmas.Bool.{eqb-true, eq-eqb, Decides.nat_tests}
use Rattle.vb_core.specs.declared.hints.Round.{Round}
use Rattle.vb_core.specs.declared.hints.TheConstants.{FIRST_ID}
use Rattle.vb_core.specs.Hints.{is_id, next_id, is_open, begun, heard, RoundEvent, Begins, Stops}
use Rattle.vb_core.specs.Hints.{Ends, Resets, Reads, round_after, round_after_all, are_next, is_reading}
use Rattle.vb_core.specs.Hints.{is_reading_of, IsHeard}

both : (a b : Bool) → (a && b) ≡ true → (a ≡ true) × (b ≡ true)
both true true e = (refl, refl)
both true false e = absurd cc
both false b e = absurd cc

-- ---- ids

id_by : (known fits : Bool) (n : ℕ) → is_id n ≡ known
    → is_id (if known && fits then n else FIRST_ID) ≡ true
id_by true true n e = e
id_by true false n e = refl
id_by false fits n e = refl

pub next_is_id : (last : ℕ) → is_id (next_id last) ≡ true
next_is_id last = id_by (is_id (last + 1)) (nat_lt (last + 1) (2 ^ 32)) (last + 1) refl

other_by : (known fits : Bool) (last : ℕ) → is_id (last + 1) ≡ known → nat_lt (last + 1) (2 ^ 32) ≡ fits
    → (if known && fits then last + 1 else FIRST_ID) ≡ last → ⊥
other_by true true last a b e = omega (arith, e)
other_by true false last a b e =
    let wrong : true ≡ false = ap (λ (n : ℕ). nat_lt (n + 1) (2 ^ 32)) e ∙ b in absurd cc
other_by false fits last a b e =
    let wrong : true ≡ false = ap (λ (n : ℕ). is_id (n + 1)) e ∙ a in absurd cc

pub next_is_other : (last : ℕ) → next_id last ≢ last
next_is_other last e =
    other_by (is_id (last + 1)) (nat_lt (last + 1) (2 ^ 32)) last refl refl e

fits_by : (known fits : Bool) (n : ℕ) → nat_lt n (2 ^ 32) ≡ fits
    → (if known && fits then n else FIRST_ID) < 2 ^ 32
fits_by true true n e = grind (arith, nat_tests, e)
fits_by true false n e = omega arith
fits_by false fits n e = omega arith

pub next_fits : (last : ℕ) → next_id last < 2 ^ 32
next_fits last = fits_by (is_id (last + 1)) (nat_lt (last + 1) (2 ^ 32)) (last + 1) refl

-- ---- an id that is read

own_by : (known same : Bool) → (not ((if known && same then 1 else 0) == 0) && known) ≡ true → same ≡ true
own_by true true e = refl
own_by true false e = absurd cc
own_by false same e = absurd cc

-- one that leaves the round open is its own
own_read : (r : Round) (other : ℕ) → is_open (heard other r) ≡ true → other ≡ r.shown
own_read r other e = eqb-true other r.shown (own_by (is_id r.shown) (other == r.shown) e)

opens_by : (known same : Bool) → known ≡ true → same ≡ true
    → (not ((if known && same then 1 else 0) == 0) && known) ≡ true
opens_by true true a b = refl
opens_by true false a b = absurd cc
opens_by false same a b = absurd cc

-- what is open and what is shown
abbrev IsOpenOf : ℕ → Round → Type 0
IsOpenOf id r = (is_open r ≡ true) × (r.shown ≡ id)

-- its own opens a round that is shown
opens : (id other : ℕ) (r : Round) → is_id id ≡ true → r.shown ≡ id → other ≡ id
    → IsOpenOf id (heard other r)
opens id other r known s e = (
  opens_by (is_id r.shown) (other == r.shown) (ap (λ (n : ℕ). is_id n) s ∙ known)
      (eq-eqb other r.shown (e ∙ sym s)),
  s,
)

-- ---- from an open round back

-- The id was read, with only ids read before it, and none but its own since.
record WasRead (id : ℕ) (events : List RoundEvent) : Type 0 where
  unheard : List RoundEvent
  since : List RoundEvent
  whole : events ≡ unheard ++ (Reads id ∷ since)
  only_ids : list_all is_reading unheard ≡ true
  only_its_own : list_all (is_reading_of id) since ≡ true

-- How a round of this id came to be open at the end, from any round on.
data HowOpen (id : ℕ) (r : Round) (events : List RoundEvent) : Type 0 where
  Began : IsHeard id events → HowOpen id r events
  WasShown : r.shown ≡ id → WasRead id events → HowOpen id r events
  WasOpen : is_open r ≡ true → r.shown ≡ id → list_all (is_reading_of id) events ≡ true
      → HowOpen id r events

began_later : (id : ℕ) (e : RoundEvent) (es : List RoundEvent) → IsHeard id es → IsHeard id (e ∷ es)
began_later id e es h = record {
  before = e ∷ h.before;
  unheard = h.unheard;
  since = h.since;
  whole = ap (λ (xs : List RoundEvent). e ∷ xs) h.whole;
  only_ids = h.only_ids;
  only_its_own = h.only_its_own;
}

begins_now : (id : ℕ) (es : List RoundEvent) → WasRead id es → IsHeard id (Begins id ∷ es)
begins_now id es w = record {
  before = [];
  unheard = w.unheard;
  since = w.since;
  whole = ap (λ (xs : List RoundEvent). Begins id ∷ xs) w.whole;
  only_ids = w.only_ids;
  only_its_own = w.only_its_own;
}

read_later : (id other : ℕ) (es : List RoundEvent) → WasRead id es → WasRead id (Reads other ∷ es)
read_later id other es w = record {
  unheard = Reads other ∷ w.unheard;
  since = w.since;
  whole = ap (λ (xs : List RoundEvent). Reads other ∷ xs) w.whole;
  only_ids = w.only_ids;
  only_its_own = w.only_its_own;
}

read_now : (id : ℕ) (es : List RoundEvent) → list_all (is_reading_of id) es ≡ true
    → WasRead id (Reads id ∷ es)
read_now id es all = record {
  unheard = [];
  since = es;
  whole = refl;
  only_ids = refl;
  only_its_own = all;
}

-- a word that isn't an id is shown of no round
no_word : (id word : ℕ) → is_id id ≡ true → is_id word ≡ false → word ≡ id → ⊥
no_word id word known none s =
    let wrong : true ≡ false = sym known ∙ ap (λ (n : ℕ). is_id n) (sym s) ∙ none in cc

-- one more event before
step : (id : ℕ) (e : RoundEvent) (es : List RoundEvent) (r : Round) → is_id id ≡ true
    → HowOpen id (round_after e r) es → HowOpen id r (e ∷ es)
step id e es r known (Began h) = Began (began_later id e es h)
step id (Begins other) es r known (WasShown s w) =
    Began (subst (λ (n : ℕ). IsHeard id (Begins n ∷ es)) (sym s) (begins_now id es w))
step id Stops es r known (WasShown s w) = absurd (no_word id 0 known refl s)
step id Ends es r known (WasShown s w) = absurd (no_word id 1 known refl s)
step id Resets es r known (WasShown s w) = absurd (no_word id 0 known refl s)
step id (Reads other) es r known (WasShown s w) = WasShown s (read_later id other es w)
step id (Begins other) es r known (WasOpen o s all) = absurd cc
step id Stops es r known (WasOpen o s all) = absurd cc
step id Ends es r known (WasOpen o s all) = absurd cc
step id Resets es r known (WasOpen o s all) = absurd cc
step id (Reads other) es r known (WasOpen o s all) = WasShown s
    (subst (λ (n : ℕ). WasRead id (Reads n ∷ es)) (sym (own_read r other o ∙ s)) (read_now id es all))

how_open : (id : ℕ) (events : List RoundEvent) (r : Round) → is_id id ≡ true
    → is_open (round_after_all events r) ≡ true → (round_after_all events r).shown ≡ id
    → HowOpen id r events
how_open id [] r known o s = WasOpen o s refl
how_open id (e ∷ es) r known o s = step id e es r known (how_open id es (round_after e r) known o s)

began : (id : ℕ) (events : List RoundEvent) (r : Round) → is_id id ≡ true → is_id r.shown ≡ false
    → HowOpen id r events → IsHeard id events
began id events r known none (Began h) = h
began id events r known none (WasShown s w) = absurd (no_word id r.shown known none s)
began id events r known none (WasOpen o s all) = absurd (no_word id r.shown known none s)

pub was_heard : (events : List RoundEvent) (r : Round) → is_id r.shown ≡ false
    → is_open (round_after_all events r) ≡ true → IsHeard (round_after_all events r).shown events
was_heard events r none o = let end = round_after_all events r in
    let known = (both (not (end.opened == 0)) (is_id end.shown) o).1 in
    began end.shown events r known none (how_open end.shown events r known o refl)

-- ---- from a round that was heard on

stays_open : (id : ℕ) (since : List RoundEvent) (r : Round) → is_id id ≡ true → IsOpenOf id r
    → list_all (is_reading_of id) since ≡ true → IsOpenOf id (round_after_all since r)
stays_open id [] r known o all = o
stays_open id (Begins other ∷ es) r known o all = absurd cc
stays_open id (Stops ∷ es) r known o all = absurd cc
stays_open id (Ends ∷ es) r known o all = absurd cc
stays_open id (Resets ∷ es) r known o all = absurd cc
stays_open id (Reads other ∷ es) r known o all =
    let parts = both (other == id) (list_all (is_reading_of id) es) all in
    stays_open id es (heard other r) known (opens id other r known o.1 (eqb-true other id parts.0)) parts.1

stays_shown : (id : ℕ) (unheard since : List RoundEvent) (r : Round) → is_id id ≡ true → r.shown ≡ id
    → list_all is_reading unheard ≡ true → list_all (is_reading_of id) since ≡ true
    → IsOpenOf id (round_after_all (unheard ++ (Reads id ∷ since)) r)
stays_shown id [] since r known s only all =
    stays_open id since (heard id r) known (opens id id r known s refl) all
stays_shown id (Begins other ∷ es) since r known s only all = absurd cc
stays_shown id (Stops ∷ es) since r known s only all = absurd cc
stays_shown id (Ends ∷ es) since r known s only all = absurd cc
stays_shown id (Resets ∷ es) since r known s only all = absurd cc
stays_shown id (Reads other ∷ es) since r known s only all =
    stays_shown id es since (heard other r) known s only all

-- a round that begins after these events has an id
begins_with_id : (before rest : List RoundEvent) (id last : ℕ)
    → are_next (before ++ Begins id ∷ rest) last ≡ true → is_id id ≡ true
begins_with_id [] rest id last e =
    ap (λ (n : ℕ). is_id n) (eqb-true id (next_id last) (both (id == next_id last) (are_next rest id) e).0)
    ∙ next_is_id last
begins_with_id (Begins other ∷ es) rest id last e = begins_with_id es rest id other
    (both (other == next_id last) (are_next (es ++ Begins id ∷ rest) other) e).1
begins_with_id (Stops ∷ es) rest id last e = begins_with_id es rest id last e
begins_with_id (Ends ∷ es) rest id last e = begins_with_id es rest id last e
begins_with_id (Resets ∷ es) rest id last e = begins_with_id es rest id last e
begins_with_id (Reads other ∷ es) rest id last e = begins_with_id es rest id last e

then_all : (before rest : List RoundEvent) (r : Round)
    → round_after_all (before ++ rest) r ≡ round_after_all rest (round_after_all before r)
then_all [] rest r = refl
then_all (e ∷ es) rest r = then_all es rest (round_after e r)

pub heard_is_open : (id : ℕ) (events : List RoundEvent) (r : Round) → are_next events r.last ≡ true
    → IsHeard id events → IsOpenOf id (round_after_all events r)
heard_is_open id events r next h =
    let rest = h.unheard ++ (Reads id ∷ h.since) in
    let known = begins_with_id h.before rest id r.last
    (ap (λ (es : List RoundEvent). are_next es r.last) (sym h.whole) ∙ next) in
    subst (λ (end : Round). IsOpenOf id end)
    (sym (ap (λ (es : List RoundEvent). round_after_all es r) h.whole
    ∙ then_all h.before (Begins id ∷ rest) r))
    (stays_shown id h.unheard h.since (begun id (round_after_all h.before r)) known refl h.only_ids
    h.only_its_own)
