-- Where a notice pauses, worked out, and where it doesn't. Of a list that came before the last access
-- is first.
use Rattle.std.proofs.Common.{◌≡◌, refl, ap, arith, ℕ, ◌+◌, ◌<◌, ◌≤◌, true, false, Bool, List, [], ◌∷◌, length, map}
use Rattle.vb_core.specs.{Pieces.pieces_in}
use Rattle.vb_core.specs.declared.{kinds.Kind.TheVariants.{Inflate, Deflate, Report}, name.Named.Named, device.Device.Device}
use Rattle.vb_monitor.specs.declared.{outcome.Tally.Tally, outcome.Outcome.Outcome, room.Room.Room, parts.Part.Part}
use Rattle.vb_monitor.specs.declared.step.{Place.Place, Phase.TheVariants.{Discards, Paused}}
use Rattle.vb_monitor.specs.{Accesses.{Access, CopyBytes, Acquire, TellPages, Pause}, Budgets.KeepsBudget, Ends.Whole, Machine.{AheadAt, Does, Fits, may_go_on}}
use Rattle.vb_monitor.specs.Portions.{refilled, UnlessSpent}
use Rattle.vb_monitor.specs.{SoFar.{Known, Unknown, Walks, Has}, Turns.{IsAmid, ReadsInTurn, TellsInTurn}, Counts.others}
use Rattle.vb_monitor.proofs.Samples.{two, at, ready, tally, piece, page_5, cut_5, part, pages, discard, index, entry, descriptor, room_of}

abbrev spent : Tally
spent = record tally { pages = 0; told = 3 }

-- ---- when: once no more pages may be named, and no sooner

abbrev on : Tally → List Access → Type 0
on t log = (t ≡ record tally { told = 3 }) × (log ≡ part ∷ [])

pauses : UnlessSpent on spent (Pause ∷ part ∷ [])
pauses = record { rest = part ∷ []; asks = refl; goes_on = (refl, refl) }

goes_on_at_once : UnlessSpent on (record tally { told = 3 }) (part ∷ [])
goes_on_at_once = (refl, refl)

without_a_pause : UnlessSpent on spent (part ∷ []) → ⊥
without_a_pause h = let e = h.asks in absurd cc

with_one_page_left : UnlessSpent on (record tally { pages = 1; told = 3 }) (Pause ∷ part ∷ []) → ⊥
with_one_page_left h = let e = h.1 in absurd cc

-- as many may be named then as at first
as_at_first : refilled spent ≡ record tally { told = 3 }
as_at_first = refl

of_another_budget : refilled (record spent { most_pages = 9 }) ≡ record tally { pages = 9; most_pages = 9; told = 3 }
of_another_budget = refl

-- ---- by the steps

abbrev place : Place
place = record { head = 3; count = 1; piece = 0; done = 1024 }

abbrev room : Room
room = room_of (record { address = 0; length = 1028; writable = 0 } ∷ []) [] (page_5 ∷ []) []

abbrev Goes : Tally → Whole → List Access → Type 0
Goes t w log = AheadAt (Discards cut_5 (record { place = place; further = true; runs = 1; run = 0; from = 2 }))
    (record w { regions = two; kind = Inflate }) t ready room log

-- once all parts of a portion are discarded, and not before
copied_without : (w : Whole) (rest : List Access) → Goes spent w (discard ∷ part ∷ rest) → ⊥
unfolding pieces_in
copied_without w rest h = after h.rest h.asks h.goes_on.rest h.goes_on.asks where
  after : (xs : List Access) → discard ∷ part ∷ rest ≡ discard ∷ xs → (ys : List Access) → xs ≡ Pause ∷ ys → ⊥
  after [] e ys f = absurd cc
  after (x ∷ xs) e ys f = absurd cc

paused_before : (w : Whole) (rest : List Access) → Goes spent w (Pause ∷ rest) → ⊥
unfolding pieces_in
paused_before w rest h = let e = h.asks in absurd cc

paused_all_the_same : (w : Whole) (rest : List Access) → Goes tally w (discard ∷ Pause ∷ rest) → ⊥
unfolding pieces_in
paused_all_the_same w rest h = after h.rest h.asks h.goes_on.rest h.goes_on.bytes h.goes_on.asks where
  after : (xs : List Access) → discard ∷ Pause ∷ rest ≡ discard ∷ xs → (ys : List Access) (bytes : List ℕ) →
      xs ≡ CopyBytes (at 0x400) bytes ∷ ys → ⊥
  after [] e ys bytes f = absurd cc
  after (x ∷ xs) e ys bytes f = absurd cc

-- a pause is all that is done there, and then the next part is copied
is_all : Does (Paused place) Inflate 0 [] room (Pause ∷ [])
is_all = refl

is_skipped : Does (Paused place) Inflate 0 [] room [] → ⊥
is_skipped h = let e = h in absurd cc

unpaused : (w : Whole) (rest : List Access) → AheadAt (Paused place) w spent ready room (part ∷ rest) → ⊥
unpaused w rest h = let e = h.asks in absurd cc

continued : may_go_on (Paused place) ≡ true
continued = refl

-- ---- in its turn: amid a chain, all of whose told pages are discarded

abbrev part_left : Part
part_left = record { address = 0x800; plus = 0; length = 4 }

amid : IsAmid (Has 3 (piece ∷ []) (part_left ∷ []) [])
amid = refl

bytes_untold : IsAmid (Has 3 (piece ∷ []) (part_left ∷ []) (5 ∷ [])) → ⊥
bytes_untold h = let e = h in absurd cc

all_copied : IsAmid (Has 3 (piece ∷ []) [] []) → ⊥
all_copied h = h

amid_a_walk : IsAmid (Walks 3 3 []) → ⊥
amid_a_walk h = h

between_chains : ReadsInTurn two Inflate ready (index ∷ []) Pause → ⊥
between_chains h = h

once_a_chain_was_read : ReadsInTurn two Inflate ready (pages ∷ part ∷ descriptor ∷ entry ∷ Acquire ∷ index ∷ []) Pause → ⊥
once_a_chain_was_read h = h

before_its_discards : TellsInTurn two Inflate false ready (pages ∷ part ∷ descriptor ∷ entry ∷ Acquire ∷ index ∷ []) Pause → ⊥
before_its_discards h = let e : cut_5 ∷ [] ≡ [] = h in absurd cc

after_its_discards : TellsInTurn two Inflate false ready (discard ∷ pages ∷ part ∷ descriptor ∷ entry ∷ Acquire ∷ index ∷ []) Pause
after_its_discards = refl

-- it is no access to memory
not_counted : others (pages ∷ Pause ∷ part ∷ []) ≡ 2
not_counted = refl

-- ---- by its budget: 3 numbers, of which one call tells 2 and one that is skipped, and then a pause

abbrev told : ℕ → ℕ → Access
told count skipped = TellPages Inflate [] (record { runs = 0; pages = count; skipped = skipped })

abbrev Keeps : ℕ → List Access → Type 0
Keeps n log = KeepsBudget Inflate 3 n log

in_two_turns : Keeps 0 (Acquire ∷ part ∷ told 2 1 ∷ discard ∷ Pause ∷ part ∷ told 2 0 ∷ part ∷ told 1 0 ∷ [])
in_two_turns = (
  omega arith,
  (
    omega arith,
    (
      omega arith,
      omega arith,
      (
        omega arith,
        (
          omega arith,
          (omega arith, omega arith, (omega arith, (omega arith, omega arith, tt))),
        ),
      ),
    ),
  ),
)

paused_too_soon : Keeps 2 (Pause ∷ []) → ⊥
paused_too_soon h = let e : 3 ≤ 2 = h.0 in omega (arith, e)

told_past_it : Keeps 3 (told 1 0 ∷ []) → ⊥
told_past_it h = let e : 3 < 3 = h.0 in omega (arith, e)

copied_past_it : Keeps 3 (part ∷ []) → ⊥
copied_past_it h = let e : 3 < 3 = h.0 in omega (arith, e)

taken_past_it : Keeps 3 (Acquire ∷ []) → ⊥
taken_past_it h = let e : 3 < 3 = h.0 in omega (arith, e)

skipped_past_it : Keeps 0 (told 0 3 ∷ told 1 0 ∷ []) → ⊥
skipped_past_it h = let e : 0 + (0 + 3) < 3 = h.2.0 in omega (arith, e)

-- at most 255 others, of a request
a_whole_portion : Keeps 2 (told 256 0 ∷ [])
a_whole_portion = (omega arith, omega arith, tt)

one_too_many : Keeps 2 (told 250 7 ∷ []) → ⊥
one_too_many h = let e : 2 + (250 + 7) ≤ 3 + 255 = h.1 in omega (arith, e)

of_a_report : KeepsBudget Report 3 2 (told 5000 0 ∷ [])
of_a_report = (omega arith, tt, tt)
