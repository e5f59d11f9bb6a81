-- The portions of a request, worked out: what is told of one, what comes after it, and what doesn't.
use Rattle.std.specs.Prelude.{replicate}
use Rattle.std.proofs.Common.{◌≡◌, refl, arith, ℕ, ◌+◌, ◌≤◌, true, false, List, [], ◌∷◌, map, Result, Ok, Err, Some}
use Rattle.vb_chain.specs.declared.fault.ChainFault.TheVariants.{BadPage, BadLength, WrongDirection}
use Rattle.vb_core.specs.declared.kinds.Kind.{Kind, TheVariants.{Inflate, Deflate}}
use Rattle.vb_core.specs.declared.{runs.Run.Run, name.Named.Named, device.Device.Device}
use Rattle.vb_core.specs.declared.device.{Denial.Denial, Denial.TheVariants.Broken}
use Rattle.vb_core.specs.{Devices.needing_reset, Pieces.pieces_in}
use Rattle.vb_monitor.specs.declared.{parts.Part.Part, outcome.Tally.Tally, outcome.Outcome.Outcome}
use Rattle.vb_monitor.specs.declared.step.{Place.Place}
use Rattle.vb_monitor.specs.declared.step.Phase.TheVariants.{Discards}
use Rattle.vb_monitor.specs.declared.room.Room.{Room}
use Rattle.vb_monitor.specs.{Accesses.{Access, CopyBytes, TellPages}, Ends.Whole, Machine.AheadAt}
use Rattle.vb_monitor.specs.{Pieces.PartAt, Regions.spot, Still.{in_portion, AreInPortions, bytes_of_parts}}
use Rattle.vb_monitor.specs.Chains.{request_length_within}
use Rattle.vb_monitor.specs.Portions.{AfterPortion, CopiesParts, CopiesFurther, UnlessSpent}
use Rattle.vb_monitor.proofs.Samples.{two, at, ready, tally, piece, page_5, cut_5, one_page, number, part, pages, discard, id, used_length, room_of}

abbrev outcome : Outcome
outcome = record { tally = tally; why = Some (Broken BadPage); interrupt = false; more = false }

abbrev of_kind : Kind → Whole
of_kind kind = record { regions = two; kind = kind; device = needing_reset ready; outcome = outcome }

-- ---- how many bytes a request may have, which names 300 pages at most

right_lengths : map (λ n. request_length_within 300 (record piece { len = n } ∷ [])) (4 ∷ 1024 ∷ 1028 ∷ 1200 ∷ [])
    ≡ Ok 4 ∷ Ok 1024 ∷ Ok 1028 ∷ Ok 1200 ∷ []
right_lengths = refl

no_lengths : map (λ n. request_length_within 300 (record piece { len = n } ∷ [])) (0 ∷ 5 ∷ 1026 ∷ 1204 ∷ []) ≡ replicate 4 (Err BadLength)
no_lengths = refl

-- the pieces' lengths count together, and a piece that isn't the device's to read counts first
together : request_length_within 300 (record piece { len = 1199 } ∷ record piece { len = 1 } ∷ []) ≡ Ok 1200
together = refl

past_together : request_length_within 300 (record piece { len = 1200 } ∷ piece ∷ []) ≡ Err BadLength
past_together = refl

written_first : request_length_within 300 (record piece { len = 5 } ∷ record piece { writable = true } ∷ []) ≡ Err WrongDirection
written_first = refl

-- ---- what is told of a portion: it counts, and copying goes on

abbrev on : Tally → List Access → Type 0
on t log = (t ≡ record tally { pages = 2; told = 1 }) × (log ≡ [])

abbrev Told : Kind → Result Named Denial → List Access → Type 0
Told kind answer log = AfterPortion (of_kind kind) on ready tally (page_5 ∷ []) answer log

told_discarded : Told Inflate (Ok one_page) (pages ∷ discard ∷ [])
unfolding lib.Count.ones
told_discarded = record { rest = discard ∷ []; asks = refl; goes_on = record { rest = []; asks = refl; goes_on = (refl, refl) } }

of_a_deflate : Told Deflate (Ok one_page) (TellPages Deflate (page_5 ∷ []) one_page ∷ [])
of_a_deflate = record { rest = []; asks = refl; goes_on = record { rest = []; asks = refl; goes_on = (refl, refl) } }

-- a bad number: the portion isn't told, and the device needs a reset
bad_number : AfterPortion (of_kind Inflate) on (needing_reset ready) tally (page_5 ∷ []) (Err (Broken BadPage)) []
bad_number = record { nothing = refl; device = refl; outcome = refl }

told_all_the_same : Told Inflate (Err (Broken BadPage)) (pages ∷ discard ∷ []) → ⊥
told_all_the_same h = let e = h.nothing in absurd cc

dropped : Told Inflate (Ok one_page) [] → ⊥
dropped h = let e = h.asks in absurd cc

-- none of its pages is left for later, and its chain isn't given back
not_discarded : (rest : List Access) → Told Inflate (Ok one_page) (pages ∷ part ∷ rest) → ⊥
not_discarded rest h = after h.rest h.asks h.goes_on.rest h.goes_on.asks where
  after : (xs : List Access) → pages ∷ part ∷ rest ≡ TellPages Inflate (page_5 ∷ []) one_page ∷ xs → (ys : List Access) →
      xs ≡ discard ∷ ys → ⊥
  after [] e ys f = absurd cc
  after (x ∷ xs) e ys f = absurd cc

given_back : Told Inflate (Ok one_page) (pages ∷ discard ∷ id ∷ used_length ∷ []) → ⊥
given_back h = after h.rest h.asks h.goes_on.rest h.goes_on.asks h.goes_on.goes_on.1 where
  after : (xs : List Access) → pages ∷ discard ∷ id ∷ used_length ∷ [] ≡ TellPages Inflate (page_5 ∷ []) one_page ∷ xs →
      (ys : List Access) → xs ≡ discard ∷ ys → ys ≡ [] → ⊥
  after [] e ys f g = absurd cc
  after (x ∷ xs) e [] f g = absurd cc
  after (x ∷ xs) e (y ∷ ys) f g = absurd cc

-- ---- when: once it is full and a part is left, and no sooner

abbrev a_part : Part
a_part = record { address = 0x400; plus = 0; length = 4 }

abbrev last : Device → Tally → List ℕ → List Access → Type 0
last d t bytes log = (bytes ≡ number) × (log ≡ [])

abbrev Copies : List ℕ → List Access → Type 0
Copies so_far log = CopiesParts (of_kind Inflate) last ready tally (a_part ∷ []) so_far log

told_first : (answer : Result Named Denial) (d : Device) (runs : List Run) (go : Tally → List Access → Type 0)
    (rest : List Access) → AfterPortion (of_kind Inflate) go d tally runs answer (part ∷ rest) → ⊥
told_first (Err why) d runs go rest h = let e = h.nothing in absurd cc
told_first (Ok named) d runs go rest h = let e = h.asks in absurd cc

abbrev going : Device → Tally → List Access → Type 0
going d t rest = PartAt (of_kind Inflate) (CopiesParts (of_kind Inflate) last d t []) d t a_part [] (spot two 0x400 4) rest

copied_over : (rest : List Access) → Copies (replicate 1024 5) (part ∷ rest) → ⊥
copied_over rest h = told_first h.answer h.device h.runs (UnlessSpent (going h.device)) rest h.goes_on

told_too_soon : (rest : List Access) → Copies (replicate 1020 5) (pages ∷ rest) → ⊥
told_too_soon rest h = let e = h.asks in absurd cc

-- ---- then its bytes are gone: the next portion begins in front

in_front : CopiesFurther (of_kind Inflate) last ready tally (a_part ∷ []) (part ∷ [])
in_front = record { bytes = number; rest = []; asks = refl; long = refl; goes_on = (refl, refl) }

-- ---- by the steps: a portion that is told, and discarded, goes on at its place

abbrev place : Place
place = record { head = 3; count = 1; piece = 0; done = 1024 }

abbrev room : Room
room = room_of (record { address = 0; length = 1028; writable = 0 } ∷ []) [] (page_5 ∷ []) []

abbrev copied_at : List Access → ℕ
copied_at (CopyBytes place bytes ∷ xs) = place.offset
copied_at xs = 0

-- after a portion the used element isn't written
not_given_back : (w : Whole) (rest : List Access) → AheadAt (Discards cut_5 (record { place = place; further = true; runs = 1; run = 0; from = 2 }))
    (record w { regions = two; kind = Inflate }) tally ready room (discard ∷ id ∷ rest) → ⊥
unfolding pieces_in
not_given_back w rest h = after h.rest h.asks h.goes_on.rest h.goes_on.asks where
  after : (xs : List Access) → discard ∷ id ∷ rest ≡ discard ∷ xs → (ys : List Access) → xs ≡ CopyBytes (at 0x400) (h.goes_on.bytes) ∷ ys → ⊥
  after [] e ys f = absurd cc
  after (x ∷ xs) e ys f = absurd cc

-- ---- parts in portions

abbrev long : ℕ → Part
long len = record { address = 0; plus = 0; length = len }

another_begins : in_portion 0 ∷ in_portion 1023 ∷ in_portion 1024 ∷ [] ≡ 0 ∷ 1023 ∷ 0 ∷ []
another_begins = refl

up_to_its_end : AreInPortions 1020 (long 4 ∷ long 1024 ∷ long 1 ∷ [])
up_to_its_end = (omega arith, omega arith, (omega arith, omega arith, (omega arith, omega arith, tt)))

over_its_end : AreInPortions 1020 (long 5 ∷ []) → ⊥
over_its_end h = let e : 1025 ≤ 1024 = h.1 in omega (arith, e)

of_no_byte : AreInPortions 0 (long 0 ∷ []) → ⊥
of_no_byte h = let e : 1 ≤ 0 = h.0 in omega (arith, e)

in_a_row : bytes_of_parts (λ a. a + 7) (record { address = 16; plus = 2; length = 2 } ∷ long 1 ∷ []) ≡ 25 ∷ 26 ∷ 7 ∷ []
in_a_row = refl
