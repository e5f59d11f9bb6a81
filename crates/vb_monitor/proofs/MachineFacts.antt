-- What each phase of a notice does, comes to, and leaves, worked out.
use Rattle.vb_monitor.proofs.Samples.{room_of}
use Rattle.vb_monitor.specs.declared.room.Room.{Room}
use Rattle.std.proofs.Common.{◌≡◌, ◌∙◌, ◌++◌, refl, ap, arith, ℕ, ◌+◌, ◌*◌, ◌≤◌, true, false, List, [], ◌∷◌, map, length, Option, Some, None}
use Rattle.vb_chain.specs.declared.pieces.Piece.{Piece}
use Rattle.vb_core.specs.declared.{kinds.Kind.TheVariants.{Inflate, Deflate}, runs.Run.Run}
use Rattle.vb_core.specs.declared.{name.Named.Named, device.Denial.TheVariants.NotReady}
use Rattle.vb_core.specs.Rings.{used_entry}
use Rattle.vb_monitor.specs.declared.parts.Part.{Part}
use Rattle.vb_monitor.specs.declared.giving.UsedSpots.{UsedSpots}
use Rattle.vb_monitor.specs.declared.outcome.Outcome.{Outcome}
use Rattle.vb_monitor.specs.declared.step.Walk.{Walk}
use Rattle.vb_monitor.specs.declared.step.Place.{Place}
use Rattle.vb_monitor.specs.declared.step.Discarding.{Discarding}
use Rattle.vb_monitor.specs.declared.step.Phase.{Phase}
use Rattle.vb_monitor.specs.declared.step.Phase.TheVariants.{AwaitsIndex, AwaitsEntry, AwaitsDescriptor, AwaitsPart}
use Rattle.vb_monitor.specs.declared.step.Phase.TheVariants.{TellsPages, TellsFigures, TellsId, Discards, GivesBack, AwaitsFlags, Paused, Ended}
use Rattle.vb_monitor.specs.Accesses.{Access, Steps, Makes, ReadWord, CopyBytes, Acquire, Release, Full, TellPages, TellFigures}
use Rattle.vb_monitor.specs.Machine.{cuts_after, is_ended, stage, waits, outcome_at, Fits, Does, GoesOn}
use Rattle.vb_monitor.specs.{declared.cuts.NextCut.NextCut, Orders.cuts_left}
use Rattle.vb_monitor.specs.Pieces.{parts_on}
use Rattle.vb_monitor.specs.Left.{copies_left, parts_left, of_chains, left_of, left}
use Rattle.vb_monitor.proofs.Samples.{Same, two, at, tally, ring, page_5, one_page, over_the_hole, cut_5, cut_20, cut_22, last_descriptor, number, index, entry, discard, id, used_length, used_index, flags}

-- ---- the phases

abbrev walk : Walk
walk = record { head = 3; count = 0; writing = false; first = 3; further = 0 }

abbrev place : Place
place = record { head = 3; count = 1; piece = 0; done = 4 }

abbrev named : Named
named = record { runs = 1; pages = 1; skipped = 0 }

abbrev discarding : Discarding
discarding = record { place = place; further = false; runs = 1; run = 0; from = 1 }

abbrev spots : UsedSpots
spots = record { id = at 0x204; length = at 0x208; index = at 0x202 }

abbrev phases : List Phase
phases =
    AwaitsIndex (at 0x102) ∷ AwaitsEntry (at 0x104) ∷ AwaitsDescriptor (at 0x30) walk ∷ AwaitsPart (at 0x400) place 0 4
    ∷ TellsPages place named false ∷ TellsFigures 3 1 ∷ TellsId 3 6 ∷ Discards cut_5 discarding ∷ GivesBack spots (used_entry ring 3)
    ∷ AwaitsFlags (at 0x100) None false ∷ Paused place ∷ Ended None true false ∷ []

-- the last one alone has ended, and it alone has an outcome
ended : map is_ended phases ≡
    false ∷ false ∷ false ∷ false ∷ false ∷ false ∷ false ∷ false ∷ false ∷ false ∷ false ∷ true ∷ []
ended = refl

-- something is told, bytes are discarded, the chain is given back, and then an answer is awaited
stages : map stage phases ≡ 3 ∷ 3 ∷ 3 ∷ 3 ∷ 0 ∷ 0 ∷ 0 ∷ 1 ∷ 2 ∷ 3 ∷ 3 ∷ 3 ∷ []
stages = refl

waiting : map waits phases ≡
    true ∷ true ∷ true ∷ true ∷ false ∷ false ∷ false ∷ true ∷ false ∷ true ∷ true ∷ true ∷ []
waiting = refl

abbrev outcome_of : Phase → Option Outcome
outcome_of phase = outcome_at phase tally

outcomes : map outcome_of phases ≡ None ∷ None ∷ None ∷ None ∷ None ∷ None ∷ None ∷ None ∷ None ∷ None ∷ None
    ∷ Some (record { tally = tally; why = None; interrupt = true; more = false }) ∷ []
outcomes = refl

as_it_ended : outcome_at (Ended (Some NotReady) false true) (record tally { pages = 2 }) ≡
    Some (record { tally = record tally { pages = 2 }; why = Some NotReady; interrupt = false; more = true })
as_it_ended = refl

-- what is left of a chain, over two regions: 515 once its pages are named, and 517 times as much as
-- bytes are left and one before that
left_of_each : map (left_of two) phases ≡
    2 ∷ 568447511561483 ∷ 568447511561482 ∷ 568447511559158 ∷ 515 ∷ 2 ∷ 3 ∷ 514 ∷ 2 ∷ 1 ∷ 568447511558644 ∷ 0 ∷ []
unfolding parts_left copies_left
left_of_each = refl

one_piece_later : left_of two (AwaitsPart (at 0x400) (record place { piece = 1 }) 0 4) ≡ 566227013467126
unfolding copies_left
one_piece_later = refl

-- of a portion that is told and discarded what is copied then counts too
of_a_portion : map (left_of two) (TellsPages place named true ∷ Discards cut_5 (record discarding { further = true }) ∷ []) ≡
    568447511559157 ∷ 568447511559156 ∷ []
unfolding parts_left copies_left
of_a_portion = refl

one_descriptor_later : left_of two (AwaitsDescriptor (at 0x30) (record walk { count = 1 })) ≡ 568447511561481
unfolding copies_left
one_descriptor_later = refl

-- of the last of 256 runs no part is left after both regions, and of the one before it two
of_the_last_run : parts_left 2 255 2 ≡ 0
unfolding parts_left
of_the_last_run = refl

of_the_run_before : parts_left 2 254 2 ≡ 2
unfolding parts_left
of_the_run_before = refl

-- each chain of the budget counts
left_of_all : left two (record { tally = tally; phase = AwaitsIndex (at 0x102) }) ≡ 8 * 568447511561483 + 2
unfolding of_chains copies_left
left_of_all = refl

-- ---- what fits

-- a chain has room for 1024 bytes
to_the_end : Fits (AwaitsPart (at 0x400) place 1020 4)
to_the_end = omega arith

past_the_end : Fits (AwaitsPart (at 0x400) place 1021 4) → ⊥
past_the_end h = let e : 1025 ≤ 1024 = h in omega (arith, e)

-- a row has as much, though it is in front; of runs there are 256 at most, and of figures 102
rows_fit : Fits (AwaitsDescriptor (at 0x30) (record walk { further = 63 }))
rows_fit = omega arith

as_many_runs : Fits (TellsPages place (record named { runs = 256; pages = 300; skipped = 300 }) true)
as_many_runs = omega arith

one_run_more : Fits (TellsPages place (record named { runs = 257; pages = 1 }) false) → ⊥
one_run_more h = let e : 257 ≤ 256 = h in omega (arith, e)

as_many_figures : Fits (TellsFigures 3 102)
as_many_figures = omega arith

one_figure_more : Fits (TellsFigures 3 103) → ⊥
one_figure_more h = let e : 103 ≤ 102 = h in omega (arith, e)

-- ---- the parts that are left

-- the first of two pieces lies over the end of a page
abbrev pieces : List Piece
pieces = record { addr = 4090; len = 10; writable = false } ∷ record { addr = 16; len = 8; writable = false } ∷ []

abbrev second : Part
second = record { address = 4090; plus = 6; length = 4 }

abbrev other : Part
other = record { address = 16; plus = 0; length = 8 }

after_the_first : parts_on 6 6 pieces ≡ second ∷ other ∷ []
after_the_first = refl

after_the_second : parts_on 10 10 pieces ≡ other ∷ []
after_the_second = refl

-- bytes past a piece's end are none of its
past_its_end : parts_on 10 11 pieces ≡ other ∷ []
past_its_end = refl

-- a part ends with its portion
up_to_a_portion : parts_on 1022 6 pieces ≡ record second { length = 2 } ∷ record { address = 4090; plus = 8; length = 2 }
    ∷ other ∷ []
up_to_a_portion = refl

after_no_piece : parts_on 18 0 [] ≡ []
after_no_piece = refl

-- ---- the discards that are left

abbrev runs : List Run
runs = over_the_hole ∷ page_5 ∷ []

after_the_first_region : cuts_after 1 0 two runs ≡ cut_22 ∷ cut_5 ∷ []
after_the_first_region = refl

from_the_first_on : cuts_after 0 0 two runs ≡ cut_20 ∷ cut_22 ∷ cut_5 ∷ []
from_the_first_on = refl

after_both_regions : cuts_after 2 0 two runs ≡ cut_5 ∷ []
after_both_regions = refl

of_the_second_run : cuts_after 0 1 two runs ≡ cut_5 ∷ []
of_the_second_run = refl

after_the_second_run : cuts_after 1 1 two runs ≡ []
after_the_second_run = refl

after_all_runs : cuts_after 0 2 two runs ≡ []
after_all_runs = refl

-- the next part that is left comes before these, whichever it is
abbrev next_cut : ℕ → ℕ → NextCut
next_cut run from = record { cut = cut_20; run = run; from = from }

before_those : cuts_left two runs (Some (next_cut 0 1)) ≡ cut_20 ∷ cut_22 ∷ cut_5 ∷ []
before_those = refl

before_the_second_run : cuts_left two runs (Some (next_cut 1 0)) ≡ cut_20 ∷ cut_5 ∷ []
before_the_second_run = refl

none_left : cuts_left two runs None ≡ []
none_left = refl

-- ---- what was done

abbrev room : List ℕ → Room
room bytes = room_of [] bytes (page_5 ∷ over_the_hole ∷ []) (record { tag = 1; value = 2 } ∷ [])

reads_the_index : Does (AwaitsIndex (at 0x102)) Inflate 1 [] (room []) (index ∷ [])
reads_the_index = refl

reads_the_entry : Does (AwaitsEntry (at 0x104)) Inflate 3 [] (room []) (Acquire ∷ entry ∷ [])
reads_the_entry = refl

reads_the_flags : Does (AwaitsFlags (at 0x100) None false) Inflate 0 [] (room []) (Full ∷ flags ∷ [])
reads_the_flags = refl

-- the first of two runs alone is told, of the notice's kind
tells_one : Does (TellsPages place named false) Deflate 0 [] (room []) (TellPages Deflate (page_5 ∷ []) one_page ∷ [])
tells_one = refl

tells_a_figure : Does (TellsFigures 3 1) Inflate 0 [] (room []) (TellFigures (record { tag = 1; value = 2 } ∷ []) ∷ [])
tells_a_figure = refl

discards_it : Does (Discards cut_5 discarding) Inflate 0 [] (room []) (discard ∷ [])
discards_it = refl

gives_it_back : Does (GivesBack spots (used_entry ring 3)) Inflate 0 [] (room [])
    (id ∷ used_length ∷ Release ∷ used_index ∷ [])
gives_it_back = refl

does_nothing : Does (Ended None true false) Inflate 0 [] (room []) []
does_nothing = refl

-- bytes are copied to their place, and what is in front of it stays
copies : Does (AwaitsPart (at 0x400) place 2 4) Inflate 0 (8 ∷ 9 ∷ 7 ∷ 7 ∷ 7 ∷ 7 ∷ 6 ∷ [])
    (room (8 ∷ 9 ∷ 5 ∷ 0 ∷ 0 ∷ 0 ∷ 6 ∷ [])) (CopyBytes (at 0x400) number ∷ [])
copies = record { bytes = number; asks = refl; long = refl; joined = refl }

copies_a_descriptor : Does (AwaitsDescriptor (at 0x30) walk) Inflate 0 [] (room last_descriptor)
    (CopyBytes (at 0x30) last_descriptor ∷ [])
copies_a_descriptor = record { bytes = last_descriptor; asks = refl; long = refl; joined = refl }

-- ---- what wasn't

no_fence : Does (AwaitsEntry (at 0x104)) Inflate 3 [] (room []) (entry ∷ []) → ⊥
no_fence h = absurd cc

fence_after : Does (AwaitsEntry (at 0x104)) Inflate 3 [] (room []) (entry ∷ Acquire ∷ []) → ⊥
fence_after h = absurd cc

no_full_fence : Does (AwaitsFlags (at 0x100) None false) Inflate 0 [] (room []) (flags ∷ []) → ⊥
no_full_fence h = absurd cc

abbrev answer_of : List Access → ℕ
answer_of (ReadWord at answer ∷ xs) = answer
answer_of xs = 0

another_answer : Does (AwaitsIndex (at 0x102)) Inflate 2 [] (room []) (index ∷ []) → ⊥
another_answer h = let e : Same 1 2 = ap answer_of h in omega arith

index_twice : Does (AwaitsIndex (at 0x102)) Inflate 1 [] (room []) (index ∷ index ∷ []) → ⊥
index_twice h = absurd cc

not_discarded : Does (Discards cut_5 discarding) Inflate 0 [] (room []) [] → ⊥
not_discarded h = absurd cc

discarded_twice : Does (Discards cut_5 discarding) Inflate 0 [] (room []) (discard ∷ discard ∷ []) → ⊥
discarded_twice h = absurd cc

index_before_its_element : Does (GivesBack spots (used_entry ring 3)) Inflate 0 [] (room [])
    (used_index ∷ id ∷ used_length ∷ Release ∷ []) → ⊥
index_before_its_element h = absurd cc

told_of_another_kind : Does (TellsPages place named false) Inflate 0 [] (room []) (TellPages Deflate (page_5 ∷ []) one_page ∷ []) → ⊥
told_of_another_kind h = absurd cc

abbrev counted : List Access → ℕ
counted (TellPages kind rs n ∷ xs) = n.pages
counted xs = 0

more_counted : Does (TellsPages place named false) Inflate 0 [] (room [])
    (TellPages Inflate (page_5 ∷ []) (record one_page { pages = 2 }) ∷ []) → ⊥
more_counted h = let e : Same 2 1 = ap counted h in omega arith

abbrev told : List Access → ℕ
told (TellPages kind rs n ∷ xs) = length rs
told xs = 0

both_told : Does (TellsPages place named false) Inflate 0 [] (room []) (TellPages Inflate (page_5 ∷ over_the_hole ∷ []) one_page ∷ []) → ⊥
both_told h = let e : Same 2 1 = ap told h in omega arith

something_once_ended : Does (Ended None true false) Inflate 0 [] (room []) (discard ∷ []) → ⊥
something_once_ended h = absurd cc

-- bytes that are too few, that aren't in the room, or that are on others
abbrev copied : List Access → List ℕ
copied (CopyBytes at bytes ∷ xs) = bytes
copied xs = []

abbrev head_of : List ℕ → ℕ
head_of [] = 0
head_of (n ∷ ns) = n

too_few : Does (AwaitsPart (at 0x400) place 0 4) Inflate 0 [] (room (5 ∷ 0 ∷ [])) (CopyBytes (at 0x400) (5 ∷ 0 ∷ []) ∷ []) → ⊥
too_few h =
    let e : Same 2 (length h.bytes) = ap (λ (xs : List Access). length (copied xs)) h.asks in
    omega (arith, e, h.long)

not_in_the_room : Does (AwaitsPart (at 0x400) place 0 4) Inflate 0 [] (room (6 ∷ 0 ∷ 0 ∷ 0 ∷ []))
    (CopyBytes (at 0x400) number ∷ []) → ⊥
not_in_the_room h =
    let e : Same 5 (head_of h.bytes) = ap (λ (xs : List Access). head_of (copied xs)) h.asks in
    let stands : Same 6 (head_of h.bytes) = ap head_of h.joined in
    omega (arith, e, stands)

on_others : Does (AwaitsPart (at 0x400) place 1 1) Inflate 0 (8 ∷ []) (room (9 ∷ 5 ∷ []))
    (CopyBytes (at 0x400) (5 ∷ []) ∷ []) → ⊥
on_others h = let e : Same 9 8 = ap head_of h.joined in omega arith

-- ---- steps from one memory to another

-- a memory that is its log: an access makes of a log the one that has the access at its end
abbrev logs : List Access → Access → List Access → Type 0
logs old access new = new ≡ old ++ access ∷ []

-- whatever may follow the index, the whole may come where the index was to be read
abbrev From : List Access → Type 0
From log = log ≡ index ∷ Acquire ∷ []

steps : Steps logs (flags ∷ []) (index ∷ Acquire ∷ []) (flags ∷ index ∷ Acquire ∷ [])
steps = (flags ∷ index ∷ [], refl, (flags ∷ index ∷ Acquire ∷ [], refl, refl))

makes : Makes logs (flags ∷ []) (flags ∷ index ∷ []) (λ log. log ≡ index ∷ [])
makes = record { log = index ∷ []; steps = (flags ∷ index ∷ [], refl, refl); is = refl }

goes : GoesOn logs (flags ∷ []) (flags ∷ index ∷ []) (λ d o log. From log) (λ d o log. log ≡ Acquire ∷ [])
goes = record {
  log = index ∷ [];
  steps = (flags ∷ index ∷ [], refl, refl);
  is = λ d o rest e. ap (λ (xs : List Access). index ∷ xs) e;
}

-- no access makes no step
no_step : Steps logs (flags ∷ []) [] (flags ∷ index ∷ []) → ⊥
no_step h = let e : Same 2 1 = ap (λ (xs : List Access). length xs) h in omega arith

-- a step is the access that was made
another : Steps logs (flags ∷ []) (index ∷ []) (index ∷ index ∷ []) → ⊥
another (next, step, last) = let e : Same 1 0 = ap answer_of (last ∙ step) in omega arith
