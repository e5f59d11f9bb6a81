-- What may still come where something is told, discarded or given back, and where a notice ends,
-- worked out.
use Rattle.vb_monitor.proofs.Samples.{room_of}
use Rattle.vb_monitor.specs.declared.room.Room.{Room}
use Rattle.std.proofs.Common.{◌≡◌, refl, ap, arith, ℕ, Bool, true, false, List, [], ◌∷◌, length, Some, None}
use Rattle.vb_chain.specs.declared.fault.ChainFault.TheVariants.{BadHead}
use Rattle.vb_core.specs.declared.kinds.Kind.{Kind, TheVariants.{Inflate, Deflate, Statistics}}
use Rattle.vb_core.specs.declared.{statistics.Statistic.Statistic, device.Device.Device}
use Rattle.vb_core.specs.declared.device.Denial.TheVariants.{Broken, NotReady, NeedsReset}
use Rattle.vb_core.specs.{Rings.used_entry, Devices.needing_reset}
use Rattle.vb_monitor.specs.declared.outcome.Outcome.{Outcome}
use Rattle.vb_monitor.specs.declared.step.{Discarding.Discarding, Place.Place, Phase.Phase}
use Rattle.vb_monitor.specs.declared.step.Phase.TheVariants.{AwaitsIndex, TellsPages, TellsFigures, Discards, GivesBack, AwaitsFlags, Ended}
use Rattle.vb_monitor.specs.declared.giving.UsedSpots.{UsedSpots}
use Rattle.vb_monitor.specs.Accesses.{Access, ReadWord, Acquire, Release, Full, TellPages, TellFigures, Discard}
use Rattle.vb_monitor.specs.{Ends.Whole, Giving.{after_use, with_given}, Machine.{AheadAt, Ahead, AwaitedBy, Awaited, Does, is_discarding}}
use Rattle.vb_monitor.proofs.Samples.{Same, at, ring, ready, tally, page_5, over_the_hole, cut_5, cut_20, cut_22, one_page, two}
use Rattle.vb_monitor.proofs.Samples.{flags_are_read, chain_of, index, discard, id, used_length, used_index, flags, given}
use Rattle.vb_monitor.proofs.AheadFacts.{over, ends, empty, publishing, word_at}

-- ---- pages: of the room's two runs n are told, and discarded

abbrev two_runs : Room
two_runs = room_of [] [] (page_5 ∷ over_the_hole ∷ []) []

abbrev used : Device
used = after_use Inflate ready

-- the chain is given back, and no other one is there
abbrev last : Whole
last = over Inflate used (ends (with_given tally) None true false)

abbrev place : Place
place = record { head = 3; count = 1; piece = 1; done = 0 }

-- the first run alone, however many pages it is said to have
told : (n : ℕ) → AheadAt (TellsPages place (record one_page { pages = n }) false) last tally ready two_runs
    (TellPages Inflate (page_5 ∷ []) (record one_page { pages = n }) ∷ discard ∷ given)
unfolding lib.Count.ones
told n = record {
  rest = discard ∷ given;
  asks = refl;
  goes_on = record {
    rest = given;
    asks = refl;
    goes_on = record { rest = Full ∷ flags ∷ []; asks = refl; goes_on = flags_are_read refl refl };
  };
}

untold : (w : Whole) (rest : List Access) → AheadAt (TellsPages place one_page false) w tally ready two_runs (discard ∷ rest) → ⊥
untold w rest h = let e = h.asks in absurd cc

abbrev runs_told : List Access → ℕ
runs_told (TellPages kind runs named ∷ xs) = length runs
runs_told xs = 0

both_told : (w : Whole) (rest : List Access) → AheadAt (TellsPages place one_page false) w tally ready two_runs
    (TellPages w.kind (page_5 ∷ over_the_hole ∷ []) one_page ∷ rest) → ⊥
both_told w rest h = let e : Same 2 1 = ap runs_told h.asks in omega arith

-- ---- figures: of the room's two n are told, and no answer comes

abbrev figure : ℕ → Statistic
figure tag = record { tag = tag; value = 7 }

abbrev two_figures : Room
two_figures = room_of [] [] [] (figure 4 ∷ figure 5 ∷ [])

one_figure : AheadAt (TellsFigures 3 1) (over Statistics ready (ends tally None false false)) tally ready two_figures
    (TellFigures (figure 4 ∷ []) ∷ [])
one_figure = record { rest = []; asks = refl; ends = record { nothing = refl; device = refl; outcome = refl } }

figures_untold : (w : Whole) → AheadAt (TellsFigures 3 1) w tally ready two_figures [] → ⊥
figures_untold w h = let e = h.asks in absurd cc

abbrev figures_told : List Access → ℕ
figures_told (TellFigures figures ∷ xs) = length figures
figures_told xs = 0

both_figures : (w : Whole) (rest : List Access) →
    AheadAt (TellsFigures 3 1) w tally ready two_figures (TellFigures (figure 4 ∷ figure 5 ∷ []) ∷ rest) → ⊥
both_figures w rest h = let e : Same 2 1 = ap figures_told h.asks in omega arith

-- ---- discards: of the first run's two parts the second one is left, and a second run's if it is
-- one

abbrev discarding : ℕ → Discarding
discarding runs = record { place = place; further = false; runs = runs; run = 0; from = 1 }

abbrev over_then_5 : Room
over_then_5 = room_of [] [] (over_the_hole ∷ page_5 ∷ []) []

both_parts : AheadAt (Discards cut_20 (discarding 1)) last tally ready over_then_5 (Discard cut_20 ∷ Discard cut_22 ∷ given)
unfolding lib.Count.ones
both_parts = record {
  rest = given;
  asks = refl;
  goes_on = record { rest = Full ∷ flags ∷ []; asks = refl; goes_on = flags_are_read refl refl };
}

both_runs : AheadAt (Discards cut_20 (discarding 2)) last tally ready over_then_5
    (Discard cut_20 ∷ Discard cut_22 ∷ discard ∷ given)
unfolding lib.Count.ones
both_runs = record {
  rest = given;
  asks = refl;
  goes_on = record { rest = Full ∷ flags ∷ []; asks = refl; goes_on = flags_are_read refl refl };
}

first_part_alone : (w : Whole) (rest : List Access) → AheadAt (Discards cut_20 (discarding 1)) (record w { regions = two }) tally
    ready over_then_5 (Discard cut_20 ∷ id ∷ rest) → ⊥
first_part_alone w rest h = let e = h.asks in absurd cc

first_run_alone : (w : Whole) (rest : List Access) → AheadAt (Discards cut_20 (discarding 2)) (record w { regions = two }) tally
    ready over_then_5 (Discard cut_20 ∷ Discard cut_22 ∷ id ∷ rest) → ⊥
first_run_alone w rest h = let e = h.asks in absurd cc

second_part_alone : (w : Whole) (rest : List Access) → AheadAt (Discards cut_20 (discarding 1)) (record w { regions = two })
    tally ready over_then_5 (id ∷ rest) → ⊥
second_part_alone w rest h = let e = h.asks in absurd cc

-- ---- a chain is given back, and the next one comes as the index says that was read

abbrev spots : UsedSpots
spots = record { id = at 0x204; length = at 0x208; index = at 0x202 }

abbrev gives : Phase
gives = GivesBack spots (used_entry ring 3)

given_back : AheadAt gives (over Inflate ready (ends (with_given tally) None true false)) tally ready empty given
given_back = record { rest = Full ∷ flags ∷ []; asks = refl; goes_on = flags_are_read refl refl }

-- one more is served where the budget has one
next_one : AheadAt gives
    (over Inflate (needing_reset ready) (ends (with_given (publishing 0)) (Some (Broken BadHead)) true false)) (publishing 1)
    ready empty (id ∷ used_length ∷ Release ∷ used_index ∷ Acquire ∷ ReadWord (at 0x104) 8 ∷ Full ∷ flags ∷ [])
next_one = record {
  rest = Acquire ∷ ReadWord (at 0x104) 8 ∷ Full ∷ flags ∷ [];
  asks = refl;
  goes_on = record {
    head = 8;
    rest = Full ∷ flags ∷ [];
    asks = refl;
    goes_on = flags_are_read refl refl;
  };
}

no_budget : AheadAt gives (over Inflate ready (ends (with_given (publishing 0)) None true true)) (publishing 0) ready empty given
no_budget = record { rest = Full ∷ flags ∷ []; asks = refl; goes_on = flags_are_read refl refl }

-- after one that was held none does
asked_for : AheadAt gives (over Deflate ready (ends (with_given (record (publishing 1) { held = chain_of 3 2 })) None true false))
    (record (publishing 1) { held = chain_of 3 2 }) ready empty given
asked_for = record { rest = Full ∷ flags ∷ []; asks = refl; goes_on = flags_are_read refl refl }

nothing_given : (w : Whole) (rest : List Access) → AheadAt gives w tally ready empty (Full ∷ flags ∷ rest) → ⊥
nothing_given w rest h = let e = h.asks in absurd cc

-- ---- the flags, and the end

abbrev wanted : Bool → Outcome
wanted interrupt = ends tally (Some NotReady) interrupt true

flags_read : AheadAt (AwaitsFlags (at 0x100) (Some NotReady) true) (over Inflate ready (wanted true)) tally ready empty
    (Full ∷ flags ∷ [])
flags_read = flags_are_read refl refl

flags_unread : (w : Whole) → AheadAt (AwaitsFlags (at 0x100) None false) w tally ready empty [] → ⊥
flags_unread w h = let e = h.asks in absurd cc

index_in_its_place : (w : Whole) (rest : List Access) →
    AheadAt (AwaitsFlags (at 0x100) None false) w tally ready empty (Full ∷ index ∷ rest) → ⊥
index_in_its_place w rest h = let e : Same 0x102 0x100 = ap word_at h.asks in omega arith

has_ended : AheadAt (Ended (Some NotReady) false true) (over Inflate ready (wanted false)) tally ready empty []
has_ended = record { nothing = refl; device = refl; outcome = refl }

goes_on_then : (w : Whole) (x : Access) (rest : List Access) →
    AheadAt (Ended None false false) w tally ready empty (x ∷ rest) → ⊥
goes_on_then w x rest h = let e = h.nothing in absurd cc

with_an_interrupt : AheadAt (Ended (Some NotReady) false true) (over Inflate ready (wanted true)) tally ready empty [] → ⊥
with_an_interrupt h = let e = ap (λ (o : Outcome). o.interrupt) h.outcome in absurd cc

for_another_reason : AheadAt (Ended (Some NeedsReset) false true) (over Inflate ready (wanted false)) tally ready empty [] → ⊥
for_another_reason h = let e = ap (λ (o : Outcome). o.why) h.outcome in absurd cc

says_no_more : AheadAt (Ended (Some NotReady) false false) (over Inflate ready (wanted false)) tally ready empty [] → ⊥
says_no_more h = let e = ap (λ (o : Outcome). o.more) h.outcome in absurd cc

-- a step says both: what is to be done, and what was counted
of_a_step : Ahead (over Inflate ready (wanted false)) (record { tally = tally; phase = Ended (Some NotReady) false true }) ready
    empty []
of_a_step = record { nothing = refl; device = refl; outcome = refl }

of_another_tally : Ahead (over Inflate ready (wanted false))
    (record { tally = with_given tally; phase = Ended (Some NotReady) false true }) ready empty [] → ⊥
of_another_tally h = let e = ap (λ (o : Outcome). o.tally.given) h.outcome in absurd cc

something_done : (w : Whole) → Ahead w (record { tally = tally; phase = Ended None false false }) ready empty (discard ∷ []) → ⊥
something_done w h = let e = h.nothing in absurd cc

-- ---- what an answer was awaited for: a discard waits for none

abbrev discards : Phase
discards = Discards cut_5 (discarding 1)

-- in each phase, of each kind and in each room
as_it_is_done : (phase : Phase) (kind : Kind) (answer : ℕ) (before : List ℕ) (room : Room) (done : List Access)
    → is_discarding phase ≡ false → Awaited phase kind answer before room done ≡ Does phase kind answer before room done
as_it_is_done phase kind answer before room done e = ap (λ (b : Bool). AwaitedBy b phase kind answer before room done) e

nothing_of_parts : (phase : Phase) (kind : Kind) (answer : ℕ) (before : List ℕ) (room : Room) (done : List Access)
    → is_discarding phase ≡ true → Awaited phase kind answer before room done ≡ (done ≡ [])
nothing_of_parts phase kind answer before room done e = ap (λ (b : Bool). AwaitedBy b phase kind answer before room done) e

none_awaited : Awaited discards Inflate 0 [] empty []
none_awaited = refl

discard_awaited : Awaited discards Inflate 0 [] empty (discard ∷ []) → ⊥
discard_awaited h = absurd cc

index_awaited : Awaited (AwaitsIndex (at 0x102)) Inflate 1 [] empty (index ∷ [])
index_awaited = refl

no_index_awaited : Awaited (AwaitsIndex (at 0x102)) Inflate 1 [] empty [] → ⊥
no_index_awaited h = absurd cc

whatever_is_next : AwaitedBy true (AwaitsIndex (at 0x102)) Inflate 1 [] empty (index ∷ []) → ⊥
whatever_is_next h = absurd cc

done_at_once : AwaitedBy false discards Inflate 0 [] empty [] → ⊥
done_at_once h = absurd cc

-- of two runs or figures that are in the room the first one is told
one_run_told : Awaited (TellsPages place (record one_page { pages = 2 }) false) Inflate 0 [] two_runs
    (TellPages Inflate (page_5 ∷ []) (record one_page { pages = 2 }) ∷ [])
one_run_told = refl

one_figure_told : Awaited (TellsFigures 3 1) Statistics 0 [] two_figures (TellFigures (figure 4 ∷ []) ∷ [])
one_figure_told = refl
