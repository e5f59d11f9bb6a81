-- What is done at once, worked out, and what isn't.
use Rattle.vb_monitor.specs.declared.room.Room.{Room}
use Rattle.std.proofs.Common.{◌≡◌, ◌≤◌, refl, arith, ℕ, true, false, List, [], ◌∷◌}
use Rattle.vb_core.specs.declared.kinds.Kind.TheVariants.{Inflate, Statistics, Hint}
use Rattle.vb_core.{specs.declared.runs.Run.Run, specs.declared.statistics.Statistic.Statistic}
use Rattle.vb_monitor.specs.Accesses.{Access, ReadWord, Acquire, TellPages, TellFigures, TellId, Discard}
use Rattle.vb_monitor.specs.{Accesses.{WriteNumber, WriteWord, Release}, declared.regions.Spot.Spot}
use Rattle.vb_monitor.specs.declared.{cuts.Cut.Cut, orders.Told.TheVariants.{Nothing, Pages}}
use Rattle.vb_monitor.specs.declared.orders.{Told.TheVariants.{Figures, Id}, Asked.Asked, Orders.Orders}
use Rattle.vb_monitor.specs.{declared.step.Phase.Phase, Machine.{Awaited, waits}}
use Rattle.vb_monitor.specs.declared.step.Phase.TheVariants.{AwaitsIndex, Discards}
use Rattle.vb_monitor.specs.Orders.{at_once, HasRoom, FillsList}

abbrev spot : ℕ → Spot
spot n = record { region = 0; offset = n }

abbrev cut : ℕ → Cut
cut n = record { region = 0; offset = n; in_file = n; length = 4096 }

abbrev runs : List Run
runs = record { first = 1; count = 1 } ∷ record { first = 3; count = 1 } ∷ []

abbrev orders : Orders
orders = record {
  named = record { runs = 1; pages = 1; skipped = 3 };
  figures = 1;
  cuts = 2;
  kept = 0;
  waits = 0;
  hint_id = 6;
  used = record {
    spots = record { id = spot 8; length = spot 12; index = spot 2 };
    id = 5;
    length = 0;
    index = 7;
  };
}

abbrev figures : List Statistic
figures = record { tag = 4; value = 9 } ∷ record { tag = 5; value = 0 } ∷ []

abbrev cuts : List Cut
cuts = cut 4096 ∷ cut 8192 ∷ cut 12288 ∷ []

abbrev read : List Access
read = ReadWord (spot 2) 1 ∷ []

-- pages are told, two parts are discarded, and a chain is given back; then the next entry is read
all_of_them : at_once (record { told = Pages; gives = true }) Inflate orders cuts runs figures
    (Acquire ∷ ReadWord (spot 6) 3 ∷ []) ≡
    TellPages Inflate (record { first = 1; count = 1 } ∷ []) (record { runs = 1; pages = 1; skipped = 3 })
    ∷ Discard (cut 4096) ∷ Discard (cut 8192)
    ∷ WriteNumber (spot 8) 5 ∷ WriteNumber (spot 12) 0 ∷ Release ∷ WriteWord (spot 2) 7
    ∷ Acquire ∷ ReadWord (spot 6) 3 ∷ []
all_of_them = refl

-- one run of two pages is told as one run
one_run_of_two : at_once (record { told = Pages; gives = false }) Inflate
    (record orders { named = record { runs = 1; pages = 2; skipped = 0 }; cuts = 0 }) cuts runs figures [] ≡
    TellPages Inflate (record { first = 1; count = 1 } ∷ []) (record { runs = 1; pages = 2; skipped = 0 }) ∷ []
one_run_of_two = refl

figures_alone : at_once (record { told = Figures; gives = false }) Statistics
    (record orders { cuts = 0 }) cuts runs figures [] ≡
    TellFigures (record { tag = 4; value = 9 } ∷ []) ∷ []
figures_alone = refl

-- an id is told, and its chain given back
an_id : at_once (record { told = Id; gives = true }) Hint (record orders { cuts = 0 }) cuts runs figures [] ≡
    TellId 6 ∷ WriteNumber (spot 8) 5 ∷ WriteNumber (spot 12) 0 ∷ Release ∷ WriteWord (spot 2) 7 ∷ []
an_id = refl

nothing_at_all : at_once (record { told = Nothing; gives = false }) Inflate
    (record orders { cuts = 0 }) cuts runs figures read ≡ read
nothing_at_all = refl

-- no discard is left out, and none comes after the element
not_one_less : at_once (record { told = Nothing; gives = false }) Inflate orders cuts runs figures [] ≡
    Discard (cut 4096) ∷ [] → ⊥
not_one_less e = grind arith

not_the_other_way : at_once (record { told = Nothing; gives = true }) Inflate
    (record orders { cuts = 1 }) cuts runs figures [] ≡ WriteNumber (spot 8) 5
    ∷ WriteNumber (spot 12) 0 ∷ Release ∷ WriteWord (spot 2) 7 ∷ Discard (cut 4096) ∷ [] → ⊥
not_the_other_way e = grind arith

-- ---- what a notice waits for

abbrev discards : Phase
discards = Discards (cut 4096) (record {
  place = record { head = 0; count = 1; piece = 1; done = 0 };
  further = false;
  runs = 1;
  run = 0;
  from = 1;
})

abbrev room : Room
room = record { pieces = []; bytes = []; runs = runs; figures = [] }

index_awaited : Awaited (AwaitsIndex (spot 2)) Inflate 1 [] room read
index_awaited = refl

not_unread : Awaited (AwaitsIndex (spot 2)) Inflate 1 [] room [] → ⊥
not_unread e = grind arith

-- a part for which there was no room isn't discarded yet
not_yet : Awaited discards Inflate 1 [] room []
not_yet = refl

not_already : Awaited discards Inflate 1 [] room (Discard (cut 4096) ∷ []) → ⊥
not_already e = grind arith

waits_for_room : waits discards ≡ true
waits_for_room = refl

-- ---- there is room: 256 runs, 102 figures, 256 parts

abbrev by_pages : Asked
by_pages = record { told = Pages; gives = true }

abbrev by_figures : Asked
by_figures = record { told = Figures; gives = false }

abbrev naming : ℕ → Orders
naming n = record orders { named = record { runs = n; pages = n; skipped = 0 } }

as_many_runs : HasRoom by_pages (naming 256)
as_many_runs = record { runs = λ e. omega arith; figures = λ e. cc; cuts = omega arith }

-- a run may have more pages than there are runs
many_pages : HasRoom by_pages (record orders { named = record { runs = 256; pages = 300; skipped = 0 } })
many_pages = record { runs = λ e. omega arith; figures = λ e. cc; cuts = omega arith }

one_run_more : HasRoom by_pages (naming 257) → ⊥
one_run_more h = let few : 257 ≤ 256 = h.runs refl in omega (arith, few)

as_many_figures : HasRoom by_figures (record orders { figures = 102; cuts = 256 })
as_many_figures = record { runs = λ e. cc; figures = λ e. omega arith; cuts = omega arith }

one_figure_more : HasRoom by_figures (record orders { figures = 103 }) → ⊥
one_figure_more h = let few : 103 ≤ 102 = h.figures refl in omega (arith, few)

one_part_more : HasRoom by_figures (record orders { cuts = 257 }) → ⊥
one_part_more h = let few : 257 ≤ 256 = h.cuts in omega (arith, few)

-- ---- none is left while there is room

a_full_list : FillsList discards (record orders { cuts = 256 })
a_full_list = record { full = λ e. refl }

left_with_room : FillsList discards (record orders { cuts = 255 }) → ⊥
left_with_room h = let e : 255 ≡ 256 = h.full refl in omega (arith, e)

none_is_left : FillsList (AwaitsIndex (spot 2)) (record orders { cuts = 0 })
none_is_left = record { full = λ e. absurd (grind arith) }
