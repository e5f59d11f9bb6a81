-- Whole notices of hints, worked out: an id is told, and page 5 is hinted, in its round or late.
use Rattle.std.proofs.Common.{◌≡◌, refl, ap, arith, ℕ, true, false, List, [], ◌∷◌, ◌++◌, Ok}
use Rattle.vb_chain.specs.declared.pieces.Piece.{Piece}
use Rattle.vb_core.specs.declared.{kinds.Kind.TheVariants.Hint, device.Device.Device, hints.Round.Round, name.Named.Named}
use Rattle.vb_core.specs.{Devices.with_one_taken, Report.NamesPiecesBy}
use Rattle.vb_core.specs.Hints.{RoundEvent, Begins, Stops, Reads, no_round, IsHeard}
use Rattle.vb_monitor.specs.declared.outcome.Outcome.{Outcome}
use Rattle.vb_monitor.specs.Accesses.{Access, CopyBytes, Acquire, Full, TellPages}
use Rattle.vb_monitor.specs.{Chains.after_id, Giving.after_use, Notices.Serves}
use Rattle.vb_monitor.specs.Rounds.{Deed, Comes, Notices, IsLife, AreHeard}
use Rattle.vb_monitor.proofs.TurnLaws.{tells_in_turn, in_order, hints_in_round}
use Rattle.vb_monitor.proofs.Samples.{Same, two, at, settings, ready, page_5, one_page, number, index, entry, descriptor, last_descriptor, part}
use Rattle.vb_monitor.proofs.Samples.{told_id, discard, flags, given, budget, outcome, flags_are_read}

-- rounds of id 5: shown, and open
abbrev of_round : ℕ → Device
of_round opened = record ready {
  settings = record settings { discards_hints = 1 };
  round = record { shown = 5; last = 5; opened = opened };
}

-- no pages were told
abbrev without_pages : Outcome
without_pages = record outcome { tally = record (outcome.tally) { pages = 256; told = 0 } }

-- a late page counts as well
abbrev late_page : Outcome
late_page = record outcome { tally = record (outcome.tally) { told = 0 } }

-- ---- an id

abbrev heard : Device
heard = after_use Hint (after_id 5 (of_round 0))

id_heard : Serves two Hint budget (of_round 0) heard without_pages
    (index ∷ Acquire ∷ entry ∷ descriptor ∷ part ∷ told_id ∷ given)
unfolding lib.Count.ones
id_heard = record {
  index = 1;
  rest = Acquire ∷ entry ∷ descriptor ∷ part ∷ told_id ∷ given;
  asks = refl;
  goes_on = record {
    head = 3;
    rest = descriptor ∷ part ∷ told_id ∷ given;
    asks = refl;
    goes_on = record {
      bytes = last_descriptor;
      rest = part ∷ told_id ∷ given;
      asks = refl;
      long = refl;
      goes_on = record {
        bytes = number;
        rest = told_id ∷ given;
        asks = refl;
        long = refl;
        goes_on = record {
          rest = given;
          asks = refl;
          goes_on = record { rest = Full ∷ flags ∷ []; asks = refl; goes_on = flags_are_read refl refl };
        };
      };
    };
  };
}

now_open : heard.round ≡ record { shown = 5; last = 5; opened = 1 }
now_open = refl

-- ---- pages

-- descriptor 3: page 5, which the device may write, and no more
abbrev bytes : List ℕ
bytes = 0 ∷ 0x50 ∷ 0 ∷ 0 ∷ 0 ∷ 0 ∷ 0 ∷ 0 ∷ 0 ∷ 0x10 ∷ 0 ∷ 0 ∷ 2 ∷ 0 ∷ 0 ∷ 0 ∷ []

abbrev of_page_5 : Access
of_page_5 = CopyBytes (at 0x30) bytes

abbrev free : Piece
free = record { addr = 0x5000; len = 0x1000; writable = true }

abbrev none_told : Named
none_told = record { runs = 0; pages = 0; skipped = 1 }

abbrev hint : Access
hint = TellPages Hint (page_5 ∷ []) one_page

abbrev late : Access
late = TellPages Hint [] none_told

names_5 : (opened : ℕ) →
    NamesPiecesBy Hint (free ∷ []) 256 (page_5 ∷ []) (of_round opened) (with_one_taken Hint (of_round opened)) (Ok one_page)
unfolding lib.Count.ones
names_5 opened = record {
  denied = λ why e. absurd cc;
  answer = λ e. refl;
  device = λ e. refl;
  runs_are = λ ok. refl;
}

-- while the round is open they are told, and discarded as the settings say
hinted : Serves two Hint budget (of_round 1) (after_use Hint (with_one_taken Hint (of_round 1))) outcome
    (index ∷ Acquire ∷ entry ∷ of_page_5 ∷ hint ∷ discard ∷ given)
unfolding lib.Count.ones
hinted = record {
  index = 1;
  rest = Acquire ∷ entry ∷ of_page_5 ∷ hint ∷ discard ∷ given;
  asks = refl;
  goes_on = record {
    head = 3;
    rest = of_page_5 ∷ hint ∷ discard ∷ given;
    asks = refl;
    goes_on = record {
      bytes = bytes;
      rest = hint ∷ discard ∷ given;
      asks = refl;
      long = refl;
      goes_on = record {
        answer = Ok one_page;
        runs = page_5 ∷ [];
        device = with_one_taken Hint (of_round 1);
        names = names_5 1;
        goes_on = record {
          rest = discard ∷ given;
          asks = refl;
          goes_on = record {
            rest = given;
            asks = refl;
            goes_on = record { rest = Full ∷ flags ∷ []; asks = refl; goes_on = flags_are_read refl refl };
          };
        };
      };
    };
  };
}

-- while it isn't, none is told or discarded, and one counts as late
hinted_late : Serves two Hint budget (of_round 0) (after_use Hint (with_one_taken Hint (of_round 0))) late_page
    (index ∷ Acquire ∷ entry ∷ of_page_5 ∷ late ∷ given)
unfolding lib.Count.ones
hinted_late = record {
  index = 1;
  rest = Acquire ∷ entry ∷ of_page_5 ∷ late ∷ given;
  asks = refl;
  goes_on = record {
    head = 3;
    rest = of_page_5 ∷ late ∷ given;
    asks = refl;
    goes_on = record {
      bytes = bytes;
      rest = late ∷ given;
      asks = refl;
      long = refl;
      goes_on = record {
        answer = Ok one_page;
        runs = page_5 ∷ [];
        device = with_one_taken Hint (of_round 0);
        names = names_5 0;
        goes_on = record {
          rest = given;
          asks = refl;
          goes_on = record {
            rest = given;
            asks = refl;
            goes_on = record { rest = Full ∷ flags ∷ []; asks = refl; goes_on = flags_are_read refl refl };
          };
        };
      };
    };
  };
}

-- ---- what isn't done, whatever the device and the outcome are then

abbrev IsServed : Device → List Access → Type 0
IsServed d1 log = (d2 : Device) × ((o : Outcome) × Serves two Hint budget d1 d2 o log)

told_late : IsServed (of_round 0) (index ∷ Acquire ∷ entry ∷ of_page_5 ∷ hint ∷ discard ∷ given) → ⊥
told_late (d, (o, h)) =
    let e = (hints_in_round two Hint budget (of_round 0) d o _ h).1.1.1.1.0 refl in absurd cc

discarded_late : IsServed (of_round 0) (index ∷ Acquire ∷ entry ∷ of_page_5 ∷ late ∷ discard ∷ given) → ⊥
discarded_late (d, (o, h)) = absurd (tells_in_turn two Hint budget (of_round 0) d o _ h).1.1.1.1.1.0

not_discarded : IsServed (of_round 1) (index ∷ Acquire ∷ entry ∷ of_page_5 ∷ hint ∷ given) → ⊥
not_discarded (d, (o, h)) =
    let e = (tells_in_turn two Hint budget (of_round 1) d o _ h).1.1.1.1.1.0 in absurd cc

-- hints are kept where the settings don't discard them
abbrev keeping : Device
keeping = record (of_round 1) { settings = settings }

discarded_although_kept : IsServed keeping (index ∷ Acquire ∷ entry ∷ of_page_5 ∷ hint ∷ discard ∷ given) → ⊥
discarded_although_kept (d, (o, h)) =
    absurd (tells_in_turn two Hint budget keeping d o _ h).1.1.1.1.1.0

-- the id untold
id_untold : IsServed (of_round 0) (index ∷ Acquire ∷ entry ∷ descriptor ∷ part ∷ given) → ⊥
id_untold (d, (o, h)) =
    let e : false ≡ true = (in_order two Hint budget (of_round 0) d o _ h).1.1.1.1.1.0 in absurd cc

-- ---- a life: a round begins, its id is read, and page 5 is hinted

abbrev id_log : List Access
id_log = index ∷ Acquire ∷ entry ∷ descriptor ∷ part ∷ told_id ∷ given

abbrev hint_log : List Access
hint_log = index ∷ Acquire ∷ entry ∷ of_page_5 ∷ hint ∷ discard ∷ given

abbrev pub hints : Deed
hints = Notices two Hint budget (of_round 1) (after_use Hint (with_one_taken Hint (of_round 1))) outcome hint_log

life : IsLife no_round (Comes (Begins 5) ∷ Notices two Hint budget (of_round 0) heard without_pages id_log ∷ hints ∷ [])
life = (refl, (refl, id_heard, (refl, hinted, tt)))

-- an id comes by a notice alone, and each notice finds the round as it was left
id_by_itself : IsLife no_round (Comes (Reads 5) ∷ []) → ⊥
id_by_itself h = let e = h.0 in absurd cc

of_no_round : IsLife no_round (hints ∷ []) → ⊥
of_no_round h = let e : Same 5 0 = ap (λ (r : Round). r.shown) h.0 in omega arith

of_a_stopped_round : IsLife no_round (Comes (Begins 5) ∷ Notices two Hint budget (of_round 0) heard without_pages id_log
    ∷ Comes Stops ∷ hints ∷ []) → ⊥
of_a_stopped_round h = let e : Same 5 0 = ap (λ (r : Round). r.shown) h.1.2.1.0 in omega arith

-- what was hinted was heard where its round began and its id was read, and not where neither came
pub began_nowhere : (before rest : List RoundEvent) → [] ≡ before ++ (Begins 5 ∷ rest) → ⊥
began_nowhere [] rest e = absurd cc
began_nowhere (x ∷ xs) rest e = absurd cc

pub unheard : AreHeard [] (hints ∷ []) → ⊥
unheard h =
    let of_it = h.0.1.1.1.1.0 (λ e. absurd cc) in
    began_nowhere of_it.before (of_it.unheard ++ (Reads 5 ∷ of_it.since)) of_it.whole

heard_5 : IsHeard 5 (Begins 5 ∷ Reads 5 ∷ [])
heard_5 = record {
  before = [];
  unheard = [];
  since = [];
  whole = refl;
  only_ids = refl;
  only_its_own = refl;
}

was_heard : AreHeard (Begins 5 ∷ Reads 5 ∷ []) (hints ∷ [])
was_heard = (
  (tt, (tt, (tt, (tt, (λ some. heard_5, (tt, (tt, (tt, (tt, (tt, (tt, (tt, tt)))))))))))),
  tt,
)
