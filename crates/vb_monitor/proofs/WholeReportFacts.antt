-- A whole notice of a report, worked out: page 5 is free. It is told and discarded, or told and kept.
use Rattle.std.proofs.Common.{refl, ℕ, true, List, [], ◌∷◌, Ok}
use Rattle.vb_chain.specs.declared.pieces.Piece.{Piece}
use Rattle.vb_core.specs.declared.{kinds.Kind.TheVariants.Report, device.Device.Device, runs.Run.Run, name.Named.Named}
use Rattle.vb_core.specs.{Devices.with_one_taken, Report.NamesPiecesBy}
use Rattle.vb_monitor.proofs.Samples.{two, at, settings, ready, tally, page_5, cut_5, one_page, index, entry, part, discard}
use Rattle.vb_monitor.specs.Accesses.{Access, CopyBytes, Acquire, Release, Full, TellPages, Discard}
use Rattle.vb_monitor.{proofs.Samples.{flags_are_read, id, used_length, used_index, flags, given, budget, outcome}, specs.Giving.after_use}
use Rattle.vb_monitor.{proofs.TurnLaws.{reads_in_turn, tells_in_turn}, specs.Notices.Serves}
use Rattle.vb_monitor.{specs.declared.outcome.Outcome.Outcome}
use Rattle.vb_monitor.{specs.Chains.ServesPieces, proofs.AheadFacts.over}

-- descriptor 3: page 5, which the device may write, and no more
abbrev bytes : List ℕ
bytes = 0 ∷ 0x50 ∷ 0 ∷ 0 ∷ 0 ∷ 0 ∷ 0 ∷ 0 ∷ 0 ∷ 0x10 ∷ 0 ∷ 0 ∷ 2 ∷ 0 ∷ 0 ∷ 0 ∷ []

abbrev free : Piece
free = record { addr = 0x5000; len = 0x1000; writable = true }

abbrev descriptor : Access
descriptor = CopyBytes (at 0x30) bytes

abbrev told : Access
told = TellPages Report (page_5 ∷ []) one_page

abbrev taken : Device → Device
taken d = with_one_taken Report d

abbrev used : Device → Device
used d = after_use Report (taken d)

-- ---- one that is discarded

names_it : NamesPiecesBy Report (free ∷ []) 256 (page_5 ∷ []) ready (taken ready) (Ok one_page)
unfolding lib.Count.ones
names_it = record {
  denied = λ why e. absurd cc;
  answer = λ e. refl;
  device = λ e. refl;
  runs_are = λ ok. refl;
}

reported : Serves two Report budget ready (used ready) outcome
    (index ∷ Acquire ∷ entry ∷ descriptor ∷ told ∷ discard ∷ given)
unfolding lib.Count.ones
reported = record {
  index = 1;
  rest = Acquire ∷ entry ∷ descriptor ∷ told ∷ discard ∷ given;
  asks = refl;
  goes_on = record {
    head = 3;
    rest = descriptor ∷ told ∷ discard ∷ given;
    asks = refl;
    goes_on = record {
      bytes = bytes;
      rest = told ∷ discard ∷ given;
      asks = refl;
      long = refl;
      goes_on = record {
        answer = Ok one_page;
        runs = page_5 ∷ [];
        device = taken ready;
        names = names_it;
        goes_on = record {
          rest = discard ∷ given;
          asks = refl;
          goes_on = record {
            rest = given;
            asks = refl;
            goes_on = record { rest = Full ∷ flags ∷ []; asks = refl; goes_on = flags_are_read refl refl };
          };
        };
      };
    };
  };
}

-- ---- one that is kept

-- a driver that poisons its free pages
abbrev poisoned : Device
poisoned =
    record ready { settings = record settings { offered = 0x10000003f }; features = 0x10000003f; poison = 7 }

names_it_too : NamesPiecesBy Report (free ∷ []) 256 (page_5 ∷ []) poisoned (taken poisoned) (Ok one_page)
unfolding lib.Count.ones
names_it_too = record {
  denied = λ why e. absurd cc;
  answer = λ e. refl;
  device = λ e. refl;
  runs_are = λ ok. refl;
}

kept : Serves two Report budget poisoned (used poisoned) outcome
    (index ∷ Acquire ∷ entry ∷ descriptor ∷ told ∷ given)
unfolding lib.Count.ones
kept = record {
  index = 1;
  rest = Acquire ∷ entry ∷ descriptor ∷ told ∷ given;
  asks = refl;
  goes_on = record {
    head = 3;
    rest = descriptor ∷ told ∷ given;
    asks = refl;
    goes_on = record {
      bytes = bytes;
      rest = told ∷ given;
      asks = refl;
      long = refl;
      goes_on = record {
        answer = Ok one_page;
        runs = page_5 ∷ [];
        device = taken poisoned;
        names = names_it_too;
        goes_on = record {
          rest = given;
          asks = refl;
          goes_on = record {
            rest = given;
            asks = refl;
            goes_on = record { rest = Full ∷ flags ∷ []; asks = refl; goes_on = flags_are_read refl refl };
          };
        };
      };
    };
  };
}

-- ---- what isn't done, whatever the device and the outcome are then

abbrev IsServed : Device → List Access → Type 0
IsServed d1 log = (d2 : Device) × ((o : Outcome) × Serves two Report budget d1 d2 o log)

discarded_although_poisoned : IsServed poisoned (index ∷ Acquire ∷ entry ∷ descriptor ∷ told ∷ discard ∷ given) → ⊥
discarded_although_poisoned (d, (o, h)) =
    absurd (tells_in_turn two Report budget poisoned d o _ h).1.1.1.1.1.0

not_discarded : IsServed ready (index ∷ Acquire ∷ entry ∷ descriptor ∷ told ∷ given) → ⊥
not_discarded (d, (o, h)) =
    let e = (tells_in_turn two Report budget ready d o _ h).1.1.1.1.1.0 in absurd cc

-- the page itself is read
page_read : IsServed ready (index ∷ Acquire ∷ entry ∷ descriptor ∷ part ∷ told ∷ discard ∷ given) → ⊥
page_read (d, (o, h)) = absurd (reads_in_turn two Report budget ready d o _ h).1.1.1.1.0

-- ---- one of two pieces: a run for each

abbrev free_8 : Piece
free_8 = record free { addr = 0x8000 }

abbrev page_8 : Run
page_8 = record { first = 8; count = 1 }

abbrev two_pages : Named
two_pages = record { runs = 2; pages = 2; skipped = 0 }

both_named : NamesPiecesBy Report (free ∷ free_8 ∷ []) 256 (page_5 ∷ page_8 ∷ []) ready (taken ready) (Ok two_pages)
unfolding lib.Count.ones
both_named = record {
  denied = λ why e. absurd cc;
  answer = λ e. refl;
  device = λ e. refl;
  runs_are = λ ok. refl;
}

abbrev back : List Access
back = id ∷ used_length ∷ Release ∷ used_index ∷ []

abbrev discards : List Access
discards = discard ∷ Discard (record cut_5 { offset = 0x8000; in_file = 0x8000 }) ∷ back

both_told : (o : Outcome) → ServesPieces Report (over Report ready o) (λ d t log. Unit {0}) ready tally 3 (free ∷ free_8 ∷ [])
    (TellPages Report (page_5 ∷ page_8 ∷ []) two_pages ∷ discards)
unfolding lib.Count.ones
both_told o = record {
  answer = Ok two_pages;
  runs = page_5 ∷ page_8 ∷ [];
  device = taken ready;
  names = both_named;
  goes_on = record {
    rest = discards;
    asks = refl;
    goes_on = record {
      rest = back;
      asks = refl;
      goes_on = record { rest = []; asks = refl; goes_on = tt };
    };
  };
}
