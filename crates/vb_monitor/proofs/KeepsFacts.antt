-- Notices that keep all pages, worked out: what they name is told, and nothing is discarded.
use Rattle.std.proofs.Common.{◌≡◌, refl, ap, subst, Bool, true, false, List, [], ◌∷◌, map, None, Ok}
use Rattle.vb_core.specs.declared.kinds.Kind.{Kind}
use Rattle.vb_core.specs.declared.kinds.Kind.TheVariants.{Inflate, Deflate, Statistics, Hint, Report}
use Rattle.vb_core.{specs.declared.device.Device.Device}
use Rattle.vb_monitor.specs.declared.{cuts.Cut.Cut, outcome.{Budget.Budget, Outcome.Outcome, Tally.Tally}}
use Rattle.vb_core.specs.declared.runs.Run.{Run}
use Rattle.vb_monitor.specs.Accesses.{Access, ReadWord, CopyBytes, Acquire, Release, Full, TellPages, TellFigures, TellId, Pause, Discard, WriteNumber, WriteWord}
use Rattle.vb_monitor.specs.{Ends.Whole, Notices.{Serves, fresh, with_chains}, SoFar.{left, without_first}}
use Rattle.vb_monitor.specs.Giving.{Then, is_kept, kept_pages, cuts_for, with_given, spent, after_use, TellsThen}
use Rattle.vb_monitor.{specs.Turns.{TellsInTurn, IsNext}, proofs.TurnLaws.tells_in_turn, proofs.TurnLaws.in_order}
use Rattle.vb_monitor.proofs.Samples.{two, at, ready, tally, page_5, one_page, pages, discard, id, used_length, used_index}
use Rattle.vb_monitor.proofs.Samples.{flags_are_read, index, entry, descriptor, part, number, last_descriptor, flags, given, budget, outcome}
use Rattle.vb_monitor.proofs.WholeFacts.{used, names_5}

-- ---- what is kept

abbrev kinds : List Kind
kinds = Inflate ∷ Deflate ∷ Statistics ∷ Hint ∷ Report ∷ []

abbrev each_kept : Bool → Bool → List Bool
each_kept all free = map (λ kind. is_kept kind all free) kinds

-- inflates, hints and reports, of a notice that keeps all; what a deflate requests back wasn't given up
by_the_notice : each_kept true false ≡ true ∷ false ∷ false ∷ true ∷ true ∷ []
by_the_notice = refl

-- hints and reports alone, of a device that keeps these
by_the_device : each_kept false true ≡ false ∷ false ∷ false ∷ true ∷ true ∷ []
by_the_device = refl

by_both : each_kept true true ≡ true ∷ false ∷ false ∷ true ∷ true ∷ []
by_both = refl

by_none : each_kept false false ≡ false ∷ false ∷ false ∷ false ∷ false ∷ []
by_none = refl

-- each page or none
count_so : kept_pages true 7 ≡ 7
count_so = refl

none_of_them : kept_pages false 7 ≡ 0
none_of_them = refl

-- ---- tallies

abbrev keeping : Budget
keeping = record budget { keeps = true }

at_first : (fresh keeping).keeps ≡ true
at_first = refl

not_at_first : (fresh budget).keeps ≡ false
not_at_first = refl

abbrev keeps : Tally
keeps = record tally { keeps = true }

-- whatever is counted
carried : with_given (spent (record one_page { pages = 2 }) (with_chains 5 keeps)) ≡
    record keeps { chains = 5; pages = 1; told = 2; given = true }
carried = refl

-- ---- the end of a chain

abbrev whole : Kind → Whole
whole kind = record {
  regions = two;
  kind = kind;
  device = after_use kind ready;
  outcome = record { tally = with_given keeps; why = None; interrupt = false; more = false };
}

-- nothing comes after it
abbrev last : Kind → Then
last kind = λ d t log. (d ≡ after_use kind ready) × ((t ≡ with_given keeps) × (log ≡ []))

abbrev Tells : Kind → List Access → Type 0
Tells kind log = TellsThen (whole kind) (last kind) ready keeps 3 (page_5 ∷ []) one_page log

abbrev told : Kind → Access
told kind = TellPages kind (page_5 ∷ []) one_page

abbrev back : List Access
back = id ∷ used_length ∷ Release ∷ used_index ∷ []

-- an inflate's pages are told and stay, a report's and a deflate's too
inflated : Tells Inflate (told Inflate ∷ back)
unfolding lib.Count.ones
inflated = record {
  rest = back;
  asks = refl;
  goes_on = record {
    rest = back;
    asks = refl;
    goes_on = record { rest = []; asks = refl; goes_on = (refl, (refl, refl)) };
  };
}

reported : Tells Report (told Report ∷ back)
unfolding lib.Count.ones
reported = record {
  rest = back;
  asks = refl;
  goes_on = record {
    rest = back;
    asks = refl;
    goes_on = record { rest = []; asks = refl; goes_on = (refl, (refl, refl)) };
  };
}

deflated : Tells Deflate (told Deflate ∷ back)
unfolding lib.Count.ones
deflated = record {
  rest = back;
  asks = refl;
  goes_on = record {
    rest = back;
    asks = refl;
    goes_on = record { rest = []; asks = refl; goes_on = (refl, (refl, refl)) };
  };
}

-- they are told all the same
untold : Tells Inflate back → ⊥
untold h = let e = h.asks in absurd cc

untold_report : Tells Report back → ⊥
untold_report h = let e = h.asks in absurd cc

-- ---- a whole notice: page 5 is inflated, and stays

abbrev end : Outcome
end = record outcome { tally = record (outcome.tally) { keeps = true } }

stays : Serves two Inflate keeping ready used end
    (index ∷ Acquire ∷ entry ∷ descriptor ∷ part ∷ pages ∷ given)
unfolding lib.Count.ones
stays = record {
  index = 1;
  rest = Acquire ∷ entry ∷ descriptor ∷ part ∷ pages ∷ given;
  asks = refl;
  goes_on = record {
    head = 3;
    rest = descriptor ∷ part ∷ pages ∷ given;
    asks = refl;
    goes_on = record {
      bytes = last_descriptor;
      rest = part ∷ pages ∷ given;
      asks = refl;
      long = refl;
      goes_on = record {
        bytes = number;
        rest = pages ∷ given;
        asks = refl;
        long = refl;
        goes_on = record {
          answer = Ok one_page;
          runs = page_5 ∷ [];
          device = ready;
          names = names_5;
          goes_on = record {
            rest = given;
            asks = refl;
            goes_on = record {
              rest = given;
              asks = refl;
              goes_on = record { rest = Full ∷ flags ∷ []; asks = refl; goes_on = flags_are_read refl refl };
            };
          };
        };
      };
    };
  };
}

abbrev IsServed : Budget → List Access → Type 0
IsServed b log = (d : Device) × ((o : Outcome) × Serves two Inflate b ready d o log)

-- it isn't discarded, after what is told or anywhere else
discarded_all_the_same : IsServed keeping (index ∷ Acquire ∷ entry ∷ descriptor ∷ part ∷ pages ∷ discard ∷ given) → ⊥
discarded_all_the_same (d, (o, h)) =
    absurd (tells_in_turn two Inflate keeping ready d o _ h).1.1.1.1.1.1.0

not_told : IsServed keeping (index ∷ Acquire ∷ entry ∷ descriptor ∷ part ∷ given) → ⊥
not_told (d, (o, h)) =
    let e : false ≡ true = (in_order two Inflate keeping ready d o _ h).1.1.1.1.1.0 in absurd cc

-- a notice that doesn't keep it discards it
kept_without_need : IsServed budget (index ∷ Acquire ∷ entry ∷ descriptor ∷ part ∷ pages ∷ given) → ⊥
kept_without_need (d, (o, h)) =
    let e = (tells_in_turn two Inflate budget ready d o _ h).1.1.1.1.1.1.0 in absurd cc

-- ---- which access may come

abbrev Comes : Kind → Bool → List Access → Access → Type 0
Comes kind all before x = TellsInTurn two kind all ready before x

-- a used element directly after what was told
used_at_once : Comes Inflate true (pages ∷ part ∷ descriptor ∷ entry ∷ Acquire ∷ index ∷ []) id
used_at_once = refl

reported_at_once : Comes Report true (told Report ∷ []) id
reported_at_once = refl

no_discard : Comes Inflate true (pages ∷ part ∷ descriptor ∷ entry ∷ Acquire ∷ index ∷ []) discard → ⊥
no_discard h = absurd h

no_discard_of_a_report : Comes Report true (told Report ∷ []) discard → ⊥
no_discard_of_a_report h = absurd h

no_discard_of_a_deflate : Comes Deflate true (told Deflate ∷ []) discard → ⊥
no_discard_of_a_deflate h = absurd h

not_at_once : Comes Inflate false (pages ∷ []) id → ⊥
not_at_once h = absurd cc

-- nothing is left to discard of what is kept, whatever was done
none_of_kept : (kind : Kind) (runs : List Run) → cuts_for kind true two runs ≡ []
none_of_kept Inflate runs = refl
none_of_kept Deflate runs = refl
none_of_kept Statistics runs = refl
none_of_kept Hint runs = refl
none_of_kept Report runs = refl

none_left : (log : List Access) → left true two log ≡ []
none_left [] = refl
none_left (ReadWord at answer ∷ xs) = none_left xs
none_left (CopyBytes at answer ∷ xs) = none_left xs
none_left (Acquire ∷ xs) = none_left xs
none_left (Release ∷ xs) = none_left xs
none_left (Full ∷ xs) = none_left xs
none_left (TellPages kind runs named ∷ xs) = none_of_kept kind runs
none_left (TellFigures figures ∷ xs) = none_left xs
none_left (TellId n ∷ xs) = none_left xs
none_left (Pause ∷ xs) = none_left xs
none_left (Discard cut ∷ xs) = ap (λ (cuts : List Cut). without_first cuts) (none_left xs)
none_left (WriteNumber at number ∷ xs) = none_left xs
none_left (WriteWord at word ∷ xs) = none_left xs

-- so no discard comes of a notice of inflates that keeps all pages, whatever came before
never_discarded : (before : List Access) (cut : Cut) → Comes Inflate true before (Discard cut) → ⊥
never_discarded before cut h = subst (λ (cuts : List Cut). IsNext cut cuts) (none_left before) h
