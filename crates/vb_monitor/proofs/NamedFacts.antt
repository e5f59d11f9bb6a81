-- What the bytes of a request, and the pieces of a report, come to, worked out: their pages are
-- named and told, or the notice ends for what is wrong with them.
use Rattle.std.proofs.Common.{◌≡◌, refl, Option, ap, subst, arith, ℕ, true, false, List, [], ◌∷◌, Some, None, Result, Ok, Err}
use Rattle.vb_request.specs.Request.{numbers_of}
use Rattle.vb_chain.specs.declared.fault.ChainFault.TheVariants.{WrongDirection, BadLength, OutOfRam}
use Rattle.vb_core.specs.declared.kinds.Kind.{Kind}
use Rattle.vb_core.specs.declared.kinds.Kind.TheVariants.{Inflate, Deflate, Statistics, Hint, Report}
use Rattle.vb_core.specs.declared.{name.Named.Named, runs.Run.Run, device.{Device.Device, Denial.{Denial, TheVariants.{Broken, BadArgument, NoQueue}}}}
use Rattle.vb_core.specs.{Devices.with_one_taken, Name.NamesNumbersBy, Report.NamesPiecesBy, Runs.Tell}
use Rattle.vb_monitor.specs.declared.outcome.{Outcome.Outcome}
use Rattle.vb_monitor.specs.Accesses.{Access, CopyBytes, Release, TellPages, Discard}
use Rattle.vb_monitor.specs.{Ends.{Whole, Stops}, Giving.{Then, after_use, with_given, spent, AfterName, after_last}}
use Rattle.vb_monitor.specs.Chains.{AfterBytes, CopiesBy, ServesPieces, told_if}
use Rattle.vb_monitor.proofs.Samples.{Same, two, at, ready, tally, piece, page_5, cut_5, one_page, number, part, id, used_length, used_index}
use Rattle.vb_monitor.proofs.AheadFacts.{over, ends, needs_reset}

-- ---- a byte, which is no number, and bytes of a report, which name none at all

abbrev none : Then
none = λ d t log. ⊥

abbrev refuses : Option Denial → Outcome
refuses why = ends tally why false false

abbrev denied_for : Kind → Denial
denied_for Inflate = BadArgument
denied_for Deflate = BadArgument
denied_for Statistics = NoQueue
denied_for Hint = NoQueue
denied_for Report = NoQueue

abbrev refusal : Option Denial → Result Named Denial
refusal (Some why) = Err why
refusal None = Ok one_page

abbrev byte : List ℕ
byte = 5 ∷ []

no_number : (kind : Kind) → NamesNumbersBy kind byte 256 [] ready ready (Err (denied_for kind))
unfolding lib.Count.ones
no_number Inflate = record { denied = λ why e. (ap refusal e, refl); names = λ e. absurd cc }
no_number Deflate = record { denied = λ why e. (ap refusal e, refl); names = λ e. absurd cc }
no_number Statistics = record { denied = λ why e. (ap refusal e, refl); names = λ e. absurd cc }
no_number Hint = record { denied = λ why e. (ap refusal e, refl); names = λ e. absurd cc }
no_number Report = record { denied = λ why e. (ap refusal e, refl); names = λ e. absurd cc }

abbrev Refused : Kind → Device → Option Denial → List Access → Type 0
Refused kind d why log = AfterBytes kind (over kind d (refuses why)) none ready tally 3 byte log

inflates_refused : Refused Inflate ready (Some BadArgument) []
inflates_refused = record {
  answer = Err BadArgument;
  runs = [];
  device = ready;
  names = no_number Inflate;
  goes_on = record { nothing = refl; device = refl; outcome = refl };
}

deflates_refused : Refused Deflate ready (Some BadArgument) []
deflates_refused = record {
  answer = Err BadArgument;
  runs = [];
  device = ready;
  names = no_number Deflate;
  goes_on = record { nothing = refl; device = refl; outcome = refl };
}

bytes_of_a_report : Refused Report ready (Some NoQueue) []
bytes_of_a_report = record {
  answer = Err NoQueue;
  runs = [];
  device = ready;
  names = no_number Report;
  goes_on = record { nothing = refl; device = refl; outcome = refl };
}

-- what a refusal comes to: nothing is done, and the notice ends for it
stops : (w : Whole) (d : Device) (runs : List Run) (answer : Result Named Denial) (why : Denial) (log : List Access) →
    answer ≡ Err why → AfterName w none d tally 3 runs answer log → Stops w d tally (Some why) false false log
stops w d runs answer why log e h = subst (λ (a : Result Named Denial). AfterName w none d tally 3 runs a log) e h

stops_last : (w : Whole) (d : Device) (runs : List Run) (answer : Result Named Denial) (why : Denial) (log : List Access) →
    answer ≡ Err why → AfterName w none (after_last w.kind answer d) tally 3 runs answer log →
    Stops w d tally (Some why) false false log
stops_last w d runs answer why log e h =
    subst (λ (a : Result Named Denial). AfterName w none (after_last w.kind a d) tally 3 runs a log) e h

inflates_told : (d : Device) (why : Option Denial) (x : Access) (rest : List Access) → Refused Inflate d why (x ∷ rest) → ⊥
unfolding lib.Count.ones
inflates_told d why x rest h =
    let says = h.names.denied BadArgument refl in
    let e = (stops_last _ h.device h.runs h.answer BadArgument _ says.0 h.goes_on).nothing in absurd cc

deflates_told : (d : Device) (why : Option Denial) (x : Access) (rest : List Access) → Refused Deflate d why (x ∷ rest) → ⊥
unfolding lib.Count.ones
deflates_told d why x rest h =
    let says = h.names.denied BadArgument refl in
    let e = (stops_last _ h.device h.runs h.answer BadArgument _ says.0 h.goes_on).nothing in absurd cc

bytes_told : (d : Device) (why : Option Denial) (x : Access) (rest : List Access) → Refused Report d why (x ∷ rest) → ⊥
unfolding lib.Count.ones
bytes_told d why x rest h =
    let says = h.names.denied NoQueue refl in
    let e = (stops_last _ h.device h.runs h.answer NoQueue _ says.0 h.goes_on).nothing in absurd cc

for_no_reason : (d : Device) → Refused Inflate d None [] → ⊥
unfolding lib.Count.ones
for_no_reason d h =
    let says = h.names.denied BadArgument refl in
    let stop = stops_last _ h.device h.runs h.answer BadArgument _ says.0 h.goes_on in
    let e = ap (λ (o : Outcome). o.why) stop.outcome in absurd cc

broken_by_it : (why : Option Denial) → Refused Deflate needs_reset why [] → ⊥
unfolding lib.Count.ones
broken_by_it why h =
    let says = h.names.denied BadArgument refl in
    let stop = stops_last _ h.device h.runs h.answer BadArgument _ says.0 h.goes_on in
    let e : Same 79 h.device.status = ap (λ (d : Device). d.status) stop.device in
    let f : Same h.device.status 15 = ap (λ (d : Device). d.status) says.1 in omega (arith, e, f)

-- ---- page 5 is requested back: it is told, and not discarded

abbrev taken : Device
taken = with_one_taken Deflate ready

abbrev tells_5 : Tell (page_5 ∷ []) (5 ∷ [])
tells_5 = (5 ∷ [], ([], (record { whole = refl; grows = (5, ([], (refl, refl))) }, (tt, refl))))

names_5 : NamesNumbersBy Deflate number 256 (page_5 ∷ []) ready ready (Ok one_page)
unfolding numbers_of lib.Count.ones
names_5 = record {
  denied = λ why e. absurd cc;
  names = λ e. (
    Ok one_page,
    record {
      fault = λ f e. absurd cc;
      named = λ e. record { told_so = tells_5; few = omega arith; count = refl; others = refl };
    },
    refl,
    refl,
  );
}

abbrev back : List Access
back = id ∷ used_length ∷ Release ∷ used_index ∷ []

-- one page fewer may be named, and nothing comes after it
abbrev last : Then
last d t log = (d ≡ after_use Deflate taken) × (t ≡ with_given (spent one_page tally)) × (log ≡ [])

asked_back : (o : Outcome) → AfterBytes Deflate (over Deflate ready o) last ready tally 3 number
    (TellPages Deflate (page_5 ∷ []) one_page ∷ back)
unfolding lib.Count.ones
asked_back o = record {
  answer = Ok one_page;
  runs = page_5 ∷ [];
  device = ready;
  names = names_5;
  goes_on = record {
    rest = back;
    asks = refl;
    goes_on = record {
      rest = back;
      asks = refl;
      goes_on = record { rest = []; asks = refl; goes_on = (refl, refl, refl) };
    };
  };
}

-- ---- pages 5 and 6 are named by one inflate, and told as one run

abbrev both : List ℕ
both = 5 ∷ 0 ∷ 0 ∷ 0 ∷ 6 ∷ 0 ∷ 0 ∷ 0 ∷ []

abbrev run_of_both : Run
run_of_both = record { first = 5; count = 2 }

abbrev both_named : Named
both_named = record { runs = 1; pages = 2; skipped = 0 }

tells_both : Tell (run_of_both ∷ []) (5 ∷ 6 ∷ [])
tells_both =
    (5 ∷ 6 ∷ [], ([], (record { whole = refl; grows = (5, (6 ∷ [], (refl, (run_of_both, (refl, refl))))) }, (tt, refl))))

names_both : NamesNumbersBy Inflate both 256 (run_of_both ∷ []) ready ready (Ok both_named)
unfolding numbers_of lib.Count.ones
names_both = record {
  denied = λ why e. absurd cc;
  names = λ e. (
    Ok both_named,
    record {
      fault = λ f e. absurd cc;
      named = λ e. record { told_so = tells_both; few = omega arith; count = refl; others = refl };
    },
    refl,
    refl,
  );
}

both_told : (o : Outcome) →
    ServesPieces Inflate (over Inflate ready o) (λ d t log. Unit {0}) ready tally 3 (record piece { len = 8 } ∷ [])
    (CopyBytes (at 0x400) both ∷ TellPages Inflate (run_of_both ∷ []) both_named ∷ Discard (record cut_5 { length = 0x2000 }) ∷ back)
unfolding lib.Count.ones
both_told o = record {
  bytes = both;
  rest = TellPages Inflate (run_of_both ∷ []) both_named ∷ Discard (record cut_5 { length = 0x2000 }) ∷ back;
  asks = refl;
  long = refl;
  goes_on = record {
    answer = Ok both_named;
    runs = run_of_both ∷ [];
    device = ready;
    names = names_both;
    goes_on = record {
      rest = Discard (record cut_5 { length = 0x2000 }) ∷ back;
      asks = refl;
      goes_on = record {
        rest = back;
        asks = refl;
        goes_on = record { rest = []; asks = refl; goes_on = tt };
      };
    };
  };
}

-- ---- a report of a piece that the device may not write

to_read : NamesPiecesBy Report (piece ∷ []) 256 [] ready needs_reset (Err (Broken WrongDirection))
unfolding lib.Count.ones
to_read = record {
  denied = λ why e. absurd cc;
  answer = λ e. refl;
  device = λ e. refl;
  runs_are = λ ok. absurd cc;
}

abbrev Reported : Device → Option Denial → List Access → Type 0
Reported d why log = ServesPieces Report (over Report d (refuses why)) none ready tally 3 (piece ∷ []) log

report_breaks : Reported needs_reset (Some (Broken WrongDirection)) []
report_breaks = record {
  answer = Err (Broken WrongDirection);
  runs = [];
  device = needs_reset;
  names = to_read;
  goes_on = record { nothing = refl; device = refl; outcome = refl };
}

report_told : (d : Device) (why : Option Denial) (x : Access) (rest : List Access) → Reported d why (x ∷ rest) → ⊥
unfolding lib.Count.ones
report_told d why x rest h =
    let says = ap (λ (a : Result Named Denial). told_if true a) (h.names.answer refl) in
    let e = (stops _ h.device h.runs (told_if true h.answer) (Broken WrongDirection) _ says h.goes_on).nothing in absurd cc

for_another_reason : (d : Device) → Reported d (Some (Broken BadLength)) [] → ⊥
unfolding lib.Count.ones
for_another_reason d h =
    let says = ap (λ (a : Result Named Denial). told_if true a) (h.names.answer refl) in
    let stop = stops _ h.device h.runs (told_if true h.answer) (Broken WrongDirection) _ says h.goes_on in
    let e = ap (λ (o : Outcome). o.why) stop.outcome in absurd cc

unbroken : (why : Option Denial) → Reported ready why [] → ⊥
unfolding lib.Count.ones
unbroken why h =
    let says = ap (λ (a : Result Named Denial). told_if true a) (h.names.answer refl) in
    let stop = stops _ h.device h.runs (told_if true h.answer) (Broken WrongDirection) _ says h.goes_on in
    let e : Same 15 h.device.status = ap (λ (d : Device). d.status) stop.device in
    let f : Same h.device.status 79 = ap (λ (d : Device). d.status) (h.names.device refl) in omega (arith, e, f)

-- ---- bytes are copied before anything is told, unless a rule is broken

-- the pieces in their order, up to one in the hole
up_to_the_hole : CopiesBy (Ok 8) (over Inflate needs_reset (refuses (Some (Broken OutOfRam)))) none ready tally 3
    (piece ∷ record piece { addr = 0x15000 } ∷ []) (part ∷ [])
up_to_the_hole = record {
  bytes = number;
  rest = [];
  asks = refl;
  long = refl;
  goes_on = record { nothing = refl; device = refl; outcome = refl };
}

abbrev copied_at : List Access → ℕ
copied_at (CopyBytes at bytes ∷ xs) = at.offset
copied_at xs = 0

abbrev of_two : Whole → Whole
of_two w = record w { regions = two; kind = Inflate }

uncopied : (w : Whole) → CopiesBy (Ok 4) (of_two w) none ready tally 3 (piece ∷ []) [] → ⊥
uncopied w h = let e = h.asks in absurd cc

from_elsewhere : (w : Whole) (rest : List Access) →
    CopiesBy (Ok 4) (of_two w) none ready tally 3 (piece ∷ []) (CopyBytes (at 0x404) number ∷ rest) → ⊥
from_elsewhere w rest h = let e : Same 0x404 0x400 = ap copied_at h.asks in omega arith

copied_although_broken : (w : Whole) (rest : List Access) →
    CopiesBy (Err BadLength) w none ready tally 3 (piece ∷ []) (part ∷ rest) → ⊥
copied_although_broken w rest h = let e = h.nothing in absurd cc

inflates_uncopied : (w : Whole) → ServesPieces Inflate (of_two w) none ready tally 3 (piece ∷ []) [] → ⊥
inflates_uncopied w h = let e = h.asks in absurd cc

deflates_uncopied : (w : Whole) → ServesPieces Deflate (of_two w) none ready tally 3 (piece ∷ []) [] → ⊥
deflates_uncopied w h = let e = h.asks in absurd cc
