-- What is told, discarded and written in its turn, worked out. Of a list the last access is first.
use Rattle.std.proofs.Common.{◌≡◌, ◌∙◌, ◌<◌, refl, ap, arith, ℕ, zero, suc, Bool, true, false, List, [], ◌∷◌, map, length, take, Option, Some, None, Result, Ok, Err, sym}
use Rattle.std.specs.Prelude.{slice_index_or}
use Rattle.vb_chain.specs.declared.{pieces.Piece.Piece, fault.ChainFault.ChainFault}
use Rattle.vb_request.specs.{Request.numbers_of, Report.report_request}
use Rattle.vb_core.specs.declared.kinds.Kind.TheVariants.{Inflate, Deflate, Statistics, Report}
use Rattle.vb_core.specs.declared.{runs.Run.Run, name.Named.Named, settings.Settings.Settings}
use Rattle.vb_core.specs.{declared.statistics.Statistic.Statistic, Runs.Tell, Statistics.figure_at}
use Rattle.vb_core.proofs.OneTelling.{told_once}
use Rattle.vb_monitor.specs.declared.regions.Spot.{Spot}
use Rattle.vb_monitor.specs.declared.cuts.Cut.{Cut}
use Rattle.vb_monitor.specs.Accesses.{Access, Acquire, Release, TellPages, Discard, WriteNumber, WriteWord}
use Rattle.vb_monitor.specs.SoFar.{Unknown, Walks, Has}
use Rattle.vb_monitor.specs.Turns.{TellNumbers, TellPieces, TellsOf, FiguresOf, TellsInTurn, ends_in_number, WritesUsedAlone}
use Rattle.vb_monitor.proofs.Samples.{Same, two, at, settings, ready, page_5, cut_5, cut_20, cut_22, over_the_hole, piece, one_page, number, index, entry, descriptor, part, pages, figures, told_id, discard, id, used_length, used_index}

abbrev taken : List Access
taken = entry ∷ Acquire ∷ index ∷ []

abbrev read : List Access
read = part ∷ descriptor ∷ taken

-- ---- the pages that bytes name

abbrev tells_5 : Tell (page_5 ∷ []) (5 ∷ [])
tells_5 = (5 ∷ [], ([], (record { whole = refl; grows = (5, ([], (refl, refl))) }, (tt, refl))))

named : TellNumbers settings number (page_5 ∷ []) one_page
unfolding numbers_of
named = record { sound = refl; tell = tells_5; pages = refl; skipped = refl }

abbrev pages_or : List ℕ → Result (List ℕ) ChainFault → List ℕ
pages_or ns (Ok pages) = pages
pages_or ns (Err fault) = ns

abbrev first_of : List Run → ℕ
first_of [] = 0
first_of (r ∷ rs) = r.first

another_page : TellNumbers settings number (record page_5 { first = 6 } ∷ []) one_page → ⊥
unfolding numbers_of
another_page h =
    let e : Same 5 6 = ap first_of (told_once (page_5 ∷ []) (record page_5 { first = 6 } ∷ []) (5 ∷ []) tells_5 h.tell) in
    omega arith

-- of memory of 32 pages none of a request with a page past it, where such pages aren't skipped
past_memory : (runs : List Run) (named : Named) → TellNumbers settings (40 ∷ 0 ∷ 0 ∷ 0 ∷ []) runs named → ⊥
unfolding numbers_of
past_memory runs named h = let e = h.sound in absurd cc

abbrev skipping : Settings
skipping = record settings { skips_bad_pages = 1 }

-- page 40 is skipped, and page 5 is named
abbrev one_skipped : List ℕ
one_skipped = 40 ∷ 0 ∷ 0 ∷ 0 ∷ 5 ∷ 0 ∷ 0 ∷ 0 ∷ []

none_of_those_skipped : TellNumbers skipping one_skipped (page_5 ∷ []) (record one_page { skipped = 1 })
unfolding numbers_of
none_of_those_skipped = record { sound = refl; tell = tells_5; pages = refl; skipped = refl }

-- each number is named or skipped, and none is both
not_skipped : TellNumbers skipping one_skipped (page_5 ∷ []) one_page → ⊥
unfolding numbers_of
not_skipped h = let e : Same 1 2 = h.skipped in omega arith

both_named : TellNumbers skipping one_skipped (page_5 ∷ []) (record one_page { pages = 2 }) → ⊥
unfolding numbers_of
both_named h = let e : Same 2 1 = h.pages in omega arith

both_skipped : TellNumbers skipping one_skipped (page_5 ∷ []) (record { runs = 1; pages = 0; skipped = 2 }) → ⊥
unfolding numbers_of
both_skipped h = let e : Same 0 1 = h.pages in omega arith

-- ---- the pages that pieces are

abbrev page_2 : Piece
page_2 = record { addr = 0x2000; len = 0x1000; writable = true }

reported : TellPieces settings (page_2 ∷ []) (record { first = 2; count = 1 } ∷ []) one_page
reported = record { free = 2 ∷ []; sound = refl; are = refl; pages = refl; skipped = refl }

another_run : TellPieces settings (page_2 ∷ []) (record { first = 3; count = 1 } ∷ []) one_page → ⊥
another_run h = let e : Same 3 2 = ap first_of h.are in omega arith

-- two pages in one run count as two, and no page of a report is skipped
abbrev pages_2_and_3 : Piece
pages_2_and_3 = record { addr = 0x2000; len = 0x2000; writable = true }

two_reported : TellPieces settings (pages_2_and_3 ∷ []) (record { first = 2; count = 2 } ∷ [])
    (record one_page { pages = 2 })
two_reported = record { free = 2 ∷ 3 ∷ []; sound = refl; are = refl; pages = refl; skipped = refl }

one_of_two : TellPieces settings (pages_2_and_3 ∷ []) (record { first = 2; count = 2 } ∷ []) one_page → ⊥
one_of_two h =
    let e : report_request (pages_2_and_3 ∷ []) settings.reserved_pages ≡ Ok (2 ∷ 3 ∷ []) = refl in
    let same : h.free ≡ 2 ∷ 3 ∷ [] = ap (pages_or []) (sym h.sound ∙ e) in
    let count_so : length h.free ≡ 2 = ap (λ (ns : List ℕ). length ns) same in
    let one : 1 ≡ length h.free = h.pages in
    omega (arith, count_so, one)

reported_and_skipped : TellPieces settings (page_2 ∷ []) (record { first = 2; count = 1 } ∷ [])
    (record one_page { skipped = 1 }) → ⊥
reported_and_skipped h = let e : Same 1 0 = h.skipped in omega arith

-- what is no report is told by no runs
to_read : (runs : List Run) (named : Named) → TellPieces settings (record page_2 { writable = false } ∷ []) runs named → ⊥
to_read runs named h = let e = h.sound in absurd cc

-- ---- which chain's

-- only once all of it was read, and by its kind
unread : TellsOf false Inflate settings (Walks 3 3 []) (page_5 ∷ []) one_page → ⊥
unread h = absurd h

no_chain : TellsOf false Inflate settings Unknown (page_5 ∷ []) one_page → ⊥
no_chain h = absurd h

half_read : TellsOf false Inflate settings (Has 3 (piece ∷ []) (record { address = 0x400; plus = 0; length = 4 } ∷ []) number) (page_5 ∷ []) one_page → ⊥
half_read h = let e : Same 4 1024 = h.0 in omega arith

of_an_inflate : TellsOf false Inflate settings (Has 3 (piece ∷ []) [] number) (page_5 ∷ []) one_page
of_an_inflate = named

of_a_deflate : TellsOf false Deflate settings (Has 3 (piece ∷ []) [] number) (page_5 ∷ []) one_page
of_a_deflate = named

of_a_report : TellsOf false Report settings (Has 3 (page_2 ∷ []) [] []) (record { first = 2; count = 1 } ∷ [])
    one_page
of_a_report = reported

of_statistics : TellsOf false Statistics settings (Has 3 (piece ∷ []) [] number) (page_5 ∷ []) one_page → ⊥
of_statistics h = absurd h

-- ---- figures

-- tag 4, value 9
abbrev figure_bytes : List ℕ
figure_bytes = 4 ∷ 0 ∷ 9 ∷ 0 ∷ 0 ∷ 0 ∷ 0 ∷ 0 ∷ 0 ∷ 0 ∷ []

abbrev figure : Statistic
figure = record { tag = 4; value = 9 }

is_the_figure : (k : ℕ) (d : Statistic) → k < 1 → slice_index_or (figure ∷ []) k d ≡ figure_at figure_bytes k
is_the_figure zero d below = refl
is_the_figure (suc k) d below = absurd (omega (arith, below))

figure_told : FiguresOf (Has 3 (piece ∷ []) [] figure_bytes) (figure ∷ [])
figure_told = record { figures = figure ∷ []; are = is_the_figure; count_so = refl }

abbrev value_of : List Statistic → ℕ
value_of [] = 0
value_of (f ∷ fs) = f.value

-- no other list is in these bytes
told_alone : (fs : List Statistic) → ((d : Statistic) → slice_index_or fs 0 d ≡ figure) → take 1 fs ≡ figure ∷ []
told_alone [] are = let e : Same 8 9 = ap (λ (f : Statistic). f.value) (are (record figure { value = 8 })) in absurd (omega arith)
told_alone (f ∷ fs) are = ap (λ (x : Statistic). x ∷ []) (are f)

another_value : FiguresOf (Has 3 (piece ∷ []) [] figure_bytes) (record figure { value = 8 } ∷ []) → ⊥
another_value h =
    let e : Same 8 9 = ap value_of (h.count_so ∙ told_alone h.figures (λ d. h.are 0 d (omega arith))) in omega arith

more_than_one : FiguresOf (Has 3 (piece ∷ []) [] figure_bytes) (figure ∷ figure ∷ []) → ⊥
more_than_one h =
    let e : Same 2 1 = ap (λ (fs : List Statistic). length fs) (h.count_so ∙ told_alone h.figures (λ d. h.are 0 d (omega arith))) in
    omega arith

none_of_one : FiguresOf (Has 3 (piece ∷ []) [] figure_bytes) [] → ⊥
none_of_one h =
    let e : Same 0 1 = ap (λ (fs : List Statistic). length fs) (h.count_so ∙ told_alone h.figures (λ d. h.are 0 d (omega arith))) in
    omega arith

figures_unread : FiguresOf (Walks 3 3 []) [] → ⊥
figures_unread h = absurd h

-- ---- in their turn

pages_told : TellsInTurn two Inflate false ready read pages
pages_told = (refl, named, refl)

-- with other counts than those of the bytes
one_too_many : TellsInTurn two Inflate false ready read (TellPages Inflate (page_5 ∷ []) (record one_page { pages = 2 })) → ⊥
unfolding numbers_of
one_too_many h = let e : Same 2 1 = h.1.pages in omega arith

of_another_kind : TellsInTurn two Deflate false ready read pages → ⊥
of_another_kind h = let e = h.0 in absurd cc

figures_of_an_inflate : TellsInTurn two Inflate false ready read figures → ⊥
figures_of_an_inflate h = let e = h.0 in absurd cc

-- the parts in their order, each once, and none of another page
abbrev hole_told : List Access
hole_told = TellPages Inflate (over_the_hole ∷ []) one_page ∷ read

first_discarded : TellsInTurn two Inflate false ready hole_told (Discard cut_20)
first_discarded = refl

second_discarded : TellsInTurn two Inflate false ready (Discard cut_20 ∷ hole_told) (Discard cut_22)
second_discarded = refl

abbrev place_of : Cut → ℕ
place_of c = c.offset

second_first : TellsInTurn two Inflate false ready hole_told (Discard cut_22) → ⊥
second_first h = let e : Same 0 0x14000 = ap place_of h in omega arith

discarded_twice : TellsInTurn two Inflate false ready (Discard cut_20 ∷ hole_told) (Discard cut_20) → ⊥
discarded_twice h = let e : Same 0x14000 0 = ap place_of h in omega arith

discarded_once_more : TellsInTurn two Inflate false ready (discard ∷ pages ∷ read) discard → ⊥
discarded_once_more h = absurd h

discarded_of_a_deflate : TellsInTurn two Deflate false ready (TellPages Deflate (page_5 ∷ []) one_page ∷ read) discard → ⊥
discarded_of_a_deflate h = absurd h

discarded_untold : TellsInTurn two Inflate false ready read discard → ⊥
discarded_untold h = absurd h

another_place_in_the_file : TellsInTurn two Inflate false ready (pages ∷ read) (Discard (record cut_5 { in_file = 0 })) → ⊥
another_place_in_the_file h = let e : Same 0 0x5000 = ap (λ (c : Cut). c.in_file) h in omega arith

-- an element is written once all are discarded
all_discarded : TellsInTurn two Inflate false ready (discard ∷ pages ∷ read) id
all_discarded = refl

one_left : TellsInTurn two Inflate false ready (pages ∷ read) id → ⊥
one_left h = absurd cc

-- and so is the next portion copied, and told
copied_then : TellsInTurn two Inflate false ready (discard ∷ pages ∷ read) part
copied_then = refl

copied_before : TellsInTurn two Inflate false ready (pages ∷ read) part → ⊥
copied_before h = absurd cc

copied_amid : TellsInTurn two Inflate false ready (Discard cut_20 ∷ hole_told) part → ⊥
copied_amid h = absurd cc

told_before : TellsInTurn two Inflate false ready (pages ∷ read) pages → ⊥
told_before h = let e = h.2 in absurd cc

none_to_discard : TellsInTurn two Deflate false ready (TellPages Deflate (page_5 ∷ []) one_page ∷ read) id
none_to_discard = refl

-- ---- what is written

-- the next element of eight bytes after the ring's begin: the entry that was read, then 0
abbrev done : List Access
done = discard ∷ pages ∷ read

id_written : WritesUsedAlone two Inflate ready done id
id_written = (refl, refl)

another_id : WritesUsedAlone two Inflate ready done (WriteNumber (at 0x204) 2) → ⊥
another_id h = let e : Same 2 3 = h.1 in omega arith

abbrev offset_in : Option Spot → ℕ
offset_in None = 0
offset_in (Some s) = s.offset

another_element : WritesUsedAlone two Inflate ready done (WriteNumber (at 0x20c) 3) → ⊥
another_element h = let e : Same 0x204 0x20c = ap offset_in h.0 in omega arith

length_written : WritesUsedAlone two Inflate ready (id ∷ done) used_length
length_written = (refl, refl)

length_first : WritesUsedAlone two Inflate ready done used_length → ⊥
length_first h = let e : Same 0x204 0x208 = ap offset_in h.0 in omega arith

id_twice : WritesUsedAlone two Inflate ready (id ∷ done) id → ⊥
id_twice h = let e : Same 0x208 0x204 = ap offset_in h.0 in omega arith

another_length : WritesUsedAlone two Inflate ready (id ∷ done) (WriteNumber (at 0x208) 4) → ⊥
another_length h = let e : Same 4 0 = h.1 in omega arith

index_written : WritesUsedAlone two Inflate ready (Release ∷ used_length ∷ id ∷ done) used_index
index_written = (refl, refl)

index_of_two : WritesUsedAlone two Inflate ready (Release ∷ used_length ∷ id ∷ done) (WriteWord (at 0x202) 2) → ⊥
index_of_two h = let e : Same 2 1 = h.1 in omega arith

index_elsewhere : WritesUsedAlone two Inflate ready (Release ∷ used_length ∷ id ∷ done) (WriteWord (at 0x102) 1) → ⊥
index_elsewhere h = let e : Same 0x202 0x102 = ap offset_in h.0 in omega arith

-- nothing is written where no chain was read, or not all of it
nothing_taken : WritesUsedAlone two Inflate ready [] id → ⊥
nothing_taken h = absurd h

before_its_bytes : WritesUsedAlone two Inflate ready (descriptor ∷ taken) id → ⊥
before_its_bytes h = absurd h

index_of_nothing : WritesUsedAlone two Inflate ready [] used_index → ⊥
index_of_nothing h = absurd h

index_twice : WritesUsedAlone two Inflate ready (used_index ∷ Release ∷ used_length ∷ id ∷ done) used_index → ⊥
index_twice h = absurd h

-- a number is last, and no other access
abbrev numbers_last : Access → Bool
numbers_last x = ends_in_number (x ∷ id ∷ [])

last_is_a_number : map numbers_last (index ∷ part ∷ Acquire ∷ Release ∷ pages ∷ figures ∷ told_id ∷ discard ∷ id ∷ used_index ∷ []) ≡
    false ∷ false ∷ false ∷ false ∷ false ∷ false ∷ false ∷ false ∷ true ∷ false ∷ []
last_is_a_number = refl
