-- What is done as memory says, worked out.
use Rattle.std.proofs.Common.{◌≡◌, ◌≢◌, ◌∙◌, refl, ap, arith, length-append, ◌+◌, ◌*◌, ◌<◌, zero, suc}
use Rattle.std.proofs.Common.{length, map, ℕ, true, false, List, [], ◌∷◌, ◌++◌, Option, Some, None, Result, Ok, Err}
use Rattle.vb_core.specs.declared.device.Denial.{Denial, TheVariants.{NotReady, Broken}}
use Rattle.vb_core.specs.declared.kinds.Kind.TheVariants.{Inflate, Deflate, Statistics, Hint, Report}
use Rattle.vb_core.specs.declared.{device.Device.Device}
use Rattle.vb_chain.specs.declared.fault.ChainFault.{ChainFault, TheVariants.{OutOfRam, IndexJump, BadLength, WrongDirection}}
use Rattle.vb_chain.specs.declared.{pieces.Piece.Piece}
use Rattle.vb_ring.specs.declared.device.Taken.{Taken}
use Rattle.vb_core.specs.{Devices.with_one_taken}
use Rattle.vb_monitor.specs.{Regions.spot, Ends.Whole}
use Rattle.vb_monitor.specs.Accesses.{Access, Acquire, TellPages, TellFigures}
use Rattle.vb_monitor.specs.Machine.{whole, serves}
use Rattle.vb_monitor.specs.Still.{IsMapped, AfterReads, DoesNext, ReportsNext, ArePartsMapped, has_pages, is_read, length_of}
use Rattle.vb_monitor.proofs.Samples.{Same, two, ring, ready, tally, index, discard}
use Rattle.vb_monitor.proofs.Samples.{one_page, page_5, piece, chain_of, head_of}
use Rattle.vb_monitor.proofs.StillReadFacts.{Rest, Any}
use lib.Count

-- ---- what is guest memory

index_in_the_hole : IsMapped two (record ring { avail = 0x15000 }) → ⊥
index_in_the_hole h = h.index refl

entry_in_the_hole : IsMapped two (record ring { avail = 0x14ffc }) → ⊥
entry_in_the_hole h = h.entry refl

table_in_the_hole : IsMapped two (record ring { table = 0x15000 }) → ⊥
table_in_the_hole h = h.descriptors 0 (omega arith) refl

last_descriptor_too : IsMapped two (record ring { table = 0x14f90 }) → ⊥
last_descriptor_too h = h.descriptors 7 (omega arith) refl

there : ArePartsMapped two (record { address = 0x400; plus = 4; length = 4 } ∷ [])
there = (λ e. absurd cc, tt)

after_it_a_hole : ArePartsMapped two
    (record { address = 0x400; plus = 4; length = 4 } ∷ record { address = 0x14ffc; plus = 4; length = 4 } ∷ []) → ⊥
after_it_a_hole h = h.1.0 refl

-- all of eight descriptors, the last one of which ends where the hole begins
each_there : (k : ℕ) → k < 8 → spot two (0x14f80 + 16 * k) 16 ≢ None
each_there zero lt = λ e. absurd cc
each_there (suc zero) lt = λ e. absurd cc
each_there (suc (suc zero)) lt = λ e. absurd cc
each_there (suc (suc (suc zero))) lt = λ e. absurd cc
each_there (suc (suc (suc (suc zero)))) lt = λ e. absurd cc
each_there (suc (suc (suc (suc (suc zero))))) lt = λ e. absurd cc
each_there (suc (suc (suc (suc (suc (suc zero)))))) lt = λ e. absurd cc
each_there (suc (suc (suc (suc (suc (suc (suc zero))))))) lt = λ e. absurd cc
each_there (suc (suc (suc (suc (suc (suc (suc (suc k)))))))) lt = absurd (omega (arith, lt))

mapped : IsMapped two (record ring { table = 0x14f80; avail = 0x14ffa })
mapped = record { index = λ e. absurd cc; entry = λ e. absurd cc; descriptors = each_there }

-- ---- what is done

abbrev over : Option Denial → Device → Whole
over why d = whole two Inflate d (record { tally = tally; why = why; interrupt = false; more = false })

abbrev Nothing : (List Access → Type 0) → Option Denial → Device → Device → Type 0
Nothing still why after d = DoesNext still (over why after) tally d [] (Ok None)

nothing_there : Nothing Any None ready ready
nothing_there = (refl, refl, tt)

another_device : Nothing Any None ready (record ready { target = 9 }) → ⊥
another_device h = let e : Same 0 9 = ap (λ (d : Device). d.target) h.1 in omega arith

refused_although_none_is_there : Nothing Any (Some NotReady) ready ready → ⊥
refused_although_none_is_there h = let e = h.0 in absurd cc

-- no access is left then
ends_with_accesses : Nothing Rest None ready ready → ⊥
ends_with_accesses h = let e = h.2 in absurd cc

-- a rule is broken: that one, and the device needs a reset
abbrev Breaks : Option Denial → Device → Type 0
Breaks why after = DoesNext Any (over why after) tally ready [] (Err IndexJump)

breaks : Breaks (Some (Broken IndexJump)) (record ready { status = 79 })
breaks = (refl, refl, tt)

breaks_another : Breaks (Some (Broken OutOfRam)) (record ready { status = 79 }) → ⊥
breaks_another h = let e = h.0 in absurd cc

breaks_no_device : Breaks (Some (Broken IndexJump)) ready → ⊥
breaks_no_device h = let e : Same 15 79 = ap (λ (d : Device). d.status) h.1 in omega arith

does_then : AfterReads Any Rest (index ∷ Acquire ∷ discard ∷ [])
does_then = record { read = index ∷ Acquire ∷ []; rest = discard ∷ []; all = refl; is = refl; still_so = tt }

joined : (read rest : List Access) → [] ≡ read ++ rest → rest ≡ discard ∷ [] → ⊥
joined [] rest e f = absurd cc
joined (x ∷ xs) rest e f = absurd cc

after_nothing : AfterReads Any Rest [] → ⊥
after_nothing h = joined h.read h.rest h.all h.is

-- both of the same accesses
of_others : AfterReads (λ rest. rest ≡ []) Rest (index ∷ Acquire ∷ discard ∷ []) → ⊥
of_others h = let e = h.is in let f = h.still_so in absurd cc

-- a chain is served by its pieces: four bytes are a request, in a hole no memory
abbrev taken : Piece → Taken
taken p = record { head = 3; chain = p ∷ [] }

abbrev in_the_hole : Piece
in_the_hole = record { addr = 0x15000; len = 4; writable = false }

served : DoesNext Any (over (Some (Broken OutOfRam)) (record ready { status = 79 })) tally ready
    (index ∷ Acquire ∷ []) (Ok (Some (taken in_the_hole)))
served = record {
  read = index ∷ Acquire ∷ [];
  rest = [];
  all = refl;
  is = record { nothing = refl; device = refl; outcome = refl };
  still_so = tt;
}

-- three bytes are no request
of_three : DoesNext Any (over (Some (Broken BadLength)) (record ready { status = 79 })) tally ready
    (index ∷ []) (Ok (Some (taken (record in_the_hole { len = 3 }))))
of_three = (refl, refl, tt)

unserved_in : (w : Whole) (read rest : List Access) → [] ≡ read ++ rest →
    serves (record w { regions = two; kind = Inflate }) tally ready 3 (piece ∷ []) rest → ⊥
unserved_in w [] rest e h = let f = h.asks in absurd cc
unserved_in w (x ∷ xs) rest e h = absurd cc

unserved : (w : Whole) → DoesNext Any (record w { regions = two; kind = Inflate }) tally ready []
    (Ok (Some (taken piece))) → ⊥
unserved w h = unserved_in w h.read h.rest h.all h.is

-- its head counts, which a buffer of statistics is held by
abbrev holds : ℕ → Whole
holds head = whole two Statistics (with_one_taken Statistics ready) (record {
  tally = record tally { held = chain_of head 0 };
  why = None;
  interrupt = false;
  more = false;
})

abbrev empty : Result (Option Taken) ChainFault
empty = Ok (Some (record { head = 3; chain = [] }))

held : DoesNext Any (holds 3) tally ready (index ∷ TellFigures [] ∷ []) empty
unfolding lib.Count.ones
held = record {
  read = index ∷ [];
  rest = TellFigures [] ∷ [];
  all = refl;
  is = record {
    figures = [];
    are = λ k d lt. absurd (omega (arith, lt));
    tells = record { rest = []; asks = refl; ends = record { nothing = refl; device = refl; outcome = refl } };
  };
  still_so = tt;
}

of_another_head : DoesNext Any (holds 4) tally ready (index ∷ TellFigures [] ∷ []) empty → ⊥
unfolding lib.Count.ones
of_another_head h = let e : Same 4 3 = ap head_of h.is.tells.ends.outcome in omega arith

-- what the device reads, and which lengths it takes
reads : map is_read (Inflate ∷ Deflate ∷ Statistics ∷ Hint ∷ Report ∷ []) ≡ true ∷ true ∷ true ∷ false ∷ false ∷ []
reads = refl

lengths : length_of Statistics 256 (record piece { len = 8 } ∷ []) ∷ length_of Statistics 256 (record piece { len = 10 } ∷ [])
    ∷ length_of Inflate 256 (record piece { writable = true } ∷ []) ∷ length_of Deflate 257 (record piece { len = 1028 } ∷ [])
    ∷ length_of Inflate 256 (record piece { len = 1028 } ∷ []) ∷ length_of Hint 256 (piece ∷ [])
    ∷ length_of Hint 256 (record piece { len = 8 } ∷ []) ∷ []
    ≡ Err BadLength ∷ Ok 10 ∷ Err WrongDirection ∷ Ok 1028 ∷ Err BadLength ∷ Ok 4 ∷ Err BadLength ∷ []
lengths = refl

-- ---- reports

abbrev reports : Option Denial → Device → Whole
reports why d = record (over why d) { kind = Report }

abbrev page_of : ℕ → Piece
page_of n = record { addr = 4096 * n; len = 4096; writable = true }

none_reported : ReportsNext Any (reports None ready) tally ready [] (Ok None)
none_reported = (refl, refl, tt)

refused_although_none_is_reported : ReportsNext Any (reports (Some NotReady) ready) tally ready [] (Ok None) → ⊥
refused_although_none_is_reported h = let e = h.0 in absurd cc

reports_end_with_accesses : ReportsNext Rest (reports None ready) tally ready [] (Ok None) → ⊥
reports_end_with_accesses h = let e = h.2 in absurd cc

another_device_then : ReportsNext Any (reports None ready) tally (record ready { target = 9 }) [] (Ok None) → ⊥
another_device_then h = let e : Same 0 9 = ap (λ (d : Device). d.target) h.1 in omega arith

-- a piece that may only be read is no report
unwritable : ReportsNext Any (reports (Some (Broken WrongDirection)) (record ready { status = 79 })) tally ready []
    (Ok (Some (taken (record (page_of 5) { writable = false }))))
unwritable = (refl, refl, tt)

told_in : (read rest more : List Access) (x : Access) → [] ≡ read ++ rest → rest ≡ x ∷ more → ⊥
told_in [] rest more x e f = absurd cc
told_in (y ∷ ys) rest more x e f = absurd cc

untold : (w : Whole) → ReportsNext Any (record w { kind = Report }) tally ready [] (Ok (Some (taken (page_of 5)))) → ⊥
untold w h = told_in h.read h.rest h.is.rest _ h.all h.is.asks

-- the pages of the report, and no others
abbrev first_told : List Access → ℕ
first_told (TellPages kind (run ∷ more) count ∷ xs) = run.first
first_told xs = 0

abbrev page_9 : Access
page_9 = TellPages Report (record { first = 9; count = 1 } ∷ []) one_page

abbrev page_5_told : Access
page_5_told = TellPages Report (page_5 ∷ []) one_page

others_in : (read rest more : List Access) → page_9 ∷ [] ≡ read ++ rest → rest ≡ page_5_told ∷ more → ⊥
others_in [] rest more e f = let x : Same 9 5 = ap first_told (e ∙ f) in omega arith
others_in (x ∷ read) rest more e f =
    let all = ap (λ (l : List Access). length l) e in
    let some = ap (λ (l : List Access). length l) f in
    omega (arith, all, some, length-append read rest)

others_told : ReportsNext Any (reports None ready) tally ready (page_9 ∷ []) (Ok (Some (taken (page_of 5)))) → ⊥
others_told h = others_in h.read h.rest h.is.rest h.all h.is.asks

-- which chains name pages by their pieces: hints that have no id, and reports
names_pages : map (λ pieces. has_pages Hint pieces) ((piece ∷ []) ∷ (page_of 5 ∷ []) ∷ [] ∷ []) ≡ false ∷ true ∷ true ∷ []
names_pages = refl

which_name_pages : map (λ kind. has_pages kind (page_of 5 ∷ [])) (Inflate ∷ Deflate ∷ Statistics ∷ Report ∷ []) ≡
    false ∷ false ∷ false ∷ true ∷ []
which_name_pages = refl

-- a hint's pages are those that are taken from the queue of hints
hint_untold : (w : Whole) → ReportsNext Any (record w { kind = Hint }) tally ready [] (Ok (Some (taken (page_of 5)))) → ⊥
hint_untold w h = told_in h.read h.rest h.is.rest _ h.all h.is.asks
