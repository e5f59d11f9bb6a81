-- What reports name, worked out, and what they don't.
use Rattle.std.proofs.Common.{◌≡◌, refl, ap, arith, ℕ, true, false, List, [], ◌∷◌, length, Some}
use Rattle.std.proofs.Common.{None, Result, Ok, Err, map}
use Rattle.vb_core.specs.Report.{run_of, report_named, pieces_denial, names_by_pieces}
use Rattle.vb_core.specs.{Pieces.pieces_in}
use Rattle.vb_core.specs.declared.kinds.Kind.TheVariants.{Inflate, Deflate, Statistics, Hint, Report}
use Rattle.vb_core.specs.declared.device.Denial.{Denial, TheVariants.{BadArgument, NotReady, Broken}}
use Rattle.vb_core.specs.declared.{device.Device.Device, name.Named.Named, runs.Run.Run}
use Rattle.vb_core.{proofs.Examples.{fresh, ready}, specs.Report.NamesPiecesBy}
use Rattle.vb_chain.specs.declared.fault.ChainFault.TheVariants.{WrongDirection, BadLength, BadPage}
use Rattle.vb_chain.specs.declared.{fault.ChainFault.TheVariants.ReservedPage, pieces.Piece.Piece}

-- pages 20 and 21, and page 40
abbrev two : Piece
two = record { addr = 81920; len = 8192; writable = true }

abbrev one : Piece
one = record { addr = 163840; len = 4096; writable = true }

two_is : run_of two ≡ record { first = 20; count = 2 }
two_is = refl

both_are : report_named (two ∷ one ∷ []) 16 ≡ Ok (record { runs = 2; pages = 3; skipped = 0 })
both_are = refl

-- a page that is named again counts again
again : report_named (one ∷ one ∷ []) 16 ≡ Ok (record { runs = 2; pages = 2; skipped = 0 })
again = refl

-- what is the device's to read is no report, nor is half a page, nor no byte, nor a page begun in
-- its midst, nor a reserved one
no_reports : map (λ piece. report_named (piece ∷ []) 16) (record one { writable = false }
    ∷ record one { len = 2048 } ∷ record one { len = 0 } ∷ record one { addr = 163841 } ∷ [])
    ≡ Err WrongDirection ∷ Err BadLength ∷ Err BadLength ∷ Err BadPage ∷ []
no_reports = refl

reserved : report_named (one ∷ []) 41 ≡ Err ReservedPage
reserved = refl

-- what plain data says: any number but 0 lets the device write
says : pieces_in (map (λ (n : ℕ). record { address = 81920; length = 8192; writable = n }) (0 ∷ 1 ∷ 7 ∷ []))
    ≡ record two { writable = false } ∷ two ∷ two ∷ []
unfolding pieces_in
says = refl

-- ---- a device

open_one : pieces_denial Report (one ∷ []) 256 ready ≡ None
unfolding lib.Count.ones
open_one = refl

open_none : pieces_denial Report (record one { len = 0 } ∷ []) 256 ready ≡ None
unfolding lib.Count.ones
open_none = refl

-- of 64 pages the first 16 are reserved, as its settings say
abbrev reserved_one : Piece
reserved_one = record one { addr = 61440 }

open_reserved : pieces_denial Report (reserved_one ∷ []) 256 ready ≡ None
unfolding lib.Count.ones
open_reserved = refl

by_its_settings : (runs : List Run) (d : Device) (result : Result Named Denial)
    → NamesPiecesBy Report (reserved_one ∷ []) 256 runs ready d result
    → (result ≡ Err (Broken ReservedPage)) × (d ≡ record ready { status = 79 })
by_its_settings runs d result n = (n.answer open_reserved, n.device open_reserved)

-- too few runs, a piece beyond memory, and a device that isn't ready
refused : pieces_denial Report (one ∷ []) 31 ready ∷ pieces_denial Report (record one { addr = 0x100000000000 } ∷ []) 256 ready
    ∷ pieces_denial Report (one ∷ []) 256 fresh ∷ [] ≡ Some BadArgument ∷ Some BadArgument ∷ Some NotReady ∷ []
refused = refl

abbrev first_of : List Run → ℕ
first_of [] = 0
first_of (r ∷ rs) = r.first

abbrev pages_or_none : Result Named Denial → ℕ
pages_or_none (Err why) = 0
pages_or_none (Ok named) = named.pages

-- other runs, another count of pages, a report that isn't taken, and an answer in place of a fault
-- aren't admitted
other_runs : (d : Device) → NamesPiecesBy Report (one ∷ []) 256 (record { first = 41; count = 1 } ∷ []) ready d
    (Ok (record { runs = 1; pages = 1; skipped = 0 })) → ⊥
other_runs d n = omega (arith, ap (λ (rs : List Run). first_of rs) (n.runs_are refl))

no_runs : (d : Device) → NamesPiecesBy Report (one ∷ []) 256 [] ready d
    (Ok (record { runs = 1; pages = 1; skipped = 0 })) → ⊥
no_runs d n = omega (arith, ap (λ (rs : List Run). length rs) (n.runs_are refl))

another_count : (runs : List Run) (d : Device) → NamesPiecesBy Report (one ∷ []) 256 runs ready d
    (Ok (record { runs = 1; pages = 7; skipped = 0 })) → ⊥
another_count runs d n = omega (arith, ap pages_or_none (n.answer open_one))

not_taken : (runs : List Run) (result : Result Named Denial) →
    NamesPiecesBy Report (one ∷ []) 256 runs ready ready result → ⊥
not_taken runs result n =
    omega (arith, ap (λ (d : Device). d.report.next_avail) (n.device open_one))

no_reset : (runs : List Run) (result : Result Named Denial) →
    NamesPiecesBy Report (record one { len = 0 } ∷ []) 256 runs ready ready result → ⊥
no_reset runs result n = omega (arith, ap (λ (d : Device). d.status) (n.device open_none))

denied_but_changed : (runs : List Run) (result : Result Named Denial) →
    NamesPiecesBy Report (one ∷ []) 31 runs ready (record ready { target = 1 }) result → ⊥
denied_but_changed runs result n =
    omega (arith, ap (λ (d : Device). d.target) (n.denied BadArgument refl).1)

-- ---- in copies
