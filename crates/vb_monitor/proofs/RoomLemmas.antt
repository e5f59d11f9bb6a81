-- As many runs as are told have room.
use Rattle.vb_core.{specs.{Pieces.pieces_in, Name.told}, proofs.PieceLemmas.length_in}
use Rattle.vb_core.specs.Name.{NamesNumbersBy, NamesRuns, AreNamed, fault_in, right_numbers, name_denial}
use Rattle.vb_core.{specs.Name.{is_request, is_length_of_numbers}, specs.Report.{NamesPiecesBy, pieces_denial, named_by}}
use Rattle.vb_core.{specs.declared.kinds.Kind.Kind, specs.declared.name.Named.Named}
use Rattle.vb_core.{specs.declared.runs.Run.Run, specs.Devices.call_denial}
use Rattle.vb_core.{specs.declared.device.Denial.Denial, specs.declared.device.Device.Device}
use Rattle.vb_core.{specs.Settings.{memory_pages, skips}, specs.declared.pieces.ChainPiece.ChainPiece}
use Rattle.std.proofs.Common.{◌≡◌, sym, subst, ap, arith, ℕ, ◌≤◌, ◌/◌, Bool, true, false, List}
use Rattle.std.proofs.Common.{length, Option, Some, None, Result, Ok, Err, refl}
use Rattle.std.{specs.Prelude.{nat_le, ◌&&◌}, proofs.lemmas.Bool.Decides.nat_tests}
use Rattle.vb_chain.{specs.declared.fault.ChainFault.ChainFault, specs.declared.pieces.Piece.Piece}
use Rattle.vb_request.{specs.Request.numbers_of, proofs.Once.numbers_of-length}
use Rattle.vb_request.specs.Report.{report_request}
use Rattle.vb_virtio.specs.declared.limits.TheConstants.{MAX_QUEUE_SIZE}
use Rattle.vb_monitor.specs.{declared.room.TheConstants.MAX_RUNS, Chains.told_if}

fits_then : (kind : Kind) (known fits : Bool) (d : Device) →
    call_denial kind known fits d ≡ None → fits ≡ true
fits_then kind known true d e = refl
fits_then kind true false d e = cc
fits_then kind false false d e = cc

both_true : (a b : Bool) → (a && b) ≡ true → b ≡ true
both_true true b e = e
both_true false b e = cc

pub has_room : (kind : Kind) (len room : ℕ) (d : Device) → name_denial kind len room d ≡ None →
    len / 4 ≤ room
has_room kind len room d e =
    let both : nat_le (len / 4) room ≡ true =
    both_true (is_length_of_numbers len) (nat_le (len / 4) room)
    (fits_then kind (is_request kind) (is_length_of_numbers len && nat_le (len / 4) room) d e) in
    grind (arith, nat_tests)

few_runs : (o : Option ChainFault) (skipping : Bool) (reserved count : ℕ) (ns : List ℕ)
    (runs : List Run) (named : Named) → fault_in skipping reserved count ns ≡ o →
    NamesRuns skipping reserved count ns runs (Ok named) → named.runs ≤ length ns
few_runs (Some f) skipping reserved count ns runs named e n =
    let wrong : Ok named ≡ Err f = n.fault f e in cc
few_runs None skipping reserved count ns runs named e n =
    let are : AreNamed (right_numbers reserved count ns) (length ns) runs named = n.named e in
    let few = are.few in
    let others = are.others in
    omega (arith, few, others)

few_told : (answer : Result Named ChainFault) (skipping : Bool) (reserved count : ℕ)
    (ns : List ℕ) (runs : List Run) (named : Named) → Ok named ≡ told answer →
    NamesRuns skipping reserved count ns runs answer → named.runs ≤ length ns
few_told (Err f) skipping reserved count ns runs named e n = cc
few_told (Ok x) skipping reserved count ns runs named e n =
    let is : x ≡ named = cc in
    few_runs (fault_in skipping reserved count ns) skipping reserved count ns runs named refl
    (subst (λ (y : Named). NamesRuns skipping reserved count ns runs (Ok y)) is n)

few_by : (o : Option Denial) (kind : Kind) (bytes : List ℕ) (room : ℕ) (runs : List Run)
    (d1 d2 : Device) (named : Named) → name_denial kind (length bytes) room d1 ≡ o →
    NamesNumbersBy kind bytes room runs d1 d2 (Ok named) → named.runs ≤ room
few_by (Some why) kind bytes room runs d1 d2 named e n =
    let wrong : Ok named ≡ Err why = (n.denied why e).0 in cc
few_by None kind bytes room runs d1 d2 named e n =
    let (answer, are, is, after) = n.names e in
    let few : named.runs ≤ length (numbers_of bytes) = few_told answer (skips d1.settings)
    d1.settings.reserved_pages (memory_pages d1.settings) (numbers_of bytes) runs named is are in
    let long : length (numbers_of bytes) ≡ length bytes / 4 = numbers_of-length bytes in
    let fits : length bytes / 4 ≤ room = has_room kind (length bytes) room d1 e in
    omega (arith, few, long, fits)

pub few_named : (kind : Kind) (bytes : List ℕ) (room : ℕ) (runs : List Run) (d1 d2 : Device)
    (named : Named) → NamesNumbersBy kind bytes room runs d1 d2 (Ok named) → named.runs ≤ room
few_named kind bytes room runs d1 d2 named n =
    few_by (name_denial kind (length bytes) room d1) kind bytes room runs d1 d2 named refl n

-- ---- of reports

runs_of_report : (answer : Result (List ℕ) ChainFault) (count : ℕ) (named : Named) →
    Ok named ≡ told (named_by count answer) → named.runs ≡ count
runs_of_report (Err f) count named e = cc
runs_of_report (Ok pages) count named e =
    let is : record { runs = count; pages = length pages; skipped = 0 } ≡ named = cc in
    sym (ap (λ (x : Named). x.runs) is)

few_by_pieces : (o : Option Denial) (kind : Kind) (pieces : List Piece) (room : ℕ)
    (runs : List Run) (d1 d2 : Device) (named : Named) → pieces_denial kind pieces room d1 ≡ o →
    NamesPiecesBy kind pieces room runs d1 d2 (Ok named) → named.runs ≡ length pieces
few_by_pieces (Some why) kind pieces room runs d1 d2 named e n =
    let wrong : Ok named ≡ Err why = (n.denied why e).0 in cc
few_by_pieces None kind pieces room runs d1 d2 named e n = runs_of_report
    (report_request pieces d1.settings.reserved_pages) (length pieces) named (n.answer e)

few_when_told : (told_so : Bool) (named now : Named) → told_if told_so (Ok named) ≡ Ok now →
    named.runs ≤ MAX_RUNS → now.runs ≤ MAX_RUNS
few_when_told true named now e few = let same : named ≡ now = cc in
    subst (λ (x : Named). x.runs ≤ MAX_RUNS) same few
few_when_told false named now e few =
    let same : record { runs = 0; pages = 0; skipped = named.pages } ≡ now = cc in
    subst (λ (x : Named). x.runs ≤ MAX_RUNS) same (omega arith)

-- the pieces of a report or a hint are copied buffers, and none of their runs may be told
pub few_reported : (kind : Kind) (buffers : List ChainPiece) (room : ℕ) (runs : List Run)
    (d1 d2 : Device) (told_so : Bool) (named now : Named) → length buffers ≤ MAX_QUEUE_SIZE →
    NamesPiecesBy kind (pieces_in buffers) room runs d1 d2 (Ok named) →
    told_if told_so (Ok named) ≡ Ok now → now.runs ≤ MAX_RUNS
few_reported kind buffers room runs d1 d2 told_so named now short n e =
    let is : named.runs ≡ length (pieces_in buffers) = few_by_pieces
    (pieces_denial kind (pieces_in buffers) room d1) kind (pieces_in buffers) room runs d1 d2 named
    refl n in
    let long : length (pieces_in buffers) ≡ length buffers = length_in buffers in
    few_when_told told_so named now e (omega (arith, is, long, short))
