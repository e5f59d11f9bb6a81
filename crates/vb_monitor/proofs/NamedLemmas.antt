-- What is told of pages and figures, where something is told.
use Rattle.std.proofs.Common.{◌≡◌, ◌∙◌, ap, sym, subst, refl, ℕ, List, Bool, true, false}
use Rattle.std.proofs.Common.{◌+◌, length, map, take, Option, Some, None, Result, Ok, Err}
use Rattle.vb_chain.{specs.declared.pieces.Piece.Piece, specs.declared.fault.ChainFault.ChainFault}
use Rattle.vb_request.{specs.Request.numbers_of, specs.Report.report_request}
use Rattle.vb_core.specs.{Devices.{with_one_taken}, Name.{NamesNumbersBy, NamesRuns, fault_in}}
use Rattle.vb_core.specs.{Name.{name_denial, after_chain, after_numbers, told}, Report.NamesPiecesBy}
use Rattle.vb_core.specs.Report.{pieces_denial, named_by, report_named, run_of}
use Rattle.vb_core.specs.{Settings.{memory_pages, skips}, declared.device.Denial.Denial}
use Rattle.vb_core.specs.declared.device.{Denial.TheVariants.NoQueue, Device.Device}
use Rattle.vb_core.specs.declared.{kinds.Kind.Kind, kinds.Kind.TheVariants.Report, name.Named.Named}
use Rattle.vb_core.specs.declared.{runs.Run.Run}
use Rattle.vb_monitor.specs.{Giving.after_last, Turns.{TellNumbers, TellPieces, TellHint}}
use Rattle.vb_monitor.specs.Chains.{told_if}
use Rattle.vb_monitor.proofs.TurnEnds.{IsLike, flawed_like, taken_like}

-- ---- where the flags lie is no other, and the round is the same

-- a device that takes what was named, or notes a rule that is broken
answered_like : (kind : Kind) (d d2 : Device) (answer : Result Named ChainFault) →
    d2 ≡ after_chain kind answer d → IsLike kind d2 d
answered_like kind d d2 (Ok named) e =
    subst (λ (x : Device). IsLike kind x d) (sym e) (taken_like kind d)
answered_like kind d d2 (Err fault) e =
    subst (λ (x : Device). IsLike kind x d) (sym e) (flawed_like kind d)

numbered_like : (kind : Kind) (d d2 : Device) (answer : Result Named ChainFault) →
    d2 ≡ after_numbers answer d → IsLike kind d2 d
numbered_like kind d d2 (Ok named) e =
    subst (λ (x : Device). IsLike kind x d) (sym e) (record { avail = refl; round = refl })
numbered_like kind d d2 (Err fault) e =
    subst (λ (x : Device). IsLike kind x d) (sym e) (flawed_like kind d)

last_like : (kind : Kind) (d d2 : Device) (result : Result Named Denial) → IsLike kind d2 d →
    IsLike kind (after_last kind result d2) d
last_like kind d d2 (Ok named) is = record {
  avail = (taken_like kind d2).avail ∙ is.avail;
  round = (taken_like kind d2).round ∙ is.round;
}
last_like kind d d2 (Err why) is = is

names_by : (kind : Kind) (bytes : List ℕ) (room : ℕ) (runs : List Run) (d d2 : Device)
    (result : Result Named Denial) (denial : Option Denial) →
    name_denial kind (length bytes) room d ≡ denial → NamesNumbersBy kind bytes room runs d d2 result →
    IsLike kind d2 d
names_by kind bytes room runs d d2 result (Some why) e h = subst (λ (x : Device). IsLike kind x d)
    (sym (h.denied why e).1) (record { avail = refl; round = refl })
names_by kind bytes room runs d d2 result None e h =
    let x = h.names e in numbered_like kind d d2 x.0 x.3

pub names_like : (kind : Kind) (bytes : List ℕ) (room : ℕ) (runs : List Run) (d d2 : Device)
    (result : Result Named Denial) → NamesNumbersBy kind bytes room runs d d2 result →
    IsLike kind (after_last kind result d2) d
names_like kind bytes room runs d d2 result h = last_like kind d d2 result
    (names_by kind bytes room runs d d2 result (name_denial kind (length bytes) room d) refl h)

pieces_by : (kind : Kind) (pieces : List Piece) (room : ℕ) (runs : List Run) (d d2 : Device)
    (result : Result Named Denial) (denial : Option Denial) →
    pieces_denial kind pieces room d ≡ denial → NamesPiecesBy kind pieces room runs d d2 result →
    IsLike kind d2 d
pieces_by kind pieces room runs d d2 result (Some why) e h = subst (λ (x : Device). IsLike kind x d)
    (sym (h.denied why e).1) (record { avail = refl; round = refl })
pieces_by kind pieces room runs d d2 result None e h =
    answered_like kind d d2 (report_named pieces d.settings.reserved_pages) (h.device e)

pub pieces_like : (kind : Kind) (pieces : List Piece) (room : ℕ) (runs : List Run) (d d2 : Device)
    (result : Result Named Denial) → NamesPiecesBy kind pieces room runs d d2 result →
    IsLike kind d2 d
pieces_like kind pieces room runs d d2 result h =
    pieces_by kind pieces room runs d d2 result (pieces_denial kind pieces room d) refl h

-- ---- numbers

abbrev pub Numbers : List ℕ → List Run → Device → Device → Named → Type 0
Numbers bytes runs d d2 named = TellNumbers d.settings bytes (take named.runs runs) named × (d2 ≡ d)

sound_by : (bytes : List ℕ) (runs : List Run) (d : Device) (named : Named)
    (fault : Option ChainFault) →
    fault_in (skips d.settings) d.settings.reserved_pages (memory_pages d.settings)
    (numbers_of bytes) ≡ fault →
    NamesRuns (skips d.settings) d.settings.reserved_pages (memory_pages d.settings)
    (numbers_of bytes) runs (Ok named) → TellNumbers d.settings bytes (take named.runs runs) named
sound_by bytes runs d named (Some fault) e h = let x = h.fault fault e in absurd cc
sound_by bytes runs d named None e h = let are = h.named e in record {
  sound = e;
  tell = are.told_so;
  pages = are.count;
  skipped = ap (λ (n : ℕ). named.skipped + n) are.count ∙ are.others;
}

answered : (bytes : List ℕ) (runs : List Run) (d d2 : Device) (named : Named)
    (answer : Result Named ChainFault) →
    NamesRuns (skips d.settings) d.settings.reserved_pages (memory_pages d.settings)
    (numbers_of bytes) runs answer → Ok named ≡ told answer → d2 ≡ after_numbers answer d →
    Numbers bytes runs d d2 named
answered bytes runs d d2 named (Err fault) h e after = absurd cc
answered bytes runs d d2 named (Ok other) h e after = let same : other ≡ named = cc in (
  subst (λ (n : Named). TellNumbers d.settings bytes (take n.runs runs) n) same
      (sound_by bytes runs d other _ refl h),
  after,
)

named_so : (kind : Kind) (bytes : List ℕ) (room : ℕ) (runs : List Run) (d d2 : Device)
    (named : Named) (denial : Option Denial) → name_denial kind (length bytes) room d ≡ denial →
    NamesNumbersBy kind bytes room runs d d2 (Ok named) → Numbers bytes runs d d2 named
named_so kind bytes room runs d d2 named (Some why) e h = let x = (h.denied why e).0 in absurd cc
named_so kind bytes room runs d d2 named None e h =
    let x = h.names e in answered bytes runs d d2 named x.0 x.1 x.2 x.3

pub named_numbers : (kind : Kind) (bytes : List ℕ) (room : ℕ) (runs : List Run) (d d2 : Device)
    (named : Named) → NamesNumbersBy kind bytes room runs d d2 (Ok named) →
    Numbers bytes runs d d2 named
named_numbers kind bytes room runs d d2 named h =
    named_so kind bytes room runs d d2 named (name_denial kind (length bytes) room d) refl h

-- reports aren't named by bytes
pub no_report : (bytes : List ℕ) (room : ℕ) (runs : List Run) (d d2 : Device) (named : Named) →
    NamesNumbersBy Report bytes room runs d d2 (Ok named) → ⊥
no_report bytes room runs d d2 named h = let x = (h.denied NoQueue refl).0 in absurd cc

-- ---- pieces

abbrev Pieces : Kind → List Piece → List Run → Device → Device → Named → Type 0
Pieces kind pieces runs d d2 named =
    TellPieces d.settings pieces (take named.runs runs) named × (d2 ≡ with_one_taken kind d)

pieces_answered : (kind : Kind) (pieces : List Piece) (runs : List Run) (d d2 : Device)
    (named : Named) (request : Result (List ℕ) ChainFault) →
    report_request pieces d.settings.reserved_pages
    ≡ request → Ok named ≡ told (named_by (length pieces) request)
    → d2 ≡ after_chain kind (named_by (length pieces) request) d
    → take (length pieces) runs ≡ map run_of pieces → Pieces kind pieces runs d d2 named
pieces_answered kind pieces runs d d2 named (Err fault) is e after are = absurd cc
pieces_answered kind pieces runs d d2 named (Ok pages) is e after are =
    let count_so : named.runs ≡ length pieces = cc in (
      record {
        free = pages;
        sound = is;
        are = ap (λ (n : ℕ). take n runs) count_so ∙ are;
        pages = cc;
        skipped = cc;
      },
      after,
    )

pieces_so : (kind : Kind) (pieces : List Piece) (room : ℕ) (runs : List Run) (d d2 : Device)
    (named : Named) (denial : Option Denial) → pieces_denial kind pieces room d ≡ denial →
    NamesPiecesBy kind pieces room runs d d2 (Ok named) → Pieces kind pieces runs d d2 named
pieces_so kind pieces room runs d d2 named (Some why) e h =
    let x = (h.denied why e).0 in absurd cc
pieces_so kind pieces room runs d d2 named None e h = pieces_answered kind pieces runs d d2 named
    (report_request pieces d.settings.reserved_pages) refl (h.answer e) (h.device e)
    (h.runs_are refl)

-- what is told of them, where their pages are told, or else skipped
abbrev pub ToldPieces : Bool → Kind → List Piece → List Run → Device → Device → Named → Type 0
ToldPieces told_so kind pieces runs d d2 named =
    TellHint told_so d.settings pieces (take named.runs runs) named × (d2 ≡ with_one_taken kind d)

skipped_so : (kind : Kind) (pieces : List Piece) (runs : List Run) (d d2 : Device)
    (named now : Named) → record { runs = 0; pages = 0; skipped = named.pages } ≡ now →
    Pieces kind pieces runs d d2 named → ToldPieces false kind pieces runs d d2 now
skipped_so kind pieces runs d d2 named now e h = (
  record {
    free = h.0.free;
    sound = h.0.sound;
    none = ap (λ (x : Named). take x.runs runs) (sym e);
    pages = ap (λ (x : Named). x.pages) (sym e);
    skipped = ap (λ (x : Named). x.skipped) (sym e) ∙ h.0.pages;
  },
  h.1,
)

pub named_pieces : (told_so : Bool) (kind : Kind) (pieces : List Piece) (room : ℕ) (runs : List Run)
    (d d2 : Device) (answer : Result Named Denial) (now : Named) →
    NamesPiecesBy kind pieces room runs d d2 answer → told_if told_so answer ≡ Ok now →
    ToldPieces told_so kind pieces runs d d2 now
named_pieces true kind pieces room runs d d2 (Err why) now h e = absurd cc
named_pieces false kind pieces room runs d d2 (Err why) now h e = absurd cc
named_pieces true kind pieces room runs d d2 (Ok named) now h e =
    let same : named ≡ now = cc in
    subst (λ (x : Named). ToldPieces true kind pieces runs d d2 x) same
    (pieces_so kind pieces room runs d d2 named (pieces_denial kind pieces room d) refl h)
named_pieces false kind pieces room runs d d2 (Ok named) now h e =
    let same : record { runs = 0; pages = 0; skipped = named.pages } ≡ now = cc in
    skipped_so kind pieces runs d d2 named now same
    (pieces_so kind pieces room runs d d2 named (pieces_denial kind pieces room d) refl h)
