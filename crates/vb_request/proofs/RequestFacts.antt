-- What a request may name, the piece that it is written as, and the runs of a report, worked out.
use Rattle.std.proofs.Common.{◌≡◌, ℕ, zero, suc, ◌+◌, ◌*◌, ◌<◌, ◌≤◌, true, false, List, [], ◌∷◌}
use Rattle.std.proofs.Common.{Some, None, ap, arith, length, refl, replicate, sym}
use Rattle.std.proofs.lemmas.List.{get_or-replicate}
use Rattle.std.specs.Prelude.{Option, slice_get, slice_index, slice_index_or}
use Rattle.vb_ram.specs.Pages.{Pages, byte_at, field}
use Rattle.vb_chain.specs.declared.pieces.Piece.{Piece}
use Rattle.vb_request.specs.{Report.{IsRun, RunsFrom}, declared.named.NamedRun.NamedRun}
use Rattle.vb_request.specs.Request.{ArePages, IsRequestPiece}

-- ---- pages that a request may name: of eight, of which two are reserved

-- the first that isn't reserved, and the last, in any order
pages : ArePages 2 8 (7 ∷ 2 ∷ [])
pages = record { above = above; below = below; distinct = (refl, (refl, tt)) } where
  above : (k d : ℕ) → k < 2 → 2 ≤ slice_index_or (7 ∷ 2 ∷ []) k d
  above zero d lt = omega arith
  above (suc zero) d lt = omega arith
  above (suc (suc k)) d lt = absurd (omega (arith, lt))

  below : (k d : ℕ) → k < 2 → slice_index_or (7 ∷ 2 ∷ []) k d < 8
  below zero d lt = omega arith
  below (suc zero) d lt = omega arith
  below (suc (suc k)) d lt = absurd (omega (arith, lt))

-- one that is reserved, one past the end, and one that is there twice
no_pages : (ArePages 2 8 (7 ∷ 1 ∷ []) → ⊥) × (ArePages 2 8 (2 ∷ 8 ∷ []) → ⊥)
    × (ArePages 2 8 (2 ∷ 3 ∷ 2 ∷ []) → ⊥)
no_pages = (
  λ are. omega (arith, are.above 1 0 (omega arith)),
  λ are. omega (arith, are.below 1 0 (omega arith)),
  λ are. (let wrong : false ≡ true = are.distinct.0 in cc),
)

-- ---- the piece that a request is: of pages 20 and 258, at byte 4 of page 1

abbrev memory : Pages
memory = None ∷ Some (record { number = 5; bytes = 0 ∷ 0 ∷ 0 ∷ 0 ∷ 20 ∷ 0 ∷ 0 ∷ 0 ∷ 2 ∷ 1 ∷ 0 ∷ 0 ∷ 9 ∷ [] }) ∷ []

abbrev piece : Piece
piece = record { addr = 4100; len = 8; writable = false }

request_piece : IsRequestPiece memory piece 1 4 (20 ∷ 258 ∷ [])
unfolding field byte_at
request_piece = record {
  addr = refl;
  len = refl;
  readable = refl;
  inside = omega arith;
  numbers = numbers;
  some = omega arith;
  few = omega arith;
} where
  numbers : (k : ℕ) → k < 2 → field 4 memory 1 (4 + 4 * k) ≡ slice_index (20 ∷ 258 ∷ []) k
  numbers zero lt = refl
  numbers (suc zero) lt = refl
  numbers (suc (suc k)) lt = absurd (omega (arith, lt))

-- a piece that begins elsewhere, one that is too long, one that is written, one that goes past its
-- page, one that has another number, one that has none, and one that has too many
no_request_piece : (IsRequestPiece memory piece 1 0 (20 ∷ 258 ∷ []) → ⊥)
    × (IsRequestPiece memory (record piece { len = 12 }) 1 4 (20 ∷ 258 ∷ []) → ⊥)
    × (IsRequestPiece memory (record piece { writable = true }) 1 4 (20 ∷ 258 ∷ []) → ⊥)
    × ((mem : Pages) (p : Piece) → IsRequestPiece mem p 1 4089 (20 ∷ 258 ∷ []) → ⊥)
    × (IsRequestPiece memory piece 1 4 (20 ∷ 2 ∷ []) → ⊥)
    × ((mem : Pages) (p : Piece) → IsRequestPiece mem p 1 4 [] → ⊥)
    × ((mem : Pages) (p : Piece) (numbers : List ℕ) → length numbers ≡ 257
    → IsRequestPiece mem p 1 4 numbers → ⊥)
unfolding field byte_at
no_request_piece = (
  λ is. omega (arith, is.addr),
  λ is. omega (arith, is.len),
  λ is. (let wrong : true ≡ false = is.readable in cc),
  λ mem p is. omega (arith, is.inside),
  λ is. (let wrong : 258 ≡ 2 = is.numbers 1 (omega arith) in omega (arith, wrong)),
  λ mem p is. omega (arith, is.some),
  λ mem p numbers e is. omega (arith, e, is.few),
)

-- the last 1024 bytes of a page are room for the most numbers
at_the_end : IsRequestPiece (None ∷ None ∷ [])
    (record { addr = 7168; len = 1024; writable = false }) 1 3072 (replicate 256 0)
unfolding field byte_at
at_the_end = record {
  addr = refl;
  len = refl;
  readable = refl;
  inside = omega arith;
  numbers = λ k lt. sym (get_or-replicate 256 k 0 0 lt);
  some = omega arith;
  few = omega arith;
}

-- ---- runs of a report

abbrev named : List ℕ
named = 7 ∷ 20 ∷ 21 ∷ []

abbrev run_at : ℕ → ℕ → ℕ → NamedRun
run_at at first count = record { at = at; first = first; count = count }

run : IsRun named (run_at 1 20 2)
run = record { at = at; below = omega arith } where
  at : (i : ℕ) → i < 2 → slice_get named (1 + i) ≡ Some (20 + i)
  at zero lt = refl
  at (suc zero) lt = refl
  at (suc (suc i)) lt = absurd (omega (arith, lt))

abbrev or_zero : Option ℕ → ℕ
or_zero None = 0
or_zero (Some n) = n

-- a page more, another place, another page, and a page that 32 bits don't number
no_run : (IsRun named (run_at 1 20 3) → ⊥) × (IsRun named (run_at 0 20 1) → ⊥)
    × (IsRun named (run_at 1 21 2) → ⊥) × (IsRun (0x100000000 ∷ []) (run_at 0 0x100000000 1) → ⊥)
no_run = (
  λ is. omega (arith, ap or_zero (is.at 2 (omega arith))),
  λ is. omega (arith, ap or_zero (is.at 0 (omega arith))),
  λ is. omega (arith, ap or_zero (is.at 0 (omega arith))),
  λ is. omega (arith, is.below),
)

-- the last page that 32 bits number
last_run : IsRun (0xffffffff ∷ []) (run_at 0 0xffffffff 1)
last_run = record { at = at; below = omega arith } where
  at : (i : ℕ) → i < 1 → slice_get (0xffffffff ∷ []) (0 + i) ≡ Some (0xffffffff + i)
  at zero lt = refl
  at (suc i) lt = absurd (omega (arith, lt))

runs_from : RunsFrom named 1 (Some (run_at 1 20 2)) × RunsFrom named 3 None
runs_from = ((refl, omega arith, run), omega arith)

-- none though there is one, one from another place on, one of no page, and one of a page more
not_runs_from : (RunsFrom named 2 None → ⊥) × (RunsFrom named 0 (Some (run_at 1 20 2)) → ⊥)
    × (RunsFrom named 1 (Some (run_at 1 20 0)) → ⊥) × (RunsFrom named 1 (Some (run_at 1 20 3)) → ⊥)
not_runs_from = (
  λ none. omega (arith, none),
  λ runs. omega (arith, runs.0),
  λ runs. omega (arith, runs.1),
  λ runs. no_run.0 runs.2,
)
