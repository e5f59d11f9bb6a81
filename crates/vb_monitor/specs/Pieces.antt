-- The bytes of a chain's pieces, each copied once, in the chain's order.
use Rattle.std.specs.Prelude.{◌≡◌, ℕ, zero, suc, ◌+◌, ◌-◌, ◌%◌, ◌==◌, min, List, [], ◌∷◌, ◌++◌}
use Rattle.std.specs.Prelude.{length, if◌then◌else◌, Option, Some, None}
use Rattle.vb_virtio.specs.Limits.{page_size}
use Rattle.vb_chain.specs.declared.pieces.Piece.{Piece}
use Rattle.vb_chain.specs.declared.fault.ChainFault.TheVariants.{OutOfRam}
use Rattle.vb_core.specs.declared.device.Device.{Device}
use Rattle.vb_monitor.specs.declared.room.TheConstants.{MAX_BYTES}
use Rattle.vb_monitor.specs.declared.parts.Part.{Part}
use Rattle.vb_monitor.specs.declared.regions.Spot.{Spot}
use Rattle.vb_monitor.specs.declared.outcome.Tally.{Tally}
use Rattle.vb_monitor.specs.Accesses.{Access, CopyBytes}
use Rattle.vb_monitor.specs.Ends.{Whole, Breaks}

-- ---- parts

-- The next part of a piece, `done` bytes of which were copied, and `into` bytes of the chain: up to
-- the end of the piece, of the page in which the part begins, or of the portion, which is the next
-- MAX_BYTES bytes of the chain; whichever comes first.
abbrev pub next_part : Piece → ℕ → ℕ → Part
next_part p done into = record {
  address = p.addr;
  plus = done;
  length = min (p.len - done) (min (page_size - (p.addr + done) % page_size)
      (MAX_BYTES - into % MAX_BYTES));
}

-- The parts of a piece after `done` of its bytes, at most n of them.
abbrev pub parts_of : ℕ → Piece → ℕ → ℕ → List Part
parts_of zero p done into = []
parts_of (suc n) p done into =
    if p.len - done == 0 then []
    else next_part p done into ∷ parts_of n p (done + (next_part p done into).length)
    (into + (next_part p done into).length)

-- The parts of pieces, of the first of which `done` bytes were copied, and `into` bytes of the
-- chain.
abbrev pub parts_on : ℕ → ℕ → List Piece → List Part
parts_on into done [] = []
parts_on into done (p ∷ ps) =
    parts_of (p.len - done) p done into ++ parts_on (into + (p.len - done)) 0 ps

abbrev pub all_parts : List Piece → List Part
all_parts pieces = parts_on 0 0 pieces

-- ---- copies

-- A part is copied; what was copied before of its portion is in front.
pub record AsksPart (on : List ℕ → List Access → Type 0) (len : ℕ) (so_far : List ℕ) (at : Spot)
    (log : List Access) : Type 0 where
  pub bytes : List ℕ
  pub rest : List Access
  pub asks : log ≡ CopyBytes at bytes ∷ rest
  pub long : length bytes ≡ len
  pub goes_on : on (so_far ++ bytes) rest

abbrev pub PartAt : Whole → (List ℕ → List Access → Type 0) → Device → Tally → Part → List ℕ →
    Option Spot → List Access → Type 0
PartAt w on d tally part so_far None log = Breaks w d tally OutOfRam log
PartAt w on d tally part so_far (Some at) log = AsksPart on part.length so_far at log
