-- How the walk within a row of descriptors ends, and what comes then.
use Rattle.std.specs.Prelude.{ℕ, ◌<◌, Bool, List, length}
use Rattle.vb_chain.specs.declared.pieces.Piece.{Piece}
use Rattle.vb_core.specs.declared.device.Device.{Device}
use Rattle.vb_core.specs.Devices.{ring_of}
use Rattle.vb_monitor.specs.declared.outcome.Tally.{Tally}
use Rattle.vb_monitor.specs.declared.rows.RowEnd.{RowEnd}
use Rattle.vb_monitor.specs.declared.rows.RowEnd.TheVariants.{Broken, Last, Leaves}
use Rattle.vb_monitor.specs.Accesses.{Access}
use Rattle.vb_monitor.specs.Ends.{Whole, Breaks}
use Rattle.vb_monitor.specs.Chains.{TableRow, further_in_row, TakesRow}

-- A rule is broken; or the chain is whole; or another row is asked for, which isn't the chain's
-- first.
abbrev pub EndsRow : RowEnd → Whole → Device → Tally →
    (TableRow → ℕ → Bool → List Piece → List Access → Type 0) →
    (List Piece → List Access → Type 0) → Bool → List Piece → List Access → Type 0
EndsRow (Broken fault) w d tally on whole writing pieces log = Breaks w d tally fault log
EndsRow Last w d tally on whole writing pieces log = whole pieces log
EndsRow (Leaves number) w d tally on whole writing pieces log = 0 < length pieces →
    TakesRow w d tally on whole number
    (further_in_row w.regions (ring_of w.kind d) number pieces) writing pieces log
