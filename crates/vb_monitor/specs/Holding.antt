-- A notice of a queue whose chains are held: nothing is written, and the chain that is told is
-- held.
use Rattle.std.specs.Prelude.{◌≡◌, ℕ, true, false, List, [], ◌∷◌, Some, None}
use Rattle.vb_core.specs.declared.kinds.Kind.{Kind}
use Rattle.vb_core.specs.declared.settings.Settings.{Settings}
use Rattle.vb_core.specs.Settings.{holds_chains}
use Rattle.vb_monitor.specs.declared.outcome.Outcome.{Outcome}
use Rattle.vb_monitor.specs.Accesses.{Access, ReadWord, CopyBytes, Acquire, Release, Full}
use Rattle.vb_monitor.specs.Accesses.{TellPages, TellFigures, TellId, Pause, Discard, WriteNumber}
use Rattle.vb_monitor.specs.Accesses.{WriteWord}
use Rattle.vb_monitor.specs.Giving.{more_told}
use Rattle.vb_monitor.specs.SoFar.{Known, Unknown, Walks, Has, known, pages_told}

-- The outcome is that this chain is held, all of which was read, with n pages, and that no other
-- was refused.
abbrev pub HoldsChain : Known → ℕ → Outcome → Type 0
HoldsChain Unknown pages outcome = ⊥
HoldsChain (Walks head number pieces) pages outcome = ⊥
HoldsChain (Has head pieces [] bytes) pages outcome =
    (outcome.tally.held ≡ Some (record { head = head; pages = pages })) × (outcome.why ≡ None)
HoldsChain (Has head pieces (part ∷ parts) bytes) pages outcome = Unit {0}

-- Of a queue whose chains are held, what was read is told, and once all of a chain was it is held
-- with the number of all its pages; nothing of it is discarded, and nothing is written.
abbrev pub HoldsTold : Kind → Settings → Outcome → List Access → Access → Type 0
HoldsTold kind s outcome before (TellPages of runs named) =
    holds_chains kind s ≡ true →
    HoldsChain (known kind before) (more_told (pages_told before) named.pages) outcome
HoldsTold kind s outcome before (TellFigures figures) =
    holds_chains kind s ≡ true → HoldsChain (known kind before) 0 outcome
HoldsTold kind s outcome before (TellId id) = Unit {0}
HoldsTold kind s outcome before Pause = Unit {0}
HoldsTold kind s outcome before (Discard cut) = holds_chains kind s ≡ false
HoldsTold kind s outcome before (WriteNumber at number) = holds_chains kind s ≡ false
HoldsTold kind s outcome before (WriteWord at word) = holds_chains kind s ≡ false
HoldsTold kind s outcome before (ReadWord at answer) = Unit {0}
HoldsTold kind s outcome before (CopyBytes at answer) = Unit {0}
HoldsTold kind s outcome before Acquire = Unit {0}
HoldsTold kind s outcome before Release = Unit {0}
HoldsTold kind s outcome before Full = Unit {0}
