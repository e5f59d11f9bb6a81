-- Pages that are told as hinted are told in a round that is open: by what is told in its turn.
use Rattle.std.proofs.Common.{◌≡◌, sym, subst, ℕ, Bool, true, false, List, [], ◌∷◌}
use Rattle.vb_chain.specs.declared.pieces.Piece.{Piece}
use Rattle.vb_core.specs.declared.kinds.Kind.{Kind, TheVariants.{Inflate, Deflate, Statistics, Hint, Report}}
use Rattle.vb_core.specs.declared.{settings.Settings.Settings, device.Device.Device, runs.Run.Run, name.Named.Named}
use Rattle.vb_core.specs.Hints.{is_open}
use Rattle.vb_monitor.specs.declared.{regions.Region.Region}
use Rattle.vb_monitor.specs.Accesses.{Access, ReadWord, CopyBytes, Acquire, Release, Full, TellPages}
use Rattle.vb_monitor.specs.Accesses.{TellFigures, TellId, Pause, Discard, WriteNumber, WriteWord}
use Rattle.vb_monitor.specs.SoFar.{Known, Unknown, Walks, Has, known, round_so_far}
use Rattle.vb_monitor.specs.Turns.{TellNamed, TellsOf, TellsInTurn, HintsInRound}

none_named : (open_now : Bool) (s : Settings) (pieces : List Piece) (bytes : List ℕ) (runs : List Run)
    (named : Named) → TellNamed open_now Hint s pieces bytes runs named → open_now ≡ false → runs ≡ []
none_named true s pieces bytes runs named t e = absurd cc
none_named false s pieces bytes runs named t e = t.none

none_told : (open_now : Bool) (s : Settings) (k : Known) (runs : List Run) (named : Named)
    → TellsOf open_now Hint s k runs named → open_now ≡ false → runs ≡ []
none_told open_now s Unknown runs named t e = absurd t
none_told open_now s (Walks head number pieces) runs named t e = absurd t
none_told open_now s (Has head pieces [] bytes) runs named t e =
    none_named open_now s pieces bytes runs named t e
none_told open_now s (Has head pieces (part ∷ parts) bytes) runs named t e =
    none_named open_now s pieces bytes runs named t.1 e

pub hints_by : (regions : List Region) (kind : Kind) (all : Bool) (d : Device) (before : List Access)
    (x : Access) → TellsInTurn regions kind all d before x → HintsInRound d before x
hints_by regions kind all d before (TellPages Hint runs named) t =
    none_told (is_open (round_so_far d.round before)) d.settings (known Hint before) runs named
    (subst (λ (k : Kind). TellsOf (is_open (round_so_far d.round before)) k d.settings (known k before) runs named)
    (sym t.0) t.1)
hints_by regions kind all d before (TellPages Inflate runs named) t = tt
hints_by regions kind all d before (TellPages Deflate runs named) t = tt
hints_by regions kind all d before (TellPages Statistics runs named) t = tt
hints_by regions kind all d before (TellPages Report runs named) t = tt
hints_by regions kind all d before (ReadWord at answer) t = tt
hints_by regions kind all d before (CopyBytes at answer) t = tt
hints_by regions kind all d before Acquire t = tt
hints_by regions kind all d before Release t = tt
hints_by regions kind all d before Full t = tt
hints_by regions kind all d before (TellFigures figures) t = tt
hints_by regions kind all d before (TellId id) t = tt
hints_by regions kind all d before Pause t = tt
hints_by regions kind all d before (Discard cut) t = tt
hints_by regions kind all d before (WriteNumber at number) t = tt
hints_by regions kind all d before (WriteWord at word) t = tt
