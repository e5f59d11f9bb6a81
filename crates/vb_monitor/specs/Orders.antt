-- What is done at once, since none of it needs an answer.
use Rattle.std.specs.Prelude.{◌≡◌, ◌≤◌, Bool, true, false, List, [], ◌∷◌, ◌++◌, map, take}
use Rattle.std.specs.Prelude.{Option, Some, None}
use Rattle.vb_core.specs.declared.kinds.Kind.{Kind}
use Rattle.vb_core.specs.declared.runs.Run.{Run}
use Rattle.vb_core.specs.declared.statistics.Statistic.{Statistic}
use Rattle.vb_monitor.specs.declared.room.TheConstants.{MAX_RUNS, MAX_FIGURES}
use Rattle.vb_monitor.specs.declared.orders.TheConstants.{MAX_CUTS}
use Rattle.vb_monitor.specs.declared.cuts.Cut.{Cut}
use Rattle.vb_monitor.specs.declared.cuts.NextCut.{NextCut}
use Rattle.vb_monitor.specs.declared.regions.Region.{Region}
use Rattle.vb_monitor.specs.declared.orders.Told.{Told}
use Rattle.vb_monitor.specs.declared.orders.Told.TheVariants.{Nothing, Pages, Figures, Id}
use Rattle.vb_monitor.specs.declared.orders.Used.{Used}
use Rattle.vb_monitor.specs.declared.orders.Asked.{Asked}
use Rattle.vb_monitor.specs.declared.orders.Orders.{Orders}
use Rattle.vb_monitor.specs.Accesses.{Access, Release, TellPages, TellFigures, TellId, Discard}
use Rattle.vb_monitor.specs.Accesses.{WriteNumber}
use Rattle.vb_monitor.specs.Accesses.{WriteWord}
use Rattle.vb_monitor.specs.declared.step.Phase.{Phase}
use Rattle.vb_monitor.specs.Machine.{cuts_after, stage}

-- The part that is left, and all after it.
abbrev pub cuts_left : List Region → List Run → Option NextCut → List Cut
cuts_left regions runs None = []
cuts_left regions runs (Some x) = x.cut ∷ cuts_after x.from x.run regions runs

-- What is told: the first runs, the first figures, or an id.
abbrev pub telling : Told → Kind → Orders → List Run → List Statistic → List Access
telling Nothing kind o runs figures = []
telling Pages kind o runs figures = TellPages kind (take o.named.runs runs) o.named ∷ []
telling Figures kind o runs figures = TellFigures (take o.figures figures) ∷ []
telling Id kind o runs figures = TellId o.hint_id ∷ []

-- There are as many runs or figures as are told, and as many parts as are discarded: none of them
-- lies past the room for them.
pub record HasRoom (a : Asked) (o : Orders) : Type 0 where
  pub runs : a.told ≡ Pages → o.named.runs ≤ MAX_RUNS
  pub figures : a.told ≡ Figures → o.figures ≤ MAX_FIGURES
  pub cuts : o.cuts ≤ MAX_CUTS

-- Parts are left to discard only where the list of those that are discarded now is full.
pub record FillsList (p : Phase) (o : Orders) : Type 0 where
  pub full : stage p ≡ 1 → o.cuts ≡ MAX_CUTS

-- A used element's id and length are written, and after a fence its index.
abbrev pub giving : Bool → Used → List Access
giving true u =
    WriteNumber u.spots.id u.id ∷ WriteNumber u.spots.length u.length ∷ Release
    ∷ WriteWord u.spots.index u.index ∷ []
giving false u = []

-- These things are done at once, in this order: pages, figures or an id are told, the first parts
-- are discarded, and a chain is given back. Then the rest comes.
abbrev pub at_once : Asked → Kind → Orders → List Cut → List Run → List Statistic → List Access →
    List Access
at_once a kind o cuts runs figures rest =
    telling a.told kind o runs figures
    ++ (map Discard (take o.cuts cuts) ++ (giving a.gives o.used ++ rest))
