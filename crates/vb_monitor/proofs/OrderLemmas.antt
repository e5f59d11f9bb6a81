-- What is done at once.
use Rattle.std.proofs.Common.{◌≡◌, ◌∙◌, ap, sym, refl, arith, ℕ, ◌+◌, ◌<◌, true, List, [], ◌∷◌}
use Rattle.std.proofs.Common.{◌++◌, length, map, take, slice_set, Option, Some, None}
use Rattle.std.proofs.lemmas.List.{append_assoc, map-append, take_more_set}
use Rattle.vb_core.{specs.declared.runs.Run.Run}
use Rattle.vb_monitor.specs.{Accesses.{Access, Discard}, Machine.{stage, waits}}
use Rattle.vb_monitor.specs.{Orders.cuts_left, declared.cuts.Cut.Cut, declared.cuts.NextCut.NextCut}
use Rattle.vb_monitor.specs.declared.{regions.Region.Region, step.Phase.Phase}
use Rattle.vb_monitor.specs.declared.step.Phase.TheVariants.{AwaitsIndex, AwaitsEntry}
use Rattle.vb_monitor.specs.declared.step.Phase.TheVariants.{AwaitsDescriptor, AwaitsPart}
use Rattle.vb_monitor.specs.declared.step.Phase.TheVariants.{TellsPages, TellsFigures, TellsId, Discards, Paused}
use Rattle.vb_monitor.specs.declared.step.Phase.TheVariants.{GivesBack, AwaitsFlags, Ended}
use Rattle.vb_monitor.specs.Giving.{DiscardsThen}

pub stage_waits : (p : Phase) → stage p ≡ 3 → waits p ≡ true
stage_waits (AwaitsIndex at) e = refl
stage_waits (AwaitsEntry at) e = refl
stage_waits (AwaitsDescriptor at walk) e = refl
stage_waits (AwaitsPart at place into len) e = refl
stage_waits (AwaitsFlags at why more) e = refl
stage_waits (Ended why interrupt more) e = refl
stage_waits (Discards cut x) e = refl
stage_waits (Paused place) e = refl
stage_waits (TellsPages place named further) e = absurd (grind arith)
stage_waits (TellsFigures head count) e = absurd (grind arith)
stage_waits (TellsId head id) e = absurd (grind arith)
stage_waits (GivesBack spots entry) e = absurd (grind arith)

-- ---- parts in a list

pub one_more : (all cuts further more : List Cut) (count : ℕ) (cut : Cut) → count < length cuts →
    all ≡ take count cuts ++ cut ∷ further → further ≡ more →
    all ≡ take (count + 1) (slice_set cuts count cut) ++ more
one_more all cuts further more count cut lt e f =
    e ∙ (ap (λ (l : List Cut). take count cuts ++ cut ∷ l) f
    ∙ (sym (append_assoc (take count cuts) (cut ∷ []) more)
    ∙ ap (λ (l : List Cut). l ++ more) (sym (take_more_set cuts count cut lt))))

-- ---- discards

asked : (all first left : List Cut) (log rest : List Access) → all ≡ first ++ left →
    log ≡ map Discard left ++ rest → map Discard first ++ log ≡ map Discard all ++ rest
asked all first left log rest e f = ap (λ (l : List Access). map Discard first ++ l) f
    ∙ (sym (append_assoc (map Discard first) (map Discard left) rest)
    ∙ (ap (λ (l : List Access). l ++ rest) (sym (map-append Discard first left))
    ∙ ap (λ (l : List Cut). map Discard l ++ rest) (sym e)))

pub discards_all : (regions : List Region) (runs : List Run) (o : Option NextCut)
    (all first : List Cut) (on : List Access → Type 0) (log : List Access) →
    all ≡ first ++ cuts_left regions runs o → o ≡ None → on log →
    DiscardsThen on all (map Discard first ++ log)
discards_all regions runs o all first on log e f h = record {
  rest = log;
  asks = asked all first [] log log
      (e ∙ ap (λ (x : Option NextCut). first ++ cuts_left regions runs x) f) refl;
  goes_on = h;
}

pub discards_some : (regions : List Region) (runs : List Run) (o : Option NextCut) (x : NextCut)
    (all first : List Cut) (on : List Access → Type 0) (log : List Access) →
    all ≡ first ++ cuts_left regions runs o → o ≡ Some x →
    DiscardsThen on (cuts_left regions runs (Some x)) log →
    DiscardsThen on all (map Discard first ++ log)
discards_some regions runs o x all first on log e f h = record {
  rest = h.rest;
  asks = asked all first (cuts_left regions runs (Some x)) log h.rest
      (e ∙ ap (λ (y : Option NextCut). first ++ cuts_left regions runs y) f) h.asks;
  goes_on = h.goes_on;
}
