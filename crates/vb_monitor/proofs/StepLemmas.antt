-- Accesses that follow accesses.
use Rattle.vb_monitor.specs.declared.room.Room.{Room}
use Rattle.std.proofs.Common.{◌≡◌, sym, subst, refl, arith, ℕ, List, [], ◌∷◌, ◌++◌, Some}
use Rattle.std.proofs.lemmas.List.{append_assoc, append-nil}
use Rattle.vb_core.{specs.declared.kinds.Kind.Kind, specs.declared.device.Device.Device}
use Rattle.vb_monitor.specs.declared.step.Phase.TheVariants.{AwaitsIndex, AwaitsEntry}
use Rattle.vb_monitor.specs.declared.step.Phase.TheVariants.{AwaitsDescriptor, AwaitsPart}
use Rattle.vb_monitor.specs.declared.step.Phase.TheVariants.{TellsPages, TellsFigures, TellsId, Discards, Paused}
use Rattle.vb_monitor.{specs.declared.outcome.Outcome.Outcome, specs.declared.outcome.Tally.Tally}
use Rattle.vb_monitor.{specs.Accesses.{Access, Steps, Makes}, specs.declared.regions.Region.Region}
use Rattle.vb_monitor.{specs.Steps.Step, specs.declared.step.Phase.Phase}
use Rattle.vb_monitor.specs.declared.step.Phase.TheVariants.{GivesBack, AwaitsFlags, Ended}
use Rattle.vb_monitor.specs.Machine.{GoesOn, Ahead, AheadAt, Does, whole, outcome_at}

pub steps_append : {S : Type 0} (goes : S → Access → S → Type 0) (a b c : S)
    (xs ys : List Access) → Steps goes a xs b → Steps goes b ys c → Steps goes a (xs ++ ys) c
steps_append {S} goes a b c [] ys first second =
    subst (λ (s : S). Steps goes s ys c) first second
steps_append {S} goes a b c (x ∷ xs) ys (next, goes_there, rest) second =
    (next, goes_there, steps_append goes next b c xs ys rest second)

pub on_none : {S : Type 0} (goes : S → Access → S → Type 0) (s : S)
    (at : Device → Outcome → List Access → Type 0) → GoesOn goes s s at at
on_none {S} goes s at = record { log = []; steps = refl; is = λ after outcome rest h. h }

pub on_more : {S : Type 0} (goes : S → Access → S → Type 0) (a b c : S)
    (f0 f1 f2 : Device → Outcome → List Access → Type 0) →
    GoesOn goes a b f0 f1 → GoesOn goes b c f1 f2 → GoesOn goes a c f0 f2
on_more {S} goes a b c f0 f1 f2 first second = record {
  log = first.log ++ second.log;
  steps = steps_append goes a b c first.log second.log first.steps second.steps;
  is = λ after outcome rest h. subst (λ (l : List Access). f0 after outcome l)
      (sym (append_assoc first.log second.log rest))
      (first.is after outcome (second.log ++ rest) (second.is after outcome rest h));
}

-- a notice that goes on from what it came to goes on from where it began; it stays one of its kind
pub goes_further : {S : Type 0} (goes : S → Access → S → Type 0) (a b c : S) (regions : List Region)
    (first kind : Kind) (step0 step1 step2 : Step) (d0 d1 d2 : Device) (room0 room1 room2 : Room) →
    kind ≡ first →
    GoesOn goes a b (λ after outcome. Ahead (whole regions first after outcome) step0 d0 room0)
    (λ after outcome. Ahead (whole regions first after outcome) step1 d1 room1) →
    GoesOn goes b c (λ after outcome. Ahead (whole regions kind after outcome) step1 d1 room1)
    (λ after outcome. Ahead (whole regions kind after outcome) step2 d2 room2) →
    GoesOn goes a c (λ after outcome. Ahead (whole regions first after outcome) step0 d0 room0)
    (λ after outcome. Ahead (whole regions first after outcome) step2 d2 room2)
goes_further {S} goes a b c regions first kind step0 step1 step2 d0 d1 d2 room0 room1 room2 same before after =
    on_more goes a b c (λ after outcome. Ahead (whole regions first after outcome) step0 d0 room0)
    (λ after outcome. Ahead (whole regions first after outcome) step1 d1 room1)
    (λ after outcome. Ahead (whole regions first after outcome) step2 d2 room2) before
    (subst (λ (k : Kind). GoesOn goes b c
    (λ after outcome. Ahead (whole regions k after outcome) step1 d1 room1)
    (λ after outcome. Ahead (whole regions k after outcome) step2 d2 room2)) same after)

pub performs : {S : Type 0} (goes : S → Access → S → Type 0) (s t : S) (phase p : Phase)
    (kind : Kind) (answer : ℕ) (before : List ℕ) (room : Room) (log : List Access) → phase ≡ p →
    Steps goes s log t → Does p kind answer before room log →
    Makes goes s t (Does phase kind answer before room)
performs {S} goes s t phase p kind answer before room log e steps is = record {
  log = log;
  steps = steps;
  is = subst (λ (q : Phase). Does q kind answer before room log) (sym e) is;
}

over_at : (p : Phase) (t : Tally) (regions : List Region) (kind : Kind) (d : Device) (out : Outcome)
    (room : Room) → Some out ≡ outcome_at p t → AheadAt p (whole regions kind d out) t d room []
over_at (Ended why interrupt more) t regions kind d out room e =
    record { nothing = refl; device = refl; outcome = grind arith }
over_at (AwaitsIndex at) t regions kind d out room e = absurd (grind arith)
over_at (AwaitsEntry at) t regions kind d out room e = absurd (grind arith)
over_at (AwaitsDescriptor at walk) t regions kind d out room e = absurd (grind arith)
over_at (AwaitsPart at place into len) t regions kind d out room e = absurd (grind arith)
over_at (TellsPages place named further) t regions kind d out room e = absurd (grind arith)
over_at (TellsFigures head count) t regions kind d out room e = absurd (grind arith)
over_at (TellsId head id) t regions kind d out room e = absurd (grind arith)
over_at (Paused place) t regions kind d out room e = absurd (grind arith)
over_at (Discards cut x) t regions kind d out room e = absurd (grind arith)
over_at (GivesBack spots entry) t regions kind d out room e = absurd (grind arith)
over_at (AwaitsFlags at why more) t regions kind d out room e = absurd (grind arith)

-- a notice that has ended was served so
pub ended_so : {S : Type 0} (goes : S → Access → S → Type 0) (s t : S) (out : Outcome)
    (regions : List Region) (kind : Kind) (f0 : Device → Outcome → List Access → Type 0)
    (step : Step) (d : Device) (room : Room) → Some out ≡ outcome_at step.phase step.tally →
    GoesOn goes s t f0 (λ after outcome. Ahead (whole regions kind after outcome) step d room) →
    Makes goes s t (f0 d out)
ended_so {S} goes s t out regions kind f0 step d room e on = record {
  log = on.log;
  steps = on.steps;
  is = subst (λ (l : List Access). f0 d out l) (append-nil on.log)
      (on.is d out [] (over_at step.phase step.tally regions kind d out room e));
}

pub ruleset on_steps = (on_none, on_more)
