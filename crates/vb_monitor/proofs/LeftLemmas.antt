-- What is left of a notice gets less.
use Rattle.std.proofs.Common.{◌≡◌, ap, subst, refl, arith, ℕ, zero, suc, ◌+◌, ◌-◌, ◌*◌, ◌<◌, ◌≤◌}
use Rattle.std.proofs.Common.{List, Option, Some, None, false, length, take, length-take}
use Rattle.std.specs.Prelude.{IfSome}
use Rattle.vb_core.specs.declared.runs.Run.{Run}
use Rattle.vb_monitor.{specs.declared.step.Phase.Phase, specs.declared.room.TheConstants.MAX_RUNS}
use Rattle.vb_monitor.{specs.declared.outcome.Tally.Tally, specs.declared.cuts.NextCut.NextCut}
use Rattle.vb_monitor.specs.declared.step.Phase.TheVariants.{TellsPages, TellsFigures, TellsId, Discards, Paused}
use Rattle.vb_monitor.specs.declared.step.Phase.TheVariants.{GivesBack, AwaitsFlags, Ended}
use Rattle.vb_monitor.specs.declared.step.Phase.TheVariants.{AwaitsDescriptor, AwaitsPart}
use Rattle.vb_monitor.specs.declared.step.Phase.TheVariants.{AwaitsIndex, AwaitsEntry}
use Rattle.vb_monitor.{specs.Machine.{is_ended, outcome_at}, specs.declared.regions.Region.Region}
use Rattle.vb_monitor.specs.Left.{parts_left, once_named, bytes_left, copies_left, of_chain, of_chains}

times_more : (a b l : ℕ) → a + 1 ≤ b → a * l + l ≤ b * l
times_more a b l h = grind (arith)

-- the parts of runs from one on
pub parts_within : (l from run f : ℕ) → from ≤ run → run < MAX_RUNS → 1 ≤ f → f ≤ l →
    parts_left l run f < (MAX_RUNS - from) * l
unfolding parts_left
parts_within l from run f a b c d =
    let more = times_more (MAX_RUNS - (run + 1)) (MAX_RUNS - from) l (omega (arith, a, b)) in
    omega (arith, more, c, d)

-- those of the runs after one are left with its own
pub parts_after : (l run f : ℕ) → (MAX_RUNS - (run + 1)) * l ≤ parts_left l run f
unfolding parts_left
parts_after l run f = omega arith

-- a part of the same run
pub parts_fewer : (l run f g : ℕ) → f < g → g ≤ l → parts_left l run g < parts_left l run f
unfolding parts_left
parts_fewer l run f g lt le = omega (arith, lt, le)

-- a chain that is taken
one_less : (n x : ℕ) → 0 < n → n * x ≡ (n - 1) * x + x
one_less zero x lt = absurd (omega (arith, lt))
one_less (suc n) x lt =
    let same : n ≡ suc n - 1 = omega arith in
    let more : suc n * x ≡ n * x + x = grind (arith) in
    subst (λ (m : ℕ). suc n * x ≡ m * x + x) same more

pub one_taken : (rs : List Region) (n : ℕ) → 0 < n →
    of_chains rs n ≡ of_chains rs (n - 1) + of_chain rs
unfolding of_chains
one_taken rs n lt = one_less n (of_chain rs) lt

-- the first part of the runs after one
pub fewer_after : (o : Option NextCut) (l n run from : ℕ) →
    IfSome o (λ x. (run + 1 ≤ x.run) × (x.run < n) × (1 ≤ x.from) × (x.from ≤ l)) →
    n ≤ MAX_RUNS → IfSome o (λ x. parts_left l x.run x.from < parts_left l run from)
fewer_after None l n run from h few = tt
fewer_after (Some x) l n run from (on, below, some, to) few =
    let less = parts_within l (run + 1) x.run x.from on (omega (arith, below, few)) some to in
    let all = parts_after l run from in
    omega (arith, less, all)

pub few_taken : (n : ℕ) (runs first : List Run) → first ≡ take n runs → length runs ≡ MAX_RUNS →
    length first ≤ MAX_RUNS
few_taken n runs first e f =
    let less = length-take n runs in
    let same = ap (λ (l : List Run). length l) e in
    omega (arith, less, same, f)

-- what has no outcome hasn't ended
pub not_over : (p : Phase) (t : Tally) → outcome_at p t ≡ None → is_ended p ≡ false
not_over (Ended why interrupt more) t e = absurd (grind arith)
not_over (AwaitsIndex at) t e = refl
not_over (AwaitsEntry at) t e = refl
not_over (AwaitsDescriptor at walk) t e = refl
not_over (AwaitsPart at place into len) t e = refl
not_over (TellsPages place named further) t e = refl
not_over (TellsFigures head count) t e = refl
not_over (TellsId head id) t e = refl
not_over (Paused place) t e = refl
not_over (Discards cut x) t e = refl
not_over (GivesBack spots entry) t e = refl
not_over (AwaitsFlags at why more) t e = refl

-- ---- copies

pub copies_some : (rs : List Region) (piece done : ℕ) → once_named rs + 2 ≤ copies_left rs piece done
unfolding copies_left
copies_some rs piece done =
    let more = times_more 0 (bytes_left piece done + 1) (once_named rs + 2) (omega arith) in
    grind (arith, more)

pub copies_fewer : (rs : List Region) (piece done after_piece after_done : ℕ) →
    bytes_left after_piece after_done < bytes_left piece done →
    once_named rs + 2 + copies_left rs after_piece after_done ≤ copies_left rs piece done
unfolding copies_left
copies_fewer rs piece done after_piece after_done lt =
    let more = times_more (bytes_left after_piece after_done + 1) (bytes_left piece done + 1)
    (once_named rs + 2) (omega (arith, lt)) in
    grind (arith, more)
