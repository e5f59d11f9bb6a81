use Rattle.std.proofs.Common.{◌≡◌, subst, refl, ℕ, ◌/◌, List, length, take, Option, Some, None}
use Rattle.std.proofs.Common.{Result, Ok, Err, arith}
use Rattle.vb_core.specs.declared.device.{Device.Device, Denial.Denial}
use Rattle.vb_core.specs.declared.{statistics.Statistic.Statistic, kinds.Kind.TheVariants.Statistics}
use Rattle.vb_core.specs.{Statistics.{statistics_denial, AreFigures}, Devices.with_one_taken}
use Rattle.vb_monitor.specs.declared.{outcome.Tally.Tally, room.TheConstants.MAX_FIGURES}
use Rattle.vb_monitor.specs.{Accesses.Access, Ends.Whole, Machine.whole, Giving.with_held}
use Rattle.vb_monitor.specs.Chains.{FiguresBy, TellsThenEnds}
use Rattle.vb_monitor.specs.Steps.{tally_of}
use Rattle.vb_monitor.proofs.naming.keep_figures.Goals as goal

figures_tell : (o : Option Denial) (w : Whole) (d d2 : Device) (t : Tally) (head count room : ℕ)
    (bytes : List ℕ) (figures : List Statistic) (answer : Result ℕ Denial) (log : List Access)
    → statistics_denial (length bytes) room d ≡ o → answer ≡ Ok count
    → ((why : Denial) → statistics_denial (length bytes) room d ≡ Some why →
    (answer ≡ Err why) × (d2 ≡ d))
    → (statistics_denial (length bytes) room d ≡ None → (answer ≡ Ok (length bytes / 10)) ×
    AreFigures bytes figures × (d2 ≡ with_one_taken Statistics d))
    → TellsThenEnds w d2 (with_held head 0 t) (take count figures) log
    → FiguresBy o w d t head bytes log
figures_tell (Some why) w d d2 t head count room bytes figures answer log e is denied taken h =
    let (wrong, same) = denied why e in absurd cc
figures_tell None w d d2 t head count room bytes figures answer log e is denied taken h =
    let (counts, are, after) = taken e in
    let same : count ≡ length bytes / 10 = cc in
    record {
      figures = figures;
      are = are;
      tells = subst (λ (x : Device). TellsThenEnds w x (with_held head 0 t)
          (take (length bytes / 10) figures) log) after
          (subst (λ (n : ℕ). TellsThenEnds w d2 (with_held head 0 t) (take n figures) log) same h);
    }

pub returns-in-Ok-clause-step : goal.returns-in-Ok-clause-step
returns-in-Ok-clause-step c after outcome log h =
    let w = whole c.args.regions.now c.args.kind after outcome in
    let d = c.args.device.now in
    let bytes = c.first_bytes-bytes.result.now in
    let room = length c.args.room.now.figures in
    subst (λ (bs : List ℕ). FiguresBy (statistics_denial (length bs) MAX_FIGURES d) w d
    (tally_of c.args.step.now) c.args.place.head bs log) c.first_bytes-bytes.ensures
    (subst (λ (n : ℕ). FiguresBy (statistics_denial (length bytes) n d) w d (tally_of c.args.step.now)
    c.args.place.head bytes log) (omega arith)
    (figures_tell (statistics_denial (length bytes) room d) w d c.statistics.new.self (tally_of c.args.step.now)
    c.args.place.head c.in-Ok.count room bytes c.statistics.new.figures c.statistics.result log refl
    c.in-Ok.is c.statistics.ensures.denied c.statistics.ensures.taken
    (subst (λ (t : Tally). TellsThenEnds w c.statistics.new.self t
    (take c.in-Ok.count c.statistics.new.figures) log) c.hold.ensures
    (c.await_figures.ensures.step w c.statistics.new.self
    (record c.args.room.now { figures = c.statistics.new.figures }) log h))))
