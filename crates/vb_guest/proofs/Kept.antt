-- Calls that leave alone what a device says of frames of its own.
use Rattle.std.specs.Prelude.{◌≡◌, ℕ, ◌==◌, ◌&&◌, not, Bool, true, false, List, [], ◌∷◌}
use Rattle.std.specs.Prelude.{is_none, if◌then◌else◌, Option, Some, None, Result, Ok, Err, refl}
use Rattle.{std.proofs.Common.{◌∙◌, ap}, vb_ram.specs.{Pages.Pages, Part.{Part, QueuePart}}}
use Rattle.vb_virtio.specs.declared.layout.TheConstants.{INFLATE_QUEUE, DEFLATE_QUEUE}
use Rattle.vb_virtio.specs.declared.layout.TheConstants.{STATISTICS_QUEUE, REPORT_QUEUE}
use Rattle.vb_virtio.specs.declared.refusals.Refusal.{Refusal}
use Rattle.vb_virtio.specs.declared.refusals.Refusal.TheVariants.{NoQueue, NotReady, NeedsReset}
use Rattle.vb_virtio.specs.declared.refusals.Refusal.TheVariants.{NotTaken, NotWorked, Broken}
use Rattle.vb_virtio.specs.declared.refusals.Refusal.TheVariants.{RingBroken}
use Rattle.vb_virtio.specs.Queues.{Request, is_queue_of_requests}
use Rattle.vb_virtio.specs.FirstRefusal.{◌⇒◌, first_refusal}
use Rattle.vb_virtio.specs.Tests.{flagged}
use Rattle.vb_virtio.specs.Status.{is_not_ready, has_fault}
use Rattle.vb_model.specs.Tables.{has_unvisited}
use Rattle.vb_device.specs.Calls.{Uses}
use Rattle.vb_device.specs.Conditions.{work_refusal, finish_refusal, sweep_refusal}
use Rattle.vb_device.specs.{Conditions.{ask_refusal, taken_at}, Calls.{TakesBy, TakeMeans, noting}}
use Rattle.vb_device.specs.Calls.{next_visit, Visits, WorksBy, FinishesBy, settled, using, SweepsBy}
use Rattle.vb_device.specs.{Calls.AsksBy, Queues.with_queue, declared.worked.Worked.Worked}
use Rattle.vb_driver.specs.Calls.{InflatesBy, DeflatesBy}
use Rattle.vb_driver.specs.Calls.{DeflatesOnOomBy, ReapsBy, after_refusal, ReportsBy, FillsBy}
use Rattle.vb_driver.specs.{State.DriverState, declared.answers.{Posted.Posted, Reaped.Reaped}}

-- the device keeps frames as it did, and the same of them are out
pub record SameOwn (p1 p2 : Part) : Type 0 where
  pub flag : p2.keeps ≡ p1.keeps
  pub numbers : p2.own ≡ p1.own

-- where it is a part that says of them what the first one says
pub owns_as : {p1 p2 p : Part} → p2 ≡ p → p.keeps ≡ p1.keeps → p.own ≡ p1.own → SameOwn p1 p2
owns_as e flag numbers = record {
  flag = ap (λ (p : Part). p.keeps) e ∙ flag;
  numbers = ap (λ (p : Part). p.own) e ∙ numbers;
}

pub as_it_was : {p1 p2 : Part} → p2 ≡ p1 → SameOwn p1 p2
as_it_was e = owns_as e refl refl

pub same_then : {p1 p2 p3 : Part} → SameOwn p1 p2 → SameOwn p2 p3 → SameOwn p1 p3
same_then first second =
    record { flag = second.flag ∙ first.flag; numbers = second.numbers ∙ first.numbers }

-- ---- the driver's calls

pub inflate_kept : {m1 m2 : Pages} {p1 p2 : Part} {d1 d2 : DriverState}
    {n : ℕ} (result : Result Posted Refusal) → InflatesBy m1 m2 p1 p2 d1 d2 n result → SameOwn p1 p2
inflate_kept (Ok posted) did = as_it_was did.offers.part
inflate_kept (Err why) did = as_it_was did.refused.part

pub deflate_kept : {m1 m2 : Pages} {p1 p2 : Part} {d1 d2 : DriverState}
    {n : ℕ} (result : Result Posted Refusal) → DeflatesBy m1 m2 p1 p2 d1 d2 n result → SameOwn p1 p2
deflate_kept (Ok posted) did = as_it_was did.asks.part
deflate_kept (Err why) did = as_it_was did.refused.part

pub oom_kept : {m1 m2 : Pages} {p1 p2 : Part} {d1 d2 : DriverState} {n : ℕ}
    (result : Result Posted Refusal) → DeflatesOnOomBy m1 m2 p1 p2 d1 d2 n result → SameOwn p1 p2
oom_kept (Ok posted) did = as_it_was did.asks.part
oom_kept (Err why) did = as_it_was did.refused.part

after_kept : (why : Refusal) (p : Part) → SameOwn p (after_refusal why p)
after_kept RingBroken p = record { flag = refl; numbers = refl }
after_kept _ p = record { flag = refl; numbers = refl }

pub reap_kept : {m1 m2 : Pages} {p1 p2 : Part} {d1 d2 : DriverState} {q : ℕ}
    (result : Result (Option Reaped) Refusal) → ReapsBy m1 m2 p1 p2 d1 d2 q result → SameOwn p1 p2
reap_kept (Ok None) did = as_it_was did.reaps.0
reap_kept (Ok (Some reaped)) did = owns_as did.reaps.part refl refl
reap_kept {p1} (Err why) did = same_then (after_kept why p1) (as_it_was did.failed)

-- ---- the device's calls

queue_kept : (q : ℕ) (queue : QueuePart) (p : Part) → SameOwn p (with_queue q queue p)
queue_kept q queue p = by (q == INFLATE_QUEUE) (q == DEFLATE_QUEUE) (q == STATISTICS_QUEUE) where
  by : (a b c : Bool) → SameOwn p
      (if a then record p { inflate = queue } else (if b then record p { deflate = queue }
      else (if c then record p { statistics = queue } else record p { report = queue })))
  by true b c = record { flag = refl; numbers = refl }
  by false true c = record { flag = refl; numbers = refl }
  by false false true = record { flag = refl; numbers = refl }
  by false false false = record { flag = refl; numbers = refl }

settled_kept : (q : ℕ) (pages : List ℕ) (p : Part) → SameOwn p (settled q pages p)
settled_kept q pages p = by (q == INFLATE_QUEUE) (q == DEFLATE_QUEUE) where
  by : (a b : Bool) → SameOwn p (if a then record p { ballooned = flagged pages true p.ballooned }
      else (if b then record p { ballooned = flagged pages false p.ballooned } else p))
  by true b = record { flag = refl; numbers = refl }
  by false true = record { flag = refl; numbers = refl }
  by false false = record { flag = refl; numbers = refl }

pub take_kept : {q : ℕ} {m1 m2 : Pages} {p1 p2 : Part} {result : Result (Option ℕ) Refusal}
    → TakesBy q m1 m2 p1 p2 result → SameOwn p1 p2
take_kept {q} {m1} {p1} {p2} {result} did = by result did.means where
  by : (r : Result (Option ℕ) Refusal) → TakeMeans q m1 p1 p2 r → SameOwn p1 p2
  by (Ok None) means = as_it_was means.1
  by (Ok (Some h)) means = let noted = noting q m1 means.1.1.pieces p1 in
      same_then (same_then (record { flag = refl; numbers = refl })
      (queue_kept q _ noted)) (as_it_was means.1.2)
  by (Err (Broken rule)) means = owns_as means.1 refl refl
  by (Err why) means = as_it_was means.1

-- a finish that isn't refused is one of a taken request
pub there_is : (a b c d : Bool) (o : Option Request)
    → first_refusal ((a ⇒ NoQueue) ∷ (b ⇒ NotReady) ∷ (c ⇒ NeedsReset) ∷ (is_none o ⇒ NotTaken)
    ∷ (d ⇒ NotWorked) ∷ []) ≡ None → (r : Request) × (o ≡ Some r)
there_is true b c d o e = absurd cc
there_is false true c d o e = absurd cc
there_is false false true d o e = absurd cc
there_is false false false d None e = absurd cc
there_is false false false d (Some r) e = (r, refl)

pub uses_kept : {q i : ℕ} {r : Request} {m1 m2 : Pages} {p1 p2 : Part} {result : Result ℕ Refusal}
    → Uses q i r m1 m2 p1 p2 result → SameOwn p1 p2
uses_kept {q} {i} {r} {p1} did = same_then (same_then (queue_kept q _ p1)
    (settled_kept q r.pages (using q i p1))) (owns_as did.part refl refl)

pub finish_kept : {q i : ℕ} {m1 m2 : Pages} {p1 p2 : Part} {result : Result ℕ Refusal}
    → FinishesBy q i m1 m2 p1 p2 result → SameOwn p1 p2
finish_kept {q} {i} {p1} {p2} did = by (finish_refusal q i p1) refl where
  by : (o : Option Refusal) → finish_refusal q i p1 ≡ o → SameOwn p1 p2
  by (Some why) e = as_it_was (did.refused why e).1
  by None e =
      let (r, at) = there_is (not (is_queue_of_requests q)) (is_not_ready p1.status)
      (has_fault p1.status) (p1.paced && not
      (q == DEFLATE_QUEUE) && has_unvisited (taken_at q i p1)) (taken_at q i p1) e in
      uses_kept (did.finished r e at)

pub sweep_kept : {page : ℕ} {m1 m2 : Pages} {p1 p2 : Part} {result : Result Bool Refusal}
    → SweepsBy page m1 m2 p1 p2 result → SameOwn p1 p2
sweep_kept {page} {p1} {p2} did = by (sweep_refusal page p1) refl where
  by : (o : Option Refusal) → sweep_refusal page p1 ≡ o → SameOwn p1 p2
  by (Some why) e = as_it_was (did.refused why e).1
  by None e = owns_as (did.part e) refl refl

visit_kept : {q page : ℕ} {m1 m2 : Pages} {p1 p2 : Part} {result : Result (Option Worked) Refusal}
    → Visits q page m1 m2 p1 p2 result → SameOwn p1 p2
visit_kept {q} {p1} did = same_then (queue_kept q _ p1) (owns_as did.part refl refl)

pub work_kept : {m1 m2 : Pages} {p1 p2 : Part} {result : Result (Option Worked) Refusal}
    → WorksBy m1 m2 p1 p2 result → SameOwn p1 p2
work_kept {p1} {p2} did =
    by (work_refusal p1) (next_visit INFLATE_QUEUE p1) (next_visit REPORT_QUEUE p1) refl refl refl
  where
    by : (o : Option Refusal) (first second : Option ℕ) → work_refusal p1 ≡ o
        → next_visit INFLATE_QUEUE p1 ≡ first → next_visit REPORT_QUEUE p1 ≡ second → SameOwn p1 p2
    by (Some why) first second e is other = as_it_was (did.refused why e).1
    by None None None e is other = as_it_was (did.idle e is other).1
    by None (Some page) second e is other = visit_kept (did.inflate page e is)
    by None None (Some page) e is other = visit_kept (did.report page e is other)

-- ---- statistics and reports

pub report_kept : {m1 m2 : Pages} {p1 p2 : Part} {d1 d2 : DriverState} {from : ℕ}
    (result : Result Posted Refusal) → ReportsBy m1 m2 p1 p2 d1 d2 from result → SameOwn p1 p2
report_kept (Ok posted) did = as_it_was did.reports.part
report_kept (Err why) did = as_it_was did.refused.part

pub stats_kept : {m1 m2 : Pages} {p1 p2 : Part} {d1 d2 : DriverState} (result : Result Bool Refusal)
    → FillsBy m1 m2 p1 p2 d1 d2 result → SameOwn p1 p2
stats_kept (Ok true) did = as_it_was did.fills.part
stats_kept (Ok false) did = as_it_was did.fills.unchanged.part
stats_kept {p1} (Err why) did = same_then (after_kept why p1) (as_it_was did.refused.part)

pub ask_kept : {T : Type 0} {m1 m2 : Pages} {p1 p2 : Part} {result : Result T Refusal}
    → AsksBy m1 m2 p1 p2 result → SameOwn p1 p2
ask_kept {p1} {p2} did = by (ask_refusal p1) refl where
  by : (o : Option Refusal) → ask_refusal p1 ≡ o → SameOwn p1 p2
  by (Some why) e = as_it_was (did.refused why e).1
  by None e = same_then (queue_kept STATISTICS_QUEUE _ p1) (as_it_was (did.part e))
