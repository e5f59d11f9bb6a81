-- A device that keeps frames of its own, round one that keeps none.
use Rattle.std.specs.Prelude.{◌≡◌, ℕ, ◌==◌, Bool, true, false, List, Option, Some, None, Result, Ok}
use Rattle.std.{proofs.Common.{arith, ◌∙◌, ap}, specs.Prelude.{Err, if◌then◌else◌, refl}}
use Rattle.vb_virtio.specs.declared.refusals.Refusal.{Refusal}
use Rattle.vb_virtio.specs.declared.refusals.Refusal.TheVariants.{Broken}
use Rattle.vb_virtio.specs.Tests.{flagged}
use Rattle.vb_virtio.specs.Queues.{Request}
use Rattle.{vb_ram.specs.{Pages.Pages, Part.{Part, QueuePart}}, vb_device.specs.Calls.taking}
use Rattle.vb_device.specs.Calls.{noting, using, settled, TakeMeans, TakesBy, FinishesBy, Visits}
use Rattle.vb_device.specs.Calls.{Uses}
use Rattle.vb_device.specs.{Calls.{WorksBy, AsksBy, DetachesBy}, declared.worked.Worked.Worked}

-- the part with these frames of its own
abbrev pub keeping : List ℕ → Part → Part
keeping own part = record part { keeps = true; own = own }

with_keeping : (a b c : Bool) (own : List ℕ) (x : QueuePart) (p : Part)
    → keeping own (if a then record p { inflate = x } else (if b then record p { deflate = x }
    else (if c then record p { statistics = x } else record p { report = x })))
    ≡ (if a then record (keeping own p) { inflate = x }
    else (if b then record (keeping own p) { deflate = x }
    else (if c then record (keeping own p) { statistics = x }
    else record (keeping own p) { report = x })))
with_keeping true b c own x p = refl
with_keeping false true c own x p = refl
with_keeping false false true own x p = refl
with_keeping false false false own x p = refl

taking_keeping : (q h : ℕ) (pages own : List ℕ) (p : Part)
    → keeping own (taking q h pages p) ≡ taking q h pages (keeping own p)
taking_keeping q h pages own p = with_keeping (q == 0) (q == 1) (q == 2) own _ p

means_keeping : (q : ℕ) (mem : Pages) (own : List ℕ) (p1 p2 : Part)
    (result : Result (Option ℕ) Refusal) → TakeMeans q mem p1 p2 result
    → TakeMeans q mem (keeping own p1) (keeping own p2) result
means_keeping q mem own p1 p2 (Ok None) m = (m.0, ap (keeping own) m.1)
means_keeping q mem own p1 p2 (Ok (Some h)) m = (
  m.0,
  (
    m.1.0,
    record {
      next = m.1.1.next;
      pieces = m.1.1.pieces;
      chain = m.1.1.chain;
      request = m.1.1.request;
    },
    ap (keeping own) m.1.2 ∙ taking_keeping q h m.1.0 own (noting q mem m.1.1.pieces p1),
  ),
)
means_keeping q mem own p1 p2 (Err (Broken rule)) m = (m.0, ap (keeping own) m.1)
means_keeping q mem own p1 p2 (Err why) m = (m.0, ap (keeping own) m.1)

pub takes_keeping : (q : ℕ) (m1 m2 : Pages) (own : List ℕ) (p1 p2 : Part)
    (result : Result (Option ℕ) Refusal) → TakesBy q m1 m2 p1 p2 result
    → TakesBy q m1 m2 (keeping own p1) (keeping own p2) result
takes_keeping q m1 m2 own p1 p2 result t = record {
  memory = t.memory;
  refused = λ why e. ((t.refused why e).0, ap (keeping own) (t.refused why e).1);
  empty = λ e n. ((t.empty e n).0, ap (keeping own) (t.empty e n).1);
  jump = λ f e n. record
      { answer = (t.jump f e n).answer; part = ap (keeping own) (t.jump f e n).part };
  fault = λ h f e n g. record
      { answer = (t.fault h f e n g).answer; part = ap (keeping own) (t.fault h f e n g).part };
  wrong = λ h pieces f e n g r. record {
    answer = (t.wrong h pieces f e n g r).answer;
    part = ap (keeping own) (t.wrong h pieces f e n g r).part;
  };
  takes = λ h pieces pages e n g r. (
    (t.takes h pieces pages e n g r).0,
    ap (keeping own) (t.takes h pieces pages e n g r).1
        ∙ taking_keeping q h pages own (noting q m1 pieces p1),
  );
  means = means_keeping q m1 own p1 p2 result t.means;
}

visits_keeping : (q page : ℕ) (m1 m2 : Pages) (own : List ℕ) (p1 p2 : Part)
    (result : Result (Option Worked) Refusal) → Visits q page m1 m2 p1 p2 result
    → Visits q page m1 m2 (keeping own p1) (keeping own p2) result
visits_keeping q page m1 m2 own p1 p2 result v = grind (arith, with_keeping)

pub works_keeping : (m1 m2 : Pages) (own : List ℕ) (p1 p2 : Part)
    (result : Result (Option Worked) Refusal) → WorksBy m1 m2 p1 p2 result
    → WorksBy m1 m2 (keeping own p1) (keeping own p2) result
works_keeping m1 m2 own p1 p2 result w = record {
  refused = λ why e. let r = w.refused why e in (r.0, ap (keeping own) r.1, r.2);
  idle = λ e i n. let r = w.idle e i n in (r.0, ap (keeping own) r.1, r.2);
  inflate = λ page e i. visits_keeping 0 page m1 m2 own p1 p2 result (w.inflate page e i);
  report = λ page e i n. visits_keeping 4 page m1 m2 own p1 p2 result (w.report page e i n);
}

pub asks_keeping : {T : Type 0} (m1 m2 : Pages) (own : List ℕ) (p1 p2 : Part)
    (result : Result T Refusal) → AsksBy m1 m2 p1 p2 result
    → AsksBy m1 m2 (keeping own p1) (keeping own p2) result
asks_keeping m1 m2 own p1 p2 result a = grind arith

pub detaches_keeping : (m1 m2 : Pages) (own : List ℕ) (p1 p2 : Part) → DetachesBy m1 m2 p1 p2
    → DetachesBy m1 m2 (keeping own p1) (keeping own p2)
detaches_keeping m1 m2 own p1 p2 d = grind arith

settled_keeping : (a b : Bool) (pages own : List ℕ) (p : Part)
    → keeping own (if a then record p { ballooned = flagged pages true p.ballooned }
    else (if b then record p { ballooned = flagged pages false p.ballooned } else p))
    ≡ (if a then record (keeping own p) { ballooned = flagged pages true p.ballooned }
    else (if b then record (keeping own p) { ballooned = flagged pages false p.ballooned }
    else keeping own p))
settled_keeping true b pages own p = refl
settled_keeping false true pages own p = refl
settled_keeping false false pages own p = refl

uses_keeping : (q index : ℕ) (pages own : List ℕ) (p : Part)
    → keeping own (settled q pages (using q index p))
    ≡ settled q pages (using q index (keeping own p))
uses_keeping q index pages own p = settled_keeping (q == 0) (q == 1) pages own (using q index p)
    ∙ ap (settled q pages) (with_keeping (q == 0) (q == 1) (q == 2) own _ p)

pub settles_keeping : (q index : ℕ) (r : Request) (m1 m2 : Pages) (own : List ℕ) (p1 p2 : Part)
    (result : Result ℕ Refusal) → Uses q index r m1 m2 p1 p2 result
    → Uses q index r m1 m2 (keeping own p1) (keeping own p2) result
settles_keeping q index r m1 m2 own p1 p2 result u = record {
  answer = u.answer;
  part = ap (keeping own) u.part
      ∙ ap (λ (p : Part). record p { loose = p2.loose }) (uses_keeping q index r.pages own p1);
  loose = u.loose;
  memory = u.memory;
}

pub finishes_keeping : (q index : ℕ) (m1 m2 : Pages) (own : List ℕ) (p1 p2 : Part)
    (result : Result ℕ Refusal) → FinishesBy q index m1 m2 p1 p2 result
    → FinishesBy q index m1 m2 (keeping own p1) (keeping own p2) result
finishes_keeping q index m1 m2 own p1 p2 result f = record {
  refused = λ why e. let r = f.refused why e in (r.0, ap (keeping own) r.1, r.2);
  finished = λ r e at.
      settles_keeping q index r m1 m2 own p1 p2 result (f.finished r e at);
}
