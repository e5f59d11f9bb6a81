-- What a device does for a guest that wrote past its driver: how its part changes, and what it does
-- as it works, sweeps a page and gets a target.
use Rattle.std.specs.Prelude.{◌≡◌, ℕ, ◌<◌, ◌==◌, Bool, true, false, not, ◌||◌, [], ◌∷◌, length, All}
use Rattle.std.specs.Prelude.{Option, Some, None, Result, refl, if◌then◌else◌, is_some}
use Rattle.{std.proofs.lemmas.List.get_or_past, vb_device.specs.declared.worked.Worked.Worked}
use Rattle.{std.proofs.Common.{sym, ◌∙◌, ap, subst, arith}, vb_model.proofs.Refusing.is_refused}
use Rattle.vb_virtio.specs.Status.{is_not_ready, has_fault, work_causes, contains, driver_ok}
use Rattle.vb_virtio.specs.Status.{failed}
use Rattle.vb_virtio.specs.Tests.{is_in, times}
use Rattle.vb_virtio.specs.declared.refusals.Refusal.{Refusal}
use Rattle.vb_virtio.specs.declared.refusals.Refusal.TheVariants.{NotBallooned, NotReady}
use Rattle.vb_virtio.specs.declared.refusals.Refusal.TheVariants.{NeedsReset, NoFeature}
use Rattle.vb_virtio.specs.Layout.{reserved_pages}
use Rattle.vb_virtio.specs.declared.layout.TheConstants.{INFLATE_QUEUE, DEFLATE_QUEUE}
use Rattle.vb_virtio.specs.declared.layout.TheConstants.{STATISTICS_QUEUE, REPORT_QUEUE}
use Rattle.vb_virtio.specs.Features.{must_tell_host}
use Rattle.vb_virtio.specs.Queues.{Request}
use Rattle.vb_virtio.specs.FirstRefusal.{◌⇒◌, first_refusal}
use Rattle.vb_virtio.proofs.Shapes.{start_reserved}
use Rattle.vb_model.specs.Tables.{sweep_causes}
use Rattle.vb_model.specs.Device.{visiting}
use Rattle.vb_model.specs.Step.{bare_pages}
use Rattle.vb_model.specs.declared.replies.Reply.{Reply}
use Rattle.vb_model.specs.declared.replies.Reply.TheVariants.{Done}
use Rattle.vb_model.specs.declared.calls.Call.{Call, TheVariants.{Work, Sweep, SetTarget}}
use Rattle.vb_model.specs.Guest.{Guest, is_ballooned, frame_of}
use Rattle.{vb_model.specs.Rogue.target_after, vb_guest.proofs.Heads.all-visiting}
use Rattle.vb_model.proofs.Wanting.{wants, refused_otherwise}
use Rattle.vb_ram.specs.{Pages.{Pages, frame_at, page_at, number_of}, Part.{Part, QueuePart}}
use Rattle.vb_request.proofs.{RequestPages.{once_distinct, once_all}, Once.is_in-each_once}
use Rattle.{vb_request.specs.Request.each_once, vb_guest.specs.Stands.{IsOwnRequest, Rogue}}
use Rattle.vb_device.specs.Calls.{WorksBy, Visits, next_visit, SweepsBy, SameFrames}
use Rattle.vb_device.specs.Conditions.{work_refusal, sweep_refusal, negotiated}
use Rattle.vb_device.specs.{Discards.{discarded, frames_behind}, Queues.{queue_part, with_queue}}
use Rattle.{vb_driver.specs.State.DriverState, vb_guest.proofs.WorkStep.next_own}
use Rattle.vb_guest.proofs.Rogues.{DeviceSame, Keeps, driver_same, device_alike, rogue_alone}
use Rattle.vb_guest.proofs.Rogues.{kept_of_rogue, rogue_after, rogue_stands, rogue_step, IsOther}
use Rattle.vb_guest.proofs.{Rogues.{keeps_part, up_kept, IsLeft, no_refusal}, RogueDriver.left_same}
use Rattle.vb_guest.proofs.Discarding.{frames_freed, with_entry, length-with_entry, with_none-get}
use Rattle.vb_guest.proofs.Handing.{handed_back, loose_none, not_among, behind_same}
use Rattle.vb_guest.proofs.PagesKept.{number_if, page_discarded, length-discarded}
use Rattle.vb_guest.specs.{Replies.{worked_reply, swept_reply}, Steps.{StepsAlone, StepsFreeing}}

-- ---- a queue of the device changes

-- which of the queues it is
pub with_same : {size : ℕ} (q : ℕ) (x : QueuePart) (p : Part) → DeviceSame size p (with_queue q x p)
with_same {size} q x p = grind arith

pub with_state : (q : ℕ) (x : QueuePart) (p : Part) → ((with_queue q x p).status ≡ p.status)
    × ((with_queue q x p).target ≡ p.target)
with_state q x p = grind arith

-- the requests that are taken are still the guest's own
pub record AreOwn (size n : ℕ) (p : Part) : Type 0 where
  pub inflates : All (IsOwnRequest size n) p.inflate.taken
  pub reports : All (IsOwnRequest size n) p.report.taken

pub with_own : {size : ℕ} {n : ℕ} (q : ℕ) (x : QueuePart) {p : Part}
    → (All (IsOwnRequest size n) (queue_part q p).taken → All (IsOwnRequest size n) x.taken)
    → AreOwn size n p → AreOwn size n (with_queue q x p)
with_own {size} {n} q x {p} keeps own =
    by (q == INFLATE_QUEUE) (q == DEFLATE_QUEUE) (q == STATISTICS_QUEUE) keeps where
      by : (a b c : Bool) → (All (IsOwnRequest size n) (if a then p.inflate else (if b then p.deflate
          else (if c then p.statistics else p.report))).taken → All (IsOwnRequest size n) x.taken)
          → AreOwn size n (if a then record p { inflate = x } else (if b then record p { deflate = x }
          else (if c then record p { statistics = x } else record p { report = x })))
      by true b c f = record { inflates = f own.inflates; reports = own.reports }
      by false true c f = record { inflates = own.inflates; reports = own.reports }
      by false false true f = record { inflates = own.inflates; reports = own.reports }
      by false false false f = record { inflates = own.inflates; reports = f own.reports }

-- not not ready
pub ok_of : (ok broken : Bool) → (not ok || broken) ≡ false → ok ≡ true
ok_of x broken e = grind arith

-- ---- pages lose their frames

-- what a call leaves of the device's part, which may be up as before
pub record PartChanges (size n : ℕ) (p1 p2 : Part) : Type 0 where
  pub device : DeviceSame size p1 p2
  pub status : p2.status ≡ p1.status
  pub target : p2.target ≡ p1.target
  pub own : AreOwn size n p1 → AreOwn size n p2

pub changes_with : {size : ℕ} {n : ℕ} (q : ℕ) (x : QueuePart) {p : Part}
    → (All (IsOwnRequest size n) (queue_part q p).taken → All (IsOwnRequest size n) x.taken)
    → PartChanges size n p (with_queue q x p)
changes_with q x keeps = search (arith, with_state, with_same, with_own)

pub changes_then : {size : ℕ} {n : ℕ} {p1 p2 p3 : Part}
    → PartChanges size n p1 p2 → PartChanges size n p2 p3 → PartChanges size n p1 p3
changes_then first second = record {
  device = record {
    sized = second.device.sized ∙ first.device.sized;
    paced = second.device.paced ∙ first.device.paced;
    loose = λ none. second.device.loose (first.device.loose none);
    flagged = second.device.flagged ∙ first.device.flagged;
    unreserved = λ page low none.
        second.device.unreserved page low (first.device.unreserved page low none);
  };
  status = second.status ∙ first.status;
  target = second.target ∙ first.target;
  own = λ own. second.own (first.own own);
}

-- once what is loose has been handed back
pub changes_back : {size : ℕ} {n : ℕ} {p1 p p2 : Part} → PartChanges size n p1 p
    → p2 ≡ record p { loose = p2.loose } → PartChanges size n p1 (handed_back p2)
changes_back {size} {n} {p1} {p} changes is =
    let own : AreOwn size n p1 → AreOwn size n (handed_back p) =
    λ own. let after = changes.own own in
    record { inflates = after.inflates; reports = after.reports } in
    subst (PartChanges size n p1) (sym (ap handed_back is)) (assumption own)

pub none_of : (b : Bool) {x : Option ℕ} (frame : ℕ)
    → (if b then None else x) ≡ Some frame → x ≡ Some frame
none_of x frame e = grind arith

-- a reply that is no refusal is none for lack of something
pub done_wants : (reply : Reply) → is_refused reply ≡ false → wants reply ≡ false
done_wants x e = grind arith

-- pages that aren't reserved lose their frames, which are loose then
pub rogue_freed : {m1 m2 : Pages} {p1 : Part} (p2 : Part) {d : DriverState} {g : Guest}
    {call : Call} {reply : Reply} {r : Request} → IsOwnRequest g.config.queue_size (length m1) r
    → PartChanges g.config.queue_size (length m1) p1 (handed_back p2)
    → contains p1.status driver_ok ≡ true
    → length m2 ≡ length m1 → ((page : ℕ) → frame_at m2 page ≡ frame_at (discarded r.pages m1) page)
    → SameFrames p2.loose (frames_behind m1 (each_once r.pages)) → target_after call p1.target
    ≡ p1.target → is_refused reply ≡ false → IsOther call → bare_pages call g ≡ []
    → Rogue m1 p1 d g → StepsFreeing (Rogue m2 (handed_back p2) d) p2.loose g call reply
rogue_freed {m1} {m2} {p1}
    p2 {d} {g} {call} {reply} {r} own changes ok count same loose still answer other none rogue =
    let once = each_once r.pages in let frames = with_entry once None g.frames in
    let at : (page : ℕ) → frame_at (discarded r.pages m1) page
    ≡ (if is_in page r.pages then None else frame_at m1 page) = λ page. ap number_of
    (page_discarded r.pages m1 page) ∙ number_if (is_in page r.pages) (page_at m1 page) in
    let get : (page : ℕ)
    → frame_of frames page ≡ (if is_in page once then None else frame_of g.frames page) =
    λ page. with_none-get once None g.frames page in
    let behind : (page : ℕ) → frame_at m2 page ≡ frame_of frames page = λ page. same page ∙ at page
    ∙ ap (λ (b : Bool). if b then None else frame_at m1 page) (sym (is_in-each_once page r.pages))
    ∙ ap (λ (o : Option ℕ). if is_in page once then None else o) (rogue.behind page)
    ∙ sym (get page) in
    let size = g.config.queue_size in
    let low : (page : ℕ) → page < reserved_pages size → frame_at m2 page ≡ frame_at m1 page =
    λ page lt. same page ∙ at page ∙ ap (λ (b : Bool). if b then None else frame_at m1 page)
    (not_among (reserved_pages size) r.pages page own.above lt) in
    let keeps : Keeps size m1 m2 p1 (handed_back p2) d d = record {
      driver = driver_same refl;
      device = changes.device;
      up = λ was up.
          let before = was ok in
          let after = changes.own
          (record { inflates = before.inflates; reports = before.reports }) in
          record {
            backed = λ page start. ap is_some (low page (start_reserved size page start))
                ∙ before.backed page start;
            inflates = subst (λ (n : ℕ). All (IsOwnRequest size n) p2.inflate.taken) (sym count)
                after.inflates;
            reports = subst (λ (n : ℕ). All (IsOwnRequest size n) p2.report.taken) (sym count)
                after.reports;
          };
    } in
    let stands = rogue_stands frames rogue keeps count
    (length-with_entry once None g.frames) behind in
    let sized : length m1 ≡ length g.frames = rogue.length_is ∙ sym rogue.framed in
    let below : All (λ page. page < length g.frames) once =
    once_all (λ page. page < length g.frames) r.pages
    (subst (λ (n : ℕ). All (λ page. page < n) r.pages) sized own.below) in
    record {
      new = rogue_after g frames (handed_back p2) d;
      stands = stands;
      step = rogue_step frames call reply rogue stands (changes.target ∙ sym still)
          (λ page frame e. none_of (is_in page once) frame (sym (get page) ∙ e))
          (done_wants reply answer) other none (λ why e. no_refusal why answer e);
      freed = λ k. omega (
        arith,
        loose k,
        ap (times k) (behind_same m1 g.frames once rogue.behind),
        frames_freed k once g.frames (once_distinct r.pages) below,
      );
    }

-- no page does
pub none_freed : {m1 m2 : Pages}
    {p1 p2 : Part} {d : DriverState} {g : Guest} {call : Call} {reply : Reply}
    → m2 ≡ m1 → p2 ≡ p1 → target_after call p1.target ≡ p1.target → wants reply ≡ false
    → IsOther call → bare_pages call g ≡ [] → IsLeft call reply [] g (rogue_after g g.frames p2 d)
    → Rogue m1 p1 d g → StepsFreeing (Rogue m2 (handed_back p2) d) p2.loose g call reply
none_freed {m1} {m2} {p2} {d} memory part still answer other none_needed left rogue =
    let same : (page : ℕ) → frame_at m2 page ≡ frame_at m1 page = grind arith in
    let count : length m2 ≡ length m1 = ap (λ (m : Pages). length m) memory in
    let none : p2.loose ≡ [] = ap (λ (p : Part). p.loose) part ∙ rogue.loose in
    let step = rogue_alone rogue (keeps_part (driver_same refl) part count same) count same
    (ap (λ (p : Part). p.target) part ∙ sym still) answer other none_needed left in
    record {
      new = step.new;
      stands = subst (λ (p : Part). Rogue m2 p d step.new) (sym (loose_none none)) step.stands;
      step = step.step;
      freed = search arith;
    }

-- ---- work

works_up : (a b : Bool) → first_refusal ((a ⇒ NotReady) ∷ (b ⇒ NeedsReset) ∷ []) ≡ None → a ≡ false
works_up x b e = grind arith

visits_rogue : {m1 m2 : Pages} {p1 p2 : Part} {d : DriverState} {g : Guest}
    {q page : ℕ} {result : Result (Option Worked) Refusal} → Visits q page m1 m2 p1 p2 result
    → IsOwnRequest g.config.queue_size (length m1) (record {
      head = 0;
      pages = page
          ∷ [];
      visited = 0;
    }) → contains p1.status driver_ok ≡ true → Rogue m1 p1 d g
    → StepsFreeing (Rogue m2 (handed_back p2) d) p2.loose g Work (worked_reply result)
visits_rogue {m1} {m2} {p1} {p2} {d} {g} {q} {page} did own ok rogue =
    let x : QueuePart = record (queue_part q p1) { taken = visiting (queue_part q p1).taken } in
    subst (λ (r : Result (Option Worked) Refusal). StepsFreeing (Rogue m2
    (handed_back p2) d) p2.loose g Work (worked_reply r)) (sym did.answer) (rogue_freed p2 own
    (changes_back (changes_with q x (λ all. all-visiting (IsOwnRequest g.config.queue_size
    (length m1)) (λ r k own. record { above = own.above; below = own.below })
    (queue_part q p1).taken all)) did.part) ok (ap (λ (m : Pages). length m) did.memory
    ∙ length-discarded (page ∷ []) m1) (λ p. ap (λ (m : Pages). frame_at m p) did.memory)
    did.loose refl refl (λ page offset bytes e. cc) refl rogue)

pub work_rogue : {m1 m2 : Pages} {p1 p2 : Part} {d : DriverState} {g : Guest}
    {result : Result (Option Worked) Refusal} → WorksBy m1 m2 p1 p2 result → Rogue m1 p1 d g
    → StepsFreeing (Rogue m2 (handed_back p2) d) p2.loose g Work (worked_reply result)
work_rogue {m2} {p1} {p2} {d} {g} {result} did rogue = by (work_refusal p1) refl where
  Done : Result (Option Worked) Refusal → Type 0
  Done r = StepsFreeing (Rogue m2 (handed_back p2) d) p2.loose g Work (worked_reply r)

  ready : work_refusal p1 ≡ None → contains p1.status driver_ok ≡ true
  ready e = ok_of (contains p1.status driver_ok) (contains p1.status failed)
      (works_up (is_not_ready p1.status) (has_fault p1.status) e)

  later : work_refusal p1 ≡ None → next_visit INFLATE_QUEUE p1 ≡ None → (o : Option ℕ)
      → next_visit REPORT_QUEUE p1 ≡ o → Done result
  later e first None second = let (answer, part, memory) = did.idle e first second in
      subst Done (sym answer) (none_freed memory part refl refl
      (λ page offset bytes x. cc) refl (λ why e. no_refusal why refl e) rogue)
  later e first (Some page) second = visits_rogue (did.report page e first second)
      (next_own p1.paced p1.report.taken page (rogue.up (ready e)).reports second) (ready e) rogue

  visits : work_refusal p1 ≡ None → (o : Option ℕ) → next_visit INFLATE_QUEUE p1 ≡ o → Done result
  visits e None first = later e first (next_visit REPORT_QUEUE p1) refl
  visits e (Some page) first = visits_rogue (did.inflate page e first)
      (next_own p1.paced p1.inflate.taken page (rogue.up (ready e)).inflates first) (ready e) rogue

  by : (o : Option Refusal) → work_refusal p1 ≡ o → Done result
  by (Some why) e = let (answer, part, memory) = did.refused why e in
      subst Done (sym answer) (none_freed memory part refl
      (refused_otherwise (work_causes p1.status) why refl e) (λ page offset bytes x. cc) refl
      (left_same d Work why (work_causes p1.status) rogue refl refl part (sym e) refl refl) rogue)
  by None e = visits e (next_visit INFLATE_QUEUE p1) refl

-- ---- sweep

sweeps_up : (a b told c : Bool) → first_refusal ((a ⇒ NotReady) ∷ (b ⇒ NeedsReset)
    ∷ (not told ⇒ NoFeature) ∷ (not c ⇒ NotBallooned) ∷ []) ≡ None → (a ≡ false) × (c ≡ true)
sweeps_up a b told c e = grind arith

-- a ballooned page is one of the guest's, and not reserved
ballooned_own : {m : Pages} {p : Part} {d : DriverState} {g : Guest} (page : ℕ)
    → Rogue m p d g → is_ballooned p.ballooned page ≡ true → IsOwnRequest g.config.queue_size
    (length m) (record { head = 0; pages = page ∷ []; visited = 0 })
ballooned_own page rogue flag = grind (arith, get_or_past)

pub sweep_rogue : {m1 m2 : Pages} {p1 p2 : Part} {d : DriverState} {g : Guest}
    {page : ℕ} {result : Result Bool Refusal} → SweepsBy page m1 m2 p1 p2 result → Rogue m1 p1 d g
    → StepsFreeing (Rogue m2 (handed_back p2) d) p2.loose g (Sweep page) (swept_reply result)
sweep_rogue {m1} {m2} {p1} {p2} {d} {g} {page} {result} did rogue = by
    (sweep_refusal page p1) refl where
      Done : Result Bool Refusal → Type 0
      Done r = StepsFreeing (Rogue m2 (handed_back p2) d) p2.loose g (Sweep page) (swept_reply r)

      by : (o : Option Refusal) → sweep_refusal page p1 ≡ o → Done result
      by (Some why) e = let (answer, part, memory) = did.refused why e in
          subst Done (sym answer) (none_freed memory part refl
          (refused_otherwise (sweep_causes (negotiated p1) (is_ballooned p1.ballooned page)) why refl e)
          (λ page offset bytes x. cc) refl (left_same d (Sweep page) why (sweep_causes (negotiated p1)
          (is_ballooned p1.ballooned page)) rogue refl refl part (sym e) refl refl) rogue)
      by None e =
          let (up, flag) = sweeps_up (is_not_ready p1.status) (has_fault p1.status)
          (must_tell_host p1.features) (is_ballooned p1.ballooned page) e in
          let same : PartChanges g.config.queue_size (length m1) p1 p1 = search (arith, device_alike) in
          subst Done (sym (did.answer e)) (rogue_freed p2 (ballooned_own page rogue flag)
          (changes_back same (did.part e)) (ok_of (contains p1.status driver_ok)
          (contains p1.status failed) up) (ap (λ (m : Pages). length m) (did.memory e)
          ∙ length-discarded (page ∷ []) m1) (λ p. ap (λ (m : Pages). frame_at m p) (did.memory e))
          (did.loose e) refl refl (λ page offset bytes x. cc) refl rogue)

-- ---- target

pub target_rogue : {m1 m2 : Pages} {p1 p2 : Part} {d : DriverState} {g : Guest} {n : ℕ}
    → m2 ≡ m1 → p2 ≡ record p1 { target = n }
    → Rogue m1 p1 d g → StepsAlone (Rogue m2 p2 d) g (SetTarget n) Done
target_rogue {m1} {m2} memory part rogue =
    let same : (page : ℕ) → frame_at m2 page ≡ frame_at m1 page = search arith in
    let count : length m2 ≡ length m1 = ap (λ (m : Pages). length m) memory in
    rogue_alone rogue (record {
      driver = driver_same refl;
      device = device_alike (ap kept_of_rogue part);
      up = λ was ok. up_kept count (λ page low. same page)
          (ap (λ (p : Part). p.inflate.taken) part) (ap (λ (p : Part). p.report.taken) part)
          (was (ap (λ (p : Part). contains p.status driver_ok) (sym part) ∙ ok));
    }) count same (ap (λ (p : Part). p.target) part) refl (λ page offset bytes e. cc) refl
    (λ why e. no_refusal why refl e)
