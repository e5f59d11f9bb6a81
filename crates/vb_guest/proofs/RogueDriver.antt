-- What a driver does for a guest that wrote past it.
use Rattle.std.proofs.{Common.{sym, ◌∙◌, ap, subst}, lemmas.List.{length-map, length-replicate}}
use Rattle.std.specs.Prelude.{◌≡◌, ℕ, ◌==◌, Bool, true, false, not, ◌&&◌, List, [], ◌∷◌, length}
use Rattle.std.specs.Prelude.{Option, Some, None, Result, Ok, Err, refl, if◌then◌else◌, bit_or}
use Rattle.{std.specs.List.list_all, vb_model.proofs.Wanting.{wants, none_wants, refused_otherwise}}
use Rattle.vb_model.{proofs.{Wanting.refused_passes, GuestSteps.length-reaped}, specs.Guest.Guest}
use Rattle.vb_virtio.specs.Features.{stats_vq}
use Rattle.vb_virtio.specs.declared.layout.TheConstants.{INFLATE_QUEUE, DEFLATE_QUEUE}
use Rattle.vb_virtio.specs.declared.refusals.Refusal.{Refusal}
use Rattle.vb_virtio.specs.declared.refusals.Refusal.TheVariants.{NoQueue, NotReady, NoFeature}
use Rattle.vb_virtio.specs.declared.refusals.Refusal.TheVariants.{RingBroken, Nothing, Broken}
use Rattle.vb_virtio.specs.Status.{contains, driver_ok, failed, is_broken}
use Rattle.vb_virtio.specs.FirstRefusal.{Cause, ◌⇒◌, first_refusal}
use Rattle.vb_virtio.specs.Queues.{is_queue_of_requests, lacks_feature, Inflating, Deflating}
use Rattle.vb_virtio.specs.Queues.{Reporting_free}
use Rattle.vb_model.specs.Guest.{is_ballooned}
use Rattle.vb_model.specs.Pages.{placed}
use Rattle.vb_model.specs.Life.{place_after_reset}
use Rattle.vb_model.specs.declared.calls.Call.{Call, TheVariants.{Alloc, Free, Inflate}}
use Rattle.vb_model.specs.declared.calls.Call.TheVariants.{Deflate, Oom, Report, Stats, Reap, Reset}
use Rattle.vb_model.specs.declared.places.Place.{Place}
use Rattle.vb_model.specs.declared.replies.Reply.{Reply}
use Rattle.vb_model.specs.declared.replies.Reply.TheVariants.{Refused, Done}
use Rattle.vb_model.specs.Step.{bare_pages}
use Rattle.vb_model.specs.Rogue.{target_after, after_refused, with_fault}
use Rattle.vb_model.specs.Requests.{places_reaped}
use Rattle.{vb_ram.specs.{Part.Part, Pages.{Pages, frame_at}}, vb_ring.specs.Ends.after_take}
use Rattle.vb_driver.specs.Calls.{AllocatesBy, FreesBy, InflatesBy, DeflatesBy, DeflatesOnOomBy}
use Rattle.vb_driver.specs.Calls.{ReportsBy, FillsBy, ReapsBy, ResetsBy, Unchanged, AsksBack}
use Rattle.vb_driver.specs.Calls.{after_refusal, after_reap, unreported, without_request, moved_on}
use Rattle.vb_driver.specs.{Calls.{with_actual, ring_of}, Answers.{alloc_causes, free_causes}}
use Rattle.vb_driver.specs.Answers.{inflate_causes, deflate_causes, oom_causes, report_causes}
use Rattle.vb_driver.specs.{Answers.{reap_causes, stats_causes, is_ring_broken}, State.DriverState}
use Rattle.vb_driver.specs.{State.tells_host, declared.answers.{Posted.Posted, Reaped.Reaped}}
use Rattle.{vb_driver.proofs.Placing.length-marked, vb_guest.proofs.Fresh.everywhere}
use Rattle.vb_guest.proofs.Rogues.{shape_of, shaped, DriverSame, Keeps, driver_same, rogue_alone}
use Rattle.vb_guest.proofs.Rogues.{IsOther, keeps_part, up_kept, device_alike, kept_of_rogue}
use Rattle.vb_guest.proofs.Rogues.{rogue_after, rogue_same, rogue_unchanged, IsLeft, left_by}
use Rattle.vb_guest.proofs.Rogues.{no_refusal, keeps_status, is_of_driver, without_fault, said}
use Rattle.vb_guest.specs.{Stands.Rogue, Replies.{page_reply, done_reply}}
use Rattle.vb_guest.specs.{Replies.{posted_reply, reaped_reply, filled_reply}, Steps.StepsAlone}

-- the refusal is one of these tests, none of which is for lack of frames or memory
not_for_want : (why : Refusal) (causes : List Cause) → Some why ≡ first_refusal causes
    → none_wants causes ≡ true → wants (Refused why) ≡ false
not_for_want why causes is others = refused_otherwise causes why others (sym is)

-- ---- calls that leave the device alone

-- a call that leaves it as it was, and the frames of memory
part_alone : {m1 m2 : Pages} {p1 p2 : Part} {d1 d2 : DriverState}
    {g : Guest} {call : Call} {reply : Reply} → DriverSame d1 d2 → p2 ≡ p1 → length m2 ≡ length m1
    → ((page : ℕ) → frame_at m2 page ≡ frame_at m1 page) → target_after call p1.target ≡ p1.target
    → wants reply ≡ false → IsOther call → bare_pages call g ≡ [] → IsLeft call reply [] g
    (rogue_after g g.frames p2 d2) → Rogue m1 p1 d1 g → StepsAlone (Rogue m2 p2 d2) g call reply
part_alone driver part count same still answer other none left rogue =
    rogue_alone rogue (keeps_part driver part count same) count same
    (ap (λ (p : Part). p.target) part ∙ sym still) answer other none left

-- a refusal leaves the guest as it was
pub left_same : {m : Pages} {p1 p2 : Part} {d1 : DriverState} (d2 : DriverState)
    {g : Guest} (call : Call) (why : Refusal) (causes : List Cause) → Rogue m p1 d1 g
    → d2.places ≡ d1.places → d2.actual ≡ d1.actual → p2 ≡ p1 → Some why ≡ first_refusal causes
    → list_all (λ t. keeps_status t.refusal) causes ≡ true → after_refused call why [] g
    ≡ with_fault why g → IsLeft call (Refused why) [] g (rogue_after g g.frames p2 d2)
left_same d2 {g} call why causes rogue places told part is keep plain = left_by call
    why [] g (rogue_unchanged d2 rogue places told part
    ∙ sym (plain ∙ without_fault why (refused_passes keeps_status causes why keep (sym is))))

-- one that changes nothing
pub unchanged_alone : {m1 m2 : Pages} {p1 p2 : Part} {d1 d2 : DriverState}
    {g : Guest} {call : Call} {why : Refusal} (causes : List Cause) → Unchanged m1 m2 p1 p2 d1 d2
    → target_after call p1.target ≡ p1.target → Some why ≡ first_refusal causes
    → none_wants causes ≡ true → list_all (λ t. keeps_status t.refusal) causes ≡ true
    → after_refused call why [] g ≡ with_fault why g → bare_pages call g ≡ []
    → IsOther call → Rogue m1 p1 d1 g → StepsAlone (Rogue m2 p2 d2) g call (Refused why)
unchanged_alone {d2} {call} {why} causes same still is wanted keep plain none other rogue =
    part_alone (driver_same same.driver) same.part (ap (λ (m : Pages). length m) same.mem)
    (λ page. ap (λ (m : Pages). frame_at m page) same.mem) still (not_for_want why causes is wanted)
    other none (left_same d2 call why causes rogue (ap (λ (d : DriverState). d.places) same.driver)
    (ap (λ (d : DriverState). d.actual) same.driver) same.part is keep plain) rogue

-- pages have changed their places
moved : {d1 d2 : DriverState} (pages : List ℕ) (place : Place) → shape_of d2
    ≡ shape_of (record d1 { places = placed pages place d1.places }) → DriverSame d1 d2
moved {d1} pages place e = shaped (e ∙ ap
    (λ (n : ℕ). (d1.pages, d1.queue_size, d1.processors, n)) (length-marked pages place d1.places))

pub alloc_rogue : {m : Pages} {p : Part} {d1 d2 : DriverState}
    {g : Guest} {cpu order : ℕ} (result : Result ℕ Refusal) → AllocatesBy d1 d2 cpu order result
    → Rogue m p d1 g → StepsAlone (Rogue m p d2) g (Alloc cpu order) (page_reply result)
alloc_rogue (Ok start) did rogue = part_alone (moved _ _ (ap shape_of did.state)) refl refl
    (λ page. refl) refl refl (λ page offset bytes e. cc) refl (λ why e. no_refusal why refl e) rogue
alloc_rogue {d1} {d2} {cpu} {order} (Err why) did rogue = part_alone
    (shaped (ap shape_of did.refused)) refl refl (λ page. refl) refl (not_for_want why
    (alloc_causes d1 cpu order) did.refusal refl) (λ page offset bytes e. cc) refl (left_same d2
    (Alloc cpu order) why (alloc_causes d1 cpu order) rogue (ap (λ (d : DriverState). d.places)
    did.refused) (ap (λ (d : DriverState). d.actual) did.refused) refl did.refusal refl refl) rogue

pub free_rogue : {T : Type 0} {m : Pages} {p : Part} {d1 d2 : DriverState} {g : Guest}
    {cpu start order : ℕ} (result : Result T Refusal) → FreesBy d1 d2 cpu start order result
    → Rogue m p d1 g → StepsAlone (Rogue m p d2) g (Free cpu start order) (done_reply result)
free_rogue (Ok x) did rogue = part_alone (moved _ _ (ap shape_of did.state)) refl refl
    (λ page. refl) refl refl (λ page offset bytes e. cc) refl (λ why e. no_refusal why refl e) rogue
free_rogue {d1} {d2} {cpu} {start} {order} (Err why) did rogue = part_alone (driver_same
    did.refused) refl refl (λ page. refl) refl (not_for_want why (free_causes d1 cpu start order)
    did.refusal refl) (λ page offset bytes e. cc) refl (left_same d2 (Free cpu start order) why
    (free_causes d1 cpu start order) rogue (ap (λ (d : DriverState). d.places) did.refused)
    (ap (λ (d : DriverState). d.actual) did.refused) refl did.refusal refl refl) rogue

-- ---- requests

pub inflate_rogue : {m1 m2 : Pages} {p1 p2 : Part} {d1 d2 : DriverState}
    {g : Guest} {n : ℕ} (result : Result Posted Refusal) → InflatesBy m1 m2 p1 p2 d1 d2 n result
    → Rogue m1 p1 d1 g → StepsAlone (Rogue m2 p2 d2) g (Inflate n) (posted_reply result)
inflate_rogue (Ok posted) did rogue = let offers = did.offers in
    part_alone (moved _ _ (ap shape_of offers.state))
    offers.part offers.posts.rest.count offers.posts.rest.backing refl refl
    (λ page offset bytes e. cc) refl (λ why e. no_refusal why refl e) rogue
inflate_rogue {p1} {d1} {n} (Err why) did rogue =
    unchanged_alone (inflate_causes d1 p1 n) did.refused refl
    did.refusal refl refl refl refl (λ page offset bytes e. cc) rogue

asks_rogue : {m1 m2 : Pages} {p1 p2 : Part} {d1 d2 : DriverState} {g : Guest}
    {call : Call} {count : ℕ} {posted : Posted} → AsksBack m1 m2 p1 p2 d1 d2 count posted
    → target_after call p1.target ≡ p1.target → IsOther call → bare_pages call g ≡ []
    → Rogue m1 p1 d1 g → StepsAlone (Rogue m2 p2 d2) g call (posted_reply (Ok posted))
asks_rogue asks still other none rogue = part_alone
    (moved _ _ (ap shape_of asks.state)) asks.part asks.posts.rest.count
    asks.posts.rest.backing still refl other none (λ why e. no_refusal why refl e) rogue

pub deflate_rogue : {m1 m2 : Pages} {p1 p2 : Part} {d1 d2 : DriverState}
    {g : Guest} {n : ℕ} (result : Result Posted Refusal) → DeflatesBy m1 m2 p1 p2 d1 d2 n result
    → Rogue m1 p1 d1 g → StepsAlone (Rogue m2 p2 d2) g (Deflate n) (posted_reply result)
deflate_rogue (Ok posted) did rogue =
    asks_rogue did.asks refl (λ page offset bytes e. cc) refl rogue
deflate_rogue {p1} {d1} {n} (Err why) did rogue =
    unchanged_alone (deflate_causes d1 p1 n) did.refused refl
    did.refusal refl refl refl refl (λ page offset bytes e. cc) rogue

pub oom_rogue : {m1 m2 : Pages} {p1 p2 : Part} {d1 d2 : DriverState} {g : Guest}
    {n : ℕ} (result : Result Posted Refusal) → DeflatesOnOomBy m1 m2 p1 p2 d1 d2 n result
    → Rogue m1 p1 d1 g → StepsAlone (Rogue m2 p2 d2) g (Oom n) (posted_reply result)
oom_rogue (Ok posted) did rogue = asks_rogue did.asks refl (λ page offset bytes e. cc) refl rogue
oom_rogue {p1} {d1} {n} (Err why) did rogue =
    unchanged_alone (oom_causes d1 p1 n) did.refused refl
    did.refusal refl refl refl refl (λ page offset bytes e. cc) rogue

unreported_same : (why : Refusal) (d : DriverState) → DriverSame d (unreported why d)
unreported_same Nothing d =
    record { pages = refl; queue_size = refl; processors = refl; table = refl }
unreported_same _ d = driver_same refl

unreported_places : (why : Refusal) (d : DriverState) → (unreported why d).places ≡ d.places
unreported_places Nothing d = refl
unreported_places _ d = refl

unreported_actual : (why : Refusal) (d : DriverState) → (unreported why d).actual ≡ d.actual
unreported_actual Nothing d = refl
unreported_actual _ d = refl

same_driver : {d1 d2 d3 : DriverState} → DriverSame d1 d2 → d3 ≡ d2 → DriverSame d1 d3
same_driver {d1} same e = subst (DriverSame d1) (sym e) same

pub report_rogue : {m1 m2 : Pages} {p1 p2 : Part} {d1 d2 : DriverState} {g : Guest}
    {from : ℕ} (result : Result Posted Refusal) → ReportsBy m1 m2 p1 p2 d1 d2 from result
    → Rogue m1 p1 d1 g → StepsAlone (Rogue m2 p2 d2) g (Report from) (posted_reply result)
report_rogue (Ok posted) did rogue = let reports = did.reports in
    part_alone (moved _ _ (ap shape_of reports.state))
    reports.part reports.posts.rest.count reports.posts.rest.backing refl refl
    (λ page offset bytes e. cc) refl (λ why e. no_refusal why refl e) rogue
report_rogue {p1} {d1} {d2} {from} (Err why) did rogue = let same = did.refused in
    part_alone (same_driver (unreported_same why d1) same.driver) same.part (ap
    (λ (m : Pages). length m) same.mem) (λ page. ap (λ (m : Pages). frame_at m page) same.mem) refl
    (not_for_want why (report_causes d1 p1 from) did.refusal refl) (λ page offset bytes e. cc) refl
    (left_same d2 (Report from) why (report_causes d1 p1 from) rogue
    (ap (λ (d : DriverState). d.places) same.driver ∙ unreported_places why d1)
    (ap (λ (d : DriverState). d.actual) same.driver
    ∙ unreported_actual why d1) same.part did.refusal refl refl) rogue

-- ---- used requests

-- the driver gives up on a broken ring of a device that is up
failed_keeps : {size : ℕ} (why : Refusal) {m : Pages} {p1 p2 : Part} {d : DriverState}
    → p2 ≡ after_refusal why p1
    → (why ≡ RingBroken → contains p1.status driver_ok ≡ true) → Keeps size m m p1 p2 d d
failed_keeps RingBroken is up = record {
  driver = driver_same refl;
  device = device_alike (ap kept_of_rogue is);
  up = λ was ok. up_kept refl (λ page low. refl) (ap (λ (p : Part). p.inflate.taken) is)
      (ap (λ (p : Part). p.report.taken) is) (was (up refl));
}
failed_keeps _ is up = keeps_part (driver_same refl) is refl (λ page. refl)

failed_target : (why : Refusal) (p : Part) → (after_refusal why p).target ≡ p.target
failed_target RingBroken p = refl
failed_target _ p = refl

-- and its status says so
failed_left : (why : Refusal) {m : Pages} {p1 p2 : Part} {d : DriverState} {g : Guest}
    → Rogue m p1 d g → p2 ≡ after_refusal why p1
    → is_of_driver why ≡ true → rogue_after g g.frames p2 d ≡ with_fault why g
failed_left (Broken fault) rogue is told = absurd cc
failed_left RingBroken {p2} {d} {g} rogue is told = rogue_same p2 d g.frames rogue refl refl
    (ap said is) ∙ ap (λ (n : ℕ). record g { status = n })
    (ap (λ (p : Part). p.status) is ∙ ap (λ (n : ℕ). bit_or n failed) rogue.status)
failed_left _ {d} rogue is told = rogue_unchanged d rogue refl refl is

failed_alone : {m1 m2 : Pages} {p1 p2 : Part} {d1 d2 : DriverState} {g : Guest} {call : Call}
    {why : Refusal} (causes : List Cause) → Unchanged m1 m2 (after_refusal why p1) p2 d1 d2
    → (why ≡ RingBroken → contains p1.status driver_ok ≡ true)
    → target_after call p1.target ≡ p1.target → Some why ≡ first_refusal causes
    → none_wants causes ≡ true → list_all (λ t. is_of_driver t.refusal) causes ≡ true
    → after_refused call why [] g ≡ with_fault why g → bare_pages call g ≡ []
    → IsOther call → Rogue m1 p1 d1 g → StepsAlone (Rogue m2 p2 d2) g call (Refused why)
failed_alone {m1}
    {p1} {p2} {d2} {g} {call} {why} causes same up still is wanted told plain none other rogue =
    subst (λ (m : Pages). StepsAlone (Rogue m p2 d2) g call (Refused why))
    (sym same.mem) (subst (λ (d : DriverState). StepsAlone (Rogue m1 p2 d) g call (Refused why))
    (sym same.driver) (rogue_alone rogue (failed_keeps why same.part up) refl
    (λ page. refl) (ap (λ (p : Part). p.target) same.part ∙ failed_target why p1 ∙ sym still)
    (not_for_want why causes is wanted) other none (left_by call why [] g (failed_left
    why rogue same.part (refused_passes is_of_driver causes why told (sym is)) ∙ sym plain))))

reap_up : (queue up sound lacks broken : Bool) {why : Refusal}
    → Some why ≡ first_refusal ((not queue ⇒ NoQueue) ∷ (not (up && sound) ⇒ NotReady)
    ∷ (lacks ⇒ NoFeature) ∷ (broken ⇒ RingBroken) ∷ []) → why ≡ RingBroken → up ≡ true
reap_up false up sound lacks broken e is = absurd cc
reap_up true true sound lacks broken e is = refl
reap_up true false sound lacks broken e is = absurd cc

stats_up : (up sound accepted broken : Bool) {why : Refusal}
    → Some why ≡ first_refusal ((not (up && sound) ⇒ NotReady)
    ∷ (not accepted ⇒ NoFeature) ∷ (broken ⇒ RingBroken) ∷ []) → why ≡ RingBroken → up ≡ true
stats_up true sound accepted broken e is = refl
stats_up false sound accepted broken e is = absurd cc

without_same : (q head : ℕ) (d : DriverState) → DriverSame d (without_request q head d)
without_same q head d = by (q == INFLATE_QUEUE) (q == DEFLATE_QUEUE) where
  by : (a b : Bool) → DriverSame d (if a then record d { inflate = after_reap d.inflate head }
      else (if b then record d { deflate = after_reap d.deflate head } else record d {
        report = record { ring = after_take d.report.ring (Ok (Some head)); blocks = [] };
      }))
  by true b = record { pages = refl; queue_size = refl; processors = refl; table = refl }
  by false true = record { pages = refl; queue_size = refl; processors = refl; table = refl }
  by false false = record { pages = refl; queue_size = refl; processors = refl; table = refl }

reaped_same : (q head : ℕ) (pages : List ℕ) {d1 d2 : DriverState}
    → d2 ≡ with_actual (without_request q head (moved_on q pages d1)) → DriverSame d1 d2
reaped_same q head pages {d1} is = let first = without_same q head (moved_on q pages d1) in
    same_driver
    (assumption (first.table ∙ length_after (q == INFLATE_QUEUE) (q == DEFLATE_QUEUE))) is where
      length_after : (a b : Bool)
          → length (if a then places_reaped (tells_host d1) Inflating pages d1.places
          else (if b then places_reaped (tells_host d1) Deflating pages d1.places
          else places_reaped (tells_host d1) Reporting_free pages d1.places)) ≡ length d1.places
      length_after true b = length-reaped (tells_host d1) Inflating pages d1.places
      length_after false true = length-reaped (tells_host d1) Deflating pages d1.places
      length_after false false = length-reaped (tells_host d1) Reporting_free pages d1.places

pub reap_rogue : {m1 m2 : Pages} {p1 p2 : Part} {d1 d2 : DriverState} {g : Guest}
    {q : ℕ} (result : Result (Option Reaped) Refusal) → ReapsBy m1 m2 p1 p2 d1 d2 q result
    → Rogue m1 p1 d1 g → StepsAlone (Rogue m2 p2 d2) g (Reap q) (reaped_reply result)
reap_rogue (Ok None) did rogue =
    part_alone (driver_same did.reaps.1) did.reaps.0
    (ap (λ (m : Pages). length m) did.mem) (λ page. ap (λ (m : Pages). frame_at m page) did.mem)
    refl refl (λ page offset bytes e. cc) refl (λ why e. no_refusal why refl e) rogue
reap_rogue {m1} {m2} {q} (Ok (Some reaped)) did rogue = let part = did.reaps.part in
    let same : (page : ℕ) → frame_at m2 page ≡ frame_at m1 page =
    λ page. ap (λ (m : Pages). frame_at m page) did.mem in
    let count : length m2 ≡ length m1 = ap (λ (m : Pages). length m) did.mem in
    rogue_alone rogue (record {
      driver = reaped_same q reaped.head _ did.reaps.state;
      device = device_alike (ap kept_of_rogue part);
      up = λ was ok. up_kept count (λ page low. same page)
          (ap (λ (p : Part). p.inflate.taken) part) (ap (λ (p : Part). p.report.taken) part)
          (was (ap (λ (p : Part). contains p.status driver_ok) (sym part) ∙ ok));
    }) count same (ap (λ (p : Part). p.target) part) refl (λ page offset bytes e. cc) refl
    (λ why e. no_refusal why refl e)
reap_rogue {m1} {p1} {d1} {q} (Err why) did rogue =
    failed_alone (reap_causes m1 p1 d1 (ring_of q d1) q) (record {
      mem = did.mem;
      part = did.failed;
      driver = did.refused;
    }) (reap_up (is_queue_of_requests q) (contains p1.status driver_ok)
    (not (is_broken p1.status)) (lacks_feature d1.features q) (is_ring_broken m1 (ring_of q d1))
    did.refusal) refl did.refusal refl refl refl refl (λ page offset bytes e. cc) rogue

pub stats_rogue : {m1 m2 : Pages} {p1 p2 : Part} {d1 d2 : DriverState}
    {g : Guest} (result : Result Bool Refusal) → FillsBy m1 m2 p1 p2 d1 d2 result
    → Rogue m1 p1 d1 g → StepsAlone (Rogue m2 p2 d2) g Stats (filled_reply result)
stats_rogue (Ok true) did rogue = let fills = did.fills in
    part_alone (shaped
    (ap shape_of fills.state)) fills.part fills.posts.rest.count fills.posts.rest.backing refl refl
    (λ page offset bytes e. cc) refl (λ why e. no_refusal why refl e) rogue
stats_rogue (Ok false) did rogue = let same = did.fills.unchanged in
    part_alone (driver_same same.driver) same.part
    (ap (λ (m : Pages). length m) same.mem) (λ page. ap (λ (m : Pages). frame_at m page) same.mem)
    refl refl (λ page offset bytes e. cc) refl (λ why e. no_refusal why refl e) rogue
stats_rogue {m1} {p1} {d1} (Err why) did rogue =
    failed_alone (stats_causes m1 p1 d1) did.refused (stats_up (contains p1.status driver_ok) (not
    (is_broken p1.status)) (stats_vq d1.features) (is_ring_broken m1 d1.statistics) did.refusal)
    refl did.refusal refl refl refl refl (λ page offset bytes e. cc) rogue

-- ---- a reset

pub reset_rogue : {m1 m2 : Pages} {p1 p2 : Part} {d1 d2 : DriverState} {g : Guest}
    → ResetsBy m1 m2 p1 p2 d1 d2 → Rogue m1 p1 d1 g → StepsAlone (Rogue m2 p2 d2) g Reset Done
reset_rogue {p1} {d1} did rogue = let part = did.part in
    rogue_alone rogue (record {
      driver = record {
        pages = ap (λ (d : DriverState). d.pages) did.state;
        queue_size = ap (λ (d : DriverState). d.queue_size) did.state;
        processors = ap (λ (d : DriverState). d.processors) did.state;
        table = ap (λ (d : DriverState). length d.places) did.state
            ∙ length-map d1.places place_after_reset;
      };
      device = record {
        sized = ap (λ (p : Part). p.queue_size) part;
        paced = ap (λ (p : Part). p.paced) part;
        loose = λ none. ap (λ (p : Part). p.loose) part ∙ none;
        flagged = ap (λ (p : Part). length p.ballooned) part
            ∙ length-replicate (length p1.ballooned) false;
        unreserved = λ page low none. ap (λ (p : Part). is_ballooned p.ballooned page) part
            ∙ everywhere (length p1.ballooned) false page;
      };
      up = λ was ok. absurd (let down : contains 0 driver_ok ≡ true =
          ap (λ (p : Part). contains p.status driver_ok) (sym part) ∙ ok in
          let wrong : false ≡ true = down in cc);
    }) (ap (λ (m : Pages). length m) did.mem)
    (λ page. ap (λ (m : Pages). frame_at m page) did.mem) (ap (λ (p : Part). p.target) part)
    refl (λ page offset bytes e. cc) refl (λ why e. no_refusal why refl e)
