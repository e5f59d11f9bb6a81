-- From which balloon, room and lists a notice begins, goes on and is handed over.
use Rattle.std.proofs.Common.{ℕ, true, List, ◌++◌, Some}
use Rattle.vb_core.specs.declared.kinds.Kind.{Kind}
use Rattle.vb_core.specs.declared.kinds.Kind.TheVariants.{Inflate}
use Rattle.vb_monitor.specs.declared.outcome.HeldChain.{HeldChain}
use Rattle.vb_core.specs.declared.{device.{Device.Device}}
use Rattle.vb_monitor.specs.declared.outcome.{Outcome.Outcome, Budget.Budget}
use Rattle.vb_monitor.specs.declared.{balloon.Balloon.Balloon}
use Rattle.vb_c.specs.Notices.{Notice}
use Rattle.vb_monitor.specs.{Accesses.Access, Machine.{Ahead, Awaited, whole}, Notices.{Serves, GivesHeldBack}}
use Rattle.vb_c.specs.declared.notice.VbNotice.{VbNotice}
use Rattle.vb_monitor.specs.declared.orders.NoticeRoom.{NoticeRoom}
use Rattle.vb_c.specs.{Serving.{with_device, HandsOver, Begins, BeginsIf, BeginsFor, GivesHeldOf, GoesOn}}
use Rattle.vb_c.proofs.Samples.{two, balloon}

-- ---- a notice of a queue is of the device as it was, and may begin while a chain of another one
-- is held

of_the_device_before : (kind : Kind) (budget : Budget) (b1 b2 : Balloon) (r1 r2 : NoticeRoom) (c : VbNotice) →
    BeginsIf true two kind budget b1 b2 r1 r2 c →
    Begins (λ after outcome log. Serves two kind budget b1.device after outcome log) two kind b1 b2 r1 r2 c
of_the_device_before kind budget b1 b2 r1 r2 c h = h

while_one_is_held : (budget : Budget) (b2 : Balloon) (r1 r2 : NoticeRoom) (c : VbNotice) →
    BeginsFor (Some Inflate) two budget balloon b2 r1 r2 c → BeginsIf true two Inflate budget balloon b2 r1 r2 c
while_one_is_held budget b2 r1 r2 c h = h

of_the_chain : (kind : Kind) (held : HeldChain) (b1 b2 : Balloon) (r1 r2 : NoticeRoom) (c : VbNotice) →
    GivesHeldOf (Some held) two kind b1 b2 r1 r2 c →
    Begins (λ after outcome log. GivesHeldBack two kind held b1.device after outcome log) two kind b1 b2 r1 r2 c
of_the_chain kind held b1 b2 r1 r2 c h = h

-- ---- what is handed over is of the lists as they are then

first_lists : (from : Device → Outcome → List Access → Type 0) (kind : Kind) (b1 b2 : Balloon) (r1 r2 : NoticeRoom) (c : VbNotice) →
    (h : Begins from two kind b1 b2 r1 r2 c) → HandsOver h.first two r2.copied (with_device h.device b1) b2 r2.cuts c
first_lists from kind b1 b2 r1 r2 c h = h.hands

next_lists : (n : Notice) (answer : ℕ) (b1 b2 : Balloon) (r1 r2 : NoticeRoom) (c : VbNotice) →
    (h : GoesOn n two answer b1 b2 r1 r2 c) → HandsOver h.next two r2.copied (with_device h.device b1) b2 r2.cuts c
next_lists n answer b1 b2 r1 r2 c h = h.hands

-- ---- a notice that goes on: the room had all else before, and other bytes

goes_on_in_the_room : (n : Notice) (answer : ℕ) (b1 b2 : Balloon) (r1 r2 : NoticeRoom) (c : VbNotice) →
    (h : GoesOn n two answer b1 b2 r1 r2 c) → (after : Device) (outcome : Outcome) (bytes : List ℕ) (done rest : List Access) →
    Awaited n.step.phase n.kind answer bytes r1.copied done →
    Ahead (whole two n.kind after outcome) h.next.step h.device r2.copied rest →
    Ahead (whole two n.kind after outcome) n.step b1.device (record r1.copied { bytes = bytes }) (done ++ rest)
goes_on_in_the_room n answer b1 b2 r1 r2 c h = h.step
