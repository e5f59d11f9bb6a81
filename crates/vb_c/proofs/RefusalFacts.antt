-- What calls for notices that do nothing leave, worked out.
use Rattle.std.proofs.Common.{false, ◌≡◌, ap, arith, ℕ, [], Some, None}
use Rattle.vb_core.specs.declared.kinds.Kind.TheVariants.{Deflate, Statistics}
use Rattle.vb_monitor.specs.declared.balloon.Balloon.{Balloon}
use Rattle.vb_monitor.specs.declared.outcome.Budget.{Budget}
use Rattle.vb_c.specs.declared.notice.VbNotice.{VbNotice}
use Rattle.vb_monitor.specs.declared.orders.NoticeRoom.{NoticeRoom}
use Rattle.vb_c.{specs.Serving.{BeginsFor, GivesHeldFor, GoesOnBy}, proofs.Samples.{Same, two, balloon, nothing_copied}}
use Rattle.vb_c.proofs.Samples.{a_buffer}
use Rattle.vb_monitor.specs.{declared.snapshot.Snapshot.Snapshot, Snapshots.snapshot_of}

abbrev room : NoticeRoom
room = record { copied = nothing_copied; cuts = [] }

abbrev here : Snapshot
here = snapshot_of Deflate balloon.device

abbrev held_of : Balloon → ℕ
held_of b = b.held.statistics

abbrev changed : Balloon
changed = record balloon { held = a_buffer 5 }

abbrev one_page : Budget
one_page = record { chains = 1; pages = 1; keeps = false; longest = 256 }

-- a queue that isn't there has code 5, one of which a chain is held 1, none to give back 1, no notice
-- 7; each time the balloon stays
no_such_queue : (c : VbNotice) → BeginsFor None two one_page balloon balloon room room c → c.step.code ≡ 5
no_such_queue c h = h.ended.code_is

changed_although_none : (c : VbNotice) →
    BeginsFor None two one_page balloon changed room room c → ⊥
changed_although_none c h = let e : Same 5 4 = ap held_of h.balloon in omega arith

held_already : (c : VbNotice) →
    BeginsFor (Some Statistics) two one_page balloon balloon room room c → c.step.code ≡ 1
held_already c h = h.ended.code_is

begun_although_held : (c : VbNotice) →
    BeginsFor (Some Statistics) two one_page balloon changed room room c → ⊥
begun_although_held c h = let e : Same 5 4 = ap held_of h.balloon in omega arith

nothing_to_give : (c : VbNotice) → GivesHeldFor (Some Deflate) two balloon balloon room room c → c.step.code ≡ 1
nothing_to_give c h = h.ended.code_is

changed_although_unheld : (c : VbNotice) → GivesHeldFor (Some Deflate) two balloon changed room room c → ⊥
changed_although_unheld c h = let e : Same 5 4 = ap held_of h.balloon in omega arith

given_of_no_kind : (c : VbNotice) → GivesHeldFor None two balloon balloon room room c → c.step.code ≡ 5
given_of_no_kind c h = h.ended.code_is

changed_of_no_kind : (c : VbNotice) → GivesHeldFor None two balloon changed room room c → ⊥
changed_of_no_kind c h = let e : Same 5 4 = ap held_of h.balloon in omega arith

no_notice : (c : VbNotice) → GoesOnBy None here two 0 balloon balloon room room c → c.step.code ≡ 7
no_notice c h = h.ended.code_is

reading_although_none : (c : VbNotice) → GoesOnBy None here two 0 balloon balloon room room (record c { what = 128 }) → ⊥
reading_although_none c h = let e : Same 128 0 = h.ended.what in omega arith

changed_by_none : (c : VbNotice) → GoesOnBy None here two 0 balloon changed room room c → ⊥
changed_by_none c h = let e : Same 5 4 = ap held_of h.balloon in omega arith
