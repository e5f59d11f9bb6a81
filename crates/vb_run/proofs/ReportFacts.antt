-- Worked facts of what a run answers.
use Rattle.std.proofs.Common.{Bool, List, [], ap, arith, false, length, refl, subst, sym, true, ℕ}
use Rattle.std.{proofs.Common.{◌+◌, ◌∙◌, ◌∷◌, ◌≡◌, ◌≤◌}, specs.declared.alloc.Global.Global}
use Rattle.std.specs.Prelude.{None, Option, Some, ◌-◌, filter_map, slice_get}
use Rattle.{std.specs.declared.vec.Vec.Vec, vb_ram.specs.declared.config.Config.Config as Sizes}
use Rattle.{vb_model.proofs.Unchanged.step_keeps, vb_run.specs.Rounds.{Rounded, round_entries}}
use Rattle.{vb_model.specs.Balance.spare, vb_run.specs.{Notes.replies_in, declared.plan.Plan.Plan}}
use Rattle.vb_virtio.specs.Tests.{times}
use Rattle.vb_virtio.specs.Layout.{reserved_pages}
use Rattle.vb_virtio.specs.Queues.{Request}
use Rattle.vb_model.specs.Guest.{Config, Guest, fresh}
use Rattle.vb_model.specs.declared.calls.Claim.{Claim}
use Rattle.vb_model.specs.GuestRun.{Called, Entry, IsHistory, Leads, Looked, all_entries}
use Rattle.vb_model.specs.declared.replies.Reply.{Reply}
use Rattle.vb_model.specs.declared.calls.Actor.{Actor, TheVariants.{Balancer, Processor, Worker}}
use Rattle.vb_model.specs.declared.calls.Call.{Call, TheVariants.{Alloc, SetTarget, Stats, Work}}
use Rattle.vb_model.specs.declared.replies.Reply.TheVariants.{Done, Filled, Idle, NotUsed, Page}
use Rattle.vb_run.specs.{Entries.{calls_by, entries_by, replies_by}, Made.AreMade}
use Rattle.vb_run.specs.Reports.{history_in}
use Rattle.vb_run.specs.{Plans.config_of, declared.report.{GuestReport.GuestReport, Report.Report}}
use Rattle.vb_run.specs.Reports.{AreApart, IsGuestReport, IsReport, IsRound, Plays, frames_behind}
use Rattle.vb_run.{specs.declared.plan.GuestPlan.GuestPlan, proofs.RoundFacts.{Same, shared, round}}

-- 64 pages, queues of 8, two processors, a paced device
abbrev config : Config
config = record { pages = 64; queue_size = 8; processors = 2; paced = true }

abbrev down : Guest
down = fresh config 0

abbrev ready : Guest
ready = record down { status = 15; features = 0x100000027 }

-- ---- frames that back a guest's pages, by rising page

frames_by_page : frames_behind
    (record ready { frames = None ∷ Some 5 ∷ None ∷ Some 3 ∷ Some 9 ∷ None ∷ [] }) ≡ 5 ∷ 3 ∷ 9 ∷ []
frames_by_page = refl

no_frames : frames_behind down ≡ []
no_frames = refl

-- ---- histories: from plug on, with no target

of_nothing : IsHistory config 0 [] down
of_nothing = ([], tt, refl)

to_a_ready_guest : IsHistory config 0 [] ready → ⊥
to_a_ready_guest h = grind arith

from_another_target : IsHistory config 7 [] down → ⊥
from_another_target h = grind arith

-- ---- what a processor of guest 1 plays: its script, whole and in order, with these replies

abbrev made : ℕ → Call → Reply → Entry
made cpu call reply = Called (Processor 1 cpu) call [] reply

-- a guest of one processor
abbrev Accepts : List Call → List Entry → List Reply → Type 0
Accepts script entries replied =
    (plan : GuestPlan) (report : GuestReport) (calls : Vec Call Global)
    → plan.scripts.items ≡ calls ∷ [] → calls.items ≡ script
    → replies_in 0 report.history.items ≡ replied
    → history_in 1 plan report ≡ entries → Plays 1 plan report

-- whatever the other processors do
abbrev Refuses : ℕ → List Call → List Entry → List Reply → Type 0
Refuses cpu script entries replied =
    (plan : GuestPlan) (report : GuestReport) (calls : Vec Call Global)
    → slice_get plan.scripts.items cpu ≡ Some calls → calls.items ≡ script
    → replies_in cpu report.history.items ≡ replied
    → history_in 1 plan report ≡ entries → Plays 1 plan report → ⊥

by_calls : (cpu : ℕ) (script : List Call) (entries : List Entry) (replied : List Reply)
    → (calls_by (Processor 1 cpu) entries ≡ script → ⊥) → Refuses cpu script entries replied
by_calls cpu script entries replied wrong plan report calls at of_calls of_replies history plays =
    wrong (ap (calls_by (Processor 1 cpu)) (sym history) ∙ (plays cpu calls at).0 ∙ of_calls)

by_replies : (cpu : ℕ) (script : List Call) (entries : List Entry) (replied : List Reply)
    → (replies_by (Processor 1 cpu) entries ≡ replied → ⊥) → Refuses cpu script entries replied
by_replies cpu script entries replied wrong plan report calls at of_calls of_replies history plays =
    wrong (ap (replies_by (Processor 1 cpu)) (sym history) ∙ (plays cpu calls at).1 ∙ of_replies)

-- between the entries of others
whole_script : Accepts (Stats ∷ Alloc 0 0 ∷ [])
    (Looked 16 32 ∷ made 0 Stats Filled ∷ Called (Worker 1) Work [] Idle
    ∷ made 0 (Alloc 0 0) (Page 20) ∷ []) (Filled ∷ Page 20 ∷ [])
whole_script plan report calls scripts of_calls of_replies history = grind arith

call_left_out : Refuses 0 (Stats ∷ Alloc 0 0 ∷ []) (made 0 Stats Filled ∷ []) (Filled ∷ [])
call_left_out =
    by_calls 0 (Stats ∷ Alloc 0 0 ∷ []) (made 0 Stats Filled ∷ []) (Filled ∷ []) (λ e. cc)

call_of_another_processor : Refuses 1 (Stats ∷ []) (made 0 Stats Filled ∷ []) (Filled ∷ [])
call_of_another_processor =
    by_calls 1 (Stats ∷ []) (made 0 Stats Filled ∷ []) (Filled ∷ []) (λ e. cc)

call_that_no_script_has : Refuses 1 [] (made 1 Stats Filled ∷ []) (Filled ∷ [])
call_that_no_script_has = by_calls 1 [] (made 1 Stats Filled ∷ []) (Filled ∷ []) (λ e. cc)

another_order : Refuses 0 (Stats ∷ Alloc 0 0 ∷ [])
    (made 0 (Alloc 0 0) (Page 20) ∷ made 0 Stats Filled ∷ []) (Page 20 ∷ Filled ∷ [])
another_order = grind arith

another_reply : Refuses 0 (Stats ∷ []) (made 0 Stats Filled ∷ []) (NotUsed ∷ [])
another_reply = by_replies 0 (Stats ∷ []) (made 0 Stats Filled ∷ []) (NotUsed ∷ []) (λ e. cc)

reply_left_out : Refuses 1 (Stats ∷ []) (made 1 Stats Filled ∷ []) []
reply_left_out = by_replies 1 (Stats ∷ []) (made 1 Stats Filled ∷ []) [] (λ e. cc)

-- ---- frames of guests that are apart

-- the frames of two guests
abbrev OfTwo : List ℕ → List ℕ → Type 0 → Type 0
OfTwo a b answer = (first second : GuestReport) → first.frames.items ≡ a → second.frames.items ≡ b
    → AreApart (first ∷ second ∷ []) → answer

-- how often the frame is among those of both
both : (a b : List ℕ) (frame : ℕ) → OfTwo a b (times frame a + times frame b ≤ 1)
both a b frame first second of_first of_second apart =
    let l : (0 + times frame first.frames.items) + times frame second.frames.items ≤ 1 =
    apart frame in
    let e : times frame first.frames.items ≡ times frame a = ap (times frame) of_first in
    let f : times frame second.frames.items ≡ times frame b = ap (times frame) of_second in
    omega (arith, l, e, f)

frame_of_both : OfTwo (5 ∷ 3 ∷ []) (7 ∷ 3 ∷ []) ⊥
frame_of_both first second a b apart =
    grind (arith, both (5 ∷ 3 ∷ []) (7 ∷ 3 ∷ []) 3 first second a b apart)

frame_twice_of_one : OfTwo [] (4 ∷ 5 ∷ 4 ∷ []) ⊥
frame_twice_of_one first second a b apart =
    grind (arith, both [] (4 ∷ 5 ∷ 4 ∷ []) 4 first second a b apart)

different_frames : (first second : GuestReport) → first.frames.items ≡ 3 ∷ 7 ∷ []
    → second.frames.items ≡ 8 ∷ [] → AreApart (first ∷ second ∷ [])
different_frames first second a b frame = grind arith

frame_of_first_and_third : (first second third : GuestReport) → first.frames.items ≡ 3 ∷ []
    → second.frames.items ≡ [] → third.frames.items ≡ 8 ∷ 3 ∷ []
    → AreApart (first ∷ second ∷ third ∷ []) → ⊥
frame_of_first_and_third first second third a b c apart =
    let l : ((0 + times 3 first.frames.items) + times 3 second.frames.items)
    + times 3 third.frames.items ≤ 1 = apart 3 in
    let d : times 3 first.frames.items ≡ 1 = ap (times 3) a in
    let e : times 3 third.frames.items ≡ 1 = ap (times 3) c in
    omega (arith, l, d, e)

-- ---- a guest's report: guest 1, and balances that leave 16 pages

-- what no such report has
abbrev NoReport : GuestPlan → List Rounded → GuestReport → Type 0
NoReport plan rounds report = (paced : Bool) → IsGuestReport 16 1 plan paced rounds report → ⊥

-- It plays its scripts.
plays_scripts : (plan : GuestPlan) (paced : Bool) (rounds : List Rounded) (report : GuestReport)
    → IsGuestReport 16 1 plan paced rounds report → Plays 1 plan report
plays_scripts plan paced rounds report is = is.plays

-- Its own processors and its own worker made its history, with the starter and the balancer.
made_by_its_own : (plan : GuestPlan) (paced : Bool) (rounds : List Rounded) (report : GuestReport)
    → IsGuestReport 16 1 plan paced rounds report
    → AreMade 1 (length plan.scripts.items) (history_in 1 plan report)
made_by_its_own plan paced rounds report is = is.made

-- Its history is that of a guest as it is plugged in, as large as the plan says, on a device of the
-- given pace, with no target.
runs_from_plug_on : (plan : GuestPlan) (paced : Bool) (rounds : List Rounded)
    (report : GuestReport) (is : IsGuestReport 16 1 plan paced rounds report)
    → plan.config ≡ record { pages = 64; queue_size = 8; processors = 2 }
    → IsHistory (record config { paced = paced }) 0 (history_in 1 plan report) is.last
runs_from_plug_on plan paced rounds report is sizes =
    subst (λ (s : Sizes). IsHistory (config_of s paced) 0 (history_in 1 plan report) is.last) sizes
    (is.safe.after, is.safe.leads, is.safe.ends)

-- a guest that was called once is on a device of that pace still
called_once : (plan : GuestPlan) (paced : Bool) (rounds : List Rounded) (report : GuestReport)
    (actor : Actor) (call : Call) (claims : List Claim) (reply : Reply)
    (is : IsGuestReport 16 1 plan paced rounds report)
    → history_in 1 plan report ≡ Called actor call claims reply ∷ [] → is.last.config.paced ≡ paced
called_once plan paced rounds report actor call claims reply is history = grind arith

paced_for_immediate : (plan : GuestPlan) (rounds : List Rounded) (report : GuestReport)
    (actor : Actor) (call : Call) (claims : List Claim) (reply : Reply)
    (is : IsGuestReport 16 1 plan false rounds report)
    → history_in 1 plan report ≡ Called actor call claims reply ∷ [] → is.last.config.paced ≡ true → ⊥
paced_for_immediate plan rounds report actor call claims reply is history paced = grind arith

immediate_for_paced : (plan : GuestPlan) (rounds : List Rounded) (report : GuestReport)
    (actor : Actor) (call : Call) (claims : List Claim) (reply : Reply)
    (is : IsGuestReport 16 1 plan true rounds report)
    → history_in 1 plan report ≡ Called actor call claims reply ∷ [] → is.last.config.paced ≡ false
    → ⊥
immediate_for_paced plan rounds report actor call claims reply is history immediate = grind arith

-- A guest of 64 pages, of which 16 are reserved, can't spare 49: whatever its first call, no look
-- sees that.
look_that_saw_too_much : (plan : GuestPlan) (rounds : List Rounded) (report : GuestReport)
    (actor : Actor) (call : Call) (claims : List Claim) (reply : Reply) (rest : List Entry)
    → plan.config ≡ record { pages = 64; queue_size = 8; processors = 2 }
    → history_in 1 plan report ≡ Called actor call claims reply ∷ Looked 16 49 ∷ rest
    → NoReport plan rounds report
look_that_saw_too_much plan rounds report actor call claims reply rest sizes history paced is =
    by is.safe.after
    (subst (λ (l : List Entry). Leads (fresh (config_of plan.config paced) 0) (all_entries l)
    is.safe.after) history is.safe.leads)
  where
    by : (after : List Guest) → Leads (fresh (config_of plan.config paced) 0)
        (all_entries (Called actor call claims reply ∷ Looked 16 49 ∷ rest)) after → ⊥
    by [] leads = absurd leads
    by (mid ∷ []) leads = absurd leads.1
    by (mid ∷ next ∷ after) (step, (look, later)) =
        let kept : mid.config ≡ config_of plan.config paced =
        (step_keeps (fresh (config_of plan.config paced) 0) call claims reply mid step.1).config in
        let unreserved : mid.config.pages - reserved_pages mid.config.queue_size ≡ 48 =
        ap (λ (c : Config). c.pages - reserved_pages c.queue_size) kept
        ∙ ap (λ (s : Sizes). s.pages - reserved_pages s.queue_size) sizes in
        let seen : 49 ≡ spare 16 mid = look.0 in omega (arith, unreserved, seen)

-- The balancer's entries are those of the rounds.
abbrev Unbalanced : List Rounded → List Entry → Type 0
Unbalanced rounds entries =
    (plan : GuestPlan) (report : GuestReport) → history_in 1 plan report ≡ entries
    → NoReport plan rounds report

by_entries : (rounds : List Rounded) (entries : List Entry)
    → (entries_by Balancer entries ≡ round_entries 16 1 rounds → ⊥) → Unbalanced rounds entries
by_entries rounds entries wrong plan report history paced is =
    wrong (ap (entries_by Balancer) (sym history) ∙ is.balanced)

abbrev aimed : ℕ → Entry
aimed target = Called Balancer (SetTarget target) [] Done

look_left_out : Unbalanced (shared ∷ []) (made 0 Stats Filled ∷ aimed 0 ∷ [])
look_left_out = by_entries (shared ∷ []) (made 0 Stats Filled ∷ aimed 0 ∷ []) (λ e. cc)

target_left_out : Unbalanced (shared ∷ []) (made 0 Stats Filled ∷ Looked 16 30 ∷ [])
target_left_out = by_entries (shared ∷ []) (made 0 Stats Filled ∷ Looked 16 30 ∷ []) (λ e. cc)

target_of_the_other_guest : Unbalanced (shared ∷ []) (Looked 16 30 ∷ aimed 28 ∷ [])
target_of_the_other_guest = by_entries (shared ∷ []) (Looked 16 30 ∷ aimed 28 ∷ []) (λ e. cc)

look_of_another_floor : Unbalanced (shared ∷ []) (Looked 15 30 ∷ aimed 0 ∷ [])
look_of_another_floor = by_entries (shared ∷ []) (Looked 15 30 ∷ aimed 0 ∷ []) (λ e. cc)

target_though_short : Unbalanced (round ∷ []) (Looked 16 30 ∷ aimed 0 ∷ [])
target_though_short = by_entries (round ∷ []) (Looked 16 30 ∷ aimed 0 ∷ []) (λ e. cc)

target_of_no_round : Unbalanced [] (made 0 Stats Filled ∷ aimed 5 ∷ [])
target_of_no_round = by_entries [] (made 0 Stats Filled ∷ aimed 5 ∷ []) (λ e. cc)

round_left_out : Unbalanced (shared ∷ round ∷ []) (Looked 16 30 ∷ aimed 0 ∷ [])
round_left_out = by_entries (shared ∷ round ∷ []) (Looked 16 30 ∷ aimed 0 ∷ []) (λ e. cc)

-- Nothing waits for the device at the end.
request_at_the_end : (plan : GuestPlan) (paced : Bool) (rounds : List Rounded)
    (report : GuestReport) (is : IsGuestReport 16 1 plan paced rounds report) (r : Request)
    → is.last.deflate.posted ≡ r ∷ [] → ⊥
request_at_the_end plan paced rounds report is r posted =
    let e : Same 1 0 = ap (λ l. length l) (sym posted ∙ is.served.deflate.0) in omega arith

-- Its frames are those that back the guest's pages.
abbrev Frames : List (Option ℕ) → List ℕ → Type 0 → Type 0
Frames behind reported answer = (plan : GuestPlan) (paced : Bool) (rounds : List Rounded)
    (report : GuestReport) (is : IsGuestReport 16 1 plan paced rounds report)
    → is.last.frames ≡ behind → report.frames.items ≡ reported → answer

frames_are : (behind : List (Option ℕ)) (reported : List ℕ)
    → Frames behind reported (reported ≡ filter_map (λ f. f) behind)
frames_are behind reported plan paced rounds report is e f =
    sym f ∙ is.frames ∙ ap (filter_map (λ f. f)) e

frame_left_out : Frames (Some 5 ∷ None ∷ Some 3 ∷ []) (5 ∷ []) ⊥
frame_left_out plan paced rounds report is e f = grind arith

frame_of_no_page : Frames (None ∷ Some 3 ∷ []) (3 ∷ 4 ∷ []) ⊥
frame_of_no_page plan paced rounds report is e f = grind arith

frames_of_pages_that_fall : Frames (Some 5 ∷ Some 3 ∷ []) (3 ∷ 5 ∷ []) ⊥
frames_of_pages_that_fall plan paced rounds report is e f = grind arith

-- ---- the report of a run

abbrev NotOf : Plan → Report → Type 0
NotOf plan report = (paces : List Bool) → IsReport plan paces report → ⊥

guest_left_out : (plan : Plan) (report : Report) (g : GuestPlan) → plan.guests.items ≡ g ∷ []
    → report.guests.items ≡ [] → NotOf plan report
guest_left_out plan report g guests reports paces is = grind arith

report_of_no_guest : (plan : Plan) (report : Report) (r : GuestReport) → plan.guests.items ≡ []
    → report.guests.items ≡ r ∷ [] → NotOf plan report
report_of_no_guest plan report r guests reports paces is = grind arith

-- each is the report of its guest: by its number, by the plan's floor and for these rounds
-- and on a device of the pace of its port
second_is_none : (plan : Plan) (report : Report) (g h : GuestPlan) (first second : GuestReport)
    (pace own : Bool) → plan.guests.items ≡ g ∷ h ∷ [] → report.guests.items ≡ first ∷ second ∷ []
    → (IsGuestReport plan.floor 1 h own report.rounds.items second → ⊥)
    → IsReport plan (pace ∷ own ∷ []) report → ⊥
second_is_none plan report g h first second pace own guests reports none_of_it is = grind arith

second_of_its_pace : (plan : Plan) (report : Report) (g h : GuestPlan) (first second : GuestReport)
    → plan.guests.items ≡ g ∷ h ∷ [] → report.guests.items ≡ first ∷ second ∷ []
    → IsReport plan (true ∷ false ∷ []) report
    → IsGuestReport plan.floor 1 h false report.rounds.items second
second_of_its_pace plan report g h first second guests reports is = grind arith

port_left_out : (plan : Plan) (report : Report) (g : GuestPlan) → plan.guests.items ≡ g ∷ []
    → IsReport plan [] report → ⊥
port_left_out plan report g guests is =
    let e : Same 0 1 = is.ports ∙ ap (λ l. length l) guests in omega arith

port_of_no_guest : (plan : Plan) (report : Report) (g : GuestPlan) → plan.guests.items ≡ g ∷ []
    → IsReport plan (true ∷ false ∷ []) report → ⊥
port_of_no_guest plan report g guests is =
    let e : Same 2 1 = is.ports ∙ ap (λ l. length l) guests in omega arith

one_frame_of_two : (plan : Plan) (report : Report) (first second : GuestReport)
    → report.guests.items ≡ first ∷ second ∷ [] → first.frames.items ≡ 5 ∷ 3 ∷ []
    → second.frames.items ≡ 7 ∷ 3 ∷ [] → NotOf plan report
one_frame_of_two plan report first second reports a b paces is = grind (
  arith,
  frame_of_both first second a b (subst (λ (l : List GuestReport). AreApart l) reports is.apart),
)

round_too_few : (plan : Plan) (report : Report) (r : Rounded) → plan.rounds ≡ 2
    → report.rounds.items ≡ r ∷ [] → NotOf plan report
round_too_few plan report r many rounds paces is =
    let e : Same 1 2 = ap (λ l. length l) (sym rounds) ∙ is.rounds ∙ many in omega arith

round_too_many : (plan : Plan) (report : Report) (r : Rounded) → plan.rounds ≡ 0
    → report.rounds.items ≡ r ∷ [] → NotOf plan report
round_too_many plan report r many rounds paces is =
    let e : Same 1 0 = ap (λ l. length l) (sym rounds) ∙ is.rounds ∙ many in omega arith

-- each round, the last as well
second_round_is_none : (plan : Plan) (report : Report) (r s : Rounded)
    → report.rounds.items ≡ r ∷ s ∷ [] → (IsRound plan s → ⊥) → NotOf plan report
second_round_is_none plan report r s rounds none_of_it paces is = grind arith
