-- What a run answers.
use Rattle.std.specs.Prelude.{◌≡◌, ℕ, ◌≤◌, Bool, List, length, Some}
use Rattle.std.specs.Prelude.{slice_get, map}
use Rattle.std.specs.Prelude.{filter_map, All, sum_by}
use Rattle.vb_model.specs.declared.calls.Actor.TheVariants.{Processor, Balancer}
use Rattle.vb_model.specs.Guest.{Guest}
use Rattle.vb_model.specs.GuestRun.{Entry}
use Rattle.vb_model.specs.Balance.{IsAnswer}
use Rattle.vb_virtio.specs.Tests.{times}
use Rattle.vb_model.specs.Histories.{IsSafeHistory}
use Rattle.vb_run.specs.declared.plan.Plan.{Plan}
use Rattle.vb_run.specs.declared.plan.GuestPlan.{GuestPlan}
use Rattle.vb_run.specs.declared.report.GuestReport.{GuestReport}
use Rattle.vb_run.specs.declared.report.Report.{Report}
use Rattle.vb_run.specs.Past.{Past, AreScripts}
use Rattle.vb_run.specs.Plans.{config_of}
use Rattle.vb_run.specs.Entries.{calls_by, replies_by, entries_by}
use Rattle.vb_run.specs.Made.{AreMade}
use Rattle.vb_run.specs.Notes.{history_of, replies_in}
use Rattle.vb_run.specs.Services.{IsServed}
use Rattle.vb_run.specs.Rounds.{Rounded, round_entries}

-- the frames that back the guest's pages, by rising page
abbrev pub frames_behind : Guest → List ℕ
frames_behind g = filter_map (λ frame. frame) g.frames

-- the history of a guest of this number and plan
abbrev pub history_in : ℕ → GuestPlan → GuestReport → List Entry
history_in guest plan report =
    history_of guest (map (λ calls. calls.items) plan.scripts.items) report.history.items

-- a processor's entries are its script, whole and in order, with the replies that are reported
abbrev pub Plays : ℕ → GuestPlan → GuestReport → Type 0
Plays guest plan report =
    (cpu : ℕ) (calls : _) → slice_get plan.scripts.items cpu ≡ Some calls
    → (calls_by (Processor guest cpu) (history_in guest plan report) ≡ calls.items)
    × (replies_by (Processor guest cpu) (history_in guest plan report)
    ≡ replies_in cpu report.history.items)

-- What a lock kept is of the guest of this number and plan, on a device that is, or isn't, paced,
-- and the balancer's entries are those of these rounds.
pub record IsPlanned (floor guest : ℕ) (plan : GuestPlan) (paced : Bool)
    (rounds : List Rounded) (p : Past) : Type 0 where
  pub number : p.guest ≡ guest
  pub sizes : p.sizes ≡ plan.config
  pub pace : p.paced ≡ paced
  pub scripts : AreScripts p.scripts plan.scripts.items
  pub balanced : entries_by Balancer p.history ≡ round_entries floor guest rounds

-- of the guest that was plugged in at this place, on a device that is, or isn't, paced
pub record IsGuestReport (floor guest : ℕ) (plan : GuestPlan) (paced : Bool)
    (rounds : List Rounded) (report : GuestReport) : Type 0 where
  pub last : Guest
  pub safe : IsSafeHistory (config_of plan.config paced) 0 (history_in guest plan report) last
  pub made : AreMade guest (length plan.scripts.items) (history_in guest plan report)
  pub plays : Plays guest plan report
  pub balanced : entries_by Balancer (history_in guest plan report)
      ≡ round_entries floor guest rounds
  pub served : IsServed last
  pub frames : report.frames.items ≡ frames_behind last

-- a round over all guests of the plan
pub record IsRound (plan : Plan) (r : Rounded) : Type 0 where
  pub sizes : map (λ n. n.pages) r.needs ≡ map (λ g. g.config.pages) plan.guests.items
  pub frames : r.frames ≡ plan.frames
  pub answer : IsAnswer plan.frames r.needs r.answer

-- no frame is twice among those of all guests
abbrev pub AreApart : List GuestReport → Type 0
AreApart reports = (frame : ℕ) → sum_by (λ r. times frame r.frames.items) reports ≤ 1

-- a report of each guest of the plan, with the pace of the port of its place
pub record IsReport (plan : Plan) (paces : List Bool) (report : Report) : Type 0 where
  pub guests : length report.guests.items ≡ length plan.guests.items
  pub ports : length paces ≡ length plan.guests.items
  pub each : (g : ℕ) (r : GuestReport) (p : GuestPlan) (paced : Bool)
      → slice_get report.guests.items g ≡ Some r → slice_get plan.guests.items g ≡ Some p
      → slice_get paces g ≡ Some paced
      → IsGuestReport plan.floor g p paced report.rounds.items r
  pub apart : AreApart report.guests.items
  pub rounds : length report.rounds.items ≡ plan.rounds
  pub answers : All (IsRound plan) report.rounds.items
