-- The plan that a script for guests on threads makes, in the words of who runs it.
use Rattle.std.specs.Prelude.{◌≡◌, ℕ, suc, ◌==◌, ◌&&◌, Bool, true, false, not, nat_le}
use Rattle.std.specs.Prelude.{List, [], ◌∷◌, length, map, Option, Some, None, Result, Ok, Err}
use Rattle.std.specs.List.{list_all}
use Rattle.vb_model.specs.declared.calls.Call.{Call}
use Rattle.vb_virtio.specs.Limits.{is_config, max_guests}
use Rattle.vb_script.specs.Plans.{Plan as Planned, GuestPlan as PlannedGuest}
use Rattle.vb_run.specs.Plans.{is_script}
use Rattle.vb_run.specs.declared.plan.Bells.{Bells}
use Rattle.vb_run.specs.declared.plan.GuestPlan.{GuestPlan}
use Rattle.vb_run.specs.declared.plan.Plan.{Plan}

-- how large a guest is, and the calls of each of its processors
pub record Part : Type 0 where
  pub pages : ℕ
  pub queue_size : ℕ
  pub processors : ℕ
  pub scripts : List (List Call)

abbrev pub part_of : GuestPlan → Part
part_of guest =
    record {
      pages = guest.config.pages;
      queue_size = guest.config.queue_size;
      processors = guest.config.processors;
      scripts = map (λ script. script.items) guest.scripts.items;
    }

abbrev pub planned_part : PlannedGuest → Part
planned_part guest =
    record {
      pages = guest.pages;
      queue_size = guest.queue_size;
      processors = guest.processors;
      scripts = guest.scripts;
    }

-- just what a script plans, with these bells
pub record IsPlanOf (planned : Planned) (mode : Bells) (plan : Plan) : Type 0 where
  pub guests : map part_of plan.guests.items ≡ map planned_part planned.guests
  pub frames : plan.frames ≡ planned.frames
  pub bells : plan.bells ≡ mode
  pub floor : plan.floor ≡ planned.floor
  pub rounds : plan.rounds ≡ planned.rounds

-- each of these may be its processor's script, the first that of this one's
abbrev pub may_be_scripts : ℕ → List (List Call) → Bool
may_be_scripts cpu [] = true
may_be_scripts cpu (script ∷ scripts) = is_script cpu script && may_be_scripts (suc cpu) scripts

-- a guest within the limits, with a script for each of its processors
abbrev pub is_part : Part → Bool
is_part part =
    is_config part.pages part.queue_size part.processors
    && ((length part.scripts == part.processors) && may_be_scripts 0 part.scripts)

-- one to eight guests that can be run
abbrev pub can_run : Planned → Bool
can_run planned =
    not (length planned.guests == 0)
    && (nat_le (length planned.guests) max_guests
    && list_all is_part (map planned_part planned.guests))

-- whether a text makes a plan that can be run; it may have a bad line, or make none at all
abbrev pub makes_plan : Result (Option Planned) ℕ → Bool
makes_plan (Err number) = false
makes_plan (Ok None) = false
makes_plan (Ok (Some planned)) = can_run planned

-- whether a text without a bad line makes no plan that can be run
abbrev pub lacks_plan : Result (Option Planned) ℕ → Bool
lacks_plan (Err number) = false
lacks_plan (Ok None) = true
lacks_plan (Ok (Some planned)) = not (can_run planned)
