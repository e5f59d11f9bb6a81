-- What the lines of a script for guests on threads make together: a plan.
use Rattle.std.specs.Prelude.{ℕ, ◌+◌, ◌==◌, ◌&&◌, nat_lt, nat_le, Bool, false, map}
use Rattle.std.specs.Prelude.{if◌then◌else◌, List, [], ◌∷◌, length, slice_get, Option, Some, None}
use Rattle.std.specs.Prelude.{Result, Ok, Err}
use Rattle.std.specs.List.{filter, filter_map, list_all, range_with_len}
use Rattle.vb_model.specs.declared.calls.Call.{Call as OnGuest}
use Rattle.vb_script.specs.declared.lines.Pace.{Pace}
use Rattle.vb_script.specs.declared.plans.Plugged.{Plugged}
use Rattle.vb_script.specs.declared.script.ThreadsGuest.{ThreadsGuest}
use Rattle.vb_script.specs.declared.script.ThreadsScript.{ThreadsScript}
use Rattle.vb_script.specs.declared.threads.ThreadsLine.{ThreadsLine}
use Rattle.vb_script.specs.declared.threads.ThreadsLine.TheVariants.{Plug, Rounds, Cpu, Call}
use Rattle.vb_script.specs.Texts.{Told, told_in}
use Rattle.vb_script.specs.Threads.{threads}

-- a guest of a plan: the pace of its device, its configuration, and a script for each processor
pub record GuestPlan : Type 0 where
  pub pace : Pace
  pub pages : ℕ
  pub queue_size : ℕ
  pub processors : ℕ
  pub scripts : List (List OnGuest)

pub record Plan : Type 0 where
  pub frames : ℕ
  pub guests : List GuestPlan
  pub floor : ℕ
  pub rounds : ℕ

abbrev pub guest_plan : ThreadsGuest → GuestPlan
guest_plan guest =
    record {
      pace = guest.pace;
      pages = guest.pages;
      queue_size = guest.queue_size;
      processors = guest.processors;
      scripts = map (λ script. script.items) guest.scripts.items;
    }

abbrev pub planned_by : ThreadsScript → Plan
planned_by script =
    record {
      frames = script.frames;
      guests = map guest_plan script.guests.items;
      floor = script.floor;
      rounds = script.rounds;
    }

-- the guest that a line plugs in, if it does
abbrev pub plug_in : ThreadsLine → Option Plugged
plug_in (Plug pages queue_size processors) =
    Some (record { pages = pages; queue_size = queue_size; processors = processors })
plug_in (Rounds floor count) = None
plug_in (Cpu cpu) = None
plug_in (Call guest call) = None

-- the guests that are plugged in, in order
abbrev pub plugs_in : List ThreadsLine → List Plugged
plugs_in lines = filter_map plug_in lines

-- the floor of the rounds, and how many there are: none where no line tells of them
abbrev pub rounds_in : List ThreadsLine → ℕ × ℕ
rounds_in [] = (0, 0)
rounds_in (Rounds floor count ∷ lines) = (floor, count)
rounds_in (Plug pages queue_size processors ∷ lines) = rounds_in lines
rounds_in (Cpu cpu ∷ lines) = rounds_in lines
rounds_in (Call guest call ∷ lines) = rounds_in lines

-- a call that a processor makes on its guest
pub record Made : Type 0 where
  pub guest : ℕ
  pub cpu : ℕ
  pub call : OnGuest

-- The calls, in order, where this processor makes the next ones: the one that was chosen last.
abbrev pub made_by : ℕ → List ThreadsLine → List Made
made_by cpu [] = []
made_by cpu (Cpu chosen ∷ lines) = made_by chosen lines
made_by cpu (Call guest call ∷ lines) =
    record { guest = guest; cpu = cpu; call = call } ∷ made_by cpu lines
made_by cpu (Plug pages queue_size processors ∷ lines) = made_by cpu lines
made_by cpu (Rounds floor count ∷ lines) = made_by cpu lines

-- before a line chooses another one, calls are processor 0's
abbrev pub calls_in : List ThreadsLine → List Made
calls_in lines = made_by 0 lines

abbrev pub is_by : ℕ → ℕ → Made → Bool
is_by guest cpu made = (made.guest == guest) && (made.cpu == cpu)

-- a processor's script: the calls that it makes, in order
abbrev pub script_by : ℕ → ℕ → List Made → List OnGuest
script_by guest cpu calls = map (λ made. made.call) (filter (is_by guest cpu) calls)

-- a processor of this number
abbrev pub has_cpu : ℕ → Option Plugged → Bool
has_cpu cpu None = false
has_cpu cpu (Some plug) = nat_lt cpu plug.processors

-- whether its guest and its processor are there
abbrev pub is_there : List Plugged → Made → Bool
is_there plugs made = has_cpu made.cpu (slice_get plugs made.guest)

-- no guest has more than four processors
abbrev pub has_few : Plugged → Bool
has_few plug = nat_le plug.processors 4

-- Whether there is a guest, a spare device for each, and a processor of its guest's for each call.
abbrev pub is_plan : List Pace → List Plugged → List Made → Bool
is_plan spares plugs calls =
    nat_lt 0 (length plugs)
    && nat_le (length plugs) (length spares)
    && list_all has_few plugs
    && list_all (is_there plugs) calls

abbrev pub guest_with : ℕ → Pace → Plugged → List Made → GuestPlan
guest_with guest pace plug calls =
    record {
      pace = pace;
      pages = plug.pages;
      queue_size = plug.queue_size;
      processors = plug.processors;
      scripts = map (λ cpu. script_by guest cpu calls) (range_with_len 0 plug.processors);
    }

-- the guests from this number on, each with the next spare device
abbrev pub guests_with : ℕ → List Pace → List Plugged → List Made → List GuestPlan
guests_with guest spares [] calls = []
guests_with guest [] (plug ∷ plugs) calls = []
guests_with guest (pace ∷ spares) (plug ∷ plugs) calls =
    guest_with guest pace plug calls ∷ guests_with (guest + 1) spares plugs calls

abbrev pub whole_plan : Told ThreadsLine → Plan
whole_plan told =
    record {
      frames = told.frames;
      guests = guests_with 0 told.spares (plugs_in told.events) (calls_in told.events);
      floor = (rounds_in told.events).0;
      rounds = (rounds_in told.events).1;
    }

-- the plan that the lines make together, if they make one
unfoldable pub plan_of : Told ThreadsLine → Option Plan
plan_of told =
    if is_plan told.spares (plugs_in told.events) (calls_in told.events)
    then Some (whole_plan told)
    else None

abbrev pub planned : Result (Option (Told ThreadsLine)) ℕ → Result (Option Plan) ℕ
planned (Err number) = Err number
planned (Ok None) = Ok None
planned (Ok (Some told)) = Ok (plan_of told)

-- the plan that a text makes, if all of its lines say something there, or its first bad line
unfoldable pub threads_script_of : List ℕ → Result (Option Plan) ℕ
threads_script_of text = planned (told_in threads text)
