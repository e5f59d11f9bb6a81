-- Which plans can be run (profile).
use Rattle.std.specs.Prelude.{ℕ, suc, ◌==◌, ◌&&◌, Bool, true, false, not, nat_le}
use Rattle.std.specs.Prelude.{List, [], ◌∷◌, length}
use Rattle.std.specs.List.{list_all}
use Rattle.std.specs.declared.vec.Vec.{Vec}
use Rattle.std.specs.declared.alloc.Global.{Global}
use Rattle.vb_model.specs.declared.calls.Call.{Call}
use Rattle.vb_model.specs.declared.calls.Call.TheVariants.{Alloc, Free, Read, Write, Inflate}
use Rattle.vb_model.specs.declared.calls.Call.TheVariants.{Deflate, Oom, Report, Stats, Reap}
use Rattle.vb_model.specs.declared.calls.Call.TheVariants.{Init, Reset, Scribble, Serve, Sweep}
use Rattle.vb_virtio.specs.Limits.{is_config, max_guests}
use Rattle.vb_run.specs.declared.plan.GuestPlan.{GuestPlan}
use Rattle.vb_run.specs.declared.plan.Plan.{Plan}
use Rattle.vb_run.specs.declared.plan.TheConstants.{MAX_SCRIPT_CALLS}
pub use Rattle.vb_slot.specs.Spare.{config_of}

-- a call that may be in this processor's script: one of the guest's own, and of no other processor
abbrev pub may_stand : ℕ → Call → Bool
may_stand cpu (Alloc c order) = c == cpu
may_stand cpu (Free c start order) = c == cpu
may_stand cpu (Read page offset len) = true
may_stand cpu (Write page offset bytes) = true
may_stand cpu (Inflate pages) = true
may_stand cpu (Deflate pages) = true
may_stand cpu (Oom pages) = true
may_stand cpu (Report from) = true
may_stand cpu Stats = true
may_stand cpu (Reap queue) = true
may_stand cpu _ = false

abbrev pub is_script : ℕ → List Call → Bool
is_script cpu calls = nat_le (length calls) MAX_SCRIPT_CALLS && list_all (may_stand cpu) calls

-- each of these is the script of its processor, the first that of this one
abbrev pub are_scripts : ℕ → List (Vec Call Global) → Bool
are_scripts cpu [] = true
are_scripts cpu (script ∷ scripts) = is_script cpu script.items && are_scripts (suc cpu) scripts

-- a guest within the limits, with a script for each of its processors
abbrev pub is_guest_plan : GuestPlan → Bool
is_guest_plan p =
    is_config p.config.pages p.config.queue_size p.config.processors
    && ((length p.scripts.items == p.config.processors) && are_scripts 0 p.scripts.items)

-- a call of an actor of a guest that was started
abbrev pub is_actor_call : Call → Bool
is_actor_call (Init wanted) = false
is_actor_call Reset = false
is_actor_call (Scribble page offset bytes) = false
is_actor_call (Serve q) = false
is_actor_call (Sweep page) = false
is_actor_call _ = true

-- one to eight guests that can be run, and a port for each
abbrev pub is_plan : Plan → ℕ → Bool
is_plan plan ports =
    not (length plan.guests.items == 0)
    && (nat_le (length plan.guests.items) max_guests
    && ((ports == length plan.guests.items) && list_all is_guest_plan plan.guests.items))
