-- The entries of a guest's history by who made them.
use Rattle.std.specs.Prelude.{Bool, true, false, ◌&&◌, ◌==◌, List, Option, Some, None}
use Rattle.std.specs.Prelude.{filter, filter_map, if◌then◌else◌}
use Rattle.vb_model.specs.declared.calls.Actor.{Actor}
use Rattle.vb_model.specs.declared.calls.Actor.TheVariants.{Starter, Processor, Worker, Balancer}
use Rattle.vb_model.specs.declared.calls.Call.{Call}
use Rattle.vb_model.specs.declared.replies.Reply.{Reply}
use Rattle.vb_model.specs.GuestRun.{Entry, Called, Looked}
use Rattle.vb_run.specs.declared.entry.Step.{Step}
use Rattle.vb_run.specs.declared.entry.Step.TheVariants.{Called as CalledStep, Looked as LookedStep}

-- what a step is in a history
abbrev pub entry_of : Step → Entry
entry_of (CalledStep actor call claims reply) = Called actor call claims.items reply
entry_of (LookedStep floor spare) = Looked floor spare

abbrev pub is_same : Actor → Actor → Bool
is_same Starter Starter = true
is_same (Processor g c) (Processor h d) = (g == h) && (c == d)
is_same (Worker g) (Worker h) = g == h
is_same Balancer Balancer = true
is_same _ _ = false

-- who made the entry: looks are the balancer's
abbrev pub actor_of : Entry → Actor
actor_of (Called actor call claims reply) = actor
actor_of (Looked floor spare) = Balancer

abbrev pub call_of : Entry → Option Call
call_of (Called actor call claims reply) = Some call
call_of (Looked floor spare) = None

abbrev pub reply_of : Entry → Option Reply
reply_of (Called actor call claims reply) = Some reply
reply_of (Looked floor spare) = None

abbrev pub entries_by : Actor → List Entry → List Entry
entries_by actor entries = filter (λ e. is_same actor (actor_of e)) entries

abbrev pub calls_by : Actor → List Entry → List Call
calls_by actor entries = filter_map call_of (entries_by actor entries)

-- the reply that the actor got, if the entry is a call of its
abbrev pub reply_to : Actor → Entry → Option Reply
reply_to actor entry = if is_same actor (actor_of entry) then reply_of entry else None

abbrev pub replies_by : Actor → List Entry → List Reply
replies_by actor entries = filter_map (reply_to actor) entries
