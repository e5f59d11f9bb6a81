-- What a guest's history says, as its notes keep it.
use Rattle.std.specs.Prelude.{ℕ, ◌==◌, List, [], Option, Some, None, map, filter_map}
use Rattle.std.specs.Prelude.{slice_index_or, if◌then◌else◌}
use Rattle.vb_virtio.specs.declared.negotiation.TheConstants.{OFFERED_FEATURES}
use Rattle.vb_model.specs.declared.calls.Actor.{Actor}
use Rattle.vb_model.specs.declared.calls.Actor.TheVariants.{Starter, Processor, Worker, Balancer}
use Rattle.vb_model.specs.declared.calls.Call.{Call}
use Rattle.vb_model.specs.declared.calls.Call.TheVariants.{Init, Work, SetTarget}
use Rattle.vb_model.specs.declared.replies.Reply.{Reply}
use Rattle.vb_model.specs.GuestRun.{Entry, Called, Looked}
use Rattle.vb_run.specs.declared.note.Caller.{Caller}
use Rattle.vb_run.specs.declared.note.Caller.TheVariants.{Starter as ByStarter, Worker as ByWorker}
use Rattle.vb_run.specs.declared.note.Caller.TheVariants.{Processor as ByProcessor}
use Rattle.vb_run.specs.declared.note.Caller.TheVariants.{Balancer as ByBalancer}
use Rattle.vb_run.specs.declared.note.Note.{Note}
use Rattle.vb_run.specs.declared.note.Note.TheVariants.{Called as CalledNote, Looked as LookedNote}
use Rattle.vb_run.specs.Services.{services}

abbrev pub actor_in : ℕ → Caller → Actor
actor_in guest ByStarter = Starter
actor_in guest (ByProcessor cpu place) = Processor guest cpu
actor_in guest (ByWorker service) = Worker guest
actor_in guest (ByBalancer pages) = Balancer

-- a processor's call is that at this place of its script, the worker's its service of this number
abbrev pub call_in : List (List Call) → Caller → Call
call_in scripts ByStarter = Init OFFERED_FEATURES
call_in scripts (ByProcessor cpu place) =
    slice_index_or (slice_index_or scripts cpu []) place Work
call_in scripts (ByWorker service) = slice_index_or services service Work
call_in scripts (ByBalancer pages) = SetTarget pages

-- the entry that a note of this guest, whose processors have these scripts, represents
abbrev pub noted_entry : ℕ → List (List Call) → Note → Entry
noted_entry guest scripts (CalledNote caller claims reply) =
    Called (actor_in guest caller) (call_in scripts caller) claims.items reply
noted_entry guest scripts (LookedNote floor spare) = Looked floor spare

abbrev pub history_of : ℕ → List (List Call) → List Note → List Entry
history_of guest scripts notes = map (noted_entry guest scripts) notes

-- the reply to the processor of this number, if the note is a call of its
abbrev pub reply_in : ℕ → Note → Option Reply
reply_in cpu (CalledNote (ByProcessor own place) claims reply) =
    if cpu == own then Some reply else None
reply_in cpu _ = None

-- the replies to the processor of this number
abbrev pub replies_in : ℕ → List Note → List Reply
replies_in cpu notes = filter_map (reply_in cpu) notes
