-- Worked facts of a history's entries by who made them.
use Rattle.std.{proofs.Common.{◌≡◌, List, [], ◌∷◌, true, false, map, refl}, specs.Prelude.Some}
use Rattle.std.{specs.Prelude.None, specs.declared.vec.Vec.Vec, specs.declared.alloc.Global.Global}
use Rattle.vb_model.specs.declared.calls.Actor.TheVariants.{Starter, Processor, Worker, Balancer}
use Rattle.vb_model.specs.declared.calls.Call.TheVariants.{Init, Alloc, Stats, Work, SetTarget}
use Rattle.vb_model.specs.declared.replies.Reply.TheVariants.{Done, Ready, Page, Filled, Idle}
use Rattle.vb_model.{specs.declared.calls.Claim.TheVariants.Gave, specs.declared.calls.Actor.Actor}
use Rattle.vb_model.{specs.GuestRun.{Entry, Called, Looked}, specs.declared.calls.Claim.Claim}
use Rattle.vb_run.specs.Entries.{entry_of, is_same, actor_of, call_of, reply_of, entries_by}
use Rattle.vb_run.specs.Entries.{calls_by, reply_to, replies_by}
use Rattle.vb_run.specs.declared.entry.Step.TheVariants.{Called as CalledStep, Looked as LookedStep}

-- ---- which actors are one

abbrev actors : List Actor
actors =
    Starter ∷ Processor 1 0 ∷ Processor 1 1 ∷ Processor 0 0 ∷ Worker 1 ∷ Worker 0 ∷ Balancer ∷ []

one_starter : map (is_same Starter) actors
    ≡ true ∷ false ∷ false ∷ false ∷ false ∷ false ∷ false ∷ []
one_starter = refl

-- by its guest and by its number
one_processor : map (is_same (Processor 1 0)) actors
    ≡ false ∷ true ∷ false ∷ false ∷ false ∷ false ∷ false ∷ []
one_processor = refl

one_worker : map (is_same (Worker 1)) actors
    ≡ false ∷ false ∷ false ∷ false ∷ true ∷ false ∷ false ∷ []
one_worker = refl

one_balancer : map (is_same Balancer) actors
    ≡ false ∷ false ∷ false ∷ false ∷ false ∷ false ∷ true ∷ []
one_balancer = refl

-- ---- what a step is in a history

call_of_an_actor : (claims : Vec Claim Global) → claims.items ≡ Gave 5 ∷ []
    → entry_of (CalledStep (Processor 1 0) Stats claims Filled)
    ≡ Called (Processor 1 0) Stats (Gave 5 ∷ []) Filled
call_of_an_actor claims e = rw e refl

look : entry_of (LookedStep 16 32) ≡ Looked 16 32
look = refl

-- ---- entries of several actors

abbrev history : List Entry
history = Called Starter (Init 0x100000027) (Gave 5 ∷ []) Ready ∷ Called (Processor 1 0) Stats []
    Filled ∷ Looked 16 32 ∷ Called (Worker 1) Work [] Idle ∷ Called Balancer (SetTarget 3) [] Done
    ∷ Called (Processor 1 1) Work [] Done ∷ Called (Processor 1 0) (Alloc 0 0) [] (Page 20) ∷ []

-- looks are the balancer's
actors_of_entries : map actor_of history
    ≡ Starter ∷ Processor 1 0 ∷ Balancer ∷ Worker 1 ∷ Balancer ∷ Processor 1 1 ∷ Processor 1 0 ∷ []
actors_of_entries = refl

-- a look is no call
calls_of_entries : map call_of history ≡ Some (Init 0x100000027)
    ∷ Some Stats ∷ None ∷ Some Work ∷ Some (SetTarget 3) ∷ Some Work ∷ Some (Alloc 0 0) ∷ []
calls_of_entries = refl

replies_of_entries : map reply_of history
    ≡ Some Ready ∷ Some Filled ∷ None ∷ Some Idle ∷ Some Done ∷ Some Done ∷ Some (Page 20) ∷ []
replies_of_entries = refl

entries_of_the_balancer : entries_by Balancer history
    ≡ Looked 16 32 ∷ Called Balancer (SetTarget 3) [] Done ∷ []
entries_of_the_balancer = refl

entries_of_a_processor : entries_by (Processor 1 0) history ≡ Called (Processor 1 0) Stats [] Filled
    ∷ Called (Processor 1 0) (Alloc 0 0) [] (Page 20) ∷ []
entries_of_a_processor = refl

-- in order, and none of another processor
calls_of_a_processor : calls_by (Processor 1 0) history ≡ Stats ∷ Alloc 0 0 ∷ []
calls_of_a_processor = refl

replies_of_a_processor : replies_by (Processor 1 0) history ≡ Filled ∷ Page 20 ∷ []
replies_of_a_processor = refl

calls_of_the_other : calls_by (Processor 1 1) history ≡ Work ∷ []
calls_of_the_other = refl

replies_of_the_other : replies_by (Processor 1 1) history ≡ Done ∷ []
replies_of_the_other = refl

calls_of_the_worker : calls_by (Worker 1) history ≡ Work ∷ []
calls_of_the_worker = refl

replies_of_the_worker : replies_by (Worker 1) history ≡ Idle ∷ []
replies_of_the_worker = refl

calls_of_the_starter : calls_by Starter history ≡ Init 0x100000027 ∷ []
calls_of_the_starter = refl

-- the look has no call and no reply
calls_of_the_balancer : calls_by Balancer history ≡ SetTarget 3 ∷ []
calls_of_the_balancer = refl

replies_of_the_balancer : replies_by Balancer history ≡ Done ∷ []
replies_of_the_balancer = refl

reply_to_each : map (reply_to (Worker 1)) history
    ≡ None ∷ None ∷ None ∷ Some Idle ∷ None ∷ None ∷ None ∷ []
reply_to_each = refl

-- those of another guest made none of these
none_of_another_guest : calls_by (Processor 0 0) history ≡ []
none_of_another_guest = refl

no_entry_of_another_worker : entries_by (Worker 0) history ≡ []
no_entry_of_another_worker = refl
