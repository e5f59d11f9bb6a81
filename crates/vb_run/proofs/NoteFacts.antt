-- Worked facts of what the notes of a guest's history represent.
use Rattle.std.{proofs.Common.{◌≡◌, List, [], ◌∷◌, refl, map}, specs.declared.alloc.Global.Global}
use Rattle.{std.specs.declared.vec.Vec.Vec, vb_model.specs.GuestRun.{Called, Looked}}
use Rattle.vb_model.specs.declared.calls.Actor.TheVariants.{Starter, Processor, Worker, Balancer}
use Rattle.vb_model.specs.declared.{calls.{Call.Call, Claim.Claim}, replies.Reply.TheVariants.Asked}
use Rattle.vb_model.specs.declared.calls.Call.TheVariants.{Init, Alloc, Stats, Work, SetTarget}
use Rattle.vb_model.specs.declared.calls.{Call.TheVariants.{Take, Ask}, Claim.TheVariants.Gave}
use Rattle.vb_model.specs.declared.replies.Reply.TheVariants.{Done, Ready, Page, Filled, Idle}
use Rattle.vb_run.specs.declared.note.Caller.{Caller, TheVariants.Processor as ByProcessor}
use Rattle.vb_run.specs.declared.note.Note.TheVariants.{Called as CalledNote, Looked as LookedNote}
use Rattle.vb_run.specs.declared.note.Caller.TheVariants.{Starter as ByStarter, Worker as ByWorker}
use Rattle.vb_run.specs.declared.note.Caller.TheVariants.{Balancer as ByBalancer}
use Rattle.vb_run.specs.Notes.{actor_in, call_in, noted_entry, history_of, replies_in}

-- two processors
abbrev scripts : List (List Call)
scripts = (Stats ∷ Alloc 0 1 ∷ []) ∷ (Alloc 1 0 ∷ []) ∷ []

abbrev callers : List Caller
callers =
    ByStarter ∷ ByProcessor 0 0 ∷ ByProcessor 0 1 ∷ ByProcessor 1 0 ∷ ByWorker 0 ∷ ByWorker 8
    ∷ ByBalancer 3 ∷ []

-- ---- whose calls these are: of guest 2

actors : map (actor_in 2) callers
    ≡ Starter ∷ Processor 2 0 ∷ Processor 2 0 ∷ Processor 2 1 ∷ Worker 2 ∷ Worker 2 ∷ Balancer ∷ []
actors = refl

-- ---- which calls they are

calls : map (call_in scripts) callers
    ≡ Init 0x100000027 ∷ Stats ∷ Alloc 0 1 ∷ Alloc 1 0 ∷ Take 0 ∷ Ask ∷ SetTarget 3 ∷ []
calls = refl

-- ---- what the notes represent

call_with_its_claims : (claims : Vec Claim Global) → claims.items ≡ Gave 5 ∷ []
    → noted_entry 2 scripts (CalledNote (ByProcessor 0 1) claims (Page 20))
    ≡ Called (Processor 2 0) (Alloc 0 1) (Gave 5 ∷ []) (Page 20)
call_with_its_claims claims e = rw e refl

-- in order
notes_in_order : (claims : Vec Claim Global) → claims.items ≡ []
    → history_of 2 scripts (CalledNote ByStarter claims Ready ∷ LookedNote 16 32
    ∷ CalledNote (ByWorker 4) claims Idle ∷ CalledNote (ByBalancer 3) claims Done ∷ [])
    ≡ Called Starter (Init 0x100000027) [] Ready ∷ Looked 16 32 ∷ Called (Worker 2) Work [] Idle
    ∷ Called Balancer (SetTarget 3) [] Done ∷ []
notes_in_order claims e = rw e refl

-- ---- a processor's replies: of its own calls alone, in order

own_replies : (claims : Vec Claim Global)
    → replies_in 1 (CalledNote ByStarter claims Ready ∷ CalledNote (ByProcessor 1 0) claims (Page 20)
    ∷ CalledNote (ByProcessor 0 0) claims Filled ∷ LookedNote 16 32
    ∷ CalledNote (ByProcessor 1 1) claims Done ∷ CalledNote (ByWorker 8) claims Asked
    ∷ CalledNote (ByBalancer 3) claims Done ∷ [])
    ≡ Page 20 ∷ Done ∷ []
own_replies claims = refl
