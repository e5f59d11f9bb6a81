-- What the notes of a guest's history represent.
use Rattle.std.proofs.Common.{List, Some, [], ap, arith, map, refl, slice_get, slice_set, suc, zero}
use Rattle.std.proofs.{Common.{ℕ, ◌++◌, ◌+◌, ◌∙◌, ◌∷◌, ◌≡◌}, lemmas.Bool.Decides.nat_tests}
use Rattle.std.proofs.lemmas.{List.map-append, Option.get_or_from_slice_get}
use Rattle.std.specs.{Prelude.slice_index_or, declared.{alloc.Global.Global, vec.Vec.Vec}}
use Rattle.vb_model.specs.{GuestRun.Called, declared.calls.Actor.TheVariants.{Balancer, Processor}}
use Rattle.vb_model.specs.declared.calls.{Actor.TheVariants.Worker, Call.{Call, TheVariants.Work}}
use Rattle.vb_model.specs.declared.{calls.Claim.Claim, replies.Reply.Reply}
use Rattle.vb_run.specs.{Entries.{entries_by, replies_by}, Notes.{call_in, history_of, noted_entry}}
use Rattle.vb_run.specs.{Notes.replies_in, Past.{AreScripts, Progress, scripts_in}}
use Rattle.vb_run.specs.{Services.services, declared.note.Caller.TheVariants.Balancer as ByBalancer}
use Rattle.vb_run.specs.declared.note.{Caller.TheVariants.Processor as ByProcessor, Note.Note}
use Rattle.vb_run.specs.declared.note.Caller.TheVariants.{Starter as ByStarter, Worker as ByWorker}
use Rattle.vb_run.specs.declared.note.Note.TheVariants.{Called as CalledNote, Looked as LookedNote}

-- one note more
pub note_push : (guest : ℕ) (scripts : List (List Call)) (notes : List Note) (note : Note)
    → history_of guest scripts (notes ++ note ∷ [])
    ≡ history_of guest scripts notes ++ noted_entry guest scripts note ∷ []
note_push guest scripts notes note = map-append (noted_entry guest scripts) notes (note ∷ [])

-- a script's place changes, and its calls don't
pub scripts_stay : (scripts : List Progress) (cpu : ℕ) (s : Progress) (place : ℕ)
    → slice_get scripts cpu ≡ Some s
    → scripts_in (slice_set scripts cpu (record s { place = place })) ≡ scripts_in scripts
scripts_stay [] cpu s place at = cc
scripts_stay (t ∷ scripts) zero s place at = cc
scripts_stay (t ∷ scripts) (suc cpu) s place at =
    ap (λ l. t.calls ∷ l) (scripts_stay scripts cpu s place at)

-- the call that is next
pub call_here : (scripts : List Progress) (cpu : ℕ) (s : Progress) (call : Call)
    → slice_get scripts cpu ≡ Some s → slice_get s.calls s.place ≡ Some call
    → call_in (scripts_in scripts) (ByProcessor cpu s.place) ≡ call
call_here [] cpu s call at next = cc
call_here (t ∷ scripts) zero s call at next =
    let same : t ≡ s = cc in
    ap (λ (p : Progress). slice_index_or p.calls s.place Work) same
    ∙ get_or_from_slice_get s.calls s.place call Work next
call_here (t ∷ scripts) (suc cpu) s call at next = call_here scripts cpu s call at next

pub service_here : (scripts : List (List Call)) (n : ℕ) (call : Call)
    → slice_get services n ≡ Some call → call_in scripts (ByWorker n) ≡ call
service_here scripts n call at = get_or_from_slice_get services n call Work at

-- scripts with these calls
pub scripts_alike : (scripts : List Progress) (calls : List (Vec Call Global))
    → AreScripts scripts calls → map (λ v. v.items) calls ≡ scripts_in scripts
scripts_alike [] [] h = refl
scripts_alike [] (c ∷ calls) h = absurd (omega (arith, h.0))
scripts_alike (s ∷ scripts) [] h = absurd (omega (arith, h.0))
scripts_alike (s ∷ scripts) (c ∷ calls) (len, each) =
    let own : s.calls ≡ c.items = each 0 s c refl refl in
    let rest = scripts_alike scripts calls (omega (arith, len), λ cpu. each (suc cpu)) in
    grind arith

-- the balancer's entries, whatever the scripts are
pub balancers : (guest : ℕ) (scripts : List (List Call)) (notes : List Note)
    → entries_by Balancer (history_of guest scripts notes)
    ≡ entries_by Balancer (history_of guest [] notes)
balancers guest scripts [] = refl
balancers guest scripts (LookedNote floor spare ∷ notes) = grind (arith, balancers guest scripts notes)
balancers guest scripts (CalledNote ByStarter claims reply ∷ notes) = balancers guest scripts notes
balancers guest scripts (CalledNote (ByProcessor cpu place) claims reply ∷ notes) =
    balancers guest scripts notes
balancers guest scripts (CalledNote (ByWorker n) claims reply ∷ notes) = balancers guest scripts notes
balancers guest scripts (CalledNote (ByBalancer pages) claims reply ∷ notes) =
    grind (arith, balancers guest scripts notes)

-- the replies to a processor
pub replied : (guest cpu : ℕ) (scripts : List (List Call)) (notes : List Note)
    → replies_by (Processor guest cpu) (history_of guest scripts notes) ≡ replies_in cpu notes
replied guest cpu scripts [] = refl
replied guest cpu scripts (LookedNote floor spare ∷ notes) = replied guest cpu scripts notes
replied guest cpu scripts (CalledNote ByStarter claims reply ∷ notes) = replied guest cpu scripts notes
replied guest cpu scripts (CalledNote (ByProcessor own place) claims reply ∷ notes) =
    grind (arith, nat_tests, replied guest cpu scripts notes)
replied guest cpu scripts (CalledNote (ByWorker n) claims reply ∷ notes) =
    replied guest cpu scripts notes
replied guest cpu scripts (CalledNote (ByBalancer pages) claims reply ∷ notes) =
    replied guest cpu scripts notes

-- the next call of a processor
pub noted_next : (guest cpu : ℕ) (scripts : List Progress) (s : Progress) (call : Call)
    (claims : Vec Claim Global) (reply : Reply) (notes : List Note)
    → slice_get scripts cpu ≡ Some s → slice_get s.calls s.place ≡ Some call
    → history_of guest (scripts_in (slice_set scripts cpu (record s { place = s.place + 1 })))
    (notes ++ CalledNote (ByProcessor cpu s.place) claims reply ∷ [])
    ≡ history_of guest (scripts_in scripts) notes
    ++ Called (Processor guest cpu) call claims.items reply ∷ []
noted_next guest cpu scripts s call claims reply notes here next =
    ap (λ (l : List (List Call)). history_of guest l
    (notes ++ CalledNote (ByProcessor cpu s.place) claims reply ∷ []))
    (scripts_stay scripts cpu s (s.place + 1) here)
    ∙ note_push guest (scripts_in scripts) notes (CalledNote (ByProcessor cpu s.place) claims reply)
    ∙ ap (λ (c : Call). history_of guest (scripts_in scripts) notes
    ++ Called (Processor guest cpu) c claims.items reply ∷ []) (call_here scripts cpu s call here next)

-- a call of the worker
pub noted_service : (guest n : ℕ) (scripts : List (List Call)) (call : Call)
    (claims : Vec Claim Global) (reply : Reply) (notes : List Note)
    → slice_get services n ≡ Some call
    → history_of guest scripts (notes ++ CalledNote (ByWorker n) claims reply ∷ [])
    ≡ history_of guest scripts notes ++ Called (Worker guest) call claims.items reply ∷ []
noted_service guest n scripts call claims reply notes at =
    note_push guest scripts notes (CalledNote (ByWorker n) claims reply)
    ∙ ap (λ (c : Call). history_of guest scripts notes
    ++ Called (Worker guest) c claims.items reply ∷ []) (service_here scripts n call at)
