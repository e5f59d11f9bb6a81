-- What a call or a look leaves under a guest's lock.
use Rattle.std.proofs.Common.{Bool, List, Some, [], ap, false, inl, inr, length, refl, slice_get, ℕ}
use Rattle.std.proofs.Common.{slice_set, subst, suc, sym, take, true, zero, ⊎_elim, ◌++◌, ◌+◌, ◌∙◌}
use Rattle.std.{proofs.Common.{◌∷◌, ◌≡◌, ◌⊎◌}, specs.Prelude.{Err, IfOk, IsOkAnd, MatchBool, Ok}}
use Rattle.std.specs.Prelude.{MatchOption, MatchResult, Option, Result, slice_index_or}
use Rattle.std.{proofs.lemmas.List.Elements.All-nil, specs.declared.alloc.AllocError.AllocError}
use Rattle.vb_model.specs.{Balance.spare, Guest.{Guest, fresh}, GuestRun.{Called, Looked}}
use Rattle.vb_virtio.specs.Limits.{is_config}
use Rattle.vb_virtio.specs.declared.negotiation.TheConstants.{OFFERED_FEATURES}
use Rattle.vb_model.specs.declared.calls.Actor.TheVariants.{Balancer, Processor, Worker}
use Rattle.vb_model.specs.declared.calls.{Actor.Actor, Call.{Call, TheVariants.Init}, Claim.Claim}
use Rattle.vb_model.specs.declared.replies.Reply.{Reply}
use Rattle.{vb_ram.specs.declared.config.Config.Config as Sizes, vb_run.specs.Made.IsMade}
use Rattle.vb_run.specs.Past.{AreBegun, IsAside, IsKept, NotesService, Past, Progress, just_started}
use Rattle.vb_run.specs.Past.{noted, unknown}
use Rattle.vb_run.proofs.Tended.{is_quiet, plain_entry, service_plain, stands_plain, started}
use Rattle.vb_run.specs.{Plans.{config_of, is_actor_call, may_stand}, Services.{IsQuiet, services}}
use Rattle.vb_run.{proofs.Histories.{kept_aside, kept_next}, specs.Services.found_nothing}
use Rattle.{vb_run.proofs.Lists.{passes_at, some_same}, vb_slot.specs.Alone.{AreBehind, StepsTo}}

not_known : (n : ℕ) → slice_index_or unknown n false ≡ true → ⊥
not_known zero h = cc
not_known (suc zero) h = cc
not_known (suc (suc zero)) h = cc
not_known (suc (suc (suc zero))) h = cc
not_known (suc (suc (suc (suc zero)))) h = cc
not_known (suc (suc (suc (suc (suc zero))))) h = cc
not_known (suc (suc (suc (suc (suc (suc zero)))))) h = cc
not_known (suc (suc (suc (suc (suc (suc (suc zero))))))) h = cc
not_known (suc (suc (suc (suc (suc (suc (suc (suc zero)))))))) h = cc
not_known (suc (suc (suc (suc (suc (suc (suc (suc (suc n))))))))) h = cc

pub call_aside : (Is Is' : Guest → Type 0) (own own' : List ℕ) (p : Past) (actor : Actor)
    (call : Call) (claims : List Claim) (reply : Reply) (k : IsKept Is own p) → IsAside actor
    → IsMade p.guest (length p.scripts) (Called actor call claims reply) → is_actor_call call ≡ true
    → StepsTo Is' claims k.now call reply → ((g : Guest) → Is' g → AreBehind own' g) → IsKept Is'
    own' (record p { history = p.history ++ Called actor call claims reply ∷ []; quiet = unknown })
call_aside Is Is' own own' p actor call claims reply k aside mine plain s behind =
    let (step, tended, honest) = plain_entry k.now actor call claims reply s.new k.tended plain s.step in
    kept_aside Is Is' own own' p (Called actor call claims reply) s.new unknown k aside mine
    s.stands (behind s.new s.stands) step tended (λ n c known at. absurd (not_known n known))

pub call_next : (Is Is' : Guest → Type 0) (own own' : List ℕ) (p : Past) (cpu : ℕ) (t : Progress)
    (call : Call) (claims : List Claim) (reply : Reply) (k : IsKept Is own p)
    → slice_get p.scripts cpu ≡ Some t → slice_get t.calls t.place ≡ Some call
    → StepsTo Is' claims k.now call reply → ((g : Guest) → Is' g → AreBehind own' g)
    → IsKept Is' own' (record p {
      history = p.history ++ Called (Processor p.guest cpu) call claims reply ∷ [];
      scripts = slice_set p.scripts cpu (record t { place = t.place + 1 });
      quiet = unknown;
    })
call_next Is Is' own own' p cpu t call claims reply k here next s behind =
    let plain = stands_plain cpu call
    (passes_at (may_stand cpu) t.calls t.place call next (k.scripted cpu t here)) in
    let (step, tended, honest) = plain_entry k.now (Processor p.guest cpu) call claims reply s.new
    k.tended plain s.step in
    kept_next Is Is' own own' p cpu t call claims reply s.new unknown k here next s.stands
    (behind s.new s.stands) step tended (λ n c known at. absurd (not_known n known))

pub look_aside : (Is : Guest → Type 0) (own : List ℕ) (p : Past) (floor seen : ℕ)
    (k : IsKept Is own p) → seen ≡ spare floor k.now
    → IsKept Is own (record p { history = p.history ++ Looked floor seen ∷ [] })
look_aside Is own p floor seen k is = kept_aside Is Is own own p
    (Looked floor seen) k.now p.quiet k tt tt k.stands k.behind (is, refl) k.tended k.hushed

set_at : (xs : List Bool) (i j : ℕ) → slice_index_or (slice_set xs i true) j false ≡ true
    → (j ≡ i) ⊎ (slice_index_or xs j false ≡ true)
set_at [] i j h = inr h
set_at (x ∷ xs) zero zero h = inl refl
set_at (x ∷ xs) zero (suc j) h = inr h
set_at (x ∷ xs) (suc i) zero h = inr h
set_at (x ∷ xs) (suc i) (suc j) h = ⊎_elim (λ e. inl (ap suc e)) (λ e. inr e) (set_at xs i j h)

-- a call of the worker that found nothing to do
pub served_quiet : (Is Is' : Guest → Type 0) (own own' : List ℕ) (p : Past) (n : ℕ)
    (call : Call) (claims : List Claim) (reply : Reply) (k : IsKept Is own p) → slice_get services n
    ≡ Some call → found_nothing reply ≡ true → StepsTo Is' claims k.now call reply → ((g : Guest)
    → Is' g → AreBehind own' g) → IsKept Is' own' (record p { quiet = slice_set p.quiet n true })
served_quiet Is Is' own own' p n call claims reply k at nothing s behind =
    let (step, tended, honest) = plain_entry k.now Balancer call claims reply s.new k.tended
    (service_plain n call at) s.step in
    let (quiet, same) = is_quiet k.now n call claims reply s.new at honest nothing in
    let stands : Is' k.now = subst Is' same s.stands in
    record {
      now = k.now;
      stands = stands;
      run = k.run;
      tended = k.tended;
      behind = behind k.now stands;
      made = k.made;
      follows = k.follows;
      hushed = λ m c known there. ⊎_elim (λ e. subst (IsQuiet k.now)
          (some_same call c (sym at ∙ ap (slice_get services) (sym e) ∙ there)) quiet)
          (λ was. k.hushed m c was there) (set_at p.quiet n m known);
      scripted = k.scripted;
    }

-- what holds of a reply that tells of something done, holds of its copy
pub copied_noted : (copied : Result Reply AllocError) (reply : Reply) (A : Type 0) (P : Reply → Type 0)
    → IfOk copied (λ copy. copy ≡ reply) → found_nothing reply ≡ false → P reply
    → IfOk copied (λ copy. MatchBool (found_nothing copy) A (P copy))
copied_noted (Err fault) reply A P same something holds = tt
copied_noted (Ok copy) reply A P same something holds =
    subst (λ (r : Reply). MatchBool (found_nothing r) A (P r)) (sym same)
    (subst (λ (b : Bool). MatchBool b A (P reply)) (sym something) holds)

-- what holds of a reply holds of its copy, which is the answer
pub copied_next : (copied : Result Reply AllocError) (answer : Result (Option Reply) AllocError)
    (reply : Reply) (A : Type 0) (P : Reply → Type 0) → IfOk copied (λ copy. copy ≡ reply)
    → MatchResult copied (λ copy. IsOkAnd answer (λ next. next ≡ Some copy)) (λ e. answer ≡ Err e)
    → P reply → IfOk answer (λ next. MatchOption next A P)
copied_next copied (Err fault) reply A P same is holds = tt
copied_next (Err fault) (Ok next) reply A P same is holds = cc
copied_next (Ok copy) (Ok next) reply A P same is holds =
    subst (λ (o : Option Reply). MatchOption o A P) (sym is) (subst P (sym same) holds)

-- a worker's call of more that found nothing before
pub served_after : (b : Bool) (number : ℕ) (reply : Reply) (first old new : Past)
    (quiet : List Bool) → old ≡ record first { quiet = old.quiet }
    → MatchBool b (new ≡ record old { quiet = quiet }) (NotesService number reply old new)
    → MatchBool b (new ≡ record first { quiet = new.quiet }) (NotesService number reply first new)
served_after true number reply first old new quiet same is =
    rw is (ap (λ (p : Past). record p { quiet = quiet }) same)
served_after false number reply first old new quiet same (call, claims, at, is) =
    (call, claims, at, is ∙ ap (λ (p : Past). noted (Worker p.guest) call claims reply p) same)

-- a guest that was just started
pub kept_start : (Is' : Guest → Type 0) (own' : List ℕ) (guest : ℕ) (sizes : Sizes)
    (paced : Bool) (scripts : List Progress) (claims : List Claim) (reply : Reply)
    → is_config sizes.pages sizes.queue_size sizes.processors ≡ true → AreBegun scripts
    → StepsTo Is' claims (fresh (config_of sizes paced) 0) (Init OFFERED_FEATURES) reply
    → ((g : Guest) → Is' g → AreBehind own' g)
    → IsKept Is' own' (just_started guest sizes paced scripts claims reply)
kept_start Is' own' guest sizes paced scripts claims reply fits begun s behind =
    let (step, tended) = started (config_of sizes paced) claims reply s.new fits s.step in record {
      now = s.new;
      stands = s.stands;
      run = (s.new ∷ [], (step, tt), refl);
      tended = tended;
      behind = behind s.new s.stands;
      made = (claims, reply, [], refl, All-nil (IsMade guest (length scripts)));
      follows = λ cpu t at. ap (λ n. take n t.calls) (sym (begun cpu t at).0);
      hushed = λ n c known at. absurd (not_known n known);
      scripted = λ cpu t at. (begun cpu t at).1;
    }
