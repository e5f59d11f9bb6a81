-- Calls of processors and workers leave a tended guest tended, and what a worker that finds nothing
-- more to do leaves.
use Rattle.std.proofs.Common.{◌≡◌, ◌≢◌, ℕ, zero, suc, Bool, true, false, cond, List, [], ◌∷◌, refl}
use Rattle.std.{proofs.Common.{sym, ap, subst, ◌∙◌, ◌⊎◌, inl, inr, arith}, specs.List.list_all}
use Rattle.std.specs.Prelude.{◌==◌, ◌<◌, Option, Some, None, MatchOption, length, slice_get}
use Rattle.std.proofs.lemmas.{Bool.{ltb-true, and_parts}, Option.slice_get-get_or}
use Rattle.vb_model.proofs.{AttentiveSteps.honest_attentive, CallSteps.{match_cases, honest_keeps}}
use Rattle.vb_model.proofs.{CallSteps.{Idles, Visits}, LifeSteps.fresh_consistent}
use Rattle.vb_model.proofs.{OrderlySteps.{honest_order, fresh_order}, Performed.Performed}
use Rattle.vb_model.proofs.{Performed.honest_case, Unchanged.{step_keeps, IsScribble}}
use Rattle.vb_model.specs.{Consistent.IsConsistent, Device.{TakesRequest, ReturnsBuffer, next_page}}
use Rattle.vb_virtio.specs.Queues.{is_unvisited, Request, Kind, Inflating, Deflating}
use Rattle.vb_virtio.specs.Queues.{Reporting_free}
use Rattle.vb_virtio.specs.FirstRefusal.{first_refusal}
use Rattle.vb_virtio.specs.Limits.{is_config}
use Rattle.vb_virtio.specs.Status.{work_causes}
use Rattle.vb_virtio.specs.declared.negotiation.TheConstants.{OFFERED_FEATURES}
use Rattle.vb_model.specs.Driver.{Reaps}
use Rattle.vb_model.specs.{Guest.{Guest, Config, fresh}, GuestRun.{Called, EntryStep, is_scribbled}}
use Rattle.vb_model.specs.HonestRuns.{IsAttentive}
use Rattle.vb_model.specs.Orderly.{IsOrderly}
use Rattle.vb_model.specs.Refusals.{refusal_of, taken_of}
use Rattle.vb_model.specs.Requests.{StatisticsBuffer}
use Rattle.vb_model.specs.Rogue.{GuestStep}
use Rattle.vb_model.specs.Step.{HonestStep}
use Rattle.vb_model.specs.Tables.{take_causes, finish_causes}
use Rattle.vb_model.specs.{Tables.Negotiated, declared.replies.Reply.{Reply, TheVariants.Refused}}
use Rattle.vb_model.specs.declared.calls.{Actor.{Actor, TheVariants.Starter}, Call.Call}
use Rattle.vb_model.specs.declared.calls.Call.TheVariants.{Init, Scribble, Take, Work, Finish, Ask}
use Rattle.vb_model.specs.declared.calls.Claim.{Claim}
use Rattle.vb_run.specs.Plans.{may_stand, is_actor_call}
use Rattle.vb_run.specs.Services.{services, found_nothing, IsQuiet, IsTended, IsServed, is_waiting}

-- ---- which calls these are

pub stands_plain : (cpu : ℕ) (call : Call) → may_stand cpu call ≡ true → is_actor_call call ≡ true
stands_plain cpu call h = grind arith

this_call : (a b : Call) → Some a ≡ Some b → a ≡ b
this_call a b e = cc

-- what each of the calls passes
each_passes : (test : Call → Bool) (calls : List Call) → list_all test calls ≡ true → (n : ℕ)
    (call : Call) → slice_get calls n ≡ Some call → test call ≡ true
each_passes test [] all n call e = absurd cc
each_passes test (c ∷ calls) all zero call e =
    ap test (sym (this_call c call e)) ∙ (and_parts (test c) (list_all test calls) all).0
each_passes test (c ∷ calls) all (suc n) call e =
    each_passes test calls (and_parts (test c) (list_all test calls) all).1 n call e

pub service_plain : (n : ℕ) (call : Call) → slice_get services n ≡ Some call
    → is_actor_call call ≡ true
service_plain n call e = each_passes is_actor_call services refl n call e

-- ---- a worker's call that found nothing changed nothing

-- a reply that brought something
found : {A : Type 0} (reply other : Reply) → reply ≡ other → found_nothing other ≡ false
    → found_nothing reply ≡ true → A
found reply other e f t = absurd (let w : true ≡ false = sym t ∙ ap found_nothing e ∙ f in cc)

takes_quiet : (kind : Kind) (posted : List Request) (g : Guest) (reply : Reply) (new : Guest)
    → TakesRequest kind posted g reply new → found_nothing reply ≡ true → new ≡ g
takes_quiet kind [] g reply new s t = s.1
takes_quiet kind (r ∷ rest) g reply new s t = found reply _ s.0 refl t

-- the device's calls, but for a serve and a sweep
abbrev is_service : Call → Bool
is_service (Take q) = true
is_service Work = true
is_service (Finish q i) = true
is_service Ask = true
is_service _ = false

performs_quiet : (call : Call) (g : Guest) (claims : List Claim) (reply : Reply) (new : Guest)
    → is_service call ≡ true → Performed call g claims reply new → found_nothing reply ≡ true
    → new ≡ g
performs_quiet call g claims reply new v s t = grind (arith, match_cases, takes_quiet)

pub quiet_step : (g : Guest) (n : ℕ) (call : Call) (claims : List Claim) (reply : Reply)
    (new : Guest) → slice_get services n ≡ Some call → HonestStep g call claims reply new
    → found_nothing reply ≡ true → new ≡ g
quiet_step g n call claims reply new e s t = elim (match_cases
    (refusal_of g call) (Performed call g claims reply new) (λ refusal. (claims ≡ [])
    × (reply ≡ Refused refusal) × (new ≡ g)) (honest_case g call claims reply new s)) [
      | inl p ↦ performs_quiet call g claims reply new
          (each_passes is_service services refl n call e) p.1 t
      | inr r ↦ r.2.2
    ]

pub is_quiet : (g : Guest) (n : ℕ) (call : Call) (claims : List Claim) (reply : Reply)
    (new : Guest) → slice_get services n ≡ Some call → HonestStep g call claims reply new
    → found_nothing reply ≡ true → IsQuiet g call × (new ≡ g)
is_quiet g n call claims reply new e s t = search (arith, quiet_step)

-- ---- plain calls leave status and features as they are

record Steady (g new : Guest) : Type 0 where
  pub status : new.status ≡ g.status
  pub features : new.features ≡ g.features

-- where these two are those of a guest that is the new one
steady : (g new changed : Guest) → new ≡ changed → changed.status ≡ g.status
    → changed.features ≡ g.features → Steady g new
steady g new changed e s f = grind arith

asks_steady : (buffer : StatisticsBuffer) (g : Guest) (reply : Reply) (new : Guest)
    → ReturnsBuffer buffer g reply new → Steady g new
asks_steady b g reply new s = grind arith

reaps_steady : (kind : Kind) (done : List Request) (g : Guest) (reply : Reply) (new : Guest)
    → Reaps kind done g reply new → Steady g new
reaps_steady kind done g reply new s = grind arith

takes_steady : (kind : Kind) (posted : List Request) (g : Guest) (reply : Reply) (new : Guest)
    → TakesRequest kind posted g reply new → Steady g new
takes_steady kind posted g reply new s = grind arith

performs_steady : (call : Call) (g : Guest) (claims : List Claim) (reply : Reply) (new : Guest)
    → is_actor_call call ≡ true → Performed call g claims reply new → Steady g new
performs_steady call g claims reply new p s =
    grind (arith, steady, asks_steady, match_cases, reaps_steady, takes_steady)

honest_steady : (g : Guest) (call : Call) (claims : List Claim) (reply : Reply) (new : Guest)
    → is_actor_call call ≡ true → HonestStep g call claims reply new → Steady g new
honest_steady g call claims reply new p s =
    grind (arith, match_cases, performs_steady, honest_case g call claims reply new s)

-- ---- a tended guest stays tended

-- no call but a scribble makes a guest rogue
honest_after : (g : Guest) (call : Call) (claims : List Claim) (reply : Reply) (new : Guest)
    → g.rogue ≡ false → (IsScribble call → ⊥) → GuestStep g call claims reply new
    → new.rogue ≡ false
honest_after g call claims reply new h other s = grind (arith, step_keeps)

-- the invariants of an honest guest hold after a call that leaves it honest
tended_after : (g : Guest) (call : Call) (claims : List Claim) (reply : Reply) (new : Guest)
    → IsConsistent g → IsOrderly g → IsAttentive g → HonestStep g call claims reply new
    → new.rogue ≡ false → (new.status ≡ 15 → new.features ≡ OFFERED_FEATURES) → IsTended new
tended_after g call claims reply new c o a s honest f =
    grind (arith, honest_keeps, honest_order, honest_attentive)

not_scribbled : (call : Call) (reply : Reply) → is_actor_call call ≡ true
    → is_scribbled call reply ≡ false
not_scribbled (Scribble page offset bytes) reply p = absurd cc
not_scribbled _ reply p = refl

pub plain_entry : (g : Guest) (actor : Actor) (call : Call) (claims : List Claim) (reply : Reply)
    (new : Guest) → IsTended g → is_actor_call call ≡ true → GuestStep g call claims reply new
    → EntryStep g (Called actor call claims reply) new × IsTended new
    × HonestStep g call claims reply new
plain_entry g actor call claims reply new t p s =
    grind (arith, honest_steady, honest_after, not_scribbled, tended_after)

-- ---- a new guest is tended once its driver was started

starts_wanted : (g : Guest) (wanted : ℕ) (claims : List Claim) (reply : Reply) (new : Guest)
    → g.status ≡ 0 → HonestStep g (Init wanted) claims reply new → new.status ≡ 15
    → new.features ≡ wanted
starts_wanted g wanted claims reply new down s up = grind arith

init_scribble : (wanted : ℕ) → IsScribble (Init wanted) → ⊥
init_scribble wanted (page, offset, bytes, e) = absurd cc

pub started : (config : Config) (claims : List Claim) (reply : Reply) (new : Guest)
    → is_config config.pages config.queue_size config.processors ≡ true
    → GuestStep (fresh config 0) (Init OFFERED_FEATURES) claims reply new
    → EntryStep (fresh config 0) (Called Starter (Init OFFERED_FEATURES) claims reply) new
    × IsTended new
started config claims reply new c s = let first : Guest = fresh config 0 in
    let step : HonestStep first (Init OFFERED_FEATURES) claims reply new = s in
    let honest : new.rogue ≡ false = honest_after first
    (Init OFFERED_FEATURES) claims reply new refl (init_scribble OFFERED_FEATURES) s in (
      (refl, step),
      tended_after first (Init OFFERED_FEATURES) claims reply new (fresh_consistent config 0)
          (fresh_order config 0) idle step honest
          (starts_wanted first OFFERED_FEATURES claims reply new refl step),
    )
  where
    idle : IsAttentive (fresh config 0)
    idle = record {
      inflating = λ other. refl;
      deflating = λ other. refl;
      reporting = λ other. refl;
      buffered = refl;
    }

-- ---- where a worker finds nothing to do, nothing waits for the device

-- a call that finds nothing and isn't refused was performed
performed : (g : Guest) (call : Call) (q : IsQuiet g call) → refusal_of g call ≡ None
    → Performed call g q.claims q.reply g
performed g call q e = grind (arith, honest_case g call q.claims q.reply g q.step)

-- no page of these waits to be visited, where the device is paced
abbrev NoWork : Bool → List Request → Type 0
NoWork paced taken = cond paced (next_page taken) None ≡ None

works_none : (a b : Option ℕ) (g : Guest) (reply : Reply) (new : Guest)
    → MatchOption a (MatchOption b (Idles g reply new) (Visits Reporting_free g reply new))
    (Visits Inflating g reply new) → found_nothing reply ≡ true → (a ≡ None) × (b ≡ None)
works_none a b g reply new s t = grind arith

-- ---- calls on a ready guest that aren't refused

-- what a driver and its device have come to
abbrev come_to : ℕ → ℕ → Negotiated
come_to status features = record { status = status; features = features }

open_take : (q status features taken : ℕ) → status ≡ 15 → features ≡ OFFERED_FEATURES → taken ≡ 0
    → first_refusal (take_causes q (come_to 15 OFFERED_FEATURES) 0) ≡ None
    → first_refusal (take_causes q (come_to status features) taken) ≡ None
open_take q status features taken up f none h = grind arith

open_finish : (q status : ℕ) (paced : Bool) (taken : Option Request) (r : Request) → status ≡ 15
    → taken ≡ Some r → first_refusal (finish_causes q (come_to 15 0) paced (Some r)) ≡ None
    → first_refusal (finish_causes q (come_to status 0) paced taken) ≡ None
open_finish q status paced taken r up e h = grind arith

open_work : (status : ℕ) → status ≡ 15 → first_refusal (work_causes status) ≡ None
open_work status up = subst (λ (s : ℕ). first_refusal (work_causes s) ≡ None) (sym up) refl

-- ---- taken requests

-- the first request has no unvisited page where no page waits
all_visited : (r : Request) (rest : List Request) → NoWork true (r ∷ rest) → is_unvisited r ≡ false
all_visited r rest w = step (is_unvisited r) refl w where
  step : (v : Bool) → is_unvisited r ≡ v
      → cond v (slice_get r.pages r.visited) (next_page rest) ≡ None → is_unvisited r ≡ false
  step false e k = e
  step true e k = let lt : r.visited < length r.pages = ltb-true r.visited (length r.pages) e in
      let at = slice_get-get_or r.pages r.visited 0 lt in absurd cc

-- so a finish of it isn't refused
inflate_open : (paced : Bool) (r : Request) (rest : List Request) → NoWork paced (r ∷ rest)
    → first_refusal (finish_causes 0 (come_to 15 0) paced (Some r)) ≡ None
inflate_open paced r rest w = grind (arith, all_visited)

report_open : (paced : Bool) (r : Request) (rest : List Request) → NoWork paced (r ∷ rest)
    → first_refusal (finish_causes 4 (come_to 15 0) paced (Some r)) ≡ None
report_open paced r rest w = grind (arith, all_visited)

deflate_open : (paced : Bool) (r : Request)
    → first_refusal (finish_causes 1 (come_to 15 0) paced (Some r)) ≡ None
deflate_open true r = refl
deflate_open false r = refl

-- a finish that finds nothing was refused
unfinished : {A : Type 0} (g : Guest) (q : ℕ) (quiet : IsQuiet g (Finish q 0))
    → refusal_of g (Finish q 0) ≡ None → A
unfinished g q quiet e = grind arith

-- so no request is taken whose finish wouldn't be refused
none_taken : (q : ℕ) (g : Guest) (rs : List Request) → g.status ≡ 15 → IsQuiet g (Finish q 0)
    → slice_get (taken_of g q) 0 ≡ slice_get rs 0
    → ((r : Request) (rest : List Request) → rs ≡ r ∷ rest
    → first_refusal (finish_causes q (come_to 15 0) g.config.paced (Some r)) ≡ None) → rs ≡ []
none_taken q g [] up quiet e free = refl
none_taken q g (r ∷ rest) up quiet e free = unfinished g q quiet
    (open_finish q g.status g.config.paced (slice_get (taken_of g q) 0) r up e (free r rest refl))

-- ---- posted requests

takes_none : (kind : Kind) (posted : List Request) (g : Guest) (reply : Reply) (new : Guest)
    → TakesRequest kind posted g reply new → found_nothing reply ≡ true → posted ≡ []
takes_none kind [] g reply new s t = refl
takes_none kind (r ∷ rest) g reply new s t = found reply _ s.0 refl t

-- ---- the statistics buffer

buffer_served : (g : Guest) (buffer : StatisticsBuffer) → g.buffer ≡ buffer → g.status ≡ 15
    → g.features ≡ OFFERED_FEATURES → IsQuiet g Ask → IsQuiet g (Take 2) → is_waiting buffer ≡ false
buffer_served g b e up f ask take = grind arith

-- ---- all of it

-- all of a worker's calls find nothing
abbrev AllQuiet : Guest → Type 0
AllQuiet g = (n : ℕ) (call : Call) → slice_get services n ≡ Some call → IsQuiet g call

served_ready : (g : Guest) → g.status ≡ 15 → g.features ≡ OFFERED_FEATURES → AllQuiet g → IsServed g
served_ready g up f quiet = let work : IsQuiet g Work = quiet 4 Work refl in
    let idle : NoWork g.config.paced g.inflate.taken × NoWork g.config.paced g.report.taken =
    works_none (cond g.config.paced (next_page g.inflate.taken) None)
    (cond g.config.paced (next_page g.report.taken) None) g work.reply g
    (performed g Work work (open_work g.status up)).1 work.nothing in
    let inflates : g.inflate.taken ≡ [] =
    none_taken 0 g g.inflate.taken up (quiet 5 (Finish 0 0) refl) refl
    (λ r rest e. inflate_open g.config.paced r rest (subst (NoWork g.config.paced) e idle.0)) in
    let deflates : g.deflate.taken ≡ [] = none_taken 1 g g.deflate.taken up
    (quiet 6 (Finish 1 0) refl) refl (λ r rest e. deflate_open g.config.paced r) in
    let reports : g.report.taken ≡ [] = none_taken 4 g g.report.taken up (quiet 7 (Finish 4 0) refl)
    refl (λ r rest e. report_open g.config.paced r rest (subst (NoWork g.config.paced) e idle.1)) in
    let take_0 : IsQuiet g (Take 0) = quiet 0 (Take 0) refl in
    let take_1 : IsQuiet g (Take 1) = quiet 1 (Take 1) refl in
    let take_4 : IsQuiet g (Take 4) = quiet 3 (Take 4) refl in
    record {
      inflate = (
        takes_none Inflating g.inflate.posted g take_0.reply g (performed g (Take 0) take_0
            (open_take 0 g.status g.features (length g.inflate.taken) up f (ap length inflates)
            refl)).1 take_0.nothing,
        inflates,
      );
      deflate = (
        takes_none Deflating g.deflate.posted g take_1.reply g (performed g (Take 1) take_1
            (open_take 1 g.status g.features (length g.deflate.taken) up f (ap length deflates)
            refl)).1 take_1.nothing,
        deflates,
      );
      report = (
        takes_none Reporting_free g.report.posted g take_4.reply g (performed g (Take 4) take_4
            (open_take 4 g.status g.features (length g.report.taken) up f (ap length reports)
            refl)).1 take_4.nothing,
        reports,
      );
      buffer = buffer_served g g.buffer refl up f (quiet 8 Ask refl) (quiet 2 (Take 2) refl);
    }

served_idle : (g : Guest) → IsAttentive g → g.status ≢ 15 → (g.status == 15) ≡ false → IsServed g
served_idle g a other test = grind arith

pub served : (g : Guest) → IsTended g
    → ((n : ℕ) (call : Call) → slice_get services n ≡ Some call → IsQuiet g call) → IsServed g
served g t quiet = step t.orderly.state where
  at : (n : ℕ) → g.status ≡ n → n ≢ 15 → (n == 15) ≡ false → IsServed g
  at n e other test =
      served_idle g t.attentive (λ up. other (sym e ∙ up)) (ap (λ (m : ℕ). m == 15) e ∙ test)

  step : (g.status ≡ 0) ⊎ (g.status ≡ 15) ⊎ (g.status ≡ 131) → IsServed g
  step (inl e) = at 0 e (λ w. absurd (omega (arith, w))) refl
  step (inr (inl up)) = served_ready g up (t.features up) quiet
  step (inr (inr e)) = at 131 e (λ w. absurd (omega (arith, w))) refl
