-- What holds in each state of a guest's course, and between two of them.
use Rattle.std.proofs.Common.{◌≡◌, ℕ, zero, suc, ◌+◌, false, List, [], ◌∷◌, sym, subst, arith}
use Rattle.std.specs.Prelude.{Option, Some, None, slice_get}
use Rattle.vb_model.proofs.Unchanged.{serve_stays_honest}
use Rattle.vb_model.proofs.{AttentiveSteps.honest_attentive, BlankSteps.{honest_blank, fresh_blank}}
use Rattle.vb_model.proofs.{CallSteps.honest_keeps, Changes.same_some, LifeSteps.fresh_consistent}
use Rattle.vb_model.{proofs.OrderlySteps.{honest_order, fresh_order}, specs.Blank.IsBlank}
use Rattle.vb_model.specs.{Consistent.IsConsistent, Courses.{Course, guest_after}, Guest.Guest}
use Rattle.vb_model.specs.{Guest.{Config, fresh}, GuestRun.{Entry, Called, Looked, EntryStep}}
use Rattle.vb_model.specs.{GuestRun.{OwnStep, Leads, is_scribbled}, HonestRuns.IsAttentive}
use Rattle.vb_model.specs.{Orderly.IsOrderly, Rogue.GuestStep, Step.HonestStep}
use Rattle.vb_model.specs.declared.{calls.Call.Call, calls.Claim.Claim, replies.Reply.Reply}

-- ---- a step of an honest guest that isn't a scribble

pub as_guest : (g : Guest) (call : Call) (claims : List Claim) (reply : Reply) (new : Guest)
    → g.rogue ≡ false → HonestStep g call claims reply new → GuestStep g call claims reply new
as_guest g call claims reply new honest s = grind arith

still_honest : (g : Guest) (call : Call) (claims : List Claim) (reply : Reply) (new : Guest)
    → g.rogue ≡ false → is_scribbled call reply ≡ false → HonestStep g call claims reply new
    → new.rogue ≡ false
still_honest g call claims reply new honest none s = search (arith, serve_stays_honest)

-- what holds of each state
pub record IsFit (g : Guest) : Type 0 where
  pub honest : g.rogue ≡ false
  pub consistent : IsConsistent g
  pub orderly : IsOrderly g
  pub blank : IsBlank g
  pub attentive : IsAttentive g

pub fresh_fit : (config : Config) (target : ℕ) → IsFit (fresh config target)
fresh_fit config target = grind (
  arith,
  fresh_consistent config target,
  fresh_order config target,
  fresh_blank config target,
)

pub call_fit : (g : Guest) (call : Call) (claims : List Claim) (reply : Reply) (new : Guest)
    → IsFit g → HonestStep g call claims reply new → new.rogue ≡ false → IsFit new
call_fit g call claims reply new f s honest =
    grind (arith, honest_keeps, honest_order, honest_blank, honest_attentive)

entry_fit : (g : Guest) (entry : Entry) (new : Guest) → IsFit g → EntryStep g entry new → IsFit new
entry_fit g (Looked floor answer) new f s = subst IsFit (sym s.1) f
entry_fit g (Called actor call claims reply) new f s =
    call_fit g call claims reply new f s.1 (still_honest g call claims reply new f.honest s.0 s.1)

own_fit : (g : Guest) (own : Option Entry) (new : Guest) → IsFit g → OwnStep g own new → IsFit new
own_fit g None new f s = subst IsFit (sym s) f
own_fit g (Some entry) new f s = entry_fit g entry new f s

-- ---- states and entries of a course

every_fit : (g : Guest) (entries : List (Option Entry)) (after : List Guest) → IsFit g
    → Leads g entries after → (i : ℕ) (x : Guest) → slice_get (g ∷ after) i ≡ Some x → IsFit x
every_fit g entries after f s zero x at = subst IsFit (same_some g x at) f
every_fit g [] [] f s (suc i) x at = absurd cc
every_fit g (own ∷ entries) (new ∷ after) f s (suc i) x at =
    every_fit new entries after (own_fit g own new f s.0) s.1 i x at
every_fit g [] (new ∷ after) f s (suc i) x at = absurd s
every_fit g (own ∷ entries) [] f s (suc i) x at = absurd s

-- entry i leads from state i to the next
pub record EntryAt (entries : List (Option Entry)) (i : ℕ) (before after : Guest) : Type 0 where
  pub own : Option Entry
  pub own_is : slice_get entries i ≡ Some own
  pub step : OwnStep before own after

every_step : (g : Guest) (entries : List (Option Entry)) (after : List Guest)
    → Leads g entries after → (i : ℕ) (a b : Guest) → slice_get (g ∷ after) i ≡ Some a
    → slice_get after i ≡ Some b → EntryAt entries i a b
every_step g [] [] s i a b ha hb = absurd cc
every_step g (own ∷ entries) (new ∷ after) s zero a b ha hb = grind (arith)
every_step g (own ∷ entries) (new ∷ after) s (suc i) a b ha hb =
    grind (arith, every_step new entries after s.1 i a b ha hb)
every_step g [] (new ∷ after) s i a b ha hb = absurd s
every_step g (own ∷ entries) [] s i a b ha hb = absurd s

-- an entry is made in a state, and leads on
pub record MadeIn (g : Guest) (after : List Guest) (i : ℕ) (entry : Entry) : Type 0 where
  pub before : Guest
  pub next : Guest
  pub is_there : slice_get (g ∷ after) i ≡ Some before
  pub step : EntryStep before entry next

every_entry : (g : Guest) (entries : List (Option Entry)) (after : List Guest)
    → Leads g entries after → (i : ℕ) (entry : Entry) → slice_get entries i ≡ Some (Some entry)
    → MadeIn g after i entry
every_entry g [] [] s i entry at = absurd cc
every_entry g (own ∷ entries) (new ∷ after) s zero entry at = grind arith
every_entry g (own ∷ entries) (new ∷ after) s (suc i) entry at =
    grind (arith, every_entry new entries after s.1 i entry)
every_entry g [] (new ∷ after) s i entry at = absurd s
every_entry g (own ∷ entries) [] s i entry at = absurd s

-- what a course gives at each position
pub record Positions (c : Course) : Type 0 where
  pub fit : (i : ℕ) (g : Guest) → guest_after c i ≡ Some g → IsFit g
  pub step : (i : ℕ) (a b : Guest) → guest_after c i ≡ Some a → guest_after c (i + 1) ≡ Some b
      → EntryAt c.entries i a b
  pub made : (i : ℕ) (entry : Entry) → slice_get c.entries i ≡ Some (Some entry)
      → MadeIn c.first c.after i entry

pub positions : (c : Course) → IsFit c.first → Leads c.first c.entries c.after → Positions c
positions c f s = record {
  fit = λ i g at. every_fit c.first c.entries c.after f s i g at;
  step = λ i a b ha hb.
      let e : i + 1 ≡ suc i = omega arith in
      every_step c.first c.entries c.after s i a b ha
      (subst (λ (k : ℕ). guest_after c k ≡ Some b) e hb);
  made = λ i entry at. every_entry c.first c.entries c.after s i entry at;
}

abbrev pub some_own : Option Entry → Option (Option Entry)
some_own x = Some x
