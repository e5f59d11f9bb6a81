-- The host's events are determined, but for the number of a new guest and an allocation failure.
use Rattle.std.proofs.Common.{Bool, List, [], ap, false, inl, inr, sym, true, ℕ, ◌∙◌, ◌∷◌, ◌≡◌, ◌≢◌}
use Rattle.std.specs.Prelude.{MatchBool, MatchOption, None, Option, Some, ⊤, ◌==◌}
use Rattle.vb_virtio.proofs.Unique.{unique}
use Rattle.vb_virtio.specs.Targets.{AreTargets, shortage}
use Rattle.vb_virtio.specs.FirstRefusal.{first_refusal}
use Rattle.vb_virtio.specs.declared.refusals.Refusal.{Refusal}
use Rattle.vb_virtio.specs.declared.refusals.Refusal.TheVariants.{NoMemory, Short}
use Rattle.vb_model.specs.Guest.{Config, Guest, fresh}
use Rattle.vb_model.specs.HostEvents.{Calls, Happens, Plugs, PlugsIn, after_balance, needs}
use Rattle.vb_model.specs.{HostLaws.{CallsLeaveTheHost, HostStepsAgree}, HostRefusals.world_causes}
use Rattle.vb_model.specs.{Life.after_restart, Queries.Answers, World.{World, guest_at, put_guest}}
use Rattle.vb_model.specs.{World.with_guest, declared.calls.Event.TheVariants.Balance}
use Rattle.vb_model.specs.declared.calls.Event.TheVariants.{Frames as CountFrames, Guest as OnGuest}
use Rattle.vb_model.specs.declared.calls.Event.TheVariants.{Plug, Query as OnQuery, Restart, Unplug}
use Rattle.vb_model.specs.declared.calls.{GuestSize.GuestSize, Query.{Query, TheVariants.PagesAt}}
use Rattle.vb_model.specs.declared.calls.Query.TheVariants.{PagesBallooned}
use Rattle.vb_model.specs.declared.replies.Reply.{Reply}
use Rattle.vb_model.specs.declared.replies.Reply.TheVariants.{Done, Plugged, Refused, Targets}

-- either the event is refused for this, and nothing is changed, or this happens
abbrev Either : Option Refusal → World → Reply → World → Type 0 → Type 0
Either r w reply new Else = MatchOption r Else (λ refusal. (reply ≡ Refused refusal) × (new ≡ w))

-- ---- what one call leaves

abbrev SameHost : World → World → Type 0
SameHost w new = (new.frames ≡ w.frames) × (new.spares ≡ w.spares) × (new.vacated ≡ w.vacated)

pub call_leaves_host : CallsLeaveTheHost
call_leaves_host w n call reply new s = by (first_refusal (world_causes w (OnGuest n call))) s where
  performed : (g : Option Guest)
      → MatchOption g ⊥ (λ h. Calls n h w call reply new) → SameHost w new
  performed None c = absurd c
  performed (Some g) c = (
    ap (λ (v : World). v.frames) c.4,
    ap (λ (v : World). v.spares) c.4,
    ap (λ (v : World). v.vacated) c.4,
  )

  by : (r : Option Refusal) → Either r w reply new (Happens (OnGuest n call) w reply new)
      → SameHost w new
  by None c = performed (guest_at w.guests n) c
  by (Some refusal) c = (
    ap (λ (v : World). v.frames) c.1,
    ap (λ (v : World). v.spares) c.1,
    ap (λ (v : World). v.vacated) c.1,
  )

-- ---- two answers to one event

abbrev Same : Reply → World → Reply → World → Type 0
Same reply new reply' new' = (reply ≡ reply') × (new ≡ new')

by_refusal : (r : Option Refusal) (w : World) (reply : Reply) (new : World) (reply' : Reply)
    (new' : World) (Else Else' : Type 0) → Either r w reply new Else → Either r w reply' new' Else'
    → (Else → Else' → Same reply new reply' new') → Same reply new reply' new'
by_refusal None w reply new reply' new' Else Else' a b same = same a b
by_refusal (Some refusal) w reply new reply' new' Else Else' a b same =
    (a.0 ∙ sym b.0, a.1 ∙ sym b.1)

restarts_agree : (w : World) (n : ℕ) (g : Option Guest) (reply : Reply) (new : World)
    (reply' : Reply) (new' : World) → MatchOption g ⊥ (λ h. (reply ≡ Done)
    × (new ≡ put_guest n (Some (after_restart h)) w)) → MatchOption g ⊥ (λ h. (reply' ≡ Done)
    × (new' ≡ put_guest n (Some (after_restart h)) w)) → Same reply new reply' new'
restarts_agree w n None reply new reply' new' a b = absurd a
restarts_agree w n (Some g) reply new reply' new' a b = (a.0 ∙ sym b.0, a.1 ∙ sym b.1)

answers_agree : (query : Query) (g : Guest) (reply reply' : Reply) → Answers query g reply
    → Answers query g reply' → reply ≢ Refused NoMemory → reply' ≢ Refused NoMemory → reply ≡ reply'
answers_agree (PagesAt place) g reply reply' (inl a) (inl b) x y = a ∙ sym b
answers_agree (PagesAt place) g reply reply' (inr a) b x y = absurd (x a)
answers_agree (PagesAt place) g reply reply' (inl a) (inr b) x y = absurd (y b)
answers_agree PagesBallooned g reply reply' (inl a) (inl b) x y = a ∙ sym b
answers_agree PagesBallooned g reply reply' (inr a) b x y = absurd (x a)
answers_agree PagesBallooned g reply reply' (inl a) (inr b) x y = absurd (y b)
answers_agree query g reply reply' a b x y = a ∙ sym b

queries_agree : (query : Query) (w : World) (g : Option Guest) (reply : Reply) (new : World)
    (reply' : Reply) (new' : World) → MatchOption g ⊥ (λ h. Answers query h reply) × (new ≡ w)
    → MatchOption g ⊥ (λ h. Answers query h reply') × (new' ≡ w)
    → reply ≢ Refused NoMemory → reply' ≢ Refused NoMemory → Same reply new reply' new'
queries_agree query w None reply new reply' new' a b x y = absurd a.0
queries_agree query w (Some g) reply new reply' new' a b x y =
    (answers_agree query g reply reply' a.0 b.0 x y, a.1 ∙ sym b.1)

balances_agree : (floor : ℕ) (w : World) (reply : Reply) (new : World) (reply' : Reply)
    (new' : World) → Happens (Balance floor) w reply new → Happens (Balance floor) w reply' new'
    → Same reply new reply' new'
balances_agree floor w reply new reply' new' a b =
    let same = by (shortage (needs floor w) w.frames == 0) a.0 b.0 in
    (same, a.1 ∙ (ap (λ (r : Reply). after_balance r w) same ∙ sym b.1))
  where
    by : (enough : Bool)
        → MatchBool enough ((targets : List ℕ) × AreTargets (needs floor w) w.frames targets
        × (reply ≡ Targets targets)) (reply ≡ Refused (Short (shortage (needs floor w) w.frames)))
        → MatchBool enough ((targets : List ℕ) × AreTargets (needs floor w) w.frames targets
        × (reply' ≡ Targets targets)) (reply' ≡ Refused (Short (shortage (needs floor w) w.frames)))
        → reply ≡ reply'
    by true a b = let one : a.0 ≡ b.0 = unique (needs floor w) w.frames a.0 b.0 a.1 b.1 in
        a.2 ∙ (ap Targets one ∙ sym b.2)
    by false a b = a ∙ sym b

-- ---- the plug: of two answers with one number, or with the number given up

abbrev plugged_in : Config → List Bool → World → ℕ → World
plugged_in config rest w n = record {
  frames = w.frames;
  guests = with_guest n (Some (fresh config 0)) w.guests;
  spares = rest;
  vacated = None;
}

one_number : (config : Config) (rest : List Bool) (w : World) (reply : Reply) (new : World)
    (reply' : Reply) (new' : World) (p : Plugs config rest w reply new)
    (q : Plugs config rest w reply' new') → p.0 ≡ q.0 → Same reply new reply' new'
one_number config rest w reply new reply' new' p q e =
    (p.3 ∙ (ap Plugged e ∙ sym q.3), p.4 ∙ (ap (plugged_in config rest w) e ∙ sym q.4))

last_number : (vacated : Option ℕ) (last n : ℕ) → vacated ≡ Some last
    → MatchOption vacated ⊤ (λ number. n ≡ number) → n ≡ last
last_number None last n e m = absurd cc
last_number (Some number) last n e m = let same : number ≡ last = cc in m ∙ same

abbrev AgreeOnPlug : World → Reply → World → Reply → World → Type 0
AgreeOnPlug w reply new reply' new' = (reply ≡ reply' → new ≡ new')
    × ((last : ℕ) → w.vacated ≡ Some last → reply ≡ reply')
    × ((refusal : Refusal) → reply ≡ Refused refusal → reply ≡ reply')

plugs_agree : (config : Config) (rest : List Bool) (w : World) (reply : Reply) (new : World)
    (reply' : Reply) (new' : World) → Plugs config rest w reply new
    → Plugs config rest w reply' new' → AgreeOnPlug w reply new reply' new'
plugs_agree config rest w reply new reply' new' p q = (
  (λ e. (one_number config rest w reply new reply' new' p q
      (number_of p.0 q.0 (sym p.3 ∙ (e ∙ q.3)))).1),
  (λ last e. (one_number config rest w reply new reply' new' p q
      (last_number w.vacated last p.0 e p.2 ∙ sym (last_number w.vacated last q.0 e q.2))).0),
  (λ refusal e. absurd (none refusal (sym p.3 ∙ e))),
) where
  number_of : (n m : ℕ) → Plugged n ≡ Plugged m → n ≡ m
  number_of n m e = cc

  none : (refusal : Refusal) → Plugged p.0 ≡ Refused refusal → ⊥
  none refusal e = cc

plugs_in_agree : (size : GuestSize) (spares : List Bool) (w : World) (reply : Reply)
    (new : World) (reply' : Reply) (new' : World)
    → PlugsIn size spares w reply new → PlugsIn size spares w reply' new' → reply ≢ Refused NoMemory
    → reply' ≢ Refused NoMemory → AgreeOnPlug w reply new reply' new'
plugs_in_agree size [] w reply new reply' new' a b x y = absurd a
plugs_in_agree size (paced ∷ rest) w reply new reply' new' (inl a) b x y = absurd (x a.0)
plugs_in_agree size (paced ∷ rest) w reply new reply' new' (inr p) (inl b) x y = absurd (y b.0)
plugs_in_agree size (paced ∷ rest) w reply new reply' new' (inr p) (inr q) x y =
    plugs_agree _ rest w reply new reply' new' p q

-- ---- all events

pub hosts_agree : HostStepsAgree
hosts_agree w (Plug size) reply new reply' new' s t x y =
    by (first_refusal (world_causes w (Plug size))) s t
  where
    by : (r : Option Refusal) → Either r w reply new (PlugsIn size w.spares w reply new)
        → Either r w reply' new' (PlugsIn size w.spares w reply' new')
        → AgreeOnPlug w reply new reply' new'
    by None a b = plugs_in_agree size w.spares w reply new reply' new' a b x y
    by (Some refusal) a b =
        ((λ e. a.1 ∙ sym b.1), (λ last e. a.0 ∙ sym b.0), (λ other e. a.0 ∙ sym b.0))
hosts_agree w (Unplug n) reply new reply' new' s t x y =
    by_refusal (first_refusal (world_causes w (Unplug n))) w reply new reply' new' _ _ s t
    (λ a b. (a.0 ∙ sym b.0, a.1 ∙ sym b.1))
hosts_agree w (Restart n) reply new reply' new' s t x y =
    by_refusal (first_refusal (world_causes w (Restart n))) w reply new reply' new' _ _ s t
    (λ a b. restarts_agree w n (guest_at w.guests n) reply new reply' new' a b)
hosts_agree w (OnGuest n call) reply new reply' new' s t x y =
    let a = call_leaves_host w n call reply new s in
    let b = call_leaves_host w n call reply' new' t in (a.0 ∙ sym b.0, a.1 ∙ sym b.1, a.2 ∙ sym b.2)
hosts_agree w (OnQuery n query) reply new reply' new' s t x y =
    by_refusal (first_refusal (world_causes w (OnQuery n query))) w reply new reply' new' _ _ s t
    (λ a b. queries_agree query w (guest_at w.guests n) reply new reply' new' a b x y)
hosts_agree w (Balance floor) reply new reply' new' s t x y =
    balances_agree floor w reply new reply' new' s t
hosts_agree w CountFrames reply new reply' new' s t x y = (s.0 ∙ sym t.0, s.1 ∙ sym t.1)
