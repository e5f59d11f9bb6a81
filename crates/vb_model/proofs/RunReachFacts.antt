-- What is said of runs reaches all guests, worlds, events and calls: refusals, claims, a guest's own
-- entries, and each step of a run.
use Rattle.std.proofs.Common.{List, [], subst, false, ℕ, ◌∷◌, ◌≡◌, ◌≢◌}
use Rattle.std.specs.Prelude.{MatchOption, None, Option, Some}
use Rattle.vb_virtio.specs.FirstRefusal.{first_refusal}
use Rattle.vb_virtio.specs.declared.refusals.Refusal.{Refusal}
use Rattle.vb_model.specs.Driver.{AreClaimsFor}
use Rattle.vb_model.specs.Guest.{Guest}
use Rattle.vb_model.specs.GuestRun.{AreOwn, Called, Entry, EntryStep, InOneLife, IsOwnEntry, Leads}
use Rattle.vb_model.specs.GuestRun.{OwnStep, is_scribbled}
use Rattle.vb_model.specs.{HostEvents.{Calls, Happens, WorldStep}, HostFrames.{Gives, IsOut}}
use Rattle.vb_model.specs.{HostRefusals.{world_causes}, Refusals.{refusal_of}, Rogue.{GuestStep}}
use Rattle.vb_model.specs.{Run.{Steps}, Step.{HonestStep, Performs, bare_pages}}
use Rattle.vb_model.specs.World.{World, guest_at, put_guest}
use Rattle.vb_model.specs.declared.calls.{Actor.{Actor, TheVariants.{Balancer}}, Claim.{Claim}}
use Rattle.vb_model.specs.declared.calls.Call.{Call, TheVariants.{SetTarget}}
use Rattle.vb_model.specs.declared.calls.Event.{Event, TheVariants.{Balance, Plug, Restart, Unplug}}
use Rattle.vb_model.specs.declared.calls.Event.TheVariants.{Frames as CountFrames, Guest as OnGuest}
use Rattle.vb_model.specs.declared.calls.Event.TheVariants.{Query as OnQuery}
use Rattle.vb_model.specs.declared.calls.{GuestSize.{GuestSize}, Query.{Query}}
use Rattle.vb_model.specs.declared.replies.Reply.{Reply, TheVariants.{Done, Refused, Targets}}

-- ---- a call of an honest guest, and an event of the host, that have a cause to be refused

refused_call : (g : Guest) (call : Call) (claims : List Claim) (reply : Reply) (new : Guest)
    (refusal : Refusal) → refusal_of g call ≡ Some refusal → HonestStep g call claims reply new
    → (claims ≡ []) × (reply ≡ Refused refusal) × (new ≡ g)
refused_call g call claims reply new refusal e s =
    subst (λ (o : Option Refusal). MatchOption o (Performs call g claims reply new)
    (λ r. (claims ≡ []) × (reply ≡ Refused r) × (new ≡ g))) e s

refused_event : (w : World) (event : Event) (reply : Reply) (v : World) (refusal : Refusal)
    → first_refusal (world_causes w event) ≡ Some refusal → WorldStep w event reply v
    → (reply ≡ Refused refusal) × (v ≡ w)
refused_event w event reply v refusal e s =
    subst (λ (o : Option Refusal). MatchOption o (Happens event w reply v)
    (λ r. (reply ≡ Refused r) × (v ≡ w))) e s

-- ---- those that have none

performed_call : (g : Guest) (call : Call) (claims : List Claim) (reply : Reply) (new : Guest)
    → refusal_of g call ≡ None → HonestStep g call claims reply new
    → AreClaimsFor (bare_pages call g) claims
performed_call g call claims reply new e s =
    (subst (λ (o : Option Refusal). MatchOption o (Performs call g claims reply new)
    (λ r. (claims ≡ []) × (reply ≡ Refused r) × (new ≡ g))) e s).0

-- a guest's call is its own step, with what the host gives, and changes no other guest
a_call : (n : ℕ) (g : Guest) (w : World) (call : Call) (reply : Reply) (v : World)
    → Calls n g w call reply v → (claims : List Claim) × (after : Guest)
    × Gives w.frames (IsOut w) claims × GuestStep g call claims reply after
    × (v ≡ put_guest n (Some after) w)
a_call n g w call reply v c = (c.0, c.1, c.2, c.3, c.4)

-- ---- what an event is to guest 1, in any world

own_call : (w v : World) (call : Call) (reply : Reply) (own : Option Entry)
    → IsOwnEntry 1 w (OnGuest 1 call) reply v own → (actor : Actor) × (claims : List Claim)
    × Gives w.frames (IsOut w) claims × (own ≡ Some (Called actor call claims reply))
own_call w v call reply own is = (is.0, is.1, is.2, is.3)

own_target : (w v : World) (floor : ℕ) (targets : List ℕ) (own : Option Entry) (g : Guest)
    → guest_at v.guests 1 ≡ Some g → IsOwnEntry 1 w (Balance floor) (Targets targets) v own
    → own ≡ Some (Called Balancer (SetTarget g.target) [] Done)
own_target w v floor targets own g there is =
    subst (λ (o : Option Guest). MatchOption o ⊥
    (λ x. own ≡ Some (Called Balancer (SetTarget x.target) [] Done))) there is

no_own : (w v : World) (call : Call) (query : Query) (size : GuestSize) (reply : Reply)
    (floor : ℕ) (refusal : Refusal) (own : Option Entry)
    → (IsOwnEntry 1 w (OnGuest 0 call) reply v own → own ≡ None)
    × (IsOwnEntry 1 w (OnGuest 2 call) reply v own → own ≡ None)
    × (IsOwnEntry 1 w (OnQuery 1 query) reply v own → own ≡ None)
    × (IsOwnEntry 1 w (Plug size) reply v own → own ≡ None)
    × (IsOwnEntry 1 w (Unplug 0) reply v own → own ≡ None)
    × (IsOwnEntry 1 w (Restart 2) reply v own → own ≡ None)
    × (IsOwnEntry 1 w (Balance floor) (Refused refusal) v own → own ≡ None)
    × (IsOwnEntry 1 w CountFrames reply v own → own ≡ None)
no_own w v call query size reply floor refusal own =
    (λ is. is, λ is. is, λ is. is, λ is. is, λ is. is, λ is. is, λ is. is, λ is. is)

-- ---- each step of two

two_entries : (n : ℕ) (w v x : World) (first second : Event) (answer reply : Reply)
    (a b : Option Entry) (g new : Guest)
    → AreOwn n w (first ∷ second ∷ []) (answer ∷ reply ∷ []) (v ∷ x ∷ []) (a ∷ b ∷ []) (g ∷ new ∷ [])
    → IsOwnEntry n w first answer v a × (guest_at v.guests n ≡ Some g)
    × IsOwnEntry n v second reply x b × (guest_at x.guests n ≡ Some new)
two_entries n w v x first second answer reply a b g new are = (are.0, are.1, are.2.0, are.2.1)

two_steps : (w v x : World) (first second : Event) (answer reply : Reply)
    → Steps w (first ∷ second ∷ []) (answer ∷ reply ∷ []) (v ∷ x ∷ [])
    → WorldStep w first answer v × WorldStep v second reply x
two_steps w v x first second answer reply s = (s.0, s.1.0)

led_by_two : (g a b : Guest) (x y : Option Entry) → Leads g (x ∷ y ∷ []) (a ∷ b ∷ [])
    → OwnStep g x a × OwnStep a y b
led_by_two g a b x y l = (l.0, l.1.0)

led_by_a_call : (g new : Guest) (actor : Actor) (call : Call) (claims : List Claim) (reply : Reply)
    → EntryStep g (Called actor call claims reply) new
    → (is_scribbled call reply ≡ false) × HonestStep g call claims reply new
led_by_a_call g new actor call claims reply s = (s.0, s.1)

-- a life that both events are in, which is all that is asked of them
both_in_one_life : (n : ℕ) (first second : Event) → first ≢ Restart n → first ≢ Unplug n
    → second ≢ Restart n → second ≢ Unplug n → InOneLife n (first ∷ second ∷ [])
both_in_one_life n first second a b c d = (a, b, (c, d, tt))
