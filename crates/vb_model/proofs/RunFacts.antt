-- Worked facts of runs, of states, and of the entries of one guest.
use Rattle.std.proofs.Common.{◌≢◌, List, [], ap, arith, false, length, map, refl, replicate, true, ℕ}
use Rattle.std.{proofs.Common.{◌++◌, ◌∷◌, ◌≡◌}, specs.Prelude.{None, Option, Some, unwrap_or}}
use Rattle.vb_virtio.proofs.Differ.{differ}
use Rattle.vb_virtio.specs.declared.refusals.Refusal.TheVariants.{OutOfRam, Short}
use Rattle.vb_model.proofs.Samples.{down, ready}
use Rattle.vb_model.specs.Guest.{Guest}
use Rattle.vb_model.specs.GuestRun.{Alone}
use Rattle.vb_model.specs.GuestRun.{AreOwn, Called, Entry, EntryStep, InOneLife, IsOwnEntry, Looked}
use Rattle.vb_model.specs.{Run.{History, Run, Steps, guest_in, last_world}, World.{World, made}}
use Rattle.vb_model.specs.declared.calls.{Actor.TheVariants.{Balancer, Processor}, Claim.Claim}
use Rattle.vb_model.specs.declared.calls.Call.TheVariants.{Ask, Init, Reset, Scribble, SetTarget}
use Rattle.vb_model.specs.declared.calls.{Call.TheVariants.{Work, Write}, Claim.TheVariants.Gave}
use Rattle.vb_model.specs.declared.calls.Event.TheVariants.{Balance, Frames as CountFrames, Restart}
use Rattle.vb_model.specs.declared.calls.Event.{Event, TheVariants.{Guest as OnGuest, Unplug}}
use Rattle.vb_model.specs.declared.replies.Reply.{Reply}
use Rattle.vb_model.specs.declared.replies.Reply.TheVariants.{Done, Frames, Idle, Refused, Targets}

abbrev world : ℕ → World
world frames = made frames []

-- ---- a run: as many replies and states as events, from the world as made on

abbrev Same : ℕ → ℕ → Type 0
Same a b = a ≡ b

abbrev counted : ℕ → Reply
counted frames = Frames 0 frames

nothing_happens : Run 64 [] (record { first = world 64; events = []; replies = []; after = [] })
nothing_happens = (refl, tt)

one_event : Run 64 [] (record {
  first = world 64;
  events = CountFrames ∷ [];
  replies = counted 64 ∷ [];
  after = world 64 ∷ [];
})
one_event = (refl, ((refl, refl), tt))

from_another_world : Run 64 [] (record { first = world 63; events = []; replies = []; after = [] })
    → ⊥
from_another_world r = let e : Same 63 64 = ap (λ (w : World). w.frames) r.0 in omega arith

not_as_many : (Steps (world 64) (CountFrames ∷ []) [] [] → ⊥)
    × (Steps (world 64) (CountFrames ∷ []) (counted 64 ∷ []) [] → ⊥)
    × (Steps (world 64) [] (counted 64 ∷ []) [] → ⊥) × (Steps (world 64) [] [] (world 64 ∷ []) → ⊥)
not_as_many = (λ s. s, λ s. s, λ s. s, λ s. s)

-- each event goes on where the one before it ended
another_state_between : Steps (world 64) (CountFrames ∷ CountFrames ∷ [])
    (counted 64 ∷ counted 65 ∷ []) (world 64 ∷ world 65 ∷ []) → ⊥
another_state_between s = let e : Same 65 64 = ap (λ (w : World). w.frames) s.1.0.1 in omega arith

-- ---- states by number: the first is the one before the first event

abbrev at : Guest → World
at g = record { frames = 64; guests = None ∷ Some g ∷ []; spares = []; vacated = None }

abbrev two_events : History
two_events = record {
  first = world 64;
  events = CountFrames ∷ CountFrames ∷ [];
  replies = [];
  after = at down ∷ at ready ∷ [];
}

guests_by_number : map (guest_in two_events 1) (0 ∷ 1 ∷ 2 ∷ 3 ∷ [])
    ++ map (λ n. guest_in two_events n 2) (0 ∷ 2 ∷ []) ≡ None ∷ Some down ∷ Some ready
    ∷ replicate 3 None
guests_by_number = refl

ends_with_the_last : last_world (world 64) (at down ∷ at ready ∷ []) ≡ at ready
ends_with_the_last = refl

-- the balancer's look answers what the guest can spare, and changes nothing
abbrev known : Guest
known = record ready { last = record { free = Some 196608; total = Some 262144 } }

looks : EntryStep known (Looked 16 32) known
looks = (refl, refl)

-- not another spare, a target, what is forgotten, or a page that is taken
a_look_changes_nothing : (EntryStep known (Looked 16 31) known → ⊥)
    × (EntryStep known (Looked 16 32) (record known { target = 3 }) → ⊥)
    × (EntryStep known (Looked 16 32) ready → ⊥)
    × (EntryStep known (Looked 16 32) (record known { places = [] }) → ⊥)
a_look_changes_nothing = (
  λ s. differ 31 32 refl s.0,
  λ s. differ 3 0 refl (ap (λ (g : Guest). g.target) s.1),
  λ s. differ 0 196608 refl (ap (λ (g : Guest). unwrap_or g.last.free 0) s.1),
  λ s. differ 0 64 refl (ap (λ (g : Guest). length g.places) s.1),
)

-- a scribble that is done is no step of an honest guest's run
scribble_done : (claims : List Claim) (new : Guest)
    → EntryStep ready (Called (Processor 1 0) (Scribble 20 0 []) claims Done) new → ⊥
scribble_done claims new s = let wrong : true ≡ false = s.0 in cc

-- ---- what an event is to a guest

abbrev no_own : Option Entry
no_own = None

-- its own call is its entry, by whomever; another's call is none
abbrev work_done : Option Entry
work_done = Some (Called (Processor 1 0) Work [] Idle)

own_call : AreOwn 1 (at ready) (OnGuest 1 Work ∷ OnGuest 0 Work ∷ []) (Idle ∷ Done ∷ [])
    (at ready ∷ at ready ∷ []) (work_done ∷ None ∷ []) (ready ∷ ready ∷ [])
own_call = ((Processor 1 0, [], tt, refl), refl, (refl, refl, tt))

own_call_left_out : AreOwn 1 (at ready) (OnGuest 1 Work ∷ []) (Idle ∷ []) (at ready ∷ [])
    (None ∷ []) (ready ∷ []) → ⊥
own_call_left_out (own, there, rest) = cc

-- an entry for each event
one_entry_too_few : AreOwn 1 (at ready) (OnGuest 1 Work ∷ []) (Idle ∷ []) (at ready ∷ []) [] [] → ⊥
one_entry_too_few own = own

one_entry_too_many : AreOwn 1 (at ready) [] [] [] (None ∷ []) (ready ∷ []) → ⊥
one_entry_too_many own = own

-- and the guest is the one that is there then
another_guest : AreOwn 1 (at ready) (OnGuest 1 Work ∷ []) (Idle ∷ []) (at ready ∷ [])
    (work_done ∷ []) (down ∷ []) → ⊥
another_guest h = grind arith

another_reply : IsOwnEntry 1 (at ready) (OnGuest 1 Work) Idle (at ready)
    (Some (Called (Processor 1 0) Work [] Done)) → ⊥
another_reply own = grind arith

another_call : IsOwnEntry 1 (at ready) (OnGuest 1 Work) Idle (at ready)
    (Some (Called (Processor 1 0) Ask [] Idle)) → ⊥
another_call own = grind arith

-- no frame that is out is given: 64 frames, and a claim for frame 64
claim_past_the_last : (own : Option Entry)
    → IsOwnEntry 1 (at ready) (OnGuest 1 (Write 20 0 (7 ∷ []))) Done (at ready) own
    → own ≡ Some (Called (Processor 1 0) (Write 20 0 (7 ∷ [])) (Gave 64 ∷ []) Done) → ⊥
claim_past_the_last own is e = grind arith

scribble_refused : IsOwnEntry 1 (at ready) (OnGuest 1 (Scribble 99 0 [])) (Refused OutOfRam)
    (at ready) (Some (Called (Processor 1 0) (Scribble 99 0 []) [] (Refused OutOfRam)))
scribble_refused = (Processor 1 0, [], tt, refl)

-- a balance that set targets is one entry, with this guest's new target and not another's
abbrev aimed : World
aimed = record {
  frames = 64;
  guests = Some (record ready { target = 28 }) ∷ Some (record ready { target = 5 }) ∷ [];
  spares = [];
  vacated = None;
}

abbrev told : ℕ → Option Entry
told target = Some (Called Balancer (SetTarget target) [] Done)

-- the target is the one that it has then
abbrev not_aimed : World
not_aimed = record aimed
    { guests = Some (record ready { target = 9 }) ∷ Some (record ready { target = 9 }) ∷ [] }

target_of_then : IsOwnEntry 1 not_aimed (Balance 16) (Targets (28 ∷ 5 ∷ [])) aimed (told 5)
target_of_then = refl

target_of_before : IsOwnEntry 1 not_aimed (Balance 16) (Targets (28 ∷ 5 ∷ [])) aimed (told 9) → ⊥
target_of_before e = cc

new_target : IsOwnEntry 0 aimed (Balance 16) (Targets (28 ∷ 5 ∷ [])) aimed (told 28)
    × IsOwnEntry 1 aimed (Balance 16) (Targets (28 ∷ 5 ∷ [])) aimed (told 5)
new_target = (refl, refl)

-- not another's target, none, or one that a processor sets
no_other_target : (IsOwnEntry 1 aimed (Balance 16) (Targets (28 ∷ 5 ∷ [])) aimed (told 28) → ⊥)
    × (IsOwnEntry 1 aimed (Balance 16) (Targets (28 ∷ 5 ∷ [])) aimed None → ⊥)
    × (IsOwnEntry 1 aimed (Balance 16) (Targets (28 ∷ 5 ∷ [])) aimed
    (Some (Called (Processor 1 0) (SetTarget 5) [] Done)) → ⊥)
no_other_target = (λ e. cc, λ e. cc, λ e. cc)

-- one that came up short is none
short_balance : IsOwnEntry 1 aimed (Balance 16) (Refused (Short 3)) aimed None
short_balance = refl

-- nor is a call of another guest, a count, or another's restart
anothers_event : (IsOwnEntry 1 aimed (OnGuest 0 Work) Idle aimed work_done → ⊥)
    × (IsOwnEntry 1 aimed CountFrames (Frames 0 64) aimed work_done → ⊥)
    × (IsOwnEntry 1 aimed (Restart 0) Done aimed work_done → ⊥)
anothers_event = (λ e. cc, λ e. cc, λ e. cc)

-- a rogue guest has no run of its own
rogue_alone : Alone 1 aimed [] [] [] (record ready { rogue = true }) → ⊥
rogue_alone a = let e : true ≡ false = a.honest in cc

-- a scribble that was refused is a step of an honest guest
refused_scribble : EntryStep ready
    (Called (Processor 1 0) (Scribble 99 0 []) [] (Refused OutOfRam)) ready
refused_scribble = (refl, (refl, refl, refl))

-- ---- one life: neither restarted nor unplugged

others_may_end : InOneLife 1 (Restart 0 ∷ Unplug 2 ∷ OnGuest 1 Work ∷ [])
others_may_end = ((λ e. cc), (λ e. cc), ((λ e. cc), (λ e. cc), ((λ e. cc), (λ e. cc), tt)))

all_others_may_come : (n : ℕ) (event : Event) → event ≢ Restart n → event ≢ Unplug n → InOneLife n (event ∷ [])
all_others_may_come n event restarts ends = (restarts, ends, tt)

restarted : InOneLife 1 (OnGuest 1 Work ∷ Restart 1 ∷ []) → ⊥
restarted l = l.2.0 refl

unplugged : InOneLife 1 (Unplug 1 ∷ []) → ⊥
unplugged l = l.1 refl

-- a life goes on over an initialisation, a reset and a scribble, and over balances
a_start_in_a_life : InOneLife 1 (OnGuest 1 (Init 0) ∷ OnGuest 1 Reset
    ∷ OnGuest 1 (Scribble 0 0 []) ∷ [])
a_start_in_a_life = ((λ e. cc), (λ e. cc), ((λ e. cc), (λ e. cc), ((λ e. cc), (λ e. cc), tt)))

a_balance_in_a_life : InOneLife 1 (Balance 0 ∷ [])
a_balance_in_a_life = ((λ e. cc), (λ e. cc), tt)
