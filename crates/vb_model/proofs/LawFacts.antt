-- Worked facts of the words in which the laws over single steps are stated.
use Rattle.std.proofs.Common.{List, [], ap, arith, false, inl, inr, length, map, refl, replicate, ℕ}
use Rattle.std.{proofs.Common.{true, ◌++◌, ◌<◌, ◌∷◌, ◌≡◌, ◌⊎◌}, specs.List.range_with_len}
use Rattle.std.specs.Prelude.{Bool, IsTrue, None, Option, Some, unwrap_or}
use Rattle.vb_virtio.proofs.Differ.{differ}
use Rattle.vb_virtio.specs.Tests.{is_in}
use Rattle.vb_virtio.specs.declared.refusals.Refusal.TheVariants.{NoDevice, NoFrame, NotHeld}
use Rattle.vb_virtio.specs.declared.refusals.Refusal.TheVariants.{VersionMissing}
use Rattle.vb_model.proofs.Samples.{plug, ready}
use Rattle.vb_model.specs.Guest.{Guest}
use Rattle.vb_model.specs.HostFrames.{IsOut}
use Rattle.vb_model.specs.{HostLaws.WorldsAgree, StepLaws.{HasNoFrame, HasNoReservedBallooned}}
use Rattle.vb_model.specs.StepLaws.{IsOfOthers, IsUnchanged, WantOfFrames, call_may_want}
use Rattle.vb_model.specs.StepLaws.{may_want_memory}
use Rattle.vb_model.specs.World.{World}
use Rattle.vb_model.specs.declared.calls.Call.TheVariants.{Inflate, Init, Read, Reset, Scribble}
use Rattle.vb_model.specs.declared.calls.{Call.TheVariants.{Take, Work, Write}, Claim.Claim}
use Rattle.vb_model.specs.declared.calls.{Claim.TheVariants.Gave, Event.{Event, TheVariants.Unplug}}
use Rattle.vb_model.specs.declared.calls.Event.TheVariants.{Balance, Frames as CountFrames, Restart}
use Rattle.vb_model.specs.declared.calls.Event.TheVariants.{Guest as OnGuest, Query as OnQuery}
use Rattle.vb_model.specs.declared.calls.Query.TheVariants.{Backing, Balloon, Memory, PagesAt}
use Rattle.vb_model.specs.declared.calls.Query.TheVariants.{PagesBallooned, Places}
use Rattle.vb_model.specs.declared.places.Place.TheVariants.{Lent, Reserved, Used}
use Rattle.vb_model.specs.declared.replies.Reply.TheVariants.{Done, Frames, Plugged, Refused}

abbrev Same : ℕ → ℕ → Type 0
Same a b = a ≡ b

-- guest 1, whose page 16 has frame 5
abbrev backed : Guest
backed = record ready { frames = replicate 16 None ++ (Some 5 ∷ replicate 47 None) }

abbrev world : World
world = record { frames = 6; guests = None ∷ Some backed ∷ []; spares = []; vacated = None }

-- ---- events that are made for a guest, and those that aren't

own_events : (IsOfOthers 1 (OnGuest 1 Work) → ⊥) × (IsOfOthers 1 (Restart 1) → ⊥)
    × (IsOfOthers 1 (Unplug 1) → ⊥)
own_events = (λ o. o.no_call Work refl, λ o. o.no_restart refl, λ o. o.no_unplug refl)

anothers_events : IsOfOthers 1 (OnGuest 0 Work) × IsOfOthers 1 (Restart 2) × IsOfOthers 1 (Unplug 0)
    × IsOfOthers 1 (OnQuery 1 Places) × IsOfOthers 1 (Balance 0) × IsOfOthers 1 CountFrames
    × IsOfOthers 1 (plug 64 8 1)
anothers_events = grind arith

-- ---- frames

a_frame_is_there : HasNoFrame world 1 → ⊥
a_frame_is_there h = h 16 5 (record { guest = backed; is_there = refl; has = refl })

-- a page wants a frame while no frame is out; or no page wants one
abbrev empty : World
empty = record { frames = 6; guests = []; spares = []; vacated = None }

frame_0_is_free : WantOfFrames empty (17 ∷ []) → ⊥
frame_0_is_free want = by want.claimed want.fewer want.all_out where
  by : (claimed : List ℕ) → length claimed < 1
      → ((frame : ℕ) → frame < 6 → IsOut empty frame ⊎ IsTrue (is_in frame claimed)) → ⊥
  by (f ∷ claimed) fewer all_out = absurd (omega (arith, fewer))
  by [] fewer all_out = elim (all_out 0 (omega arith)) [ inl out ↦ cc | inr given ↦ cc ]

no_page_wants_one : WantOfFrames world [] → ⊥
no_page_wants_one want = let l : length want.claimed < 0 = want.fewer in absurd (omega (arith, l))

-- ---- two answers of the host

other_world : world ≡ empty → ⊥
other_world e = let guests : Same 2 0 = ap (λ (w : World). length w.guests) e in omega arith

abbrev AreDetermined : Event → Type 0
AreDetermined event = (WorldsAgree event world Done world (Frames 0 6) world → ⊥)
    × (WorldsAgree event world Done world Done empty → ⊥)

determined_events : AreDetermined (Unplug 1) × AreDetermined (Restart 1)
    × AreDetermined (OnQuery 1 Places) × AreDetermined (Balance 0) × AreDetermined CountFrames
determined_events = grind arith

-- with one number one world, with a number given up one number, and refused or not
one_number_two_worlds : WorldsAgree (plug 64 8 1) world (Plugged 0) world (Plugged 0) empty → ⊥
one_number_two_worlds a = other_world (a.0 refl)

two_numbers : WorldsAgree (plug 64 8 1) (record world { vacated = Some 0 }) (Plugged 0) world
    (Plugged 2) world → ⊥
two_numbers a = let e : Plugged 0 ≡ Plugged 2 = a.1 0 refl in cc

plugged_or_not : WorldsAgree (plug 64 8 1) world (Refused NoDevice) world (Plugged 0) world → ⊥
plugged_or_not a = let e : Refused NoDevice ≡ Plugged 0 = a.2 NoDevice refl in cc

-- whatever a guest's call leaves open
abbrev LeavesTheHost : World → Type 0
LeavesTheHost w = WorldsAgree (OnGuest 1 Work) world Done world Done w

other_host : (LeavesTheHost (record world { frames = 7 }) → ⊥)
    × (LeavesTheHost (record world { spares = true ∷ [] }) → ⊥)
    × (LeavesTheHost (record world { vacated = Some 3 }) → ⊥)
other_host = (
  λ a. differ 6 7 refl a.0,
  λ a. differ 0 1 refl (ap (λ (spares : List Bool). length spares) a.1),
  λ a. differ 4 3 refl (ap (λ (n : Option ℕ). unwrap_or n 4) a.2),
)

-- ---- reserved pages

page_15_ballooned : HasNoReservedBallooned
    (record ready { ballooned = replicate 15 false ++ (true ∷ replicate 48 false) }) → ⊥
page_15_ballooned h = let e : true ≡ false = h 15 (omega arith) in cc

page_16_ballooned : HasNoReservedBallooned
    (record ready { ballooned = replicate 16 false ++ (true ∷ replicate 47 false) })
page_16_ballooned page l = grind arith

-- ---- what a refusal leaves: the guest as it was, but for features that an initialisation refused

-- page 16 has frame 5, and the pages of rings and buffers have none
abbrev before_refused : Guest
before_refused = record backed { status = 0; features = 0 }

abbrev some : ℕ → Option ℕ
some n = Some n

abbrev gave : ℕ → Claim
gave frame = Gave frame

abbrev thirteen : List Claim
thirteen = map gave (range_with_len 20 13)

abbrev failed : Guest
failed = record before_refused {
  status = 131;
  features = 0x26;
  frames = map some (range_with_len 20 13) ++ (replicate 3 None ++ (Some 5 ∷ replicate 47 None));
}

abbrev status_of : Guest → ℕ
status_of g = g.status

changed_by_a_reset : IsUnchanged Reset NotHeld [] before_refused failed → ⊥
changed_by_a_reset (inl same) = let e : Same 131 0 = ap status_of same in omega arith
changed_by_a_reset (inr (wanted, call, refused, left)) = cc

failed_for_features : IsUnchanged (Init 0x26) VersionMissing thirteen before_refused failed
failed_for_features = inr (0x26, refl, refl, refl)

-- these features aren't refused
failed_for_no_feature : IsUnchanged (Init 0x100000026) VersionMissing thirteen before_refused failed
    → ⊥
failed_for_no_feature h = grind arith

failed_for_want_of_frames : IsUnchanged (Init 0x100000027) NoFrame thirteen before_refused failed → ⊥
failed_for_want_of_frames h = grind arith

-- nothing else is changed, nor less
just_failed : (new : Guest) → IsUnchanged (Init 0x26) VersionMissing thirteen before_refused new
    → new.status ≡ 131 → new ≡ failed
just_failed new h1 up = grind arith

-- ---- which events may want memory: a plug, what needs a frame, a read, and lists of pages

wants_of_events : map (may_want_memory world) (plug 64 8 1 ∷ OnQuery 1 (PagesAt Lent)
    ∷ OnQuery 1 PagesBallooned ∷ Unplug 1 ∷ Restart 1 ∷ Balance 0 ∷ CountFrames ∷ OnQuery 1 Places
    ∷ OnQuery 1 Balloon ∷ OnQuery 1 Memory ∷ OnQuery 1 (Backing 16) ∷ [])
    ≡ replicate 3 true ++ replicate 8 false
wants_of_events = refl

-- page 17 isn't used, and the guest is up
wants_of_calls : map (λ call. may_want_memory world (OnGuest 1 call)) (Read 16 0 1
    ∷ Scribble 17 0 (1 ∷ []) ∷ Write 16 0 (1 ∷ []) ∷ Write 17 0 (1 ∷ []) ∷ Write 17 0 []
    ∷ Scribble 17 4096 (1 ∷ []) ∷ Init 0 ∷ Reset ∷ Inflate 1 ∷ Take 0 ∷ Work ∷ [])
    ≡ replicate 2 true ++ replicate 9 false
wants_of_calls = refl

-- here it is used, and the guest is down
abbrev before_its_start : Guest
before_its_start = record backed { places = replicate 17 Reserved ++ (Used ∷ []); status = 0 }

wants_of_a_start : map (λ call. call_may_want (Some before_its_start) call)
    (Write 17 0 (1 ∷ []) ∷ Write 17 0 [] ∷ Init 0 ∷ []) ≡ true ∷ false ∷ true ∷ []
wants_of_a_start = refl

no_guest_wants_none : map (λ call. may_want_memory world (OnGuest 0 call))
    (Read 16 0 1 ∷ Init 0 ∷ []) ≡ false ∷ false ∷ []
no_guest_wants_none = refl
