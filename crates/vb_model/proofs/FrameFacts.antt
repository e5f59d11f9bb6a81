-- Worked facts of frames: which page has which, which are out, and that no run that is promised to
-- be safe has one that backs two pages, in whatever state, of whatever guests. Who is honest.
use Rattle.std.proofs.Common.{List, [], arith, refl, suc, true, zero, ℕ, ◌∷◌, ◌≡◌}
use Rattle.std.specs.Prelude.{None, Option, Some}
use Rattle.vb_model.{proofs.Samples.{down, ready}, specs.{Guest.{Guest, frame_of}, Run.History}}
use Rattle.vb_model.specs.{HostFrames.{Backs, IsOut}, Safe.{IsHonest, IsSafeRun, Safe}, World.World}
use Rattle.vb_model.specs.declared.calls.Event.{Event, TheVariants.Frames as CountFrames}
use Rattle.vb_model.specs.declared.replies.Reply.{Reply, TheVariants.Done}

-- ---- page 0 of guest 1 has frame 5, page 1 has none, and page 2 has frame 7

abbrev backed : Guest
backed = record ready { frames = Some 5 ∷ None ∷ Some 7 ∷ [] }

abbrev world : World
world = record { frames = 9; guests = None ∷ Some backed ∷ []; spares = []; vacated = None }

abbrev none : Option ℕ
none = None

frames_that_are_out : IsOut world 5 × IsOut world 7
frames_that_are_out = (
  (1, 0, record { guest = backed; is_there = refl; has = refl }),
  (1, 2, record { guest = backed; is_there = refl; has = refl }),
)

-- another frame, a page without one, one past the last, another number, one past the last guest
backs_no_other : (Backs world 1 0 7 → ⊥) × (Backs world 1 1 5 → ⊥) × (Backs world 1 3 7 → ⊥)
    × (Backs world 0 0 5 → ⊥) × (Backs world 2 0 5 → ⊥)
backs_no_other = grind arith

-- a frame that no page has is in use neither below those that are nor above
not_of_it : (page frame : ℕ) → frame_of backed.frames page ≡ Some frame → (frame ≡ 6 → ⊥)
    × (frame ≡ 8 → ⊥)
not_of_it zero frame e = grind arith
not_of_it (suc zero) frame e = grind arith
not_of_it (suc (suc zero)) frame e = grind arith
not_of_it (suc (suc (suc page))) frame e = grind arith

frames_that_are_not : (IsOut world 6 → ⊥) × (IsOut world 8 → ⊥)
frames_that_are_not = grind (arith, not_of_it)

-- ---- two pages with one frame, of two guests or of one, at any status and of any size, honest or
-- rogue, whatever comes after

abbrev both : Guest → Guest → World
both a b = record { frames = 64; guests = Some a ∷ None ∷ Some b ∷ []; spares = []; vacated = None }

of_two_guests : (a b : Guest) (p q frame : ℕ) (events : List Event) (replies : List Reply)
    (after : List World) → frame_of a.frames p ≡ Some frame → frame_of b.frames q ≡ Some frame
    → Safe (both a b) events replies after → ⊥
of_two_guests a b p q frame events replies after e f s =
    let same = s.no_frame_twice 0 (both a b) refl frame 0 p 2 q
    (record { guest = a; is_there = refl; has = e })
    (record { guest = b; is_there = refl; has = f }) in omega (arith, same.0)

of_one_guest : (a b : Guest) (p q frame : ℕ) (events : List Event) (replies : List Reply)
    (after : List World) → frame_of b.frames p ≡ Some frame → frame_of b.frames q ≡ Some frame
    → Safe (both a b) events replies after → p ≡ q
of_one_guest a b p q frame events replies after e f s =
    (s.no_frame_twice 0 (both a b) refl frame 2 p 2 q
    (record { guest = b; is_there = refl; has = e })
    (record { guest = b; is_there = refl; has = f })).1

-- in a later state, whatever led to it
in_a_later_state : (w : World) (a b : Guest) (p q frame : ℕ) (first second : Event)
    (reply answer : Reply) (v : World) → frame_of a.frames p ≡ Some frame
    → frame_of b.frames q ≡ Some frame
    → Safe w (first ∷ second ∷ []) (reply ∷ answer ∷ []) (v ∷ both a b ∷ []) → ⊥
in_a_later_state w a b p q frame first second reply answer v e f s =
    let same = s.no_frame_twice 2 (both a b) refl frame 0 p 2 q
    (record { guest = a; is_there = refl; has = e })
    (record { guest = b; is_there = refl; has = f }) in omega (arith, same.0)

-- what is promised of a run says so of its own states
of_a_run : (a b : Guest) (p q frame : ℕ) → frame_of a.frames p ≡ Some frame
    → frame_of b.frames q ≡ Some frame → (events : List Event) (replies : List Reply) (last : World)
    → IsSafeRun (both a b) events replies last → ⊥
of_a_run a b p q frame e f events replies last s =
    of_two_guests a b p q frame events replies s.after e f s.safe

-- ---- an honest guest: in that state, of that number, and not rogue

abbrev rogue : Guest
rogue = record ready { rogue = true }

abbrev two_states : History
two_states = record {
  first = both down rogue;
  events = CountFrames ∷ [];
  replies = Done ∷ [];
  after = both ready down ∷ [];
}

honest_ones : IsHonest two_states 0 0 down × IsHonest two_states 0 1 ready
    × IsHonest two_states 2 1 down
honest_ones = ((refl, refl), (refl, refl), (refl, refl))

-- a rogue one, another state's, another number's, none's, and one past the last state
no_others : (IsHonest two_states 2 0 rogue → ⊥) × (IsHonest two_states 0 0 ready → ⊥)
    × (IsHonest two_states 2 1 ready → ⊥) × (IsHonest two_states 1 0 down → ⊥)
    × (IsHonest two_states 0 2 ready → ⊥)
no_others = grind arith
