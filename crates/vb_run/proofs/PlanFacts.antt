-- Worked facts of plans.
use Rattle.std.proofs.Common.{◌≡◌, ℕ, ◌∷◌, [], List, Bool, true, false, map, replicate, refl}
use Rattle.std.{proofs.Common.length, specs.{List.list_all, declared.vec.Vec.Vec}}
use Rattle.{std.specs.declared.alloc.Global.Global, vb_run.specs.declared.plan.Plan.Plan}
use Rattle.vb_model.specs.declared.calls.Call.TheVariants.{Init, Reset, Alloc, Free, Read, Write}
use Rattle.vb_model.specs.declared.calls.Call.TheVariants.{Scribble, Inflate, Deflate, Oom, Report}
use Rattle.vb_model.specs.declared.calls.Call.TheVariants.{Stats, Reap, Take, Work, Finish, Serve, Sweep}
use Rattle.vb_model.specs.declared.calls.Call.{TheVariants.{Ask, SetTarget}, Call}
use Rattle.vb_run.specs.declared.plan.{GuestPlan.GuestPlan, TheConstants.MAX_SCRIPT_CALLS}
use Rattle.vb_run.specs.Plans.{config_of, may_stand, is_script, are_scripts, is_guest_plan, is_plan}
use Rattle.vb_run.specs.Plans.{is_actor_call}

-- ---- which calls may be in the script of processor 1: its own, and none of a starter, a worker, a
-- balancer or a host

who_may_stand : map (may_stand 1) (Alloc 1 0 ∷ Alloc 0 0 ∷ Free 1 16 0 ∷ Free 0 16 0 ∷ Read 16 0 1
    ∷ Write 16 0 [] ∷ Inflate 1 ∷ Deflate 1 ∷ Oom 1 ∷ Report 0 ∷ Stats ∷ Reap 0 ∷ Init 0 ∷ Reset
    ∷ Scribble 16 0 [] ∷ Take 0 ∷ Work ∷ Finish 0 0 ∷ Serve 0 ∷ Sweep 16 ∷ Ask
    ∷ SetTarget 1 ∷ []) ≡ true
    ∷ false ∷ true ∷ false ∷ true ∷ true ∷ true ∷ true ∷ true ∷ true
    ∷ true ∷ true ∷ false ∷ false ∷ false ∷ false ∷ false ∷ false ∷ false ∷ false ∷ false ∷ false
    ∷ []
who_may_stand = refl

-- ---- which calls an actor of a guest that was started may make: all but these five

no_actor_calls : map is_actor_call (Init 0 ∷ Reset ∷ Scribble 16 0 [] ∷ Serve 0 ∷ Sweep 16 ∷ [])
    ≡ replicate 5 false
no_actor_calls = refl

actor_calls : map is_actor_call (Alloc 1 0 ∷ Free 1 16 0 ∷ Read 16 0 1 ∷ Write 16 0 [] ∷ Inflate 1
    ∷ Deflate 1 ∷ Oom 1 ∷ Report 0 ∷ Stats ∷ Reap 0 ∷ Take 0 ∷ Work ∷ Finish 0 0 ∷ Ask ∷ SetTarget 1 ∷ [])
    ≡ replicate 15 true
actor_calls = refl

-- ---- scripts: up to 100,000 calls, each of which may be there

most_calls : MAX_SCRIPT_CALLS ∷ [] ≡ 100000 ∷ []
most_calls = refl

scripts_by_calls : map (is_script 1) ([] ∷ (Stats ∷ []) ∷ (Stats ∷ Alloc 1 0 ∷ [])
    ∷ (Stats ∷ Alloc 0 0 ∷ []) ∷ (Work ∷ Stats ∷ []) ∷ []) ≡ true ∷ true ∷ true ∷ false ∷ false ∷ []
scripts_by_calls = refl

whole_script : (cpu : ℕ) (calls : List Call) → length calls ≡ 100000
    → list_all (may_stand cpu) calls ≡ true → is_script cpu calls ≡ true
whole_script cpu calls many all = rw (many, all) refl

one_call_too_many : (cpu : ℕ) (calls : List Call) → length calls ≡ 100001
    → is_script cpu calls ≡ false
one_call_too_many cpu calls many = rw many refl

-- the scripts of two processors, the first that of processor 0
abbrev AreDecided : List Call → List Call → Bool → Type 0
AreDecided a b answer = (first second : Vec Call Global) → first.items ≡ a → second.items ≡ b
    → are_scripts 0 (first ∷ second ∷ []) ≡ answer

each_its_own : AreDecided (Alloc 0 0 ∷ []) (Alloc 1 0 ∷ []) true
each_its_own first second a b = rw (a, b) refl

each_the_others : AreDecided (Alloc 1 0 ∷ []) (Alloc 0 0 ∷ []) false
each_the_others first second a b = rw a refl

second_not_its_own : AreDecided (Alloc 0 0 ∷ []) (Alloc 0 0 ∷ []) false
second_not_its_own first second a b = rw (a, b) refl

-- ---- a guest as large as its plan says

config_of_sizes : map (config_of (record { pages = 64; queue_size = 8; processors = 2 }))
    (true ∷ false ∷ []) ≡ record { pages = 64; queue_size = 8; processors = 2; paced = true }
    ∷ record { pages = 64; queue_size = 8; processors = 2; paced = false } ∷ []
config_of_sizes = refl

-- a guest of this plan, with n scripts of no call
abbrev IsDecided : (pages queue_size processors scripts : ℕ) → Bool → Type 0
IsDecided pages queue_size processors scripts answer = (p : GuestPlan) (script : Vec Call Global)
    → p.config ≡ record { pages = pages; queue_size = queue_size; processors = processors }
    → p.scripts.items ≡ replicate scripts script → script.items ≡ [] → is_guest_plan p ≡ answer

-- a script for each processor
one_script : IsDecided 64 8 1 1 true
one_script p script sizes scripts calls = rw (sizes, scripts, calls) refl

no_script : IsDecided 64 8 1 0 false
no_script p script sizes scripts calls = rw (sizes, scripts) refl

one_script_too_many : IsDecided 64 8 1 2 false
one_script_too_many p script sizes scripts calls = rw (sizes, scripts) refl

one_script_too_few : IsDecided 64 8 4 3 false
one_script_too_few p script sizes scripts calls = rw (sizes, scripts) refl

four_processors : IsDecided 64 8 4 4 true
four_processors p script sizes scripts calls = rw (sizes, scripts, calls) refl

-- within the limits
five_processors : IsDecided 64 8 5 5 false
five_processors p script sizes scripts calls = rw sizes refl

no_processor : IsDecided 64 8 0 0 false
no_processor p script sizes scripts calls = rw sizes refl

fewer_pages : IsDecided 48 8 1 1 false
fewer_pages p script sizes scripts calls = rw sizes refl

most_pages : IsDecided 65536 8 1 1 true
most_pages p script sizes scripts calls = rw (sizes, scripts, calls) refl

more_pages : IsDecided 65552 8 1 1 false
more_pages p script sizes scripts calls = rw sizes refl

largest_queues : IsDecided 64 256 1 1 true
largest_queues p script sizes scripts calls = rw (sizes, scripts, calls) refl

larger_queues : IsDecided 64 512 1 1 false
larger_queues p script sizes scripts calls = rw sizes refl

no_power_of_two : IsDecided 64 3 1 1 false
no_power_of_two p script sizes scripts calls = rw sizes refl

-- what may not be there
anothers_call : (p : GuestPlan) (script : Vec Call Global)
    → p.config ≡ record { pages = 64; queue_size = 8; processors = 1 }
    → p.scripts.items ≡ script ∷ [] → script.items ≡ Alloc 1 0 ∷ [] → is_guest_plan p ≡ false
anothers_call p script sizes scripts calls = rw (sizes, scripts, calls) refl

-- ---- plans: one to eight guests that can be run, and a port for each; however many frames

-- n guests that can be run
abbrev Accepts : (guests ports : ℕ) → Bool → Type 0
Accepts guests ports answer = (plan : Plan) (g : GuestPlan) → plan.guests.items ≡ replicate guests g
    → is_guest_plan g ≡ true → is_plan plan ports ≡ answer

one_guest : Accepts 1 1 true
one_guest plan g guests can = rw (guests, can) refl

no_guest : Accepts 0 0 false
no_guest plan g guests can = rw guests refl

eight_guests : Accepts 8 8 true
eight_guests plan g guests can = rw (guests, can) refl

nine_guests : Accepts 9 9 false
nine_guests plan g guests can = rw guests refl

one_port_too_many : Accepts 1 2 false
one_port_too_many plan g guests can = rw guests refl

one_port_too_few : Accepts 8 7 false
one_port_too_few plan g guests can = rw guests refl

no_port : Accepts 1 0 false
no_port plan g guests can = rw guests refl

-- each of the guests
second_is_none : (plan : Plan) (g h : GuestPlan) → plan.guests.items ≡ g ∷ h ∷ []
    → is_guest_plan g ≡ true → is_guest_plan h ≡ false → is_plan plan 2 ≡ false
second_is_none plan g h guests can cannot = rw (guests, can, cannot) refl

first_is_none : (plan : Plan) (g h : GuestPlan) → plan.guests.items ≡ g ∷ h ∷ []
    → is_guest_plan g ≡ false → is_plan plan 2 ≡ false
first_is_none plan g h guests cannot = rw (guests, cannot) refl
