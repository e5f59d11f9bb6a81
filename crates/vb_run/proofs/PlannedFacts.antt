-- Worked facts of what a lock kept of a plan's guest: guest 1, on a paced device, and one round.
use Rattle.std.proofs.Common.{Bool, List, [], ap, arith, false, refl, sym, true, ℕ, ◌∙◌, ◌∷◌, ◌≡◌}
use Rattle.std.specs.declared.{alloc.Global.Global, vec.Vec.Vec}
use Rattle.vb_model.specs.GuestRun.{Called, Entry, Looked}
use Rattle.vb_model.specs.declared.calls.Actor.TheVariants.{Balancer, Processor, Worker}
use Rattle.vb_model.specs.declared.calls.Call.{Call, TheVariants.{Alloc, SetTarget, Stats, Work}}
use Rattle.vb_model.specs.declared.replies.Reply.TheVariants.{Done, Filled, Idle}
use Rattle.vb_ram.specs.declared.config.Config.{Config as Sizes}
use Rattle.vb_run.proofs.RoundFacts.{Same, round, shared}
use Rattle.vb_run.specs.{Entries.entries_by, Past.{Past, Progress}, Reports.IsPlanned}
use Rattle.vb_run.specs.Rounds.{Rounded, round_entries}
use Rattle.vb_run.specs.declared.plan.GuestPlan.{GuestPlan}

abbrev small : Sizes
small = record { pages = 64; queue_size = 8; processors = 1 }

abbrev large : Sizes
large = record { pages = 128; queue_size = 8; processors = 1 }

abbrev script : List Call → Progress
script calls = record { calls = calls; place = 1 }

-- a look, and the target of guest 1 in the round
abbrev balanced : List Entry
balanced = Looked 16 30 ∷ Called Balancer (SetTarget 0) [] Done ∷ []

-- what the lock kept of guest 1
abbrev kept : Past
kept =
    record {
      guest = 1;
      sizes = small;
      paced = true;
      history = balanced;
      scripts = script (Stats ∷ []) ∷ [];
      quiet = [];
      short = false;
    }

-- of a guest of these sizes with a script of one call
abbrev Planned : Sizes → Bool → List Rounded → Past → Type 0 → Type 0
Planned sizes paced rounds p answer =
    (plan : GuestPlan) (calls : Vec Call Global) → plan.config ≡ sizes
    → plan.scripts.items ≡ calls ∷ [] → calls.items ≡ Stats ∷ []
    → IsPlanned 16 1 plan paced rounds p → answer

abbrev IsOfPlan : Past → Type 0
IsOfPlan p =
    (plan : GuestPlan) (calls : Vec Call Global) → plan.config ≡ small
    → plan.scripts.items ≡ calls ∷ [] → calls.items ≡ Stats ∷ []
    → IsPlanned 16 1 plan true (shared ∷ []) p

abbrev IsNotOfPlan : Past → Type 0
IsNotOfPlan p = Planned small true (shared ∷ []) p ⊥

of_plan : (history : List Entry) (place : ℕ) → entries_by Balancer history ≡ balanced
    → IsOfPlan (record kept {
      history = history;
      scripts = record { calls = Stats ∷ []; place = place } ∷ [];
    })
of_plan history place own plan calls sizes scripts has = record {
  number = refl;
  sizes = sym sizes;
  pace = refl;
  scripts = rw scripts (refl, λ cpu s own is given. grind (arith, has, is, given));
  balanced = own;
}

planned : IsOfPlan kept
planned = of_plan balanced 1 refl

abbrev mixed : List Entry
mixed =
    Called (Processor 1 0) Stats [] Filled ∷ Looked 16 30 ∷ Called (Worker 1) Work [] Idle
    ∷ Called Balancer (SetTarget 0) [] Done ∷ []

between_others : IsOfPlan (record kept { history = mixed })
between_others = of_plan mixed 1 refl

-- nothing is said of how far a script is, of memory that was refused, nor of what is quiet
not_ended : IsOfPlan (record kept { scripts = record { calls = Stats ∷ []; place = 0 } ∷ [] })
not_ended = of_plan balanced 0 refl

short_of_memory : (floor guest : ℕ) (plan : GuestPlan) (paced : Bool) (rounds : List Rounded)
    (p : Past) → IsPlanned floor guest plan paced rounds p
    → IsPlanned floor guest plan paced rounds (record p { quiet = true ∷ []; short = true })
short_of_memory floor guest plan paced rounds p is =
    record {
      number = is.number;
      sizes = is.sizes;
      pace = is.pace;
      scripts = is.scripts;
      balanced = is.balanced;
    }

-- ---- what isn't of the plan

another_number : IsNotOfPlan (record kept { guest = 2 })
another_number plan calls sizes scripts has is =
    let wrong : Same 2 1 = is.number in omega (arith, wrong)

other_sizes : IsNotOfPlan (record kept { sizes = large })
other_sizes plan calls sizes scripts has is =
    let wrong : Same 128 64 = ap (λ (s : Sizes). s.pages) (is.sizes ∙ sizes) in omega (arith, wrong)

immediate_for_paced : IsNotOfPlan (record kept { paced = false })
immediate_for_paced plan calls sizes scripts has is = let wrong : false ≡ true = is.pace in cc

paced_for_immediate : Planned small false (shared ∷ []) kept ⊥
paced_for_immediate plan calls sizes scripts has is = let wrong : true ≡ false = is.pace in cc

script_too_few : IsNotOfPlan (record kept { scripts = [] })
script_too_few plan calls sizes scripts has is = grind (arith, scripts, is.scripts.0)

script_too_many : IsNotOfPlan (record kept { scripts = script (Stats ∷ []) ∷ script [] ∷ [] })
script_too_many plan calls sizes scripts has is = grind (arith, scripts, is.scripts.0)

another_call : IsNotOfPlan (record kept { scripts = script (Alloc 0 0 ∷ []) ∷ [] })
another_call plan calls sizes scripts has is =
    let own : Alloc 0 0 ∷ [] ≡ calls.items = is.scripts.1 0 _ calls refl (rw scripts refl) in
    let wrong : Alloc 0 0 ∷ [] ≡ Stats ∷ [] = own ∙ has in cc

call_too_many : IsNotOfPlan (record kept { scripts = script (Stats ∷ Stats ∷ []) ∷ [] })
call_too_many plan calls sizes scripts has is =
    let own : Stats ∷ Stats ∷ [] ≡ calls.items = is.scripts.1 0 _ calls refl (rw scripts refl) in
    let wrong : Stats ∷ Stats ∷ [] ≡ Stats ∷ [] = own ∙ has in cc

-- ---- other entries of the balancer than those of the rounds

by_entries : (rounds : List Rounded) (entries : List Entry)
    → (entries_by Balancer entries ≡ round_entries 16 1 rounds → ⊥)
    → Planned small true rounds (record kept { history = entries }) ⊥
by_entries rounds entries wrong plan calls sizes scripts has is = wrong is.balanced

target_left_out : IsNotOfPlan (record kept { history = Looked 16 30 ∷ [] })
target_left_out = by_entries (shared ∷ []) (Looked 16 30 ∷ []) (λ e. cc)

target_of_the_other_guest : IsNotOfPlan
    (record kept { history = Looked 16 30 ∷ Called Balancer (SetTarget 28) [] Done ∷ [] })
target_of_the_other_guest =
    by_entries (shared ∷ []) (Looked 16 30 ∷ Called Balancer (SetTarget 28) [] Done ∷ []) (λ e. cc)

look_of_another_floor : IsNotOfPlan
    (record kept { history = Looked 15 30 ∷ Called Balancer (SetTarget 0) [] Done ∷ [] })
look_of_another_floor =
    by_entries (shared ∷ []) (Looked 15 30 ∷ Called Balancer (SetTarget 0) [] Done ∷ []) (λ e. cc)

another_order : IsNotOfPlan
    (record kept { history = Called Balancer (SetTarget 0) [] Done ∷ Looked 16 30 ∷ [] })
another_order =
    by_entries (shared ∷ []) (Called Balancer (SetTarget 0) [] Done ∷ Looked 16 30 ∷ []) (λ e. cc)

round_left_out : Planned small true (shared ∷ round ∷ []) kept ⊥
round_left_out = by_entries (shared ∷ round ∷ []) balanced (λ e. cc)

entries_of_no_round : Planned small true [] kept ⊥
entries_of_no_round = by_entries [] balanced (λ e. cc)
