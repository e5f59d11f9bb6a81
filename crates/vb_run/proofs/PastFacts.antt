-- What a guest's lock keeps of scripts, calls and services, worked out.
use Rattle.std.proofs.Common.{◌≡◌, ◌+◌, ℕ, zero, suc, true, false, List, [], ◌∷◌, refl, sym}
use Rattle.std.proofs.Common.{arith}
use Rattle.std.specs.Prelude.{Some, length, slice_get, slice_index_or, slice_set, replicate}
use Rattle.std.specs.declared.{alloc.Global.Global, vec.Vec.Vec}
use Rattle.vb_model.specs.declared.calls.Actor.TheVariants.{Starter, Processor, Worker, Balancer}
use Rattle.vb_model.specs.declared.calls.{Call.{Call, TheVariants.{Alloc, Stats, Ask, Init}}, Claim.Claim}
use Rattle.vb_model.specs.declared.calls.Claim.TheVariants.{GaveNoFrame}
use Rattle.vb_model.specs.declared.replies.Reply.TheVariants.{Done}
use Rattle.vb_model.specs.{Guest.{Guest, fresh}, GuestRun.{Entry, Called, Looked, IsHistory}}
use Rattle.vb_virtio.specs.Limits.{is_config}
use Rattle.vb_virtio.specs.declared.negotiation.TheConstants.{OFFERED_FEATURES}
use Rattle.vb_run.proofs.Keeping.{kept_start}
use Rattle.vb_ram.specs.declared.config.Config.{Config as Sizes}
use Rattle.vb_model.specs.declared.replies.Reply.{Reply}
use Rattle.vb_run.specs.{Rising.IsRising, Services.{services, IsTended, IsQuiet}}
use Rattle.vb_run.specs.Past.{Past, Progress, IsScript, HasEnded, NotesNext, NotesService, AreHushed}
use Rattle.vb_run.specs.Past.{IsAside, IsSame, AllEnded, AreBegun, AreScripts, Follows, Notes, noted}
use Rattle.vb_run.specs.Past.{just_started, scripts_in, IsKept}
use Rattle.vb_run.specs.{Made.AreMade, Plans.config_of}
use Rattle.vb_slot.specs.Alone.{AreBehind, StepsTo}

-- each above the one before it: not the same again, and not below it
rising : IsRising [] × IsRising (1 ∷ 2 ∷ 9 ∷ [])
rising = (λ i lt. absurd (omega (arith, lt)), rises) where
  rises : IsRising (1 ∷ 2 ∷ 9 ∷ [])
  rises zero lt = omega arith
  rises (suc zero) lt = omega arith
  rises (suc (suc i)) lt = absurd (omega (arith, lt))

not_rising : (IsRising (3 ∷ 3 ∷ []) → ⊥) × (IsRising (1 ∷ 4 ∷ 2 ∷ []) → ⊥)
not_rising = (λ is. omega (arith, is 0 (omega arith)), λ is. omega (arith, is 1 (omega arith)))

abbrev script : List Call → ℕ → Progress
script calls place = record { calls = calls; place = place }

-- scripts that have a call left haven't ended, and those of which one was made haven't just begun
ended : (AllEnded (script [] 0 ∷ script (Stats ∷ []) 0 ∷ []) → ⊥)
    × (AreBegun (script [] 0 ∷ script (Stats ∷ []) 1 ∷ []) → ⊥)
    × (AreBegun (script [] 0 ∷ script (Alloc 0 1 ∷ []) 0 ∷ []) → ⊥)
    × (IsScript 1 (Alloc 0 1 ∷ []) → ⊥)
ended = (
  λ are. omega (arith, are 1 (script (Stats ∷ []) 0) refl),
  λ are. omega (arith, (are 1 (script (Stats ∷ []) 1) refl).0),
  λ are. (let wrong : false ≡ true = (are 1 (script (Alloc 0 1 ∷ []) 0) refl).1 in absurd cc),
  λ is. (let wrong : false ≡ true = is in absurd cc),
)

-- and where none is left, or none was made, they have
all_ended : AllEnded (script [] 0 ∷ script (Stats ∷ []) 1 ∷ [])
all_ended cpu s is = grind (arith, is)

begun : AreBegun (script [] 0 ∷ script (Alloc 1 0 ∷ Stats ∷ []) 0 ∷ [])
begun cpu s is = grind (arith, is)

own_calls : IsScript 0 (Alloc 0 1 ∷ Stats ∷ []) × IsScript 3 []
own_calls = (refl, refl)

-- each of two, also the first one; a place past the end is no end; and each call may be there
first_of_two : (AllEnded (script (Stats ∷ []) 0 ∷ script [] 0 ∷ []) → ⊥)
    × (AllEnded (script (Stats ∷ []) 2 ∷ []) → ⊥) × (AreBegun (script (Stats ∷ []) 1 ∷ script [] 0 ∷ []) → ⊥)
    × (IsScript 1 (Stats ∷ Alloc 0 1 ∷ []) → ⊥)
first_of_two = (
  λ are. omega (arith, are 0 (script (Stats ∷ []) 0) refl),
  λ are. omega (arith, are 0 (script (Stats ∷ []) 2) refl),
  λ are. omega (arith, (are 0 (script (Stats ∷ []) 1) refl).0),
  λ is. (let wrong : false ≡ true = is in absurd cc),
)

past_the_end : (p : Past) → p.scripts ≡ script (Stats ∷ []) 2 ∷ [] → HasEnded 0 p → ⊥
past_the_end p has is = omega (arith, is (script (Stats ∷ []) 2) (rw has refl))

-- also a processor that there is none of
of_past_that_ended : (p : Past) → p.scripts ≡ script (Stats ∷ []) 0 ∷ script (Stats ∷ []) 1 ∷ []
    → HasEnded 1 p × HasEnded 2 p
of_past_that_ended p has = (λ s is. grind (arith, has, is), λ s is. grind (arith, has, is))

of_past : (p : Past) → p.scripts ≡ script [] 0 ∷ script (Stats ∷ []) 0 ∷ [] → HasEnded 1 p → ⊥
of_past p has is = omega (arith, is (script (Stats ∷ []) 0) (rw has refl))

-- a list of other scripts, and of another length
others : (calls : Vec Call Global) → (AreScripts [] (calls ∷ []) → ⊥)
    × (AreScripts (script (Stats ∷ []) 0 ∷ []) (calls ∷ []) → calls.items ≡ Stats ∷ [])
others calls = (λ are. omega (arith, are.0), λ are. sym (are.1 0 _ calls refl refl))

its_scripts : (calls : Vec Call Global) → calls.items ≡ Stats ∷ []
    → AreScripts (script (Stats ∷ []) 1 ∷ []) (calls ∷ [])
its_scripts calls has = (refl, λ cpu s own is given. grind (arith, has, is, given))

-- the second one's calls
second_is_another : (first calls : Vec Call Global)
    → AreScripts (script [] 0 ∷ script (Stats ∷ []) 0 ∷ []) (first ∷ calls ∷ [])
    → calls.items ≡ Stats ∷ []
second_is_another first calls are = sym (are.1 1 _ calls refl refl)

all_hushed : AreHushed (replicate 9 true)
all_hushed n lt = grind (arith, lt)

-- one of the services that may find something to do
hushed : AreHushed (replicate 8 true) → ⊥
hushed are = let wrong : false ≡ true = are 8 (omega arith) in cc

first_may_find_something : AreHushed (false ∷ replicate 8 true) → ⊥
first_may_find_something are = let wrong : false ≡ true = are 0 (omega arith) in cc

aside : (IsAside (Processor 0 1) → ⊥) × IsAside Starter × IsAside (Worker 0) × IsAside Balancer
aside = (λ is. is, tt, tt, tt)

same : (old new : Past) → IsSame old new → (new.guest ≡ old.guest) × (new.sizes ≡ old.sizes)
    × (new.paced ≡ old.paced) × (new.scripts ≡ old.scripts) × (new.short ≡ old.short)
same old new is = (is.guest, is.sizes, is.paced, is.scripts, is.short)

-- of a history and of what is quiet nothing is said
same_but_for_them : (p : Past) → IsSame p (record p { history = []; quiet = [] })
same_but_for_them p = record { guest = refl; sizes = refl; paced = refl; scripts = refl; short = refl }

-- ---- what is kept of a start, and what a note makes of it

started : (sizes : Sizes) (claims : List Claim) (reply : Reply)
    → just_started 2 sizes true (script (Stats ∷ []) 0 ∷ []) claims reply ≡ record {
      guest = 2;
      sizes = sizes;
      paced = true;
      history = Called Starter (Init 0x100000027) claims reply ∷ [];
      scripts = script (Stats ∷ []) 0 ∷ [];
      quiet = replicate 9 false;
      short = false;
    }
started sizes claims reply = refl

-- at the end, and nothing is known to be quiet any more
note : (p : Past) → p.history ≡ Looked 16 32 ∷ [] → p.short ≡ true
    → let new = noted (Worker 2) Ask [] Done p in
    (new.history ≡ Looked 16 32 ∷ Called (Worker 2) Ask [] Done ∷ [])
    × (new.quiet ≡ replicate 9 false) × IsSame p new
note p has short = grind (arith, has, short)

notes : (p : Past) → Notes (Worker 2) Ask p (noted (Worker 2) Ask (GaveNoFrame ∷ []) Done p)
notes p = (GaveNoFrame ∷ [], Done, refl)

scripts_are : scripts_in (script [] 0 ∷ script (Stats ∷ []) 1 ∷ []) ≡ [] ∷ (Stats ∷ []) ∷ []
scripts_are = refl

-- what was called is the script up to its place: not more of it, and nothing else
abbrev after : List Entry → Past → Past
after history p = record p { guest = 2; history = history; scripts = script (Stats ∷ Alloc 0 1 ∷ []) 1 ∷ [] }

follows : (p : Past)
    → Follows (after (Looked 16 32 ∷ Called (Processor 2 0) Stats [] Done ∷ []) p)
    × (Follows (after [] p) → ⊥)
    × (Follows (after (Called (Processor 2 0) (Alloc 0 1) [] Done ∷ []) p) → ⊥)
follows p = (
  λ cpu s is. grind (arith, is),
  λ is. (let wrong : [] ≡ Stats ∷ [] = is 0 (script (Stats ∷ Alloc 0 1 ∷ []) 1) refl in absurd cc),
  λ is. (let wrong : Alloc 0 1 ∷ [] ≡ Stats ∷ [] = is 0 (script (Stats ∷ Alloc 0 1 ∷ []) 1) refl in absurd cc),
)

-- the second processor's, too
second_follows : (p : Past) → Follows (record p {
  guest = 2;
  history = Called (Processor 2 1) (Alloc 0 1) [] Done ∷ [];
  scripts = script [] 0 ∷ script (Stats ∷ []) 1 ∷ [];
}) → ⊥
second_follows p is =
    let wrong : Alloc 0 1 ∷ [] ≡ Stats ∷ [] = is 1 (script (Stats ∷ []) 1) refl in absurd cc

-- what is noted of a processor's next call, and of a service
next : (reply : Reply) (old new : Past) → NotesNext 1 reply old new
    → (s : Progress) × (call : Call) × (claims : List Claim)
    × (slice_get old.scripts 1 ≡ Some s) × (slice_get s.calls s.place ≡ Some call)
    × (new ≡ record (noted (Processor old.guest 1) call claims reply old) {
      scripts = slice_set old.scripts 1 (record s { place = s.place + 1 });
    })
next reply old new is = is

service : (reply : Reply) (old new : Past) → NotesService 8 reply old new
    → (call : Call) × (claims : List Claim) × (slice_get services 8 ≡ Some call)
    × (new ≡ noted (Worker old.guest) call claims reply old)
service reply old new is = is

-- what is kept of a guest that was just started, whose script has no call, whatever frames are out
just_started_is_kept : (Is : Guest → Type 0) (own : List ℕ) (sizes : Sizes) (claims : List Claim)
    (reply : Reply) → is_config sizes.pages sizes.queue_size sizes.processors ≡ true
    → StepsTo Is claims (fresh (config_of sizes true) 0) (Init OFFERED_FEATURES) reply
    → ((g : Guest) → Is g → AreBehind own g)
    → IsKept Is own (just_started 3 sizes true (script [] 0 ∷ []) claims reply)
just_started_is_kept Is own sizes claims reply fits s behind =
    kept_start Is own 3 sizes true (script [] 0 ∷ []) claims reply fits nothing_made s behind where
      nothing_made : AreBegun (script [] 0 ∷ [])
      nothing_made cpu s is = grind (arith, is)

-- of the guest that is there: what is kept beside what calls are promised
kept : (Is : Guest → Type 0) (own : List ℕ) (p : Past) → IsKept Is own p → (now : Guest) × Is now
    × IsHistory (config_of p.sizes p.paced) 0 p.history now × IsTended now × AreBehind own now
    × AreMade p.guest (length p.scripts) p.history × Follows p
    × ((n : ℕ) (call : Call) → slice_index_or p.quiet n false ≡ true → slice_get services n ≡ Some call
    → IsQuiet now call)
    × ((cpu : ℕ) (s : Progress) → slice_get p.scripts cpu ≡ Some s → IsScript cpu s.calls)
kept Is own p is = (
  is.now,
  is.stands,
  is.run,
  is.tended,
  is.behind,
  is.made,
  is.follows,
  is.hushed,
  is.scripted,
)

-- and no more than that is kept
no_more_is_kept : (Is : Guest → Type 0) (own : List ℕ) (p : Past) (now : Guest) → Is now
    → IsHistory (config_of p.sizes p.paced) 0 p.history now → IsTended now → AreBehind own now
    → AreMade p.guest (length p.scripts) p.history → Follows p
    → ((n : ℕ) (call : Call) → slice_index_or p.quiet n false ≡ true → slice_get services n ≡ Some call
    → IsQuiet now call)
    → ((cpu : ℕ) (s : Progress) → slice_get p.scripts cpu ≡ Some s → IsScript cpu s.calls)
    → IsKept Is own p
no_more_is_kept Is own p now stands run tended behind made follows hushed scripted = record {
  now = now;
  stands = stands;
  run = run;
  tended = tended;
  behind = behind;
  made = made;
  follows = follows;
  hushed = hushed;
  scripted = scripted;
}
