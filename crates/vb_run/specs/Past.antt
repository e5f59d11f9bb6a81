-- What a guest's lock keeps.
use Rattle.std.specs.Prelude.{◌≡◌, ℕ, ◌+◌, ◌<◌, Bool, true, false, List, [], ◌∷◌, ◌++◌, length}
use Rattle.std.specs.Prelude.{take, Some, replicate, map}
use Rattle.std.specs.Prelude.{slice_get, slice_index_or, slice_set, ⊤}
use Rattle.std.specs.List.{list_all}
use Rattle.std.specs.declared.vec.Vec.{Vec}
use Rattle.std.specs.declared.alloc.Global.{Global}
use Rattle.vb_virtio.specs.declared.negotiation.TheConstants.{OFFERED_FEATURES}
use Rattle.vb_model.specs.declared.calls.Actor.{Actor}
use Rattle.vb_model.specs.declared.calls.Actor.TheVariants.{Starter, Processor, Worker, Balancer}
use Rattle.vb_model.specs.declared.calls.Call.{Call}
use Rattle.vb_model.specs.declared.calls.Call.TheVariants.{Init}
use Rattle.vb_model.specs.declared.calls.Claim.{Claim}
use Rattle.vb_model.specs.declared.replies.Reply.{Reply}
use Rattle.vb_model.specs.Guest.{Guest}
use Rattle.vb_model.specs.GuestRun.{Entry, Called, IsHistory}
use Rattle.vb_slot.specs.Alone.{AreBehind}
use Rattle.vb_run.specs.Entries.{calls_by}
use Rattle.vb_ram.specs.declared.config.Config.{Config as Sizes}
use Rattle.vb_run.specs.Made.{AreMade}
use Rattle.vb_run.specs.Plans.{may_stand, config_of}
use Rattle.vb_run.specs.Services.{IsTended, IsQuiet, services}

-- a processor's script, and how many of its calls were made
pub record Progress : Type 0 where
  pub calls : List Call
  pub place : ℕ

-- the calls of all scripts
abbrev pub scripts_in : List Progress → List (List Call)
scripts_in scripts = map (λ s. s.calls) scripts

pub record Past : Type 0 where
  -- the guest's number, how large it was plugged in, and whether its device is paced
  pub guest : ℕ
  pub sizes : Sizes
  pub paced : Bool
  pub history : List Entry
  -- the script of each processor
  pub scripts : List Progress
  -- of each call of the worker, whether it is known to find nothing to do
  pub quiet : List Bool
  -- some growth was refused
  pub short : Bool

-- what each processor called is its script up to its place
abbrev pub Follows : Past → Type 0
Follows p =
    (cpu : ℕ) (s : Progress) → slice_get p.scripts cpu ≡ Some s
    → calls_by (Processor p.guest cpu) p.history ≡ take s.place s.calls

-- the processor's script has only calls that may be there
abbrev pub IsScript : ℕ → List Call → Type 0
IsScript cpu calls = list_all (may_stand cpu) calls ≡ true

-- The history is a run from plug on that ends in the guest that is there, each processor called its
-- script up to its place, and the frames that back the guest's pages are just its device's own.
pub record IsKept (Is : Guest → Type 0) (own : List ℕ) (p : Past) : Type 0 where
  pub now : Guest
  pub stands : Is now
  pub run : IsHistory (config_of p.sizes p.paced) 0 p.history now
  pub tended : IsTended now
  pub behind : AreBehind own now
  pub made : AreMade p.guest (length p.scripts) p.history
  pub follows : Follows p
  pub hushed : (n : ℕ) (call : Call) → slice_index_or p.quiet n false ≡ true
      → slice_get services n ≡ Some call → IsQuiet now call
  pub scripted : (cpu : ℕ) (s : Progress) → slice_get p.scripts cpu ≡ Some s → IsScript cpu s.calls

-- of no call of the worker it is known whether it finds something to do
abbrev pub unknown : List Bool
unknown = replicate (length services) false

-- what a lock keeps of a guest that was just started
abbrev pub just_started : ℕ → Sizes → Bool → List Progress → List Claim → Reply → Past
just_started guest sizes paced scripts claims reply =
    record {
      guest = guest;
      sizes = sizes;
      paced = paced;
      history = Called Starter (Init OFFERED_FEATURES) claims reply ∷ [];
      scripts = scripts;
      quiet = unknown;
      short = false;
    }

-- the actor's call is the last entry, and the only new one
abbrev pub noted : Actor → Call → List Claim → Reply → Past → Past
noted actor call claims reply p =
    record p { history = p.history ++ Called actor call claims reply ∷ []; quiet = unknown }

-- what the actor called is noted, and nothing else changed
abbrev pub Notes : Actor → Call → Past → Past → Type 0
Notes actor call old new =
    (claims : List Claim) × (reply : Reply) × (new ≡ noted actor call claims reply old)

-- no call is left of the processor's script, or it has none
abbrev pub HasEnded : ℕ → Past → Type 0
HasEnded cpu p = (s : Progress) → slice_get p.scripts cpu ≡ Some s → s.place ≡ length s.calls

-- the call at the place of the processor's script is noted with this reply, and the place is one
-- further
abbrev pub NotesNext : ℕ → Reply → Past → Past → Type 0
NotesNext cpu reply old new =
    (s : Progress) × (call : Call) × (claims : List Claim)
    × (slice_get old.scripts cpu ≡ Some s) × (slice_get s.calls s.place ≡ Some call)
    × (new ≡ record (noted (Processor old.guest cpu) call claims reply old) {
      scripts = slice_set old.scripts cpu (record s { place = s.place + 1 });
    })

-- the worker's call of this number is noted with this reply
abbrev pub NotesService : ℕ → Reply → Past → Past → Type 0
NotesService number reply old new =
    (call : Call) × (claims : List Claim) × (slice_get services number ≡ Some call)
    × (new ≡ noted (Worker old.guest) call claims reply old)

-- none of the worker's calls finds anything to do
abbrev pub AreHushed : List Bool → Type 0
AreHushed quiet = (n : ℕ) → n < length services → slice_index_or quiet n false ≡ true

-- not a processor
abbrev pub IsAside : Actor → Type 0
IsAside Starter = ⊤
IsAside (Processor guest cpu) = ⊥
IsAside (Worker guest) = ⊤
IsAside Balancer = ⊤

-- the same guest with the same scripts, and as short of memory
pub record IsSame (old new : Past) : Type 0 where
  pub guest : new.guest ≡ old.guest
  pub sizes : new.sizes ≡ old.sizes
  pub paced : new.paced ≡ old.paced
  pub scripts : new.scripts ≡ old.scripts
  pub short : new.short ≡ old.short

abbrev pub AllEnded : List Progress → Type 0
AllEnded scripts =
    (cpu : ℕ) (s : Progress) → slice_get scripts cpu ≡ Some s → s.place ≡ length s.calls

-- scripts of processors of which no call was made
abbrev pub AreBegun : List Progress → Type 0
AreBegun scripts =
    (cpu : ℕ) (s : Progress) → slice_get scripts cpu ≡ Some s
    → (s.place ≡ 0) × IsScript cpu s.calls

-- the scripts' calls are these
abbrev pub AreScripts : List Progress → List (Vec Call Global) → Type 0
AreScripts scripts calls =
    (length scripts ≡ length calls)
    × ((cpu : ℕ) (s : Progress) (own : Vec Call Global) → slice_get scripts cpu ≡ Some s
    → slice_get calls cpu ≡ Some own → s.calls ≡ own.items)
