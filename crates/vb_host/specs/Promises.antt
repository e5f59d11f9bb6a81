-- What must hold of the whole system.
use Rattle.std.specs.Prelude.{◌≡◌, ◌≢◌, ◌⊎◌, ℕ, ◌+◌, ◌-◌, ◌≤◌, ◌<◌, ◌==◌, Bool, true, false}
use Rattle.std.specs.Prelude.{◌&&◌, ⊤, List, [], ◌∷◌, length, Some, sum_by, max, slice_get}
use Rattle.std.specs.Prelude.{if◌then◌else◌}
use Rattle.std.specs.List.{AllByRecursion}
use Rattle.vb_host.specs.declared.event.Event.{Event}
use Rattle.vb_host.specs.declared.event.Event.TheVariants.{Hears as EventHears}
use Rattle.vb_host.specs.declared.event.Event.TheVariants.{Grants as EventGrants}
use Rattle.vb_host.specs.declared.event.Event.TheVariants.{Overdraws as EventOverdraws}
use Rattle.vb_host.specs.declared.event.Event.TheVariants.{Wants as EventWants}
use Rattle.vb_host.specs.declared.event.Event.TheVariants.{Targets as EventTargets}
use Rattle.vb_host.specs.declared.event.Event.TheVariants.{Arrives as EventArrives}
use Rattle.vb_host.specs.declared.event.Event.TheVariants.{TakesOver as EventTakesOver}
use Rattle.vb_host.specs.declared.event.Event.TheVariants.{Joins as EventJoins}
use Rattle.vb_host.specs.declared.event.Event.TheVariants.{Uncounts as EventUncounts}
use Rattle.vb_host.specs.declared.event.Event.TheVariants.{Budget as EventBudget}
use Rattle.vb_host.specs.declared.event.Event.TheVariants.{Prefers as EventPrefers}
use Rattle.vb_host.specs.declared.event.Event.TheVariants.{Defers as EventDefers}
use Rattle.vb_host.specs.declared.report.Report.{Report}
use Rattle.vb_host.specs.declared.seat.Seat.{Seat}
use Rattle.vb_host.specs.Lending.{outside_at, pages_at, test_at, Lending, owed, lent_at}
use Rattle.vb_host.specs.Lending.{waited, is_first, may_grant, happens, held_at, room, run}
use Rattle.vb_host.specs.Line.{GrantsNone, IsStep}
use Rattle.vb_host.specs.Seats.{lent, waits, granting, heard, possible_target, covers, taken_over}
use Rattle.vb_host.specs.Seats.{due_target, due_grant, queued}
use Rattle.vb_host.specs.Seats.{is_uncounted}
use Rattle.vb_host.specs.System.{Process, Guest, Host, Step, Hears, Grants, Overdraws, Wants}
use Rattle.vb_host.specs.System.{Uncounts, Arrives, Joins, TakesOver, seats, Budget, snapshot}
use Rattle.vb_host.specs.System.{through, opened, lending, goes, report_at, Targets, Prefers}
use Rattle.vb_host.specs.System.{Defers}

-- ---- 1. the budget

-- what a guest uses: its pages that aren't in its balloon, and those outside
abbrev pub used : Guest → ℕ
used g = g.process.pages - g.process.balloon + g.process.outside

-- of a strict guest this number, of another one none
abbrev pub strictly : Bool → ℕ → ℕ
strictly true n = n
strictly false n = 0

-- what all strict guests use
abbrev pub all_used : Host → ℕ
all_used h = sum_by (λ g. strictly g.strict (used g)) h.guests

-- no budget is set below an earlier one, and no guest takes pages unasked
abbrev pub NeverLowers : ℕ → List Step → Type 0
NeverLowers frames [] = ⊤
NeverLowers frames (Budget more ∷ steps) = (frames ≤ more) × NeverLowers more steps
NeverLowers frames (Uncounts n ∷ steps) = ⊥
NeverLowers frames (_ ∷ steps) = NeverLowers frames steps

-- In each state of each run the guests together use no more than the budget and the overdraft,
-- whatever becomes of the messages, and whichever lender there is.
abbrev pub BudgetHolds : Type 0
BudgetHolds =
    (frames overdraft : ℕ) (sizes : List ℕ) (steps : List Step) → NeverLowers frames steps
    → all_used (through steps (opened frames overdraft sizes))
    ≤ (through steps (opened frames overdraft sizes)).frames + overdraft

-- what all guests are lent, by what the last lenders that knew them knew
abbrev pub all_lent : Host → ℕ
all_lent h = sum_by (λ g. strictly g.strict (lent g.seat)) h.guests

-- the budget stays, and no guest is uncounted
abbrev pub IsOrdinary : Step → Type 0
IsOrdinary (Budget frames) = ⊥
IsOrdinary (Uncounts n) = ⊥
IsOrdinary _ = ⊤

-- and nothing is granted from the overdraft
abbrev pub PaysBack : Step → Type 0
PaysBack (Budget frames) = ⊥
PaysBack (Uncounts n) = ⊥
PaysBack (Overdraws n) = ⊥
PaysBack _ = ⊤

-- From any state of a run on, as of one in which the budget was lowered or a guest uncounted, the
-- guests never use more than the larger of the budget, with the overdraft, and what they were lent;
-- and while nothing is granted from the overdraft, of the budget alone.
abbrev pub NeverMore : Type 0
NeverMore =
    (frames overdraft : ℕ) (sizes : List ℕ) (before after : List Step)
    → AllByRecursion IsOrdinary after
    → all_used (through after (through before (opened frames overdraft sizes)))
    ≤ max ((through before (opened frames overdraft sizes)).frames
    + (through before (opened frames overdraft sizes)).overdraft)
    (all_lent (through before (opened frames overdraft sizes)))

abbrev pub IsPaidBack : Type 0
IsPaidBack =
    (frames overdraft : ℕ) (sizes : List ℕ) (before after : List Step)
    → AllByRecursion PaysBack after
    → all_used (through after (through before (opened frames overdraft sizes)))
    ≤ max (through before (opened frames overdraft sizes)).frames
    (all_lent (through before (opened frames overdraft sizes)))

-- In each state of each run no guest uses more than the limit in force, nor than one that a write
-- sets which is on its way.
abbrev pub LimitsHold : Type 0
LimitsHold =
    (frames overdraft : ℕ) (sizes : List ℕ) (steps : List Step) (n : ℕ) (g : Guest)
    → slice_get (through steps (opened frames overdraft sizes)).guests n ≡ Some g
    → g.strict ≡ true → (used g ≤ g.limit.force) × (used g ≤ g.limit.asked)

-- ---- 2. a deflate toward a target never waits

-- its process holds back a deflate that wasn't granted, and that goes no deeper than the target
-- which its driver has read
pub record IsTowardTarget (g : Guest) : Type 0 where
  pub holds : 0 < g.process.held
  pub waits : g.seat.granted < g.process.deflates
  pub no_deeper : g.process.read_target + g.process.held ≤ g.process.balloon

-- In each state of each run the lender grants it by what the process reports, whatever it received
-- before; and a later lender by its first report.
abbrev pub TowardNeverWaits : Type 0
TowardNeverWaits =
    (frames overdraft : ℕ) (sizes : List ℕ) (steps : List Step) (n turn : ℕ) (g : Guest)
    → slice_get (through steps (opened frames overdraft sizes)).guests n ≡ Some g
    → g.strict ≡ true → IsTowardTarget g
    → (heard turn (snapshot g.process) g.seat).granted ≡ g.process.deflates

abbrev pub TowardNeverWaitsLater : Type 0
TowardNeverWaitsLater =
    (p : Process) (turn : ℕ) → 0 < p.held → p.read_target + p.held ≤ p.balloon
    → covers (queued turn (taken_over p.pages (snapshot p))) ≡ true

-- ---- 3. never stuck unless short

-- Nothing is on its way between a guest and the lender: the lender knows it, no order is due to it,
-- its driver has read its target, and the lender knows that, and of the deflate that is held back.
pub record IsQuiet (g : Guest) : Type 0 where
  pub known : g.known ≡ true
  pub no_target : due_target (snapshot g.process) g.seat ≡ false
  pub no_grant : due_grant (snapshot g.process) g.seat ≡ false
  pub read_told : g.process.read_target ≡ g.seat.target
  pub heard_read : g.seat.least_target ≡ g.seat.target
  pub heard_held : 0 < g.process.held → g.process.deflates ≢ g.seat.granted → waits g.seat ≡ true

-- What the lender knows of a guest once it received its report: in each state, of each guest; of
-- the balloon, where that counts.
pub record HasTold (p : Process) (old new : Seat) : Type 0 where
  pub pages : new.pages ≡ p.pages
  pub outside : new.outside ≡ p.outside
  pub read_target : due_target (snapshot p) old ≡ false → p.read_target ≡ old.target
      → new.least_target ≡ new.target
  pub held : 0 < p.held → p.deflates ≢ new.granted → waits new ≡ true
  pub balloon : old.uncounted ≡ 0 → p.deflates ≢ new.granted → p.balloon ≤ new.ballooned
  pub without : old.uncounted ≡ 0 → p.balloon - p.held ≤ new.ballooned
  pub line : new.line ≡ p.line

abbrev pub ReportsTell : Type 0
ReportsTell =
    (frames overdraft : ℕ) (sizes : List ℕ) (steps : List Step) (n turn : ℕ) (g : Guest)
    → slice_get (through steps (opened frames overdraft sizes)).guests n ≡ Some g
    → g.strict ≡ true → HasTold g.process g.seat (heard turn (snapshot g.process) g.seat)

-- a guest that doesn't wait, and whose balloon counts, has as much in it as its target says
abbrev pub HasGiven : Guest → Type 0
HasGiven g = (waits g.seat ≡ false) → g.seat.uncounted ≡ 0 → g.seat.target ≤ g.seat.ballooned

-- what a guest keeps once it has what it waits for, or has reached its target; all its pages, where
-- its balloon counts no longer
abbrev pub keeps : Seat → ℕ
keeps s =
    if waits s then lent (granting s)
    else if is_uncounted s then s.pages + s.outside
    else s.pages + s.outside - s.target

abbrev pub all_keep : Host → ℕ
all_keep h = sum_by (λ g. keeps g.seat) h.guests

-- Where nothing is on its way, all that don't wait have reached their targets, and the targets
-- serve (what all keep is within the budget), the first that waits is granted next; so where no
-- guest can be granted, no guest's process holds a deflate.
abbrev pub NeverStuck : Type 0
NeverStuck =
    (frames overdraft : ℕ) (sizes : List ℕ) (steps : List Step) (n : ℕ)
    → AllByRecursion IsQuiet (through steps (opened frames overdraft sizes)).guests
    → AllByRecursion HasGiven (through steps (opened frames overdraft sizes)).guests
    → all_keep (through steps (opened frames overdraft sizes))
    ≤ (through steps (opened frames overdraft sizes)).frames
    → is_first (lending (through steps (opened frames overdraft sizes))).seats n ≡ true
    → may_grant (lending (through steps (opened frames overdraft sizes))) n ≡ true

abbrev pub NobodyWaits : Type 0
NobodyWaits =
    (frames overdraft : ℕ) (sizes : List ℕ) (steps : List Step) (n : ℕ) (g : Guest)
    → AllByRecursion IsQuiet (through steps (opened frames overdraft sizes)).guests
    → AllByRecursion HasGiven (through steps (opened frames overdraft sizes)).guests
    → all_keep (through steps (opened frames overdraft sizes))
    ≤ (through steps (opened frames overdraft sizes)).frames
    → GrantsNone (lending (through steps (opened frames overdraft sizes)))
    → slice_get (through steps (opened frames overdraft sizes)).guests n ≡ Some g
    → g.process.held ≡ 0

-- ---- steps, and the targets of those that don't wait

-- A step leaves nothing to grant, its targets included.
abbrev pub StepsSettle : Type 0
StepsSettle = (l m : Lending) (e : Event) → IsStep l e m → GrantsNone m

-- and has one outcome
abbrev pub OneOutcome : Type 0
OneOutcome = (l m k : Lending) (e : Event) → IsStep l e m → IsStep l e k → m ≡ k

-- After a step each target is the one that is possible, unless no number is left, where no more
-- pages are counted in a balloon than its guest has.
abbrev pub IsPossible : ℕ → Seat → Type 0
IsPossible room s =
    (s.target_number ≡ 18446744073709551615) ⊎ (s.target ≡ possible_target room s)

abbrev pub TargetsArePossible : Type 0
TargetsArePossible =
    (l m : Lending) (e : Event) → IsStep l e m
    → AllByRecursion (λ s. s.ballooned ≤ s.pages) m.seats
    → AllByRecursion (IsPossible (room m)) m.seats

-- So after a step another event that changes nothing isn't followed by anything.
abbrev pub SettledStays : Type 0
SettledStays =
    (l m k : Lending) (e f : Event) → IsStep l e m
    → AllByRecursion (λ s. s.ballooned ≤ s.pages) m.seats
    → happens m f ≡ m → IsStep m f k → k ≡ m

-- A target lends nothing of what those that wait ask for.
abbrev pub LeavesRoom : Type 0
LeavesRoom =
    (l : Lending) (n : ℕ) → owed (happens l (EventTargets n)).seats + waited l.seats
    ≤ max l.frames (owed l.seats + waited l.seats)

-- and no target is below the one that is wanted
abbrev pub NeverBelowWanted : Type 0
NeverBelowWanted = (room : ℕ) (s : Seat) → s.wanted ≤ possible_target room s

-- ---- a guest whose balloon counts no longer

-- no page of its balloon counts
abbrev pub counts_nothing : Seat → Bool
counts_nothing s = is_uncounted s && (s.ballooned == 0)

abbrev pub Uncounted : Type 0
Uncounted =
    (l : Lending) (n : ℕ) → n < length l.seats
    → test_at counts_nothing (happens l (EventUncounts n)).seats n ≡ true

-- after this event the same guest is at place n
abbrev pub IsStillThere : ℕ → Event → Type 0
IsStillThere n (EventArrives i pages ballooned) = n ≢ i
IsStillThere n (EventTakesOver i pages r) = n ≢ i
IsStillThere n (EventJoins i m) = n ≢ m
IsStillThere n _ = ⊤

-- That stays so, whatever it reports, until another guest is there.
abbrev pub StaysUncounted : Type 0
StaysUncounted =
    (l : Lending) (e : Event) (n : ℕ) → IsStillThere n e
    → test_at counts_nothing l.seats n ≡ true
    → test_at counts_nothing (happens l e).seats n ≡ true

-- After each step then all its pages are lent to it, with those outside, and it doesn't wait.
abbrev pub UncountedHasAll : Type 0
UncountedHasAll =
    (l m : Lending) (e : Event) (n : ℕ) → IsStep l e m
    → test_at counts_nothing (happens l e).seats n ≡ true
    → (test_at counts_nothing m.seats n ≡ true)
    × (lent_at m.seats n ≡ pages_at m.seats n + outside_at m.seats n) × (held_at m.seats n ≡ 0)

-- ---- the lender is the one of the system

-- grants and targets, which a step makes by itself
abbrev pub IsOwn : Event → Type 0
IsOwn (EventGrants n) = ⊤
IsOwn (EventTargets n) = ⊤
IsOwn _ = ⊥

-- What a step makes of a state its event does, then grants, then targets, one after another.
pub record IsByEvents (old : Lending) (event : Event) (new : Lending) : Type 0 where
  pub grants : List Event
  pub targets : List Event
  pub own_grants : AllByRecursion IsOwn grants
  pub own_targets : AllByRecursion IsOwn targets
  pub runs : new ≡ run targets (run grants (happens old event))

abbrev pub StepsAreEvents : Type 0
StepsAreEvents = (l m : Lending) (e : Event) → IsStep l e m → IsByEvents l e m

-- the lender knows guest n
abbrev pub IsKnownAt : Host → ℕ → Type 0
IsKnownAt h n = (g : Guest) → slice_get h.guests n ≡ Some g → g.known ≡ true

-- What the code makes of an event at a guest that it knows is what the system's lender does; also
-- where a guest arrives, and where its process connects to a later lender; and where memory that
-- holds no deflate joins a guest, with which it has fewer than 2^32 pages, once the lender knows
-- what was taken away from it.
pub record IsTheLender (h : Host) (n m : ℕ) : Type 0 where
  pub hears : IsKnownAt h n → (i : ℕ) (g : Guest) (r : Report) → slice_get h.guests n ≡ Some g
      → report_at g.reports i ≡ Some r
      → lending (goes h (Hears n i)) ≡ happens (lending h) (EventHears n r)
  pub grants : IsKnownAt h n
      → lending (goes h (Grants n)) ≡ happens (lending h) (EventGrants n)
  pub overdraws : IsKnownAt h n
      → lending (goes h (Overdraws n)) ≡ happens (lending h) (EventOverdraws n)
  pub prefers : IsKnownAt h n
      → lending (goes h (Prefers n)) ≡ happens (lending h) (EventPrefers n)
  pub defers : IsKnownAt h n
      → lending (goes h (Defers n)) ≡ happens (lending h) (EventDefers n)
  pub wants : IsKnownAt h n → (pages : ℕ)
      → lending (goes h (Wants n pages)) ≡ happens (lending h) (EventWants n pages)
  pub targets : IsKnownAt h n
      → lending (goes h (Targets n)) ≡ happens (lending h) (EventTargets n)
  pub uncounts : IsKnownAt h n
      → lending (goes h (Uncounts n)) ≡ happens (lending h) (EventUncounts n)
  pub arrives : (pages ballooned : ℕ) → lending (goes h (Arrives n pages ballooned))
      ≡ happens (lending h) (EventArrives n pages ballooned)
  pub joins : IsKnownAt h n → (g x : Guest) → slice_get h.guests n ≡ Some g
      → slice_get h.guests m ≡ Some x → x.known ≡ true → x.process.held ≡ 0
      → x.process.removed ≡ x.seat.removed
      → pages_at (seats h.guests) n + pages_at (seats h.guests) m < 4294967296
      → lending (goes h (Joins n m)) ≡ happens (lending h) (EventJoins n m)
  pub takes_over : (g : Guest) → slice_get h.guests n ≡ Some g
      → lending (goes h (TakesOver n))
      ≡ happens (lending h) (EventTakesOver n g.process.pages (snapshot g.process))
  pub sets : (frames : ℕ)
      → lending (goes h (Budget frames)) ≡ happens (lending h) (EventBudget frames)
