-- How many numbers a notice tells at once: from what a chain's bytes come to up to the end.
use Rattle.std.{specs.Prelude.{◌==◌, nat_le}, proofs.lemmas.Bool.Decides.nat_tests}
use Rattle.std.proofs.Common.{◌≡◌, ◌∙◌, ap, sym, subst, refl, arith, ℕ, ◌+◌, ◌-◌, ◌/◌, ◌<◌, ◌≤◌, Bool}
use Rattle.std.proofs.Common.{true, false, List, [], ◌∷◌, ◌++◌, length, take, map, Option, Some, None}
use Rattle.std.proofs.Common.{Result, Ok, Err}
use Rattle.vb_virtio.specs.declared.limits.TheConstants.{MAX_REQUEST_PAGES}
use Rattle.vb_request.{specs.Request.numbers_of, proofs.Once.numbers_of-length}
use Rattle.vb_chain.specs.declared.fault.ChainFault.{ChainFault}
use Rattle.vb_core.specs.declared.kinds.Kind.{Kind}
use Rattle.vb_core.specs.declared.kinds.Kind.TheVariants.{Inflate, Deflate, Statistics, Hint, Report}
use Rattle.vb_core.specs.declared.{name.Named.Named, runs.Run.Run, ring.UsedEntry.UsedEntry}
use Rattle.vb_core.specs.declared.device.{Denial.Denial, Device.Device}
use Rattle.vb_core.specs.{Devices.{ring_of, needing_reset, with_one_taken}, Rings.used_entry, Using.use_denial}
use Rattle.vb_core.specs.{Name.{NamesNumbersBy, name_denial}, Config.keeps_free, Settings.holds_chains}
use Rattle.vb_core.specs.Statistics.{statistics_denial}
use Rattle.vb_monitor.specs.declared.{cuts.Cut.Cut, regions.Spot.Spot, giving.UsedSpots.UsedSpots}
use Rattle.vb_monitor.specs.declared.{room.TheConstants.MAX_FIGURES}
use Rattle.vb_monitor.specs.declared.outcome.{HeldChain.HeldChain, Tally.Tally}
use Rattle.vb_monitor.specs.{Accesses.{Access, Discard}, Budgets.{numbers_in, IsWithinBudget, KeepsBudget}}
use Rattle.vb_monitor.specs.{Ends.{Whole, Ends, EndsWhere, FlagsAt, Breaks}, Regions.spot}
use Rattle.vb_monitor.specs.Giving.{Then, UsedAt, GivesBackBy, GivesBack, used_spots, after_use, with_given}
use Rattle.vb_monitor.specs.Giving.{DiscardsThen, OnceTold, TellsThen, AfterName, spent, held_if, more_told}
use Rattle.vb_monitor.specs.Giving.{cuts_for, is_kept, with_named}
use Rattle.vb_monitor.specs.Chains.{AfterBytes, FiguresBy, IdBy, id_of, after_id, NamesBytes}
use Rattle.vb_monitor.proofs.{RoomLemmas.has_room, NamedLemmas.named_numbers}

-- n numbers were told since the notice began or paused last, and as many fewer may be named yet
pub record Counts (most n : ℕ) (t : Tally) : Type 0 where
  pub left : t.pages ≡ most - n
  pub same : t.most_pages ≡ most

pub asked : (kind : Kind) (most n : ℕ) (log start : List Access) → log ≡ start →
    KeepsBudget kind most n start → KeepsBudget kind most n log
asked kind most n log start e h = subst (λ (l : List Access). KeepsBudget kind most n l) (sym e) h

-- ---- the end

flags_keep : (w : Whole) (d : Device) (t : Tally) (why : Option Denial) (more : Bool)
    (o : Option Spot) (most n : ℕ) (log : List Access) → FlagsAt w d t why more o log →
    KeepsBudget w.kind most n log
flags_keep w d t why more None most n log h = asked w.kind most n log [] h.nothing tt
flags_keep w d t why more (Some at) most n log h = asked w.kind most n log _ h.asks
    (asked w.kind most n h.rest [] h.then_stops.nothing tt)

where_keeps : (given : Bool) (w : Whole) (d : Device) (t : Tally) (why : Option Denial)
    (more : Bool) (most n : ℕ) (log : List Access) → EndsWhere given w d t why more log →
    KeepsBudget w.kind most n log
where_keeps true w d t why more most n log h =
    flags_keep w d t why more (spot w.regions (ring_of w.kind d).avail 2) most n log h
where_keeps false w d t why more most n log h = asked w.kind most n log [] h.nothing tt

pub ends_keep : (w : Whole) (d : Device) (t : Tally) (why : Option Denial) (more : Bool)
    (most n : ℕ) (log : List Access) → Ends w d t why more log → KeepsBudget w.kind most n log
ends_keep w d t why more most n log h = where_keeps t.given w d t why more most n log h

pub breaks_keep : (w : Whole) (d : Device) (t : Tally) (fault : ChainFault) (most n : ℕ)
    (log : List Access) → Breaks w d t fault log → KeepsBudget w.kind most n log
breaks_keep w d t fault most n log h = ends_keep w (needing_reset d) t _ false most n log h

-- ---- a chain is given back

-- what comes then keeps the budget
abbrev pub After : Whole → ℕ → Then → Type 0
After w most next = (d : Device) (t : Tally) (n : ℕ) (log : List Access) → Counts most n t →
    next d t log → KeepsBudget w.kind most n log

used_keeps : (w : Whole) (next : List Access → Type 0) (d : Device) (t : Tally) (e : UsedEntry)
    (o : Option UsedSpots) (most n : ℕ)
    (on : (rest : List Access) → next rest → KeepsBudget w.kind most n rest) (log : List Access) →
    UsedAt w next d t e o log → KeepsBudget w.kind most n log
used_keeps w next d t e None most n on log h = breaks_keep w d t _ most n log h
used_keeps w next d t e (Some s) most n on log h =
    asked w.kind most n log _ h.asks (on h.rest h.goes_on)

gives_keep : (w : Whole) (next : Then) (most : ℕ) (on : After w most next) (d : Device) (t : Tally)
    (head n : ℕ) (denial : Option Denial) (log : List Access) → Counts most n t →
    GivesBackBy denial w next d t head log → KeepsBudget w.kind most n log
gives_keep w next most on d t head n (Some why) log c h = ends_keep w d t _ false most n log h
gives_keep w next most on d t head n None log c h =
    used_keeps w (next (after_use w.kind d) (with_given t)) (after_use w.kind d) t
    (used_entry (ring_of w.kind d) head) (used_spots w.regions (used_entry (ring_of w.kind d) head))
    most n (λ rest x. on (after_use w.kind d) (with_given t) n rest
    (record { left = c.left; same = c.same }) x) log h

-- ---- what is told

discards_keep : (kind : Kind) (most n : ℕ) (cuts : List Cut) (rest : List Access) →
    KeepsBudget kind most n rest → KeepsBudget kind most n (map Discard cuts ++ rest)
discards_keep kind most n [] rest h = h
discards_keep kind most n (cut ∷ cuts) rest h = discards_keep kind most n cuts rest h

pub then_keep : (kind : Kind) (most n : ℕ) (on : List Access → Type 0) (cuts : List Cut)
    (go : (rest : List Access) → on rest → KeepsBudget kind most n rest) (log : List Access) →
    DiscardsThen on cuts log → KeepsBudget kind most n log
then_keep kind most n on cuts go log h = asked kind most n log _ h.asks
    (discards_keep kind most n cuts h.rest (go h.rest h.goes_on))

once_keeps : (w : Whole) (next : Then) (most : ℕ) (on : After w most next) (d : Device) (t : Tally)
    (held : Option HeldChain) (head n : ℕ) (cuts : List Cut) (log : List Access) → Counts most n t →
    OnceTold held w next d t head cuts log → KeepsBudget w.kind most n log
once_keeps w next most on d t (Some held) head n cuts log c h = ends_keep w d t None false most n log h
once_keeps w next most on d t None head n cuts log c h =
    then_keep w.kind most n (GivesBack w next d t head) cuts
    (λ rest x. gives_keep w next most on d t head n (use_denial w.kind head d) rest c x) log h

pub fewer : (most n pages numbers a b : ℕ) → pages ≡ most - n → numbers ≡ a + b →
    pages - a - b ≡ most - (n + numbers)
fewer most n pages numbers a b e f = omega (arith, e, f)

pub spent_counts : (most n : ℕ) (t : Tally) (named : Named) → Counts most n t →
    Counts most (n + numbers_in named) (spent named t)
spent_counts most n t named c = record {
  left = fewer most n t.pages (numbers_in named) named.pages named.skipped c.left refl;
  same = c.same;
}

held_counts : (b : Bool) (most n head pages : ℕ) (t : Tally) → Counts most n t →
    Counts most n (held_if b head pages t)
held_counts true most n head pages t c = record { left = c.left; same = c.same }
held_counts false most n head pages t c = c

-- as many as a portion has are within the budget
within_by : (kind : Kind) (most n numbers : ℕ) → n < most → numbers ≤ 256 →
    IsWithinBudget kind most (n + numbers)
within_by Inflate most n numbers lt few = omega (arith, lt, few)
within_by Deflate most n numbers lt few = omega (arith, lt, few)
within_by Statistics most n numbers lt few = tt
within_by Hint most n numbers lt few = tt
within_by Report most n numbers lt few = tt

tells_keep : (w : Whole) (next : Then) (most : ℕ) (on : After w most next) (d : Device) (t : Tally)
    (head n : ℕ) (runs : List Run) (named : Named) (log : List Access) → n < most →
    IsWithinBudget w.kind most (n + numbers_in named) → Counts most (n + numbers_in named) t →
    TellsThen w next d t head runs named log → KeepsBudget w.kind most n log
tells_keep w next most on d t head n runs named log lt few c h =
    asked w.kind most n log _ h.asks (
      lt,
      few,
      once_keeps w next most on d t t.held head
          (n + numbers_in named) (cuts_for w.kind (is_kept w.kind t.keeps (keeps_free w.kind d)) w.regions runs)
          h.rest c h.goes_on,
    )

pub names_keep : (w : Whole) (next : Then) (most : ℕ) (on : After w most next) (d : Device)
    (t : Tally) (head n : ℕ) (runs : List Run) (answer : Result Named Denial) (log : List Access) →
    n < most → ((named : Named) → answer ≡ Ok named →
    IsWithinBudget w.kind most (n + numbers_in named)) → Counts most n t →
    AfterName w next d t head runs answer log → KeepsBudget w.kind most n log
names_keep w next most on d t head n runs (Err why) log lt few c h =
    ends_keep w d t _ false most n log h
names_keep w next most on d t head n runs (Ok named) log lt few c h =
    tells_keep w next most on d (with_named w.kind d.settings head named t) head n (take named.runs runs)
    named log lt (few named refl) (held_counts (holds_chains w.kind d.settings) most
    (n + numbers_in named) head (more_told t.told named.pages) (spent named t)
    (spent_counts most n t named c)) h

-- ---- what is named at once

few_by : (o : Option Denial) (kind : Kind) (bytes : List ℕ) (runs : List Run) (d1 d2 : Device)
    (named : Named) → name_denial kind (length bytes) MAX_REQUEST_PAGES d1 ≡ o →
    NamesNumbersBy kind bytes MAX_REQUEST_PAGES runs d1 d2 (Ok named) → numbers_in named ≤ 256
few_by (Some why) kind bytes runs d1 d2 named e names =
    let wrong : Ok named ≡ Err why = (names.denied why e).0 in absurd cc
few_by None kind bytes runs d1 d2 named e names =
    let all = (named_numbers kind bytes MAX_REQUEST_PAGES runs d1 d2 named names).0.skipped in
    let long : length (numbers_of bytes) ≡ length bytes / 4 = numbers_of-length bytes in
    let fits : length bytes / 4 ≤ 256 = has_room kind (length bytes) MAX_REQUEST_PAGES d1 e in
    omega (arith, all, long, fits)

pub few_numbers : (kind : Kind) (most n : ℕ) (bytes : List ℕ) (runs : List Run) (d1 d2 : Device)
    (answer : Result Named Denial) → n < most →
    NamesNumbersBy kind bytes MAX_REQUEST_PAGES runs d1 d2 answer → (named : Named) →
    answer ≡ Ok named → IsWithinBudget kind most (n + numbers_in named)
few_numbers kind most n bytes runs d1 d2 answer lt names named e =
    within_by kind most n (numbers_in named) lt
    (few_by (name_denial kind (length bytes) MAX_REQUEST_PAGES d1) kind bytes runs d1 d2 named refl
    (subst (λ (a : Result Named Denial). NamesNumbersBy kind bytes MAX_REQUEST_PAGES runs d1 d2 a) e names))

-- ---- the bytes of a chain

figures_keep : (w : Whole) (d : Device) (t : Tally) (head most n : ℕ) (bytes : List ℕ)
    (denial : Option Denial) (log : List Access) → FiguresBy denial w d t head bytes log →
    KeepsBudget w.kind most n log
figures_keep w d t head most n bytes (Some why) log h = ends_keep w d t _ false most n log h
figures_keep w d t head most n bytes None log h = asked w.kind most n log _ h.tells.asks
    (ends_keep w (with_one_taken Statistics d) _ None false most n h.tells.rest h.tells.ends)

id_keeps : (w : Whole) (next : Then) (most : ℕ) (on : After w most next) (d : Device) (t : Tally)
    (head n : ℕ) (o : Option ℕ) (log : List Access) → Counts most n t → IdBy o w next d t head log →
    KeepsBudget w.kind most n log
id_keeps w next most on d t head n None log c h = breaks_keep w d t _ most n log h
id_keeps w next most on d t head n (Some id) log c h = asked w.kind most n log _ h.asks
    (gives_keep w next most on (after_id id d) t head n (use_denial w.kind head (after_id id d)) h.rest c
    h.goes_on)

bytes_named : (w : Whole) (next : Then) (most : ℕ) (on : After w most next) (d : Device) (t : Tally)
    (head n : ℕ) (bytes : List ℕ) (log : List Access) → n < most → Counts most n t →
    NamesBytes w next d t head bytes log → KeepsBudget w.kind most n log
bytes_named w next most on d t head n bytes log lt c h = names_keep w next most on _ t head n h.runs
    h.answer log lt (few_numbers w.kind most n bytes h.runs d h.device h.answer lt h.names) c h.goes_on

pub bytes_keep : (kind : Kind) (w : Whole) (next : Then) (most : ℕ) (on : After w most next)
    (d : Device) (t : Tally) (head n : ℕ) (bytes : List ℕ) (log : List Access) → n < most →
    Counts most n t → AfterBytes kind w next d t head bytes log → KeepsBudget w.kind most n log
bytes_keep Inflate w next most on d t head n bytes log lt c h =
    bytes_named w next most on d t head n bytes log lt c h
bytes_keep Deflate w next most on d t head n bytes log lt c h =
    bytes_named w next most on d t head n bytes log lt c h
bytes_keep Statistics w next most on d t head n bytes log lt c h =
    figures_keep w d t head most n bytes (statistics_denial (length bytes) MAX_FIGURES d) log h
bytes_keep Hint w next most on d t head n bytes log lt c h =
    id_keeps w next most on d t head n (id_of bytes) log c h
bytes_keep Report w next most on d t head n bytes log lt c h =
    bytes_named w next most on d t head n bytes log lt c h
