-- How many numbers a notice tells at once: from its begin up to what a chain's bytes come to.
use Rattle.std.{specs.Prelude.{◌==◌}, proofs.lemmas.Bool.Decides.nat_tests}
use Rattle.std.proofs.Common.{◌≡◌, ◌∙◌, ap, sym, subst, refl, arith, ℕ, zero, suc, ◌+◌, ◌-◌, ◌<◌, ◌≤◌, Bool}
use Rattle.std.proofs.Common.{true, false, List, [], ◌∷◌, length, take, Option, Some, None, Result, Ok, Err}
use Rattle.vb_virtio.specs.declared.limits.TheConstants.{MAX_QUEUE_SIZE}
use Rattle.vb_chain.specs.declared.{pieces.Piece.Piece, descriptor.Descriptor.Descriptor, fault.ChainFault.ChainFault}
use Rattle.vb_chain.specs.declared.fault.ChainFault.TheVariants.{BadHead, BadLength}
use Rattle.vb_chain.specs.Rules.{has_next}
use Rattle.vb_request.specs.Statistics.{statistics_length}
use Rattle.vb_core.specs.declared.kinds.Kind.{Kind}
use Rattle.vb_core.specs.declared.kinds.Kind.TheVariants.{Inflate, Deflate, Statistics, Hint, Report}
use Rattle.vb_core.specs.declared.{name.Named.Named, runs.Run.Run}
use Rattle.vb_core.specs.declared.device.{Denial.Denial, Device.Device}
use Rattle.vb_core.specs.Devices.{ring_of, queue_denial}
use Rattle.vb_core.specs.{Config.keeps_free}
use Rattle.vb_monitor.specs.declared.{parts.Part.Part, regions.Spot.Spot, regions.Region.Region}
use Rattle.vb_monitor.specs.declared.{room.TheConstants.MAX_BYTES}
use Rattle.vb_monitor.specs.declared.outcome.{Budget.Budget, HeldChain.HeldChain, Outcome.Outcome, Tally.Tally}
use Rattle.vb_monitor.specs.{Accesses.Access, Budgets.{numbers_in, IsWithinBudget, KeepsBudget}, Ends.Whole}
use Rattle.vb_monitor.specs.{Regions.spot, Pieces.{PartAt, all_parts}}
use Rattle.vb_monitor.specs.Giving.{Then, spent, cuts_for, is_kept}
use Rattle.vb_monitor.specs.Portions.{AfterPortion, ServesPortion, CopiesPart, CopiesParts, PausesIf, refilled, is_full}
use Rattle.vb_monitor.specs.Chains.{ServesBytes, CopiesBy, ServesHint, ServesPieces, NamesReport, told_if, tells_pages}
use Rattle.vb_monitor.specs.Chains.{id_length, has_id, request_length_within, table_fault, memory_end, descriptor_of}
use Rattle.vb_monitor.specs.Chains.{TableRow, row_of, in_row, no_row, longest, further_in_row, GoesOn, DescriptorBy}
use Rattle.vb_monitor.specs.Chains.{RowAt, FollowsBy, Follows}
use Rattle.vb_monitor.specs.Notices.{HeadBy, EntryAt, entry_offset, TakesUnlessSpent, TakesNext, AfterIndex, AfterGiven}
use Rattle.vb_monitor.specs.Notices.{AfterGivenBy, ServesPublished, IndexAt, LooksBy, Serves, stands, with_chains, fresh}
use Rattle.vb_monitor.proofs.BudgetLemmas.{Counts, asked, ends_keep, breaks_keep, After, then_keep, spent_counts, names_keep}
use Rattle.vb_monitor.proofs.BudgetLemmas.{few_numbers, bytes_keep}

-- fewer were told than may be, where some may be named yet, and all of them where none may
some_left : (most n pages : ℕ) → pages ≡ most - n → (pages == 0) ≡ false → n < most
some_left most n pages e some = let more : 1 ≤ pages = grind (arith, nat_tests) in omega (arith, e, more)

none_left : (most n pages : ℕ) → pages ≡ most - n → (pages == 0) ≡ true → most ≤ n
none_left most n pages e none = let is : pages ≡ 0 = grind (arith, nat_tests) in omega (arith, e, is)

-- ---- parts

-- bytes that come then keep the budget
abbrev Serving : Whole → ℕ → (Device → Tally → List ℕ → List Access → Type 0) → Type 0
Serving w most served = (d : Device) (t : Tally) (n : ℕ) (bytes : List ℕ) (log : List Access) →
    n < most → Counts most n t → served d t bytes log → KeepsBudget w.kind most n log

part_keeps : (w : Whole) (go : List ℕ → List Access → Type 0) (d : Device) (t : Tally) (part : Part)
    (so_far : List ℕ) (most n : ℕ)
    (on : (bytes : List ℕ) (rest : List Access) → go bytes rest → KeepsBudget w.kind most n rest)
    (o : Option Spot) (log : List Access) → n < most → PartAt w go d t part so_far o log →
    KeepsBudget w.kind most n log
part_keeps w go d t part so_far most n on None log lt h = breaks_keep w d t _ most n log h
part_keeps w go d t part so_far most n on (Some at) log lt h =
    asked w.kind most n log _ h.asks (lt, on _ h.rest h.goes_on)

-- more of a chain comes, at once or after a pause: none count then
further_keeps : (w : Whole) (most : ℕ) (t : Tally) (on : Tally → List Access → Type 0)
    (go : (t2 : Tally) (n2 : ℕ) (rest : List Access) → n2 < most → Counts most n2 t2 → on t2 rest →
    KeepsBudget w.kind most n2 rest) (spent_now : Bool) (n : ℕ) (log : List Access) → 0 < most →
    (t.pages == 0) ≡ spent_now → Counts most n t → PausesIf spent_now on t log →
    KeepsBudget w.kind most n log
further_keeps w most t on go false n log some e c h =
    go t n log (some_left most n t.pages c.left e) c h
further_keeps w most t on go true n log some e c h = asked w.kind most n log _ h.asks (
  none_left most n t.pages c.left e,
  go (refilled t) 0 h.rest some (record {
    left = let same = c.same in omega (arith, same);
    same = c.same;
  }) h.goes_on,
)

portion_by : (w : Whole) (most : ℕ) (d : Device) (t : Tally) (n : ℕ) (on : Tally → List Access → Type 0)
    (go : (t2 : Tally) (n2 : ℕ) (rest : List Access) → Counts most n2 t2 → on t2 rest →
    KeepsBudget w.kind most n2 rest) (runs : List Run) (answer : Result Named Denial)
    (log : List Access) → n < most → ((named : Named) → answer ≡ Ok named →
    IsWithinBudget w.kind most (n + numbers_in named)) → Counts most n t →
    AfterPortion w on d t runs answer log → KeepsBudget w.kind most n log
portion_by w most d t n on go runs (Err why) log lt few c h = ends_keep w d t _ false most n log h
portion_by w most d t n on go runs (Ok named) log lt few c h =
    let t2 = spent named t in
    let n2 = n + numbers_in named in
    asked w.kind most n log _ h.asks (
      lt,
      few named refl,
      then_keep w.kind most n2 (on t2)
          (cuts_for w.kind (is_kept w.kind t2.keeps (keeps_free w.kind d)) w.regions (take named.runs runs))
          (λ rest x. go t2 n2 rest (spent_counts most n t named c) x) h.rest h.goes_on,
    )

portion_keeps : (kind : Kind) (w : Whole) (most : ℕ) (d : Device) (t : Tally) (n : ℕ)
    (on : Device → Tally → List Access → Type 0)
    (go : (d2 : Device) (t2 : Tally) (n2 : ℕ) (rest : List Access) → Counts most n2 t2 → on d2 t2 rest →
    KeepsBudget w.kind most n2 rest) (bytes : List ℕ) (log : List Access) → n < most →
    Counts most n t → ServesPortion kind w on d t bytes log → KeepsBudget w.kind most n log
portion_keeps Inflate w most d t n on go bytes log lt c h = portion_by w most h.device t n (on h.device)
    (go h.device) h.runs h.answer log lt
    (few_numbers w.kind most n bytes h.runs d h.device h.answer lt h.names) c h.goes_on
portion_keeps Deflate w most d t n on go bytes log lt c h = portion_by w most h.device t n (on h.device)
    (go h.device) h.runs h.answer log lt
    (few_numbers w.kind most n bytes h.runs d h.device h.answer lt h.names) c h.goes_on
portion_keeps Statistics w most d t n on go bytes log lt c h = breaks_keep w d t BadLength most n log h
portion_keeps Hint w most d t n on go bytes log lt c h = breaks_keep w d t BadLength most n log h
portion_keeps Report w most d t n on go bytes log lt c h = breaks_keep w d t BadLength most n log h

-- parts that are copied, whatever was told before
abbrev Copying : Whole → ℕ → (Device → Tally → List ℕ → List Access → Type 0) → List Part → Type 0
Copying w most served parts = (d : Device) (t : Tally) (n : ℕ) (so_far : List ℕ) (log : List Access) →
    n < most → Counts most n t → CopiesParts w served d t parts so_far log → KeepsBudget w.kind most n log

part_by : (w : Whole) (most : ℕ) (served : Device → Tally → List ℕ → List Access → Type 0)
    (part : Part) (parts : List Part) (on : Copying w most served parts) (d : Device) (t : Tally)
    (n : ℕ) (so_far : List ℕ) (full : Bool) (log : List Access) → n < most → Counts most n t →
    CopiesPart full w (λ d2 t2 now rest. PartAt w (CopiesParts w served d2 t2 parts) d2 t2 part now
    (spot w.regions (part.address + part.plus) part.length) rest) d t so_far log →
    KeepsBudget w.kind most n log
part_by w most served part parts on d t n so_far false log lt c h =
    part_keeps w (CopiesParts w served d t parts) d t part so_far most n
    (λ bytes rest x. on d t n bytes rest lt c x) _ log lt h
part_by w most served part parts on d t n so_far true log lt c h =
    portion_keeps w.kind w most d t n _ (λ d2 t2 n2 rest c2 x. further_keeps w most t2
    (λ t3 last. PartAt w (CopiesParts w served d2 t3 parts) d2 t3 part []
    (spot w.regions (part.address + part.plus) part.length) last)
    (λ t3 n3 last lt3 c3 y. part_keeps w (CopiesParts w served d2 t3 parts) d2 t3 part [] most n3
    (λ bytes after z. on d2 t3 n3 bytes after lt3 c3 z) _ last lt3 y)
    (t2.pages == 0) n2 rest (omega (arith, lt)) refl c2 x) so_far log lt c h

copies_keep : (w : Whole) (most : ℕ) (served : Device → Tally → List ℕ → List Access → Type 0)
    (on : Serving w most served) (parts : List Part) → Copying w most served parts
copies_keep w most served on [] d t n so_far log lt c h = on d t n so_far log lt c h
copies_keep w most served on (part ∷ parts) d t n so_far log lt c h =
    part_by w most served part parts (copies_keep w most served on parts) d t n so_far (is_full so_far)
    log lt c h

-- ---- pieces

by_length : (w : Whole) (next : Then) (most : ℕ) (on : After w most next) (d : Device) (t : Tally)
    (head n : ℕ) (pieces : List Piece) (len : Result ℕ ChainFault) (log : List Access) → n < most →
    Counts most n t → CopiesBy len w next d t head pieces log → KeepsBudget w.kind most n log
by_length w next most on d t head n pieces (Err fault) log lt c h = breaks_keep w d t fault most n log h
by_length w next most on d t head n pieces (Ok bytes) log lt c h =
    copies_keep w most (ServesBytes w next head) (λ d2 t2 n2 bytes2 rest lt2 c2 x.
    bytes_keep w.kind w next most on d2 t2 head n2 bytes2 rest lt2 c2 x) (all_parts pieces) d t n [] log
    lt c h

-- a kind whose pieces name pages is told at once
abbrev IsFree : Kind → Type 0
IsFree kind = (most n : ℕ) → IsWithinBudget kind most n

report_keeps : (kind : Kind) (w : Whole) (e : w.kind ≡ kind) → IsFree kind → (next : Then) (most : ℕ)
    (on : After w most next) (d : Device) (t : Tally) (head n : ℕ) (pieces : List Piece)
    (log : List Access) → n < most → Counts most n t → NamesReport w next d t head pieces log →
    KeepsBudget w.kind most n log
report_keeps kind w e free next most on d t head n pieces log lt c h =
    names_keep w next most on h.device t head n h.runs (told_if (tells_pages w.kind d) h.answer) log lt
    (λ named is. subst (λ (k : Kind). IsWithinBudget k most (n + numbers_in named)) (sym e)
    (free most (n + numbers_in named))) c h.goes_on

hint_keeps : (w : Whole) (e : w.kind ≡ Hint) (next : Then) (most : ℕ) (on : After w most next)
    (d : Device) (t : Tally) (head n : ℕ) (pieces : List Piece) (has : Bool) (log : List Access) →
    n < most → Counts most n t → ServesHint has w next d t head pieces log →
    KeepsBudget w.kind most n log
hint_keeps w e next most on d t head n pieces true log lt c h =
    by_length w next most on d t head n pieces (id_length pieces) log lt c h
hint_keeps w e next most on d t head n pieces false log lt c h =
    report_keeps Hint w e (λ m k. tt) next most on d t head n pieces log lt c h

pieces_keep : (kind : Kind) (w : Whole) (e : w.kind ≡ kind) (next : Then) (most : ℕ)
    (on : After w most next) (d : Device) (t : Tally) (head n : ℕ) (pieces : List Piece)
    (log : List Access) → n < most → Counts most n t → ServesPieces kind w next d t head pieces log →
    KeepsBudget w.kind most n log
pieces_keep Inflate w e next most on d t head n pieces log lt c h =
    by_length w next most on d t head n pieces (request_length_within t.longest pieces) log lt c h
pieces_keep Deflate w e next most on d t head n pieces log lt c h =
    by_length w next most on d t head n pieces (request_length_within t.longest pieces) log lt c h
pieces_keep Statistics w e next most on d t head n pieces log lt c h =
    by_length w next most on d t head n pieces (statistics_length pieces) log lt c h
pieces_keep Hint w e next most on d t head n pieces log lt c h =
    hint_keeps w e next most on d t head n pieces (has_id pieces) log lt c h
pieces_keep Report w e next most on d t head n pieces log lt c h =
    report_keeps Report w e (λ m k. tt) next most on d t head n pieces log lt c h

-- ---- the walk

abbrev Following : Whole → ℕ → ℕ → (ℕ → Bool → List Piece → List Access → Type 0) → Type 0
Following w most n on = (number : ℕ) (writing : Bool) (pieces : List Piece) (rest : List Access) →
    on number writing pieces rest → KeepsBudget w.kind most n rest

abbrev Ending : Whole → ℕ → ℕ → (List Piece → List Access → Type 0) → Type 0
Ending w most n done = (pieces : List Piece) (rest : List Access) → done pieces rest →
    KeepsBudget w.kind most n rest

goes_keep : (w : Whole) (most n : ℕ) (on : ℕ → Bool → List Piece → List Access → Type 0)
    (done : List Piece → List Access → Type 0) (more : Following w most n on)
    (last : Ending w most n done) (more_so writing : Bool) (x : Descriptor) (pieces : List Piece)
    (log : List Access) → GoesOn more_so on done writing x pieces log → KeepsBudget w.kind most n log
goes_keep w most n on done more last true writing x pieces log h = more _ _ _ log h
goes_keep w most n on done more last false writing x pieces log h = last _ log h

descriptor_keeps : (w : Whole) (d : Device) (t : Tally) (most n : ℕ)
    (on : ℕ → Bool → List Piece → List Access → Type 0) (done : List Piece → List Access → Type 0)
    (more : Following w most n on) (last : Ending w most n done) (fault : Option ChainFault)
    (writing : Bool) (x : Descriptor) (pieces : List Piece) (log : List Access) →
    DescriptorBy fault w d t on done writing x pieces log → KeepsBudget w.kind most n log
descriptor_keeps w d t most n on done more last (Some fault) writing x pieces log h =
    breaks_keep w d t fault most n log h
descriptor_keeps w d t most n on done more last None writing x pieces log h =
    goes_keep w most n on done more last (has_next x) writing x pieces log h

row_keeps : (w : Whole) (d : Device) (t : Tally) (most n : ℕ)
    (on : TableRow → ℕ → Bool → List Piece → List Access → Type 0)
    (done : List Piece → List Access → Type 0)
    (more : (row : TableRow) → Following w most n (on row)) (last : Ending w most n done)
    (number further : ℕ) (writing : Bool) (pieces : List Piece) (o : Option Spot)
    (log : List Access) → n < most → RowAt w d t on done number further writing pieces o log →
    KeepsBudget w.kind most n log
row_keeps w d t most n on done more last number further writing pieces None log lt h =
    breaks_keep w d t _ most n log h
row_keeps w d t most n on done more last number further writing pieces (Some at) log lt h =
    asked w.kind most n log _ h.asks (
      lt,
      descriptor_keeps w d t most n (on (row_of number h.bytes)) done
          (more (row_of number h.bytes)) last _ writing (descriptor_of (take 16 h.bytes)) pieces h.rest h.goes_on,
    )

follows_by : (w : Whole) (d : Device) (t : Tally) (most n : ℕ)
    (on : TableRow → ℕ → Bool → List Piece → List Access → Type 0)
    (done : List Piece → List Access → Type 0)
    (more : (row : TableRow) → Following w most n (on row)) (last : Ending w most n done)
    (row : TableRow) (number : ℕ) (writing : Bool) (pieces : List Piece) (o : Option (List ℕ))
    (log : List Access) → n < most → FollowsBy o w d t on done row number writing pieces log →
    KeepsBudget w.kind most n log
follows_by w d t most n on done more last row number writing pieces (Some bytes) log lt h =
    descriptor_keeps w d t most n (on row) done (more row) last _ writing (descriptor_of bytes) pieces log h
follows_by w d t most n on done more last row number writing pieces None log lt h =
    row_keeps w d t most n on done more last number _ writing pieces _ log lt h

follows_keep : (k : ℕ) (w : Whole) (d : Device) (t : Tally) (most n : ℕ)
    (done : List Piece → List Access → Type 0) (last : Ending w most n done) → n < most →
    (row : TableRow) (number : ℕ) (writing : Bool) (pieces : List Piece) (log : List Access) →
    Follows k w d t done row number writing pieces log → KeepsBudget w.kind most n log
follows_keep zero w d t most n done last lt row number writing pieces log h =
    breaks_keep w d t _ most n log h
follows_keep (suc k) w d t most n done last lt row number writing pieces log h =
    follows_by w d t most n (Follows k w d t done) done
    (λ row2 number2 writing2 pieces2 rest x. follows_keep k w d t most n done last lt row2 number2 writing2
    pieces2 rest x) last row number writing pieces (in_row row number) log lt h

-- ---- a look

head_keeps : (w : Whole) (next : Then) (most : ℕ) (on : After w most next) (d : Device) (t : Tally)
    (n head : ℕ) (there : Bool) (log : List Access) → n < most → Counts most n t →
    HeadBy there w next d t head log → KeepsBudget w.kind most n log
head_keeps w next most on d t n head false log lt c h = breaks_keep w d t BadHead most n log h
head_keeps w next most on d t n head true log lt c h =
    follows_keep (longest (ring_of w.kind d).size) w d t most n _
    (λ pieces rest x. pieces_keep w.kind w refl next most on d t head n pieces rest lt c x) lt no_row head
    false [] log h

entry_keeps : (w : Whole) (next : Then) (most : ℕ) (on : After w most next) (d : Device) (t : Tally)
    (n : ℕ) (o : Option Spot) (log : List Access) → n < most → Counts most n t →
    EntryAt w next d t o log → KeepsBudget w.kind most n log
entry_keeps w next most on d t n None log lt c h = breaks_keep w d t _ most n log h
entry_keeps w next most on d t n (Some at) log lt c h = asked w.kind most n log _ h.asks
    (lt, head_keeps w next most on d t n h.head _ h.rest lt c h.goes_on)

unless_spent : (w : Whole) (next : Then) (most : ℕ) (on : After w most next) (d : Device) (t : Tally)
    (n : ℕ) (spent_now : Bool) (log : List Access) → (t.pages == 0) ≡ spent_now → Counts most n t →
    TakesUnlessSpent spent_now w next d t log → KeepsBudget w.kind most n log
unless_spent w next most on d t n true log e c h = ends_keep w d t None true most n log h
unless_spent w next most on d t n false log e c h =
    entry_keeps w next most on d t n _ log (some_left most n t.pages c.left e) c h

index_by : (w : Whole) (takes : List Access → Type 0) (d : Device) (t : Tally) (most n : ℕ)
    (on : (rest : List Access) → takes rest → KeepsBudget w.kind most n rest)
    (there : Result Bool ChainFault) (log : List Access) → AfterIndex there w takes d t log →
    KeepsBudget w.kind most n log
index_by w takes d t most n on (Err fault) log h = breaks_keep w d t fault most n log h
index_by w takes d t most n on (Ok false) log h = ends_keep w d t None false most n log h
index_by w takes d t most n on (Ok true) log h = on log h

given_by : (w : Whole) (next : Then) (most : ℕ) (on : After w most next) (held : Option HeldChain)
    (d : Device) (t : Tally) (n : ℕ) (log : List Access) → Counts most n t →
    AfterGivenBy held w next d t log → KeepsBudget w.kind most n log
given_by w next most on (Some held) d t n log c h = ends_keep w d t None false most n log h
given_by w next most on None d t n log c h = on d t n log c h

takes_keep : (k : ℕ) (w : Whole) (most : ℕ) (d : Device) (t : Tally) (n : ℕ) (log : List Access) →
    Counts most n t → TakesNext k w d t log → KeepsBudget w.kind most n log
takes_keep zero w most d t n log c h = ends_keep w d t None true most n log h
takes_keep (suc k) w most d t n log c h = unless_spent w (AfterGiven w (ServesPublished k w)) most
    (λ d2 t2 n2 rest c2 x. given_by w (ServesPublished k w) most (λ d3 t3 n3 last c3 y.
    index_by w (TakesNext k w d3 t3) d3 t3 most n3 (λ after z. takes_keep k w most d3 t3 n3 after c3 z)
    (stands (ring_of w.kind d3) t3.published) last y) t2.held d2 t2 n2 rest c2 x) d (with_chains k t) n
    (t.pages == 0) log refl (record { left = c.left; same = c.same }) h

index_keeps : (w : Whole) (next : Then) (most : ℕ) (on : After w most next) (d : Device) (t : Tally)
    (n : ℕ) (o : Option Spot) (log : List Access) → Counts most n t → IndexAt w next d t o log →
    KeepsBudget w.kind most n log
index_keeps w next most on d t n None log c h = breaks_keep w d t _ most n log h
index_keeps w next most on d t n (Some at) log c h = asked w.kind most n log _ h.asks
    (on d _ n h.rest (record { left = c.left; same = c.same }) h.goes_on)

looks_keep : (w : Whole) (next : Then) (most : ℕ) (on : After w most next) (d : Device) (t : Tally)
    (n : ℕ) (denial : Option Denial) (log : List Access) → Counts most n t →
    LooksBy denial w next d t log → KeepsBudget w.kind most n log
looks_keep w next most on d t n (Some why) log c h = ends_keep w d t _ false most n log h
looks_keep w next most on d t n None log c h = index_keeps w next most on d t n _ log c h

abbrev of : List Region → Kind → Device → Outcome → Whole
of regions kind d2 outcome =
    record { regions = regions; kind = kind; device = d2; outcome = outcome }

pub keeps_budget : (regions : List Region) (kind : Kind) (budget : Budget) (d1 d2 : Device)
    (outcome : Outcome) (log : List Access) → Serves regions kind budget d1 d2 outcome log →
    KeepsBudget kind budget.pages 0 log
keeps_budget regions kind budget d1 d2 outcome log h =
    let w = of regions kind d2 outcome in
    looks_keep w (ServesPublished budget.chains w) budget.pages (λ d t n rest c x.
    index_by w (TakesNext budget.chains w d t) d t budget.pages n
    (λ last y. takes_keep budget.chains w budget.pages d t n last c y)
    (stands (ring_of kind d) t.published) rest x) d1 (fresh budget) 0 (queue_denial kind d1) log
    (record { left = omega arith; same = refl }) h
