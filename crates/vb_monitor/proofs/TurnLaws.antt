-- What each access of a notice is, by those before it, and how many there are: looks, and the laws.
use Rattle.std.proofs.Common.{◌≡◌, ◌∙◌, sym, subst, refl, arith, ℕ, zero, suc, ◌+◌, ◌-◌, ◌*◌, ◌/◌}
use Rattle.std.proofs.Common.{◌≤◌, Bool, true, false, List, [], ◌∷◌, Option, Some, None}
use Rattle.std.{proofs.Common.{Result, Ok, Err}, specs.Prelude.{◌==◌}}
use Rattle.vb_virtio.specs.declared.limits.TheConstants.{MAX_QUEUE_SIZE}
use Rattle.vb_chain.specs.declared.{fault.ChainFault.ChainFault}
use Rattle.vb_core.{specs.declared.kinds.Kind.Kind, specs.declared.ring.Virtqueue.Virtqueue}
use Rattle.vb_core.{specs.declared.device.Denial.Denial, specs.declared.device.Device.Device}
use Rattle.vb_core.specs.Devices.{ring_of}
use Rattle.vb_monitor.proofs.TurnEnds.{newest, Goes, one_more, asked, more_room, Stands, NoneLeft, Agrees}
use Rattle.vb_monitor.proofs.PartCosts.{further_cost}
use Rattle.std.specs.Prelude.{◌||◌}
use Rattle.vb_monitor.proofs.{TurnEnds.{Flags, round_on, one_on, flags_of, ends_go, breaks_go}, TurnLemmas.After}
use Rattle.vb_monitor.{proofs.TurnRows.{pieces_go}, specs.Accesses.{Access, ReadWord}}
use Rattle.vb_monitor.{proofs.TouchLemmas.within, specs.Counts.others, specs.Touched.Touches}
use Rattle.vb_monitor.specs.Order.{is_word, is_read, is_told, Row, MayFollow}
use Rattle.vb_monitor.specs.{Accesses.{Acquire, WriteWord}}
use Rattle.vb_monitor.specs.Chains.{no_row}
use Rattle.vb_monitor.{specs.Ends.Whole, specs.Chains.longest}
use Rattle.vb_monitor.proofs.TableRowLemmas.{none_of_none, longest_few}
use Rattle.vb_monitor.specs.{Giving.Then, Notices.{HeadBy, EntryAt, entry_offset, stands}}
use Rattle.vb_monitor.specs.Notices.{AfterIndex, IndexAt, LooksBy, AfterGiven, AfterGivenBy}
use Rattle.vb_monitor.specs.Notices.{TakesUnlessSpent}
use Rattle.vb_monitor.specs.{Notices.{TakesNext, with_chains, Serves, fresh}, Regions.spot}
use Rattle.vb_monitor.specs.Notices.{ServesPublished}
use Rattle.vb_monitor.specs.SoFar.{Each, Unknown, Walks, known, ring_after}
use Rattle.vb_monitor.specs.Turns.{IsPublished, ReadsInTurn, TellsInTurn, WritesUsedAlone, HintsInRound}
use Rattle.vb_monitor.proofs.HintTurns.{hints_by}
use Rattle.vb_monitor.specs.declared.outcome.{Budget.Budget, HeldChain.HeldChain, Outcome.Outcome, Tally.Tally}
use Rattle.vb_monitor.specs.Holding.{HoldsTold}
use Rattle.vb_monitor.specs.declared.regions.{Region.Region, Spot.Spot}
use Rattle.vb_monitor.proofs.TurnWalks.{ReadBefore, walk_room, walked_out, follows_from}

-- ---- a look

-- after a word another chain's entry may be read
pub record Between (w : Whole) (d0 d : Device) (t : Tally) (b : List Access) : Type 0 where
  pub agrees : Stands w d0 t.published b d
  pub done : NoneLeft w d0 t.keeps b
  pub unknown : known w.kind b ≡ Unknown
  pub word : is_word (newest b) ≡ true

head_by : (w : Whole) (d0 : Device) (most m : ℕ) (next : Then) (on : After w d0 most m next) (d : Device)
    (t : Tally) (head : ℕ) (there : Bool) (b log : List Access) → t.longest ≡ most →
    Agrees w d0 t b d → known w.kind b ≡ Walks head head [] →
    (is_read (newest b) || is_told (newest b)) ≡ true →
    HeadBy there w next d t head log → Goes w d0 t.keeps (773 + (further_cost most + m)) b log
head_by w d0 most m next on d t head false b log long is known_is read h =
    breaks_go w d0 d t _ _ b log (omega arith) (flags_of w d0 _ b d is.stands) h
head_by w d0 most m next on d t head true b log long is known_is read h =
    let few = longest_few (ring_of w.kind d).size in
    let n = longest (ring_of w.kind d).size in
    more_room w d0 t.keeps (walk_room n 0 (further_cost most + m)) _ b log (omega (arith, few))
    (follows_from n MAX_QUEUE_SIZE w d0 d t (further_cost most + m) head _ (λ ps b2 rest begun.
    pieces_go w d0 most m w.kind refl next on d t head ps b2 rest long begun) few few no_row head false [] b log is
    (known_is ∙ sym (walked_out MAX_QUEUE_SIZE w.kind head no_row head [] (none_of_none head)))
    (subst (λ (o : Option (List ℕ)). ReadBefore o b) (sym (none_of_none head)) read) h)

entry_at : (w : Whole) (d0 : Device) (most m : ℕ) (next : Then) (on : After w d0 most m next) (d : Device)
    (t : Tally) (o : Option Spot) (b log : List Access) → t.longest ≡ most → t.told ≡ 0 →
    Between w d0 d t b →
    stands (ring_of w.kind d) t.published ≡ Ok true →
    spot w.regions ((ring_of w.kind d).avail + entry_offset (ring_of w.kind d)) 2 ≡ o →
    EntryAt w next d t o log → Goes w d0 t.keeps (775 + (further_cost most + m)) b log
entry_at w d0 most m next on d t None b log long none is there e h =
    breaks_go w d0 d t _ _ b log (omega arith) (flags_of w d0 _ b d is.agrees) h
entry_at w d0 most m next on d t (Some at) b log long none is there e h =
    let fenced = one_on w d0 _ Acquire b d is.agrees refl refl refl in
    let x : Access = ReadWord at h.head in
    asked w d0 t.keeps _ b log _ h.asks
    (one_more w d0 t.keeps (774 + (further_cost most + m)) _ Acquire b _ (omega arith) (record {
      reads = (
        is.unknown,
        is.agrees.lasts,
        subst (λ (o : Option ℕ). IsPublished o (ring_after w.kind (ring_of w.kind d0) b)) (sym is.agrees.index)
            (subst (λ (r : Virtqueue). stands r t.published ≡ Ok true) is.agrees.ring there),
      );
      tells = tt;
      writes = tt;
      follows = is.word;
      touches = tt;
      holds = tt;
    })
    (one_more w d0 t.keeps (773 + (further_cost most + m)) _ x (Acquire ∷ b) _ (omega arith) (record {
      reads = subst (λ (r : Virtqueue). spot w.regions (r.avail + entry_offset r) 2 ≡ Some at)
          is.agrees.ring e;
      tells = tt;
      writes = tt;
      follows = tt;
      touches = within w.regions ((ring_of w.kind d).avail + entry_offset (ring_of w.kind d)) 2 at e;
      holds = tt;
    })
    (head_by w d0 most m next on d t h.head _ (x ∷ Acquire ∷ b) h.rest long (record {
      stands = one_on w d0 _ x (Acquire ∷ b) d fenced refl refl refl;
      done = is.done;
      told_so = none;
    }) refl refl h.goes_on)))

abbrev Taken : Whole → Device → Device → Tally → ℕ → (List Access → Type 0) → Type 0
Taken w d0 d t m takes = (b rest : List Access) → Between w d0 d t b →
    stands (ring_of w.kind d) t.published ≡ Ok true → takes rest → Goes w d0 t.keeps m b rest

unless_spent : (w : Whole) (d0 : Device) (most m : ℕ) (next : Then) (on : After w d0 most m next)
    (d : Device) (t : Tally) (spent : Bool) →
    t.longest ≡ most → t.told ≡ 0 →
    Taken w d0 d t (775 + (further_cost most + m)) (TakesUnlessSpent spent w next d t)
unless_spent w d0 most m next on d t true long none b log is there h =
    ends_go w d0 d t _ true _ b log (omega arith) (flags_of w d0 _ b d is.agrees) h
unless_spent w d0 most m next on d t false long none b log is there h =
    entry_at w d0 most m next on d t _ b log long none is there refl h

index_by : (w : Whole) (d0 d : Device) (t : Tally) (m : ℕ) (takes : List Access → Type 0)
    (on : Taken w d0 d t m takes) (there : Result Bool ChainFault) (b log : List Access) → 2 ≤ m →
    Between w d0 d t b → stands (ring_of w.kind d) t.published ≡ there →
    AfterIndex there w takes d t log → Goes w d0 t.keeps m b log
index_by w d0 d t m takes on (Err fault) b log le is e h =
    breaks_go w d0 d t _ m b log le (flags_of w d0 _ b d is.agrees) h
index_by w d0 d t m takes on (Ok false) b log le is e h =
    ends_go w d0 d t _ false m b log le (flags_of w d0 _ b d is.agrees) h
index_by w d0 d t m takes on (Ok true) b log le is e h = on b log is e h

-- what the index publishes is served
abbrev Next : Whole → Device → ℕ → ℕ → Then → Type 0
Next w d0 most m next = (d : Device) (t : Tally) (b rest : List Access) → t.longest ≡ most →
    Between w d0 d t b → next d t rest → Goes w d0 t.keeps m b rest

given_so : (w : Whole) (d0 : Device) (most m : ℕ) (next : Then) (on : Next w d0 most m next)
    (d : Device) (t : Tally) (held : Option HeldChain) (at : Spot) (n : ℕ) (b rest : List Access) →
    2 ≤ m → t.longest ≡ most → Stands w d0 t.published (WriteWord at n ∷ b) d →
    NoneLeft w d0 t.keeps (WriteWord at n ∷ b) → AfterGivenBy held w next d t rest →
    Goes w d0 t.keeps m (WriteWord at n ∷ b) rest
given_so w d0 most m next on d t None at n b rest le long is done h =
    on d t (WriteWord at n ∷ b) rest long
    (record { agrees = is; done = done; unknown = refl; word = refl }) h
given_so w d0 most m next on d t (Some held) at n b rest le long is done h =
    let b2 = WriteWord at n ∷ b in ends_go w d0 d t _ false m b2 rest le (flags_of w d0 _ b2 d is) h

given_by : (w : Whole) (d0 : Device) (most m : ℕ) (next : Then) (on : Next w d0 most m next) →
    2 ≤ m → After w d0 most m (AfterGiven w next)
given_by w d0 most m next on le d t at n b rest long is done h =
    given_so w d0 most m next on d t t.held at n b rest le long is done h

one_by : (x n : ℕ) → x * suc n ≡ x + x * n
one_by x n = grind (arith)

-- how many accesses n chains make, beside discards, where a request names this many pages
abbrev chains_cost : ℕ → ℕ → ℕ
chains_cost most n = (775 + further_cost most) * n

one_chain : (most n : ℕ) → 775 + (further_cost most + (2 + chains_cost most n)) ≤
    2 + chains_cost most (suc n)
one_chain most n = let one = one_by (775 + further_cost most) n in omega (arith, one)

takes_next : (n : ℕ) (w : Whole) (d0 d : Device) (most : ℕ) (t : Tally) → t.longest ≡ most →
    Taken w d0 d t (2 + chains_cost most n) (TakesNext n w d t)
takes_next zero w d0 d most t long b log is there h =
    ends_go w d0 d t _ true _ b log (omega arith) (flags_of w d0 _ b d is.agrees) h
takes_next (suc n) w d0 d most t long b log is there h =
    let m = 2 + chains_cost most n in
    let all : 775 + (further_cost most + m) ≤ 2 + chains_cost most (suc n) = one_chain most n in
    more_room w d0 t.keeps (775 + (further_cost most + m)) _ b log all
    (unless_spent w d0 most m (AfterGiven w (ServesPublished n w))
    (given_by w d0 most m _ (λ d2 t2 b2 rest long2 is2. index_by w d0 d2 t2 m _
    (takes_next n w d0 d2 most t2 long2) _ b2 rest (omega arith) is2 refl) (omega arith)) d
    (with_chains n t) (t.pages == 0) long refl b log
    (record { agrees = is.agrees; done = is.done; unknown = is.unknown; word = is.word }) there h)

-- where nothing was read yet
at_once : (w : Whole) (d : Device) → Flags w d [] d
at_once w d = record { avail = refl; lasts = refl; round = refl }

index_at : (w : Whole) (d : Device) (most m : ℕ) (next : Then) (on : Next w d most m next)
    (t : Tally) (o : Option Spot) (log : List Access) → 2 ≤ m → t.longest ≡ most →
    spot w.regions ((ring_of w.kind d).avail + 2) 2 ≡ o → IndexAt w next d t o log →
    Goes w d t.keeps (1 + m) [] log
index_at w d most m next on t None log le long e h =
    breaks_go w d d t _ (1 + m) [] log (omega (arith, le)) (at_once w d) h
index_at w d most m next on t (Some at) log le long e h =
    let x : Access = ReadWord at h.index in
    asked w d t.keeps (1 + m) [] log _ h.asks (one_more w d t.keeps m (1 + m) x [] _ (omega arith)
    (record {
      reads = e;
      tells = tt;
      writes = tt;
      follows = tt;
      touches = within w.regions ((ring_of w.kind d).avail + 2) 2 at e;
      holds = tt;
    }) (on d _ (x ∷ []) h.rest long (record {
      agrees = record {
        ring = refl;
        settings = refl;
        keeps = refl;
        round = refl;
        lasts = refl;
        index = refl;
      };
      done = refl;
      unknown = refl;
      word = refl;
    }) h.goes_on))

looks_by : (w : Whole) (d : Device) (most m : ℕ) (next : Then) (on : Next w d most m next)
    (t : Tally) (denial : Option Denial) (log : List Access) → 2 ≤ m → t.longest ≡ most → LooksBy denial w next d t log →
    Goes w d t.keeps (1 + m) [] log
looks_by w d most m next on t (Some why) log le long h =
    ends_go w d d t _ false (1 + m) [] log (omega (arith, le)) (at_once w d) h
looks_by w d most m next on t None log le long h = index_at w d most m next on t _ log le long refl h

-- ---- the laws

abbrev of : List Region → Kind → Device → Outcome → Whole
of regions kind d2 outcome =
    record { regions = regions; kind = kind; device = d2; outcome = outcome }

all_go : (regions : List Region) (kind : Kind) (budget : Budget) (d1 d2 : Device)
    (outcome : Outcome) (log : List Access) → Serves regions kind budget d1 d2 outcome log →
    Goes (of regions kind d2 outcome) d1 budget.keeps
    (3 + chains_cost budget.longest budget.chains) [] log
all_go regions kind budget d1 d2 outcome log h =
    let w = of regions kind d2 outcome in
    let m = 2 + chains_cost budget.longest budget.chains in
    more_room w d1 budget.keeps (1 + m) _ [] log (omega arith)
    (looks_by w d1 budget.longest m (ServesPublished budget.chains w) (λ d t b rest long is.
    index_by w d1 d t m _ (takes_next budget.chains w d1 d budget.longest t long) _ b rest (omega arith)
    is refl) (fresh budget) _ log (omega arith) refl h)

pub each_so : (may so : List Access → Access → Type 0) (b log : List Access) →
    ((before : List Access) (x : Access) → may before x → so before x) → Each may b log →
    Each so b log
each_so may so b [] is h = tt
each_so may so b (x ∷ xs) is h = (is b x h.0, each_so may so (x ∷ b) xs is h.1)

pub reads_in_turn : (regions : List Region) (kind : Kind) (budget : Budget) (d1 d2 : Device)
    (outcome : Outcome) (log : List Access) → Serves regions kind budget d1 d2 outcome log →
    Each (ReadsInTurn regions kind d1) [] log
reads_in_turn regions kind budget d1 d2 outcome log h =
    each_so _ _ [] log (λ b x is. is.reads) (all_go regions kind budget d1 d2 outcome log h).come

pub tells_in_turn : (regions : List Region) (kind : Kind) (budget : Budget) (d1 d2 : Device)
    (outcome : Outcome) (log : List Access) → Serves regions kind budget d1 d2 outcome log →
    Each (TellsInTurn regions kind budget.keeps d1) [] log
tells_in_turn regions kind budget d1 d2 outcome log h =
    each_so _ _ [] log (λ b x is. is.tells) (all_go regions kind budget d1 d2 outcome log h).come

pub writes_used : (regions : List Region) (kind : Kind) (budget : Budget) (d1 d2 : Device)
    (outcome : Outcome) (log : List Access) → Serves regions kind budget d1 d2 outcome log →
    Each (WritesUsedAlone regions kind d1) [] log
writes_used regions kind budget d1 d2 outcome log h =
    each_so _ _ [] log (λ b x is. is.writes) (all_go regions kind budget d1 d2 outcome log h).come

pub holds_told : (regions : List Region) (kind : Kind) (budget : Budget) (d1 d2 : Device)
    (outcome : Outcome) (log : List Access) → Serves regions kind budget d1 d2 outcome log →
    Each (HoldsTold kind d1.settings outcome) [] log
holds_told regions kind budget d1 d2 outcome log h =
    each_so _ _ [] log (λ b x is. is.holds) (all_go regions kind budget d1 d2 outcome log h).come

pub hints_in_round : (regions : List Region) (kind : Kind) (budget : Budget) (d1 d2 : Device)
    (outcome : Outcome) (log : List Access) → Serves regions kind budget d1 d2 outcome log →
    Each (HintsInRound d1) [] log
hints_in_round regions kind budget d1 d2 outcome log h =
    each_so _ _ [] log (λ b x is. hints_by regions kind budget.keeps d1 b x is.tells)
    (all_go regions kind budget d1 d2 outcome log h).come

pub round_left : (regions : List Region) (kind : Kind) (budget : Budget) (d1 d2 : Device)
    (outcome : Outcome) (log : List Access) → Serves regions kind budget d1 d2 outcome log →
    d2.round ≡ round_on d1.round log
round_left regions kind budget d1 d2 outcome log h =
    (all_go regions kind budget d1 d2 outcome log h).round

row_so : (may : Option Access → Access → Type 0) (b log : List Access) →
    Each (λ before x. may (newest before) x) b log → Row may (newest b) log
row_so may b [] h = tt
row_so may b (x ∷ xs) h = (h.0, row_so may (x ∷ b) xs h.1)

pub touched : (regions : List Region) (kind : Kind) (budget : Budget) (d1 d2 : Device)
    (outcome : Outcome) (log : List Access) → Serves regions kind budget d1 d2 outcome log →
    Row (λ before x. Touches regions x) None log
touched regions kind budget d1 d2 outcome log h = row_so (λ before x. Touches regions x) [] log
    (each_so _ _ [] log (λ b x is. is.touches) (all_go regions kind budget d1 d2 outcome log h).come)

pub in_order : (regions : List Region) (kind : Kind) (budget : Budget) (d1 d2 : Device)
    (outcome : Outcome) (log : List Access) → Serves regions kind budget d1 d2 outcome log →
    Row MayFollow None log
in_order regions kind budget d1 d2 outcome log h = row_so MayFollow [] log
    (each_so _ _ [] log (λ b x is. is.follows) (all_go regions kind budget d1 d2 outcome log h).come)

pub few_others : (regions : List Region) (kind : Kind) (budget : Budget) (d1 d2 : Device)
    (outcome : Outcome) (log : List Access) → Serves regions kind budget d1 d2 outcome log →
    others log ≤ 3 + (775 + 3 * ((budget.longest - 1) / 256)) * budget.chains
few_others regions kind budget d1 d2 outcome log h =
    (all_go regions kind budget d1 d2 outcome log h).few
