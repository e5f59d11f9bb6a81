-- What each access of a notice is, by those before it, and how many there are: what the bytes of a
-- chain's last portion come to.
use Rattle.std.{specs.Prelude.{◌||◌}}
use Rattle.std.proofs.Common.{◌≡◌, ◌∙◌, ap, sym, subst, refl, arith, ℕ, ◌+◌, ◌/◌, Bool}
use Rattle.std.proofs.Common.{true, false, List}
use Rattle.std.proofs.Common.{[], ◌∷◌, length, take, Option, Some, None, Result, Ok, Err}
use Rattle.vb_virtio.specs.declared.layout.TheConstants.{STATISTIC_SIZE}
use Rattle.vb_virtio.specs.declared.limits.TheConstants.{MAX_REQUEST_PAGES}
use Rattle.vb_chain.specs.declared.{pieces.Piece.Piece}
use Rattle.vb_core.specs.declared.kinds.Kind.TheVariants.{Inflate, Deflate, Statistics, Hint, Report}
use Rattle.vb_core.specs.{Devices.{ring_of, with_one_taken}, declared.device.Denial.Denial}
use Rattle.vb_core.specs.{declared.device.Device.Device, Statistics.statistics_denial}
use Rattle.vb_core.specs.declared.{name.Named.Named, kinds.Kind.Kind, runs.Run.Run}
use Rattle.vb_core.specs.{Name.NamesNumbersBy}
use Rattle.vb_monitor.specs.Chains.{FiguresBy, AfterBytes, NamesBytes, id_of, IdBy, after_id}
use Rattle.vb_core.specs.{Hints.{is_open, heard}, declared.hints.Round.Round, Rings.with_taken}
use Rattle.vb_core.specs.{Config.keeps_free, Using.use_denial, declared.ring.Virtqueue.Virtqueue}
use Rattle.vb_monitor.specs.SoFar.{Known, Has, known, earlier}
use Rattle.vb_monitor.specs.Order.{is_copied, is_read, is_told}
use Rattle.vb_monitor.proofs.TurnEnds.{newest, Goes, one_more, asked, Stands, Agrees}
use Rattle.vb_monitor.proofs.TurnEnds.{flags_of, like_flags, IsLike, ends_go, ends_say, breaks_go, moves}
use Rattle.vb_monitor.proofs.{TurnLemmas.{After, gives_by, tells_go}, NamedLemmas.names_like}
use Rattle.vb_monitor.proofs.NamedLemmas.{named_numbers, no_report}
use Rattle.vb_monitor.specs.Accesses.{Access, TellFigures, TellId}
use Rattle.vb_monitor.specs.{Turns.{TellNamed, TellNumbers, FiguresOf, IdOf}, Giving.Then}
use Rattle.vb_monitor.specs.Giving.{AfterName, after_last, TellsThen, spent, more_told, held_if, with_held, with_named}
use Rattle.vb_monitor.specs.Holding.{HoldsChain}
use Rattle.vb_core.specs.{Settings.holds_chains, declared.settings.Settings.Settings}
use Rattle.vb_monitor.specs.declared.{room.TheConstants.{MAX_FIGURES}, parts.Part.Part}
use Rattle.vb_monitor.specs.{declared.outcome.Tally.Tally, Ends.Whole}

-- after bytes of a chain's pieces, of which these parts are left
pub record Reads (w : Whole) (d0 d : Device) (t : Tally) (head : ℕ) (pieces : List Piece)
    (parts : List Part) (bytes : List ℕ) (b : List Access) : Type 0 where
  pub agrees : Agrees w d0 t b d
  pub known_so : known w.kind b ≡ Has head pieces parts bytes
  pub read : (is_read (newest b) || is_told (newest b)) ≡ true

-- and these bytes were copied directly before
pub record Copied (w : Whole) (d0 d : Device) (t : Tally) (head : ℕ) (pieces : List Piece)
    (parts : List Part) (bytes : List ℕ) (b : List Access) : Type 0 where
  pub reads : Reads w d0 d t head pieces parts bytes b
  pub copied : is_copied (newest b) ≡ true

-- what is told of a chain may be
abbrev pub Right : Whole → Device → Device → List Piece → List ℕ → List Run → Result Named Denial →
    Type 0
Right w d d2 pieces bytes runs answer = (named : Named) → answer ≡ Ok named →
    TellNamed (is_open d.round) w.kind d.settings pieces bytes (take named.runs runs) named
    × (d2 ≡ with_one_taken w.kind d)

-- pages are told of a chain that is held, or isn't
held_go : (w : Whole) (d0 : Device) (most m : ℕ) (next : Then) (on : After w d0 most m next)
    (d : Device) (t : Tally) (head : ℕ) (pieces : List Piece) (bytes : List ℕ) (runs : List Run)
    (named : Named) (held : Bool) (b log : List Access) → t.longest ≡ most →
    holds_chains w.kind d.settings ≡ held → Copied w d0 d t head pieces [] bytes b →
    TellNamed (is_open d.round) w.kind d.settings pieces bytes runs named →
    TellsThen w next (with_one_taken w.kind d)
    (held_if held head (more_told t.told named.pages) (spent named t)) head runs named log →
    Goes w d0 t.keeps (5 + m) b log
held_go w d0 most m next on d t head pieces bytes runs named true b log long e is right h =
    let told = more_told t.told named.pages in
    tells_go w d0 most m next on d t (with_held head told (spent named t)) head pieces bytes runs
    named b log long refl refl is.reads.agrees is.reads.known_so is.copied right (
      λ so. ap (λ (k : ℕ). Some (record { head = head; pages = more_told k named.pages }))
          is.reads.agrees.told_so,
      λ none. absurd cc,
    ) h
held_go w d0 most m next on d t head pieces bytes runs named false b log long e is right h =
    tells_go w d0 most m next on d t (spent named t) head pieces bytes runs named b log long refl refl
    is.reads.agrees is.reads.known_so is.copied right (
      λ so. absurd (let not_so : true ≡ false =
          sym so ∙ (ap (λ (s : Settings). holds_chains w.kind s) (sym is.reads.agrees.stands.settings) ∙ e) in cc),
      λ none. ap (λ (s : Settings). holds_chains w.kind s) (sym is.reads.agrees.stands.settings) ∙ e,
    ) h

pub names_go : (w : Whole) (d0 : Device) (most m : ℕ) (next : Then) (on : After w d0 most m next)
    (d d2 : Device) (t : Tally) (head : ℕ) (pieces : List Piece) (bytes : List ℕ)
    (runs : List Run) (answer : Result Named Denial) (b log : List Access) →
    t.longest ≡ most → Copied w d0 d t head pieces [] bytes b →
    IsLike w.kind d2 d → Right w d d2 pieces bytes runs answer →
    AfterName w next d2 t head runs answer log → Goes w d0 t.keeps (5 + m) b log
names_go w d0 most m next on d d2 t head pieces bytes runs (Err why) b log long is same right h =
    ends_go w d0 d2 t _ false (5 + m) b log (omega arith)
    (like_flags w d0 _ b d d2 same is.reads.agrees.stands) h
names_go w d0 most m next on d d2 t head pieces bytes runs (Ok named) b log long is same right h =
    let x = right named refl in
    held_go w d0 most m next on d t head pieces bytes (take named.runs runs) named
    (holds_chains w.kind d.settings) b log long refl is x.0
    (subst (λ (s : Settings). TellsThen w next (with_one_taken w.kind d)
    (with_named w.kind s head named t) head (take named.runs runs) named log)
    (moves w.kind d).taken_settings
    (subst (λ (y : Device). TellsThen w next y (with_named w.kind y.settings head named t) head
    (take named.runs runs) named log) x.1 h))

-- figures that are told
figures_go : (w : Whole) (d0 d : Device) (m : ℕ) (t : Tally) (head : ℕ) (pieces : List Piece)
    (bytes : List ℕ) (denial : Option Denial) (b log : List Access) → w.kind ≡ Statistics →
    Copied w d0 d t head pieces [] bytes b → FiguresBy denial w d t head bytes log →
    Goes w d0 t.keeps (5 + m) b log
figures_go w d0 d m t head pieces bytes (Some why) b log e is h =
    ends_go w d0 d t _ false (5 + m) b log (omega arith) (flags_of w d0 _ b d is.reads.agrees.stands) h
figures_go w d0 d m t head pieces bytes None b log e is h =
    let told = take (length bytes / STATISTIC_SIZE) h.figures in
    asked w d0 t.keeps (5 + m) b log _ h.tells.asks
    (one_more w d0 t.keeps (4 + m) (5 + m) (TellFigures told) b _ (omega arith) (record {
      reads = tt;
      tells = (
        e,
        subst (λ (k : Known). FiguresOf k told) (sym is.reads.known_so)
            (record { figures = h.figures; are = h.are; count_so = refl }),
      );
      writes = tt;
      follows = is.copied;
      touches = tt;
      holds = λ so. subst (λ (k : Known). HoldsChain k 0 w.outcome) (sym is.reads.known_so)
          (let says = ends_say w (with_one_taken Statistics d) (with_held head 0 t) None false
          h.tells.rest h.tells.ends in (ap (λ (y : Tally). y.held) says.0, says.1));
    }) (ends_go w d0 (with_one_taken Statistics d) _ _ false (4 + m) (TellFigures told ∷ b)
    h.tells.rest (omega arith)
    (record {
      avail = (moves w.kind d).figures_avail ∙ (flags_of w d0 _ b d is.reads.agrees.stands).avail;
      lasts = refl;
      round = is.reads.agrees.stands.round;
    }) h.tells.ends))

pub right_of : (w : Whole) (d : Device) (pieces : List Piece) (bytes : List ℕ) (runs : List Run)
    (d2 : Device) (kind : Kind) (named : Named) → w.kind ≡ kind →
    TellNamed (is_open d.round) kind d.settings pieces bytes (take named.runs runs) named →
    (d2 ≡ with_one_taken w.kind d) →
    TellNamed (is_open d.round) w.kind d.settings pieces bytes (take named.runs runs) named
    × (d2 ≡ with_one_taken w.kind d)
right_of w d pieces bytes runs d2 kind named e x y = (
  subst (λ (k : Kind). TellNamed (is_open d.round) k d.settings pieces bytes (take named.runs runs) named)
      (sym e) x,
  y,
)

numbers_right : (w : Whole) (kind : Kind) (d d2 : Device) (pieces : List Piece) (bytes : List ℕ)
    (room : ℕ) (runs : List Run) (answer : Result Named Denial) → w.kind ≡ kind →
    NamesNumbersBy w.kind bytes room runs d d2 answer →
    ((named : Named) → TellNumbers d.settings bytes (take named.runs runs) named →
    answer ≡ Ok named →
    TellNamed (is_open d.round) kind d.settings pieces bytes (take named.runs runs) named) →
    Right w d (after_last w.kind answer d2) pieces bytes runs answer
numbers_right w kind d d2 pieces bytes room runs answer e h so named is =
    let x = named_numbers w.kind bytes room runs d d2 named
    (subst (λ (a : Result Named Denial). NamesNumbersBy w.kind bytes room runs d d2 a) is h) in
    right_of w d pieces bytes runs (after_last w.kind answer d2) kind named e (so named x.0 is)
    (ap (λ (a : Result Named Denial). after_last w.kind a d2) is
    ∙ ap (λ (y : Device). with_one_taken w.kind y) x.1)

bytes_named : (w : Whole) (d0 : Device) (most m : ℕ) (kind : Kind) (e : w.kind ≡ kind) (next : Then)
    (on : After w d0 most m next) (d : Device) (t : Tally) (head : ℕ) (pieces : List Piece)
    (bytes : List ℕ) (b log : List Access) → t.longest ≡ most →
    Copied w d0 d t head pieces [] bytes b → (h : NamesBytes w next d t head bytes log) →
    ((named : Named) → TellNumbers d.settings bytes (take named.runs h.runs) named →
    h.answer ≡ Ok named →
    TellNamed (is_open d.round) kind d.settings pieces bytes (take named.runs h.runs) named) →
    Goes w d0 t.keeps (5 + m) b log
bytes_named w d0 most m kind e next on d t head pieces bytes b log long is h so = names_go w d0 most m next on
    d (after_last w.kind h.answer h.device) t head pieces bytes h.runs h.answer b log long is
    (names_like w.kind bytes _ h.runs d h.device h.answer h.names)
    (numbers_right w kind d h.device pieces bytes _ h.runs h.answer e h.names so) h.goes_on

-- a device that read an id is as far as the access says that told it
id_stands : (w : Whole) (d0 : Device) (n id : ℕ) (b : List Access) (d : Device) → w.kind ≡ Hint →
    Stands w d0 n b d → Stands w d0 n (TellId id ∷ b) (after_id id d)
id_stands w d0 n id b d e is = record {
  ring = subst (λ (k : Kind). ring_of k (after_id id d) ≡ with_taken (ring_of k d)) (sym e) refl
      ∙ ap (λ (r : Virtqueue). with_taken r) is.ring;
  settings = is.settings;
  keeps = subst (λ (k : Kind). keeps_free k (after_id id d) ≡ keeps_free k d) (sym e) refl ∙ is.keeps;
  round = ap (λ (r : Round). heard id r) is.round;
  lasts = refl;
  index = ap (λ (o : Option ℕ). earlier o (TellId id)) is.index;
}

-- an id that is told, whose chain is given back
id_go : (w : Whole) (d0 : Device) (most m : ℕ) (next : Then) (on : After w d0 most m next) (d : Device)
    (t : Tally) (head : ℕ) (pieces : List Piece) (bytes : List ℕ) (o : Option ℕ)
    (b log : List Access) → t.longest ≡ most → w.kind ≡ Hint → id_of bytes ≡ o →
    Copied w d0 d t head pieces [] bytes b → IdBy o w next d t head log →
    Goes w d0 t.keeps (5 + m) b log
id_go w d0 most m next on d t head pieces bytes None b log long e is_id is h =
    breaks_go w d0 d t _ (5 + m) b log (omega arith) (flags_of w d0 _ b d is.reads.agrees.stands) h
id_go w d0 most m next on d t head pieces bytes (Some id) b log long e is_id is h =
    asked w d0 t.keeps (5 + m) b log _ h.asks
    (one_more w d0 t.keeps (4 + m) (5 + m) (TellId id) b _ (omega arith) (record {
      reads = tt;
      tells = (e, subst (λ (k : Known). IdOf k id) (sym is.reads.known_so) is_id);
      writes = tt;
      follows = is.copied;
      touches = tt;
      holds = tt;
    }) (gives_by w d0 most m next on (after_id id d) t head pieces bytes
    (use_denial w.kind head (after_id id d)) (TellId id ∷ b) h.rest long (record {
      agrees = id_stands w d0 t.published id b d e is.reads.agrees.stands;
      read = is.reads.known_so;
      done = is.reads.agrees.done;
      first = refl;
      named = refl;
      unheld = subst (λ (k : Kind). holds_chains k d0.settings ≡ false) (sym e) refl;
    }) h.goes_on))

pub bytes_go : (w : Whole) (d0 : Device) (most m : ℕ) (kind : Kind) (e : w.kind ≡ kind) (next : Then)
    (on : After w d0 most m next) (d : Device) (t : Tally) (head : ℕ) (pieces : List Piece)
    (bytes : List ℕ) (b log : List Access) → t.longest ≡ most →
    Copied w d0 d t head pieces [] bytes b → AfterBytes kind w next d t head bytes log → Goes w d0 t.keeps (5 + m) b log
bytes_go w d0 most m Inflate e next on d t head pieces bytes b log long is h =
    bytes_named w d0 most m Inflate e next on d t head pieces bytes b log long is h (λ named x ok. x)
bytes_go w d0 most m Deflate e next on d t head pieces bytes b log long is h =
    bytes_named w d0 most m Deflate e next on d t head pieces bytes b log long is h (λ named x ok. x)
bytes_go w d0 most m Statistics e next on d t head pieces bytes b log long is h = figures_go
    w d0 d m t head pieces bytes (statistics_denial (length bytes) MAX_FIGURES d) b log e is h
bytes_go w d0 most m Hint e next on d t head pieces bytes b log long is h =
    id_go w d0 most m next on d t head pieces bytes (id_of bytes) b log long e refl is h
bytes_go w d0 most m Report e next on d t head pieces bytes b log long is h =
    bytes_named w d0 most m Report e next on d t head pieces bytes b log long is h (λ named x ok.
    let names : NamesNumbersBy Report bytes MAX_REQUEST_PAGES h.runs d h.device (Ok named) =
    subst (λ (a : Result Named Denial). NamesNumbersBy Report bytes MAX_REQUEST_PAGES h.runs d h.device a) ok
    (subst (λ (k : Kind). NamesNumbersBy k bytes MAX_REQUEST_PAGES h.runs d h.device h.answer) e h.names) in
    let none : ⊥ = no_report bytes MAX_REQUEST_PAGES h.runs d h.device named names in absurd none)
