-- What each access of a notice is, by those before it, and how many there are: from a chain's
-- pieces to what their bytes come to.
use Rattle.std.{specs.Prelude.{◌||◌, ◌==◌, if◌then◌else◌}, proofs.lemmas.{List.length-append, Bool.Decides.nat_tests}}
use Rattle.std.proofs.Common.{◌≡◌, ◌∙◌, ap, sym, subst, refl, arith, ℕ, suc, ◌+◌, ◌*◌, ◌≤◌, Bool}
use Rattle.std.proofs.Common.{true, false, List}
use Rattle.std.proofs.Common.{[], ◌∷◌, ◌++◌, length, take, Option, Some, None, Result, Ok, Err}
use Rattle.vb_virtio.specs.declared.limits.TheConstants.{MAX_REQUEST_PAGES}
use Rattle.vb_chain.specs.declared.{pieces.Piece.Piece, fault.ChainFault.ChainFault}
use Rattle.vb_request.{specs.Statistics.statistics_length}
use Rattle.vb_core.specs.declared.kinds.Kind.TheVariants.{Inflate, Deflate, Statistics, Hint, Report}
use Rattle.vb_core.specs.{Devices.{ring_of, with_one_taken}, declared.device.Denial.Denial}
use Rattle.vb_core.specs.{declared.device.Device.Device}
use Rattle.vb_core.specs.declared.{name.Named.Named, kinds.Kind.Kind, runs.Run.Run}
use Rattle.vb_core.specs.{Report.NamesPiecesBy, Name.NamesNumbersBy}
use Rattle.vb_monitor.specs.Chains.{CopiesBy, ServesPieces, ServesHint, NamesReport, has_id, id_length}
use Rattle.vb_monitor.specs.Chains.{told_if, tells_pages}
use Rattle.vb_core.specs.Hints.{is_open}
use Rattle.vb_monitor.specs.SoFar.{Known, ring_after, parts_read, parts_of_hint, with_copied}
use Rattle.vb_monitor.specs.Order.{is_read, is_told}
use Rattle.vb_monitor.proofs.TurnEnds.{newest, Comes, Goes, one_more, asked, more_room, one_on, one_copied}
use Rattle.vb_monitor.proofs.TurnEnds.{copy_comes, flags_of, like_flags, IsLike, ends_go, breaks_go}
use Rattle.vb_monitor.proofs.TurnNames.{Reads, Copied, Right, right_of, bytes_go, names_go}
use Rattle.vb_monitor.proofs.{TurnLemmas.{After, portion_go}, NamedLemmas.names_like}
use Rattle.vb_monitor.proofs.PartCosts.{tells_in, cost, further_cost, request_cost, statistics_cost, id_cost}
use Rattle.vb_monitor.proofs.NamedLemmas.{pieces_like, named_numbers, named_pieces}
use Rattle.vb_monitor.specs.{Accesses.{Access, CopyBytes, Pause}, Pieces.{PartAt, all_parts}}
use Rattle.vb_monitor.specs.Portions.{CopiesParts, CopiesPart, AfterPortion, ServesPortion, TellsPortion, is_full}
use Rattle.vb_monitor.specs.Portions.{PausesIf, refilled}
use Rattle.vb_monitor.specs.{Turns.{CopiesNext, IsAmid}, Chains.{ServesBytes, request_length_within}}
use Rattle.vb_monitor.specs.{Turns.{TellNamed, TellHint, TellNumbers}, Regions.spot, Giving.Then}
use Rattle.vb_monitor.specs.Giving.{AfterName, after_last, spent, more_told}
use Rattle.vb_monitor.specs.declared.{room.TheConstants.{MAX_BYTES}, parts.Part.Part}
use Rattle.vb_monitor.specs.{declared.regions.Spot.Spot, declared.outcome.Tally.Tally, Ends.Whole}

-- ---- parts

-- what goes on, whatever was told of the chain
abbrev pub Alike : Tally → Tally → Type 0
Alike t t2 = (t2.longest ≡ t.longest) × (t2.published ≡ t.published) × (t2.keeps ≡ t.keeps)

either_true : (a b : Bool) → b ≡ true → (a || b) ≡ true
either_true true b e = refl
either_true false b e = e

eqb_so : (n m : ℕ) → (n == m) ≡ true → n ≡ m
eqb_so n m e = grind (arith, nat_tests)

told_may : (x : Option Access) → is_told x ≡ true → (is_read x || is_told x) ≡ true
told_may x e = either_true (is_read x) (is_told x) e

part_at : (w : Whole) (d0 d : Device) (t : Tally) (m head : ℕ) (pieces : List Piece) (part : Part)
    (parts : List Part) (go : List ℕ → List Access → Type 0) (so_far : List ℕ)
    (on : (bytes : List ℕ) (b rest : List Access) → length bytes ≡ part.length →
    Copied w d0 d t head pieces parts (so_far ++ bytes) b → go (so_far ++ bytes) rest →
    Goes w d0 t.keeps m b rest) (o : Option Spot)
    (b log : List Access) → 2 ≤ m → Reads w d0 d t head pieces (part ∷ parts) so_far b →
    spot w.regions (part.address + part.plus) part.length ≡ o →
    PartAt w go d t part so_far o log → Goes w d0 t.keeps (1 + m) b log
part_at w d0 d t m head pieces part parts go so_far on None b log le is e h = breaks_go
    w d0 d t _ (1 + m) b log (omega (arith, le)) (flags_of w d0 _ b d is.agrees.stands) h
part_at w d0 d t m head pieces part parts go so_far on (Some at) b log le is e h =
    let x : Access = CopyBytes at h.bytes in
    asked w d0 t.keeps (1 + m) b log _ h.asks (one_more w d0 t.keeps m (1 + m) x b _ (omega arith)
    (copy_comes w d0 t.keeps (part.address + part.plus) part.length at h.bytes b
    (subst (λ (k : Known). CopiesNext w.regions (ring_after w.kind (ring_of w.kind d0) b) k at h.bytes)
    (sym is.known_so) (record { place = e; long = h.long })) is.agrees.done is.read e h.long)
    (on h.bytes (x ∷ b) h.rest h.long (record {
      reads = record {
        agrees = one_copied w d0 t at h.bytes b d is.agrees;
        known_so = ap (λ (k : Known). with_copied w.kind h.bytes k) is.known_so;
        read = refl;
      };
      copied = refl;
    }) h.goes_on))

-- what is served last, of the same chain
abbrev Last : Whole → Device → Tally → ℕ → ℕ → List Piece →
    (Device → Tally → List ℕ → List Access → Type 0) → Type 0
Last w d0 t0 m head pieces served = (d : Device) (t : Tally) (bytes : List ℕ)
    (b rest : List Access) → Alike t0 t → Copied w d0 d t head pieces [] bytes b →
    served d t bytes rest → Goes w d0 t.keeps m b rest

-- a portion that is told leaves the device as it was
portion_right : (w : Whole) (kind : Kind) (d d2 : Device) (pieces : List Piece) (bytes : List ℕ)
    (runs : List Run) (named : Named) → w.kind ≡ kind →
    NamesNumbersBy w.kind bytes MAX_REQUEST_PAGES runs d d2 (Ok named) →
    (TellNumbers d.settings bytes (take named.runs runs) named →
    TellNamed (is_open d.round) kind d.settings pieces bytes (take named.runs runs) named) →
    TellNamed (is_open d.round) w.kind d.settings pieces bytes (take named.runs runs) named × (d2 ≡ d)
portion_right w kind d d2 pieces bytes runs named e h so =
    let x = named_numbers w.kind bytes MAX_REQUEST_PAGES runs d d2 named h in (
      subst (λ (k : Kind). TellNamed (is_open d.round) k d.settings pieces bytes (take named.runs runs)
          named) (sym e) (so x.0),
      x.1,
    )

abbrev Further : Whole → Device → Device → Tally → ℕ → ℕ → List Piece → Part → List Part →
    (Device → Tally → List Access → Type 0) → Type 0
Further w d0 d t0 m head pieces part parts on = (t : Tally) (b rest : List Access) → Alike t0 t →
    Reads w d0 d t head pieces (part ∷ parts) [] b → is_told (newest b) ≡ true → on d t rest →
    Goes w d0 t.keeps m b rest

portion_by : (w : Whole) (d0 : Device) (kind : Kind) (e : w.kind ≡ kind) (d d2 : Device)
    (t : Tally) (m head : ℕ) (pieces : List Piece) (part : Part) (parts : List Part)
    (bytes : List ℕ) (on : Device → Tally → List Access → Type 0)
    (go : Further w d0 d t m head pieces part parts on) (runs : List Run)
    (answer : Result Named Denial) (b log : List Access) → 2 ≤ m →
    length bytes ≡ MAX_BYTES →
    Copied w d0 d t head pieces (part ∷ parts) bytes b →
    IsLike w.kind (after_last w.kind answer d2) d →
    NamesNumbersBy w.kind bytes MAX_REQUEST_PAGES runs d d2 answer →
    ((named : Named) → TellNumbers d.settings bytes (take named.runs runs) named →
    TellNamed (is_open d.round) kind d.settings pieces bytes (take named.runs runs) named) →
    AfterPortion w (on d2) d2 t runs answer log → Goes w d0 t.keeps (1 + m) b log
portion_by w d0 kind e d d2 t m head pieces part parts bytes on go runs (Err why) b log le full is same names so h =
    ends_go w d0 d2 t _ false (1 + m) b log (omega (arith, le))
    (like_flags w d0 _ b d d2 same is.reads.agrees.stands) h
portion_by w d0 kind e d d2 t m head pieces part parts bytes on go runs (Ok named) b log le full is same names so h =
    let right = portion_right w kind d d2 pieces bytes runs named e names (so named) in
    let t2 = spent named t in
    portion_go w d0 d t t2 m head pieces part parts bytes (take named.runs runs) named (on d t2) b log
    (λ b2 rest is2 h2. go t2 b2 rest (refl, refl, refl) (record {
      agrees = record {
        stands = is2.agrees;
        done = is2.done;
        told_so = ap (λ (k : ℕ). more_told k named.pages) is.reads.agrees.told_so ∙ sym is2.told_so;
      };
      known_so = is2.known_is;
      read = told_may (newest b2) is2.told_last;
    }) is2.told_last h2)
    refl refl is.reads.agrees is.reads.known_so is.copied full right.0
    (subst (λ (y : Device). TellsPortion w (on y t2) y t2 (take named.runs runs) named log) right.1 h)

portion_serves : (w : Whole) (d0 : Device) (kind : Kind) (e : w.kind ≡ kind) (d : Device)
    (t : Tally) (m head : ℕ) (pieces : List Piece) (part : Part) (parts : List Part)
    (bytes : List ℕ) (on : Device → Tally → List Access → Type 0)
    (go : Further w d0 d t m head pieces part parts on) (b log : List Access) → 2 ≤ m →
    length bytes ≡ MAX_BYTES → Copied w d0 d t head pieces (part ∷ parts) bytes b →
    ServesPortion kind w on d t bytes log → Goes w d0 t.keeps (1 + m) b log
portion_serves w d0 Inflate e d t m head pieces part parts bytes on go b log le full is h =
    portion_by w d0 Inflate e d h.device t m head pieces part parts bytes on go h.runs h.answer b log le
    full is (names_like w.kind bytes _ h.runs d h.device h.answer h.names) h.names (λ named x. x)
    h.goes_on
portion_serves w d0 Deflate e d t m head pieces part parts bytes on go b log le full is h =
    portion_by w d0 Deflate e d h.device t m head pieces part parts bytes on go h.runs h.answer b log le
    full is (names_like w.kind bytes _ h.runs d h.device h.answer h.names) h.names (λ named x. x)
    h.goes_on
portion_serves w d0 Statistics e d t m head pieces part parts bytes on go b log le full is h =
    breaks_go w d0 d t _ (1 + m) b log (omega (arith, le)) (flags_of w d0 _ b d is.reads.agrees.stands) h
portion_serves w d0 Hint e d t m head pieces part parts bytes on go b log le full is h =
    breaks_go w d0 d t _ (1 + m) b log (omega (arith, le)) (flags_of w d0 _ b d is.reads.agrees.stands) h
portion_serves w d0 Report e d t m head pieces part parts bytes on go b log le full is h =
    breaks_go w d0 d t _ (1 + m) b log (omega (arith, le)) (flags_of w d0 _ b d is.reads.agrees.stands) h

-- more of a chain comes, at once or after a pause
pause_go : (w : Whole) (d0 d : Device) (t : Tally) (m head : ℕ) (pieces : List Piece) (part : Part)
    (parts : List Part) (on : Tally → List Access → Type 0)
    (go : (t2 : Tally) (b rest : List Access) → Alike t t2 →
    Reads w d0 d t2 head pieces (part ∷ parts) [] b → on t2 rest → Goes w d0 t2.keeps m b rest)
    (spent_now : Bool) (b log : List Access) → Reads w d0 d t head pieces (part ∷ parts) [] b →
    is_told (newest b) ≡ true → PausesIf spent_now on t log → Goes w d0 t.keeps m b log
pause_go w d0 d t m head pieces part parts on go false b log is told h =
    go t b log (refl, refl, refl) is h
pause_go w d0 d t m head pieces part parts on go true b log is told h =
    let stands = one_on w d0 t.published Pause b d is.agrees.stands refl refl refl in
    let after = go (refilled t) (Pause ∷ b) h.rest (refl, refl, refl) (record {
      agrees = record { stands = stands; done = is.agrees.done; told_so = is.agrees.told_so };
      known_so = is.known_so;
      read = refl;
    }) h.goes_on in
    let comes : Comes w d0 t.keeps b Pause = record {
      reads = subst (λ (k : Known). IsAmid k) (sym is.known_so) refl;
      tells = is.agrees.done;
      writes = tt;
      follows = told;
      touches = tt;
      holds = tt;
    } in
    asked w d0 t.keeps m b log _ h.asks (record {
      come = (comes, after.come);
      few = let few = after.few in omega (arith, few);
      round = after.round;
    })

-- these parts are copied, whatever was told before
abbrev Again : Whole → Device → Tally → ℕ → ℕ → List Piece →
    (Device → Tally → List ℕ → List Access → Type 0) → List Part → Type 0
Again w d0 t0 m head pieces served parts = (d : Device) (t : Tally) (so_far : List ℕ)
    (b rest : List Access) → Alike t0 t → Copied w d0 d t head pieces parts so_far b →
    CopiesParts w served d t parts so_far rest →
    Goes w d0 t.keeps (cost (length so_far) parts + m) b rest

part_go : (w : Whole) (d0 d : Device) (t0 t : Tally) (m head : ℕ) (pieces : List Piece)
    (served : Device → Tally → List ℕ → List Access → Type 0)
    (part : Part) (parts : List Part) (on : Again w d0 t0 m head pieces served parts)
    (so_far : List ℕ) (b log : List Access) → 2 ≤ m → Alike t0 t →
    Reads w d0 d t head pieces (part ∷ parts) so_far b →
    PartAt w (CopiesParts w served d t parts) d t part so_far
    (spot w.regions (part.address + part.plus) part.length) log →
    Goes w d0 t.keeps (1 + (cost (length so_far + part.length) parts + m)) b log
part_go w d0 d t0 t m head pieces served part parts on so_far b log le same is h =
    part_at w d0 d t (cost (length so_far + part.length) parts + m) head pieces part parts
    (CopiesParts w served d t parts) so_far (λ bytes b2 rest long is2 h2.
    let all : length (so_far ++ bytes) ≡ length so_far + part.length =
    length-append so_far bytes ∙ ap (λ (k : ℕ). length so_far + k) long in
    subst (λ (k : ℕ). Goes w d0 t.keeps (cost k parts + m) b2 rest) all
    (on d t (so_far ++ bytes) b2 rest same is2 h2))
    _ b log (omega (arith, le)) is refl h

part_by : (w : Whole) (d0 d : Device) (t0 t : Tally) (m head : ℕ) (pieces : List Piece)
    (served : Device → Tally → List ℕ → List Access → Type 0)
    (part : Part) (parts : List Part) (on : Again w d0 t0 m head pieces served parts)
    (so_far : List ℕ) (full : Bool) (b log : List Access) → 2 ≤ m → Alike t0 t → (length so_far == MAX_BYTES) ≡ full →
    Copied w d0 d t head pieces (part ∷ parts) so_far b →
    CopiesPart full w (λ d2 t2 now rest. PartAt w (CopiesParts w served d2 t2 parts) d2 t2 part now
    (spot w.regions (part.address + part.plus) part.length) rest) d t so_far log →
    Goes w d0 t.keeps (cost (length so_far) (part ∷ parts) + m) b log
part_by w d0 d t0 t m head pieces served part parts on so_far true b log le same e is h =
    let k = length parts + tells_in part.length parts + m in
    subst (λ (x : Bool). Goes w d0 t.keeps (suc (length parts) + (if x then 1 + tells_in part.length parts
    else tells_in (length so_far + part.length) parts) + m) b log) (sym e)
    (more_room w d0 t.keeps (1 + (1 + k)) _ b log (omega arith)
    (portion_serves w d0 w.kind refl d t (1 + k) head pieces part parts so_far _
    (λ t1 b1 rest1 same1 is1 told h1. pause_go w d0 d t1 (1 + k) head pieces part parts
    (λ t2 rest. PartAt w (CopiesParts w served d t2 parts) d t2 part []
    (spot w.regions (part.address + part.plus) part.length) rest) (λ t2 b2 rest same2 is2 h2.
    let none : 0 + part.length ≡ part.length = omega arith in
    subst (λ (n : ℕ). Goes w d0 t2.keeps (1 + (cost n parts + m)) b2 rest) none
    (part_go w d0 d t0 t2 m head pieces served part parts on [] b2 rest le
    (same2.0 ∙ (same1.0 ∙ same.0), same2.1 ∙ (same1.1 ∙ same.1), same2.2 ∙ (same1.2 ∙ same.2)) is2 h2))
    (t1.pages == 0) b1 rest1 is1 told h1) b log (omega (arith, le))
    (eqb_so (length so_far) MAX_BYTES e) is h))
part_by w d0 d t0 t m head pieces served part parts on so_far false b log le same e is h =
    let k = length parts + tells_in (length so_far + part.length) parts + m in
    subst (λ (x : Bool). Goes w d0 t.keeps (suc (length parts) + (if x then 1 + tells_in part.length parts
    else tells_in (length so_far + part.length) parts) + m) b log) (sym e)
    (more_room w d0 t.keeps (1 + k) _ b log (omega arith)
    (part_go w d0 d t0 t m head pieces served part parts on so_far b log le same is.reads h))

copies_go : (w : Whole) (d0 d : Device) (t0 t : Tally) (m head : ℕ) (pieces : List Piece)
    (served : Device → Tally → List ℕ → List Access → Type 0)
    (on : Last w d0 t0 m head pieces served) (parts : List Part) (so_far : List ℕ)
    (b log : List Access) → 2 ≤ m → Alike t0 t → Copied w d0 d t head pieces parts so_far b →
    CopiesParts w served d t parts so_far log →
    Goes w d0 t.keeps (cost (length so_far) parts + m) b log
copies_go w d0 d t0 t m head pieces served on [] so_far b log le same is h =
    more_room w d0 t.keeps m _ b log (omega arith) (on d t so_far b log same is h)
copies_go w d0 d t0 t m head pieces served on (part ∷ parts) so_far b log le same is h =
    part_by w d0 d t0 t m head pieces served part parts (λ d2 t2 now b2 rest same2 is2 h2.
    copies_go w d0 d2 t0 t2 m head pieces served on parts now b2 rest le same2 is2 h2) so_far
    (is_full so_far) b log le same refl is h

-- ---- pieces

-- after a chain's last descriptor, of which only the pieces are known
abbrev pub Begun : Whole → Device → Device → Tally → ℕ → List Piece → List Access → Type 0
Begun w d0 d t head pieces b = Copied w d0 d t head pieces (parts_read w.kind pieces) [] b

begun_of : (w : Whole) (d0 d : Device) (t : Tally) (kind : Kind) (head : ℕ) (pieces : List Piece)
    (b : List Access) → w.kind ≡ kind → Begun w d0 d t head pieces b →
    Copied w d0 d t head pieces (parts_read kind pieces) [] b
begun_of w d0 d t kind head pieces b e begun =
    subst (λ (k : Kind). Copied w d0 d t head pieces (parts_read k pieces) [] b) e begun

copies_by : (w : Whole) (d0 : Device) (most m : ℕ) (next : Then) (on : After w d0 most m next)
    (d : Device) (t : Tally) (head : ℕ) (pieces : List Piece) (len : Result ℕ ChainFault)
    (b log : List Access) → t.longest ≡ most →
    ((n : ℕ) → len ≡ Ok n → cost 0 (all_parts pieces) ≤ 2 * length pieces + further_cost most) →
    Copied w d0 d t head pieces (all_parts pieces) [] b → CopiesBy len w next d t head pieces log →
    Goes w d0 t.keeps (2 * length pieces + (5 + (further_cost most + m))) b log
copies_by w d0 most m next on d t head pieces (Err fault) b log long few is h =
    breaks_go w d0 d t _ _ b log (omega arith) (flags_of w d0 _ b d is.reads.agrees.stands) h
copies_by w d0 most m next on d t head pieces (Ok n) b log long few is h =
    let few_so = few n refl in
    more_room w d0 t.keeps (cost 0 (all_parts pieces) + (5 + m)) _ b log (omega (arith, few_so))
    (copies_go w d0 d t t (5 + m) head pieces (ServesBytes w next head) (λ d2 t2 bytes b2 rest same is2 h2.
    bytes_go w d0 most m w.kind refl next on d2 t2 head pieces bytes b2 rest (same.0 ∙ long) is2 h2)
    (all_parts pieces) [] b log (omega arith) (refl, refl, refl) is h)

-- a kind whose pieces are told or skipped as this says
abbrev Tells : Device → Kind → List Piece → Type 0
Tells d kind pieces = (runs : List Run) (named : Named) →
    TellHint (tells_pages kind d) d.settings pieces runs named →
    TellNamed (is_open d.round) kind d.settings pieces [] runs named

pieces_right : (w : Whole) (d d2 : Device) (kind : Kind) (pieces : List Piece) (room : ℕ)
    (runs : List Run) (answer : Result Named Denial) → w.kind ≡ kind → Tells d kind pieces →
    NamesPiecesBy kind pieces room runs d d2 answer →
    Right w d d2 pieces [] runs (told_if (tells_pages kind d) answer)
pieces_right w d d2 kind pieces room runs answer e tells h named is =
    let x = named_pieces (tells_pages kind d) kind pieces room runs d d2 answer named h is in
    right_of w d pieces [] runs d2 kind named e (tells (take named.runs runs) named x.0)
    (subst (λ (k : Kind). d2 ≡ with_one_taken k d) (sym e) x.1)

-- a chain that names pages by its pieces
reported_go : (w : Whole) (d0 : Device) (most m : ℕ) (kind : Kind) (e : w.kind ≡ kind) (next : Then)
    (on : After w d0 most m next) (d : Device) (t : Tally) (head : ℕ) (pieces : List Piece)
    (b log : List Access) → t.longest ≡ most → Copied w d0 d t head pieces [] [] b →
    Tells d kind pieces → NamesReport w next d t head pieces log →
    Goes w d0 t.keeps (2 * length pieces + (5 + (further_cost most + m))) b log
reported_go w d0 most m kind e next on d t head pieces b log long is tells h =
    let names : NamesPiecesBy kind pieces MAX_REQUEST_PAGES h.runs d h.device h.answer =
    subst (λ (k : Kind). NamesPiecesBy k pieces MAX_REQUEST_PAGES h.runs d h.device h.answer) e h.names in
    more_room w d0 t.keeps (5 + m) _ b log (omega arith)
    (names_go w d0 most m next on d h.device t head pieces [] h.runs (told_if (tells_pages kind d) h.answer)
    b log long is (pieces_like w.kind pieces _ h.runs d h.device h.answer h.names)
    (pieces_right w d h.device kind pieces MAX_REQUEST_PAGES h.runs h.answer e tells names)
    (subst (λ (k : Kind). AfterName w next h.device t head h.runs (told_if (tells_pages k d) h.answer) log)
    e h.goes_on))

hint_go : (w : Whole) (d0 : Device) (most m : ℕ) (e : w.kind ≡ Hint) (next : Then)
    (on : After w d0 most m next) (d : Device) (t : Tally) (head : ℕ) (pieces : List Piece)
    (has : Bool) (b log : List Access) → t.longest ≡ most → has_id pieces ≡ has →
    Copied w d0 d t head pieces (parts_of_hint has pieces) [] b →
    ServesHint has w next d t head pieces log →
    Goes w d0 t.keeps (2 * length pieces + (5 + (further_cost most + m))) b log
hint_go w d0 most m e next on d t head pieces true b log long has is h =
    copies_by w d0 most m next on d t head pieces (id_length pieces) b log long
    (λ n so. id_cost most pieces n so) is h
hint_go w d0 most m e next on d t head pieces false b log long has is h =
    reported_go w d0 most m Hint e next on d t head pieces b log long is (λ runs named x. x) h

pub pieces_go : (w : Whole) (d0 : Device) (most m : ℕ) (kind : Kind) (e : w.kind ≡ kind)
    (next : Then) (on : After w d0 most m next) (d : Device) (t : Tally) (head : ℕ)
    (pieces : List Piece) (b log : List Access) → t.longest ≡ most →
    Begun w d0 d t head pieces b → ServesPieces kind w next d t head pieces log →
    Goes w d0 t.keeps (2 * length pieces + (5 + (further_cost most + m))) b log
pieces_go w d0 most m Inflate e next on d t head pieces b log long begun h =
    copies_by w d0 most m next on d t head pieces (request_length_within t.longest pieces) b log long
    (λ n is. request_cost most pieces n (subst (λ (k : ℕ). request_length_within k pieces ≡ Ok n) long is))
    (begun_of w d0 d t Inflate head pieces b e begun) h
pieces_go w d0 most m Deflate e next on d t head pieces b log long begun h =
    copies_by w d0 most m next on d t head pieces (request_length_within t.longest pieces) b log long
    (λ n is. request_cost most pieces n (subst (λ (k : ℕ). request_length_within k pieces ≡ Ok n) long is))
    (begun_of w d0 d t Deflate head pieces b e begun) h
pieces_go w d0 most m Statistics e next on d t head pieces b log long begun h =
    copies_by w d0 most m next on d t head pieces (statistics_length pieces) b log long
    (λ n is. statistics_cost most pieces n is)
    (begun_of w d0 d t Statistics head pieces b e begun) h
pieces_go w d0 most m Hint e next on d t head pieces b log long begun h =
    hint_go w d0 most m e next on d t head pieces (has_id pieces) b log long refl
    (begun_of w d0 d t Hint head pieces b e begun) h
pieces_go w d0 most m Report e next on d t head pieces b log long begun h =
    reported_go w d0 most m Report e next on d t head pieces b log long
    (begun_of w d0 d t Report head pieces b e begun) (λ runs named x. x) h
