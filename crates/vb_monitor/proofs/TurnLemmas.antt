-- What each access of a notice is, by those before it, and how many there are: a chain whose pages
-- are told, and that is given back.
use Rattle.std.proofs.Common.{◌≡◌, ◌∙◌, ap, sym, subst, refl, arith, ℕ, ◌+◌, Bool, true}
use Rattle.std.proofs.Common.{false, List, [], ◌∷◌, ◌++◌, map, length, Option, Some, None, ◌⊎◌, inl, inr}
use Rattle.vb_chain.{specs.declared.pieces.Piece.Piece, specs.declared.fault.ChainFault.ChainFault}
use Rattle.vb_core.{specs.Rings.{used_entry, with_used}}
use Rattle.vb_core.{specs.declared.runs.Run.Run, specs.declared.name.Named.Named}
use Rattle.vb_core.{specs.declared.ring.Virtqueue.Virtqueue, specs.declared.device.Device.Device}
use Rattle.vb_core.{specs.declared.device.Denial.Denial, specs.declared.settings.Settings.Settings}
use Rattle.vb_core.{specs.Using.use_denial, specs.Config.keeps_free}
use Rattle.vb_core.specs.Devices.{ring_of, with_one_taken}
use Rattle.vb_monitor.specs.Accesses.{Access, Release}
use Rattle.vb_monitor.specs.Accesses.{TellPages, Discard, WriteNumber, WriteWord}
use Rattle.vb_monitor.{proofs.TouchLemmas.{within, AllWithin, cuts_within}}
use Rattle.vb_monitor.specs.Giving.{Then, three_spots, UsedAt, GivesBackBy, with_given}
use Rattle.vb_monitor.specs.Giving.{after_use, is_kept, cuts_for, OnceTold, TellsThen}
use Rattle.vb_monitor.specs.{declared.outcome.HeldChain.HeldChain, Holding.HoldsChain}
use Rattle.vb_core.specs.Settings.{holds_chains}
use Rattle.vb_monitor.specs.{declared.cuts.Cut.Cut, declared.outcome.Tally.Tally}
use Rattle.vb_monitor.specs.Order.{is_copied, is_told, is_named}
use Rattle.vb_monitor.specs.SoFar.{Known, Has, known, ring_after, left, without_first, with_told, pages_told}
use Rattle.vb_monitor.specs.{Portions.TellsPortion, Giving.more_told, declared.parts.Part.Part}
use Rattle.vb_monitor.specs.declared.room.TheConstants.{MAX_BYTES}
use Rattle.vb_core.specs.declared.kinds.Kind.{Kind, TheVariants.{Inflate, Deflate, Statistics, Hint, Report}}
use Rattle.vb_monitor.specs.SoFar.{earlier, round_so_far}
use Rattle.vb_core.specs.{Hints.is_open, declared.hints.Round.Round}
use Rattle.vb_monitor.specs.Turns.{TellsOf, TellNamed, IsNext}
use Rattle.vb_monitor.specs.Turns.{ends_in_number, NumberFor, IndexFor}
use Rattle.vb_monitor.{specs.Regions.spot, specs.Ends.{Whole, Breaks}}
use Rattle.vb_monitor.specs.declared.regions.{Region.Region, Spot.Spot}
use Rattle.vb_monitor.proofs.TurnEnds.{Stands, NoneLeft, Agrees, Comes, Goes, asked, breaks_go, ends_go, ends_say, flags_of, like_flags, used_like, moves, newest, one_more, one_on, one_taken, one_portion}

-- ---- a chain that is given back

-- what comes once a chain is given back, after an index that was written: at most n
abbrev pub After : Whole → Device → ℕ → ℕ → Then → Type 0
After w d0 most m next = (d : Device) (t : Tally) (at : Spot) (n : ℕ) (b rest : List Access) →
    t.longest ≡ most → Stands w d0 t.published (WriteWord at n ∷ b) d →
    NoneLeft w d0 t.keeps (WriteWord at n ∷ b) → next d t rest →
    Goes w d0 t.keeps m (WriteWord at n ∷ b) rest

-- a chain of which all was read
abbrev pub Read : Whole → ℕ → List Piece → List ℕ → List Access → Type 0
Read w head pieces bytes b = known w.kind b ≡ Has head pieces [] bytes

number_for : (w : Whole) (d0 d : Device) (n head : ℕ) (pieces : List Piece) (bytes : List ℕ)
    (second : Bool) (b : List Access) (at : Spot) (x : ℕ) → Read w head pieces bytes b →
    Stands w d0 n b d → NumberFor (Has head pieces [] bytes) second w.regions (ring_of w.kind d) at x
    → NumberFor (known w.kind b) second w.regions (ring_after w.kind (ring_of w.kind d0) b) at x
number_for w d0 d n head pieces bytes second b at x read is h =
    subst (λ (k : Known). NumberFor k second w.regions (ring_after w.kind (ring_of w.kind d0) b) at x)
    (sym read)
    (subst (λ (r : Virtqueue). NumberFor (Has head pieces [] bytes) second w.regions r at x) is.ring h)

index_for : (w : Whole) (d0 d : Device) (n head : ℕ) (pieces : List Piece) (bytes : List ℕ)
    (b : List Access) (at : Spot) (x : ℕ) → Read w head pieces bytes b → Stands w d0 n b d →
    IndexFor (Has head pieces [] bytes) w.regions (ring_of w.kind d) at x →
    IndexFor (known w.kind b) w.regions (ring_after w.kind (ring_of w.kind d0) b) at x
index_for w d0 d n head pieces bytes b at x read is h =
    subst (λ (k : Known). IndexFor k w.regions (ring_after w.kind (ring_of w.kind d0) b) at x) (sym read)
    (subst (λ (r : Virtqueue). IndexFor (Has head pieces [] bytes) w.regions r at x) is.ring h)

-- a chain of which all was read, and all discarded that is to be
pub record Served (w : Whole) (d0 : Device) (all : Bool) (n head : ℕ) (pieces : List Piece)
    (bytes : List ℕ) (b : List Access) (d : Device) : Type 0 where
  pub agrees : Stands w d0 n b d
  pub read : Read w head pieces bytes b
  pub done : left (is_kept w.kind all (keeps_free w.kind d0)) w.regions b ≡ []
  pub first : ends_in_number b ≡ false
  pub named : is_named (newest b) ≡ true
  pub unheld : holds_chains w.kind d0.settings ≡ false

no_used_place : (w : Whole) (d0 d : Device) (t : Tally) (fault : ChainFault) (m n : ℕ)
    (b log : List Access) → Stands w d0 n b d → Breaks w (after_use w.kind d) t fault log →
    Goes w d0 t.keeps (4 + m) b log
no_used_place w d0 d t fault m n b log is h =
    breaks_go w d0 (after_use w.kind d) t fault (4 + m) b log (omega arith)
    (like_flags w d0 n b d (after_use w.kind d) (used_like w.kind d) is) h

used_at : (w : Whole) (d0 : Device) (most m : ℕ) (next : Then) (on : After w d0 most m next) (d : Device)
    (t : Tally) (head : ℕ) (pieces : List Piece) (bytes : List ℕ) (id len index : Option Spot)
    (b log : List Access) → t.longest ≡ most →
    Served w d0 t.keeps t.published head pieces bytes b d
    → spot w.regions (used_entry (ring_of w.kind d) head).element_at 4 ≡ id
    → spot w.regions ((used_entry (ring_of w.kind d) head).element_at + 4) 4 ≡ len
    → spot w.regions (used_entry (ring_of w.kind d) head).index_at 2 ≡ index
    → UsedAt w (next (after_use w.kind d) (with_given t)) (after_use w.kind d) t
    (used_entry (ring_of w.kind d) head) (three_spots id len index) log →
    Goes w d0 t.keeps (4 + m) b log
used_at w d0 most m next on d t head pieces bytes None len index b log long is x y z h =
    no_used_place w d0 d t _ m _ b log is.agrees h
used_at w d0 most m next on d t head pieces bytes (Some id) None index b log long is x y z h =
    no_used_place w d0 d t _ m _ b log is.agrees h
used_at w d0 most m next on d t head pieces bytes (Some id) (Some len) None b log long is x y z h =
    no_used_place w d0 d t _ m _ b log is.agrees h
used_at w d0 most m next on d t head pieces bytes (Some id) (Some len) (Some index) b log long is x y z h =
    let e = used_entry (ring_of w.kind d) head in
    let b1 = WriteNumber id e.id ∷ b in
    let b2 = WriteNumber len e.length ∷ b1 in
    let b3 = Release ∷ b2 in
    let n = t.published in
    asked w d0 t.keeps (4 + m) b log _ h.asks
    (one_more w d0 t.keeps (3 + m) (4 + m) (WriteNumber id e.id) b _ (omega arith) (record {
      reads = tt;
      tells = is.done;
      writes = subst (λ (s : Bool). NumberFor (known w.kind b) s w.regions
          (ring_after w.kind (ring_of w.kind d0) b) id e.id) (sym is.first)
          (number_for w d0 d n head pieces bytes false b id e.id is.read is.agrees (x, refl));
      follows = is.named;
      touches = within w.regions e.element_at 4 id x;
      holds = is.unheld;
    })
    (one_more w d0 t.keeps (2 + m) (3 + m) (WriteNumber len e.length) b1 _ (omega arith) (record {
      reads = tt;
      tells = is.done;
      writes = number_for w d0 d n head pieces bytes true b len e.length is.read is.agrees (y, refl);
      follows = refl;
      touches = within w.regions (e.element_at + 4) 4 len y;
      holds = is.unheld;
    })
    (one_more w d0 t.keeps (1 + m) (2 + m) Release b2 _ (omega arith)
    (record { reads = tt; tells = tt; writes = tt; follows = refl; touches = tt; holds = tt })
    (one_more w d0 t.keeps m (1 + m) (WriteWord index e.index) b3 _ (omega arith) (record {
      reads = tt;
      tells = tt;
      writes = index_for w d0 d n head pieces bytes b index e.index is.read is.agrees (z, refl);
      follows = refl;
      touches = within w.regions e.index_at 2 index z;
      holds = is.unheld;
    })
    (on (after_use w.kind d) (with_given t) index e.index b3 h.rest long (record {
      ring = (moves w.kind d).used_ring ∙ ap (λ (r : Virtqueue). with_used r) is.agrees.ring;
      settings = (moves w.kind d).used_settings ∙ is.agrees.settings;
      keeps = (moves w.kind d).used_keeps ∙ is.agrees.keeps;
      round = (moves w.kind d).used_round ∙ is.agrees.round;
      lasts = refl;
      index = ap (λ (o : Option ℕ). earlier (earlier (earlier (earlier o (WriteNumber id e.id)) (WriteNumber len e.length)) Release) (WriteWord index e.index)) is.agrees.index;
    }) is.done h.goes_on)))))

pub gives_by : (w : Whole) (d0 : Device) (most m : ℕ) (next : Then) (on : After w d0 most m next) (d : Device)
    (t : Tally) (head : ℕ) (pieces : List Piece) (bytes : List ℕ) (denial : Option Denial)
    (b log : List Access) → t.longest ≡ most →
    Served w d0 t.keeps t.published head pieces bytes b d →
    GivesBackBy denial w next d t head log → Goes w d0 t.keeps (4 + m) b log
gives_by w d0 most m next on d t head pieces bytes (Some why) b log long is h =
    ends_go w d0 d t _ false (4 + m) b log (omega arith) (flags_of w d0 _ b d is.agrees) h
gives_by w d0 most m next on d t head pieces bytes None b log long is h =
    used_at w d0 most m next on d t head pieces bytes _ _ _ b log long is refl refl refl h

-- ---- what is told and discarded

-- after pages that were told, of which all is discarded
pub record Discarded (w : Whole) (d0 : Device) (all : Bool) (n told : ℕ) (known_so : Known)
    (b : List Access) (d : Device) : Type 0 where
  pub agrees : Stands w d0 n b d
  pub known_is : known w.kind b ≡ known_so
  pub done : NoneLeft w d0 all b
  pub first : ends_in_number b ≡ false
  pub told_last : is_told (newest b) ≡ true
  pub named : is_named (newest b) ≡ true
  pub told_so : pages_told b ≡ told

discards_go : (w : Whole) (d0 d : Device) (all : Bool) (m n told : ℕ) (known_so : Known)
    (cuts : List Cut) (b rest : List Access)
    (then_go : (b2 : List Access) → Discarded w d0 all n told known_so b2 d → Goes w d0 all m b2 rest)
    → (cuts ≡ [] ⊎ (holds_chains w.kind d0.settings ≡ false)) →
    Stands w d0 n b d → known w.kind b ≡ known_so →
    left (is_kept w.kind all (keeps_free w.kind d0)) w.regions b ≡ cuts → ends_in_number b ≡ false →
    is_told (newest b) ≡ true → is_named (newest b) ≡ true → pages_told b ≡ told →
    AllWithin w.regions cuts → Goes w d0 all m b (map Discard cuts ++ rest)
discards_go w d0 d all m n told known_so [] b rest then_go may is read left_so first last named count inside =
    then_go b (record {
      agrees = is;
      known_is = read;
      done = left_so;
      first = first;
      told_last = last;
      named = named;
      told_so = count;
    })
discards_go w d0 d all m n told known_so (cut ∷ cuts) b rest then_go (inl none) is read left_so first last named count inside =
    absurd cc
discards_go w d0 d all m n told known_so (cut ∷ cuts) b rest then_go (inr unheld) is read left_so first last named count inside =
    let x : Access = Discard cut in
    let on = discards_go w d0 d all m n told known_so cuts (x ∷ b) rest then_go (inr unheld)
    (one_on w d0 n x b d is refl refl refl) read (ap (λ (l : List Cut). without_first l) left_so) refl refl refl
    count inside.1 in
    let comes : Comes w d0 all b x = record {
      reads = tt;
      tells = subst (λ (l : List Cut). IsNext cut l) (sym left_so) refl;
      writes = tt;
      follows = last;
      touches = inside.0;
      holds = unheld;
    } in
    record {
      come = (comes, on.come);
      few = let few = on.few in omega (arith, few);
      round = on.round;
    }

-- the chain is held where its kind's are, and only there
abbrev pub HeldSo : Whole → Device → ℕ → ℕ → Tally → Type 0
HeldSo w d0 head pages t = (holds_chains w.kind d0.settings ≡ true →
    t.held ≡ Some (record { head = head; pages = pages }))
    × (t.held ≡ None → holds_chains w.kind d0.settings ≡ false)

-- what comes once pages were told
once_told : (w : Whole) (d0 : Device) (most m : ℕ) (next : Then) (on : After w d0 most m next)
    (d : Device) (t : Tally) (held : Option HeldChain) (head told : ℕ) (pieces : List Piece)
    (bytes : List ℕ) (cuts : List Cut) (b log : List Access) → t.longest ≡ most → t.held ≡ held →
    Stands w d0 t.published b d → Read w head pieces bytes b →
    left (is_kept w.kind t.keeps (keeps_free w.kind d0)) w.regions b ≡ cuts →
    ends_in_number b ≡ false → is_told (newest b) ≡ true → is_named (newest b) ≡ true →
    pages_told b ≡ told →
    AllWithin w.regions cuts → (t.held ≡ None → holds_chains w.kind d0.settings ≡ false) →
    OnceTold held w next d t head cuts log → Goes w d0 t.keeps (4 + m) b log
once_told w d0 most m next on d t (Some held) head told pieces bytes cuts b log long e is read left_so first last named count inside unheld h =
    ends_go w d0 d t None false (4 + m) b log (omega arith) (flags_of w d0 _ b d is) h
once_told w d0 most m next on d t None head told pieces bytes cuts b log long e is read left_so first last named count inside unheld h =
    asked w d0 t.keeps (4 + m) b log _ h.asks
    (discards_go w d0 d t.keeps (4 + m) t.published told (Has head pieces [] bytes) cuts b h.rest
    (λ b2 is2. gives_by w d0 most m next on d t head pieces bytes (use_denial w.kind head d) b2 _ long
    (record {
      agrees = is2.agrees;
      read = is2.known_is;
      done = is2.done;
      first = is2.first;
      named = is2.named;
      unheld = unheld e;
    }) h.goes_on) (inr (unheld e)) is read left_so first last named count inside)

-- a chain that is held is what the notice comes to
told_held : (w : Whole) (next : Then) (d : Device) (t : Tally) (held : Option HeldChain)
    (head pages : ℕ) (cuts : List Cut) (log : List Access) → t.held ≡ held →
    held ≡ Some (record { head = head; pages = pages }) → OnceTold held w next d t head cuts log →
    (w.outcome.tally.held ≡ Some (record { head = head; pages = pages })) × (w.outcome.why ≡ None)
told_held w next d t None head pages cuts log e so h = absurd cc
told_held w next d t (Some x) head pages cuts log e so h =
    let says = ends_say w d t None false log h in
    (ap (λ (y : Tally). y.held) says.0 ∙ (e ∙ so), says.1)

-- what may be told by the device now may be by the one at first, and what was read since
at_first : (w : Whole) (d0 d : Device) (n : ℕ) (pieces : List Piece) (bytes : List ℕ)
    (runs : List Run) (named : Named) (b : List Access) → Stands w d0 n b d →
    TellNamed (is_open d.round) w.kind d.settings pieces bytes runs named →
    TellNamed (is_open (round_so_far d0.round b)) w.kind d0.settings pieces bytes runs named
at_first w d0 d n pieces bytes runs named b is right =
    subst (λ (r : Round). TellNamed (is_open r) w.kind d0.settings pieces bytes runs named) is.round
    (subst (λ (s : Settings). TellNamed (is_open d.round) w.kind s pieces bytes runs named) is.settings
    right)

-- pages that may be told are told; then they are discarded, and their chain is given back, or it is
-- held
pub tells_go : (w : Whole) (d0 : Device) (most m : ℕ) (next : Then) (on : After w d0 most m next)
    (d : Device) (t0 t : Tally) (head : ℕ) (pieces : List Piece) (bytes : List ℕ)
    (runs : List Run) (named : Named) (b log : List Access) → t.longest ≡ most →
    t.published ≡ t0.published → t.keeps ≡ t0.keeps → Agrees w d0 t0 b d →
    Read w head pieces bytes b → is_copied (newest b) ≡ true →
    TellNamed (is_open d.round) w.kind d.settings pieces bytes runs named →
    HeldSo w d0 head (more_told (pages_told b) named.pages) t →
    TellsThen w next (with_one_taken w.kind d) t head runs named log →
    Goes w d0 t.keeps (5 + m) b log
tells_go w d0 most m next on d t0 t head pieces bytes runs named b log long pub_so keeps_so is read copied right held h =
    let x : Access = TellPages w.kind runs named in
    let d2 = with_one_taken w.kind d in
    let kept = is_kept w.kind t.keeps (keeps_free w.kind d2) in
    let cuts = cuts_for w.kind kept w.regions runs in
    let pages = more_told (pages_told b) named.pages in
    let stands : Stands w d0 t.published b d =
    subst (λ (n : ℕ). Stands w d0 n b d) (sym pub_so) is.stands in
    let done : NoneLeft w d0 t.keeps b =
    subst (λ (k : Bool). NoneLeft w d0 k b) (sym keeps_so) is.done in
    let read_told : Read w head pieces [] (x ∷ b) = ap (λ (k : Known). with_told k) read in
    let comes : Comes w d0 t.keeps b x = record {
      reads = tt;
      tells = (
        refl,
        subst (λ (k : Known). TellsOf (is_open (round_so_far d0.round b)) w.kind d0.settings k runs named)
            (sym read) (at_first w d0 d t.published pieces bytes runs named b stands right),
        done,
      );
      writes = tt;
      follows = copied;
      touches = tt;
      holds = λ so. subst (λ (k : Known). HoldsChain k pages w.outcome) (sym read)
          (told_held w next d2 t t.held head pages cuts h.rest refl (held.0 so) h.goes_on);
    } in
    asked w d0 t.keeps (5 + m) b log _ h.asks (one_more w d0 t.keeps (4 + m) (5 + m) x b _ (omega arith)
    comes (once_told w d0 most m next on d2 t t.held head pages pieces [] cuts (x ∷ b) h.rest long refl
    (one_taken w d0 t.published runs named b d (Has head pieces [] bytes) read refl stands) read_told
    (ap (λ (k : Bool). cuts_for w.kind (is_kept w.kind t.keeps k) w.regions runs)
    (sym ((moves w.kind d).taken_keeps ∙ stands.keeps))) refl refl refl refl
    (cuts_within w.regions w.kind kept runs) held.1 h.goes_on))

-- ---- portions

no_cuts_held : (kind : Kind) (s : Settings) (kept : Bool) (regions : List Region) (runs : List Run)
    (o : Bool) → holds_chains kind s ≡ o →
    (cuts_for kind kept regions runs ≡ []) ⊎ (holds_chains kind s ≡ false)
no_cuts_held kind s kept regions runs false e = inr e
no_cuts_held Deflate s kept regions runs true e = inl refl
no_cuts_held Statistics s kept regions runs true e = inl refl
no_cuts_held Inflate s kept regions runs true e = absurd cc
no_cuts_held Hint s kept regions runs true e = absurd cc
no_cuts_held Report s kept regions runs true e = absurd cc

-- pages of a portion are told, and discarded; then this goes on
pub portion_go : (w : Whole) (d0 d : Device) (t0 t : Tally) (m head : ℕ) (pieces : List Piece)
    (part : Part) (parts : List Part) (bytes : List ℕ) (runs : List Run) (named : Named)
    (on : List Access → Type 0) (b log : List Access)
    (then_go : (b2 rest : List Access) → Discarded w d0 t.keeps t.published
    (more_told (pages_told b) named.pages) (Has head pieces (part ∷ parts) []) b2 d → on rest →
    Goes w d0 t.keeps m b2 rest) →
    t.published ≡ t0.published → t.keeps ≡ t0.keeps → Agrees w d0 t0 b d →
    known w.kind b ≡ Has head pieces (part ∷ parts) bytes → is_copied (newest b) ≡ true →
    length bytes ≡ MAX_BYTES → TellNamed (is_open d.round) w.kind d.settings pieces bytes runs named →
    TellsPortion w on d t runs named log → Goes w d0 t.keeps (1 + m) b log
portion_go w d0 d t0 t m head pieces part parts bytes runs named on b log then_go pub_so keeps_so is read copied full right h =
    let x : Access = TellPages w.kind runs named in
    let kept = is_kept w.kind t.keeps (keeps_free w.kind d) in
    let cuts = cuts_for w.kind kept w.regions runs in
    let stands : Stands w d0 t.published b d =
    subst (λ (n : ℕ). Stands w d0 n b d) (sym pub_so) is.stands in
    let done : NoneLeft w d0 t.keeps b =
    subst (λ (k : Bool). NoneLeft w d0 k b) (sym keeps_so) is.done in
    let comes : Comes w d0 t.keeps b x = record {
      reads = tt;
      tells = (
        refl,
        subst (λ (k : Known). TellsOf (is_open (round_so_far d0.round b)) w.kind d0.settings k runs named)
            (sym read) (full, at_first w d0 d t.published pieces bytes runs named b stands right),
        done,
      );
      writes = tt;
      follows = copied;
      touches = tt;
      holds = λ so. subst (λ (k : Known). HoldsChain k (more_told (pages_told b) named.pages) w.outcome)
          (sym read) tt;
    } in
    asked w d0 t.keeps (1 + m) b log _ h.asks (one_more w d0 t.keeps m (1 + m) x b _ (omega arith) comes
    (asked w d0 t.keeps m (x ∷ b) h.rest _ h.goes_on.asks
    (discards_go w d0 d t.keeps m t.published (more_told (pages_told b) named.pages)
    (Has head pieces (part ∷ parts) []) cuts (x ∷ b) h.goes_on.rest
    (λ b2 is2. then_go b2 h.goes_on.rest is2 h.goes_on.goes_on)
    (no_cuts_held w.kind d0.settings kept w.regions runs (holds_chains w.kind d0.settings) refl)
    (one_portion w d0 t.published runs named b d (Has head pieces (part ∷ parts) bytes) read refl stands)
    (ap (λ (k : Known). with_told k) read)
    (ap (λ (k : Bool). cuts_for w.kind (is_kept w.kind t.keeps k) w.regions runs)
    (sym stands.keeps)) refl refl refl refl (cuts_within w.regions w.kind kept runs))))
