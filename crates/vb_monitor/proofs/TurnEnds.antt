-- What each access of a notice is, by those before it, and how many there are: one more, and the
-- end.
use Rattle.std.specs.Prelude.{◌||◌}
use Rattle.std.proofs.Common.{◌≡◌, ◌∙◌, ap, sym, subst, refl, arith, ℕ, suc, ◌≤◌, Bool, true}
use Rattle.std.proofs.Common.{false, List, [], ◌∷◌, length, Option, Some, None, rules}
use Rattle.vb_chain.{specs.declared.fault.ChainFault.ChainFault}
use Rattle.vb_core.{specs.declared.kinds.Kind.Kind, specs.Rings.{with_taken, with_used}}
use Rattle.vb_monitor.specs.{Giving.is_kept}
use Rattle.vb_core.{specs.declared.runs.Run.Run, specs.declared.name.Named.Named}
use Rattle.vb_core.specs.declared.kinds.Kind.TheVariants.{Inflate, Deflate, Statistics, Hint, Report}
use Rattle.vb_core.{specs.declared.ring.Virtqueue.Virtqueue, specs.declared.device.Device.Device}
use Rattle.vb_core.{specs.declared.device.Denial.Denial}
use Rattle.vb_core.{specs.Config.keeps_free}
use Rattle.vb_core.specs.Devices.{ring_of, with_one_taken, needing_reset, queue_denial}
use Rattle.vb_monitor.specs.Accesses.{Access, ReadWord, CopyBytes, Acquire, Release, Full}
use Rattle.vb_monitor.specs.Accesses.{TellPages, TellFigures, TellId, Pause, Discard, WriteNumber, WriteWord}
use Rattle.vb_monitor.{proofs.TouchLemmas.{within}, specs.Counts.{no_discard, others}}
use Rattle.vb_monitor.specs.Giving.{after_use}
use Rattle.vb_monitor.specs.declared.outcome.{Outcome.Outcome, Tally.Tally}
use Rattle.vb_monitor.specs.Order.{MayFollow, is_read, is_told}
use Rattle.vb_monitor.specs.SoFar.{Each, Known, known, ring_after, is_whole, with_taken_if, left, pages_told}
use Rattle.vb_monitor.specs.SoFar.{index_read, earlier, hears, round_so_far}
use Rattle.vb_core.specs.declared.hints.Round.{Round}
use Rattle.vb_monitor.specs.Turns.{is_over, CopiesNext, ReadsInTurn, TellsInTurn}
use Rattle.vb_monitor.specs.Turns.{WritesUsedAlone}
use Rattle.vb_monitor.specs.{Touched.{IsWithin, Touches}, Holding.HoldsTold}
use Rattle.vb_monitor.{specs.Regions.spot, specs.Ends.{Whole, Ends, EndsWhere, FlagsAt, Breaks}}
use Rattle.vb_monitor.specs.declared.regions.{Spot.Spot}

-- the access that was made last
abbrev pub newest : List Access → Option Access
newest [] = None
newest (x ∷ xs) = Some x

-- the access comes in its turn, is where it may, and touches memory alone
pub record Comes (w : Whole) (d0 : Device) (all : Bool) (before : List Access) (x : Access) : Type 0
  where
    pub reads : ReadsInTurn w.regions w.kind d0 before x
    pub tells : TellsInTurn w.regions w.kind all d0 before x
    pub writes : WritesUsedAlone w.regions w.kind d0 before x
    pub follows : MayFollow (newest before) x
    pub touches : Touches w.regions x
    pub holds : HoldsTold w.kind d0.settings w.outcome before x

-- a round once these accesses came, in their order
abbrev pub round_on : Round → List Access → Round
round_on r [] = r
round_on r (x ∷ xs) = round_on (hears x r) xs

-- each of these does, after those, and beside discards there are at most n; they leave the round so
pub record Goes (w : Whole) (d0 : Device) (all : Bool) (most : ℕ) (before log : List Access) :
    Type 0 where
  pub come : Each (Comes w d0 all) before log
  pub few : others log ≤ most
  pub round : w.device.round ≡ round_on (round_so_far d0.round before) log

-- ---- one access, and those after it

at_most_one : (x : Access) → no_discard x ≤ 1
at_most_one (ReadWord at answer) = omega arith
at_most_one (CopyBytes at answer) = omega arith
at_most_one Acquire = omega arith
at_most_one Release = omega arith
at_most_one Full = omega arith
at_most_one (TellPages kind runs named) = omega arith
at_most_one (TellFigures figures) = omega arith
at_most_one (TellId id) = omega arith
at_most_one Pause = omega arith
at_most_one (Discard cut) = omega arith
at_most_one (WriteNumber at number) = omega arith
at_most_one (WriteWord at word) = omega arith

pub one_more : (w : Whole) (d0 : Device) (all : Bool) (m k : ℕ) (x : Access)
    (b rest : List Access) → suc m ≤ k → Comes w d0 all b x → Goes w d0 all m (x ∷ b) rest →
    Goes w d0 all k b (x ∷ rest)
one_more w d0 all m k x b rest le is h = record {
  come = (is, h.come);
  few = let one = at_most_one x in let few = h.few in omega (arith, le, one, few);
  round = h.round;
}

pub asked : (w : Whole) (d0 : Device) (all : Bool) (m : ℕ) (b log start : List Access) →
    log ≡ start → Goes w d0 all m b start → Goes w d0 all m b log
asked w d0 all m b log start e h = subst (λ (l : List Access). Goes w d0 all m b l) (sym e) h

nothing : (w : Whole) (d0 : Device) (all : Bool) (m : ℕ) (b log : List Access) → log ≡ [] →
    w.device.round ≡ round_so_far d0.round b → Goes w d0 all m b log
nothing w d0 all m b log e same =
    asked w d0 all m b log [] e (record { come = tt; few = omega arith; round = same })

pub more_room : (w : Whole) (d0 : Device) (all : Bool) (m k : ℕ) (b log : List Access) → m ≤ k →
    Goes w d0 all m b log → Goes w d0 all k b log
more_room w d0 all m k b log le h =
    record { come = h.come; few = let few = h.few in omega (arith, le, few); round = h.round }

-- bytes that are copied in their turn
pub copy_comes : (w : Whole) (d0 : Device) (all : Bool) (a len : ℕ) (at : Spot) (bytes : List ℕ)
    (b : List Access) →
    CopiesNext w.regions (ring_after w.kind (ring_of w.kind d0) b) (known w.kind b) at bytes →
    left (is_kept w.kind all (keeps_free w.kind d0)) w.regions b ≡ [] →
    (is_read (newest b) || is_told (newest b)) ≡ true → spot w.regions a len ≡ Some at →
    length bytes ≡ len → Comes w d0 all b (CopyBytes at bytes)
copy_comes w d0 all a len at bytes b next done read e long = record {
  reads = next;
  tells = done;
  writes = tt;
  follows = read;
  touches = subst (λ (n : ℕ). IsWithin w.regions at.region at.offset n) (sym long)
      (within w.regions a len at e);
  holds = tt;
}

-- ---- rings of devices

-- the device is as far in its ring as the accesses before say, and this index was read
pub record Stands (w : Whole) (d0 : Device) (published : ℕ) (before : List Access) (d : Device) :
    Type 0 where
  pub ring : ring_of w.kind d ≡ ring_after w.kind (ring_of w.kind d0) before
  pub settings : d.settings ≡ d0.settings
  pub keeps : keeps_free w.kind d ≡ keeps_free w.kind d0
  pub round : d.round ≡ round_so_far d0.round before
  pub lasts : is_over before ≡ false
  pub index : index_read before ≡ Some published

-- of the pages that were told none is left to discard
abbrev pub NoneLeft : Whole → Device → Bool → List Access → Type 0
NoneLeft w d0 all b = left (is_kept w.kind all (keeps_free w.kind d0)) w.regions b ≡ []

-- and as many pages were told of the chain as the tally says
pub record Agrees (w : Whole) (d0 : Device) (t : Tally) (before : List Access) (d : Device) :
    Type 0 where
  pub stands : Stands w d0 t.published before d
  pub done : NoneLeft w d0 t.keeps before
  pub told_so : t.told ≡ pages_told before

-- what a flaw, a chain that is taken and one that is given back leave of a device, and what moves
pub record Moves (kind : Kind) (d : Device) : Type 0 where
  pub same_ring : ring_of kind (needing_reset d) ≡ ring_of kind d
  pub taken_ring : ring_of kind (with_one_taken kind d) ≡ with_taken (ring_of kind d)
  pub taken_settings : (with_one_taken kind d).settings ≡ d.settings
  pub taken_keeps : keeps_free kind (with_one_taken kind d) ≡ keeps_free kind d
  pub taken_round : (with_one_taken kind d).round ≡ d.round
  pub taken_denial : queue_denial kind (with_one_taken kind d) ≡ queue_denial kind d
  pub figures_avail : (ring_of kind (with_one_taken Statistics d)).avail ≡ (ring_of kind d).avail
  pub used_ring : ring_of kind (after_use kind d) ≡ with_used (ring_of kind d)
  pub used_settings : (after_use kind d).settings ≡ d.settings
  pub used_round : (after_use kind d).round ≡ d.round
  pub used_keeps : keeps_free kind (after_use kind d) ≡ keeps_free kind d
  pub used_denial : queue_denial kind (after_use kind d) ≡ queue_denial kind d

pub moves : (kind : Kind) (d : Device) → Moves kind d
moves Inflate d = search rules
moves Deflate d = search rules
moves Statistics d = search rules
moves Hint d = search rules
moves Report d = search rules

-- the flags of a queue lie where the other device has them, and both have the same round
pub record IsLike (kind : Kind) (now before : Device) : Type 0 where
  pub avail : (ring_of kind now).avail ≡ (ring_of kind before).avail
  pub round : now.round ≡ before.round

pub flawed_like : (kind : Kind) (d : Device) → IsLike kind (needing_reset d) d
flawed_like kind d =
    record { avail = ap (λ (r : Virtqueue). r.avail) (moves kind d).same_ring; round = refl }

pub taken_like : (kind : Kind) (d : Device) → IsLike kind (with_one_taken kind d) d
taken_like kind d = record {
  avail = ap (λ (r : Virtqueue). r.avail) (moves kind d).taken_ring;
  round = (moves kind d).taken_round;
}

pub used_like : (kind : Kind) (d : Device) → IsLike kind (after_use kind d) d
used_like kind d = record {
  avail = ap (λ (r : Virtqueue). r.avail) (moves kind d).used_ring;
  round = (moves kind d).used_round;
}

-- after one more access that moves nothing in the ring or the round, and isn't the flags
pub one_on : (w : Whole) (d0 : Device) (n : ℕ) (x : Access) (b : List Access) (d : Device) →
    Stands w d0 n b d → ring_after w.kind (ring_of w.kind d0) (x ∷ b) ≡
    ring_after w.kind (ring_of w.kind d0) b →
    hears x (round_so_far d0.round b) ≡ round_so_far d0.round b → is_over (x ∷ b) ≡ false →
    Stands w d0 n (x ∷ b) d
one_on w d0 n x b d is e quiet lasts = record {
  ring = is.ring ∙ sym e;
  settings = is.settings;
  keeps = is.keeps;
  round = is.round ∙ sym quiet;
  lasts = lasts;
  index = ap (λ (o : Option ℕ). earlier o x) is.index;
}

-- after bytes that were copied
pub one_copied : (w : Whole) (d0 : Device) (t : Tally) (at : Spot) (bytes : List ℕ)
    (b : List Access) (d : Device) → Agrees w d0 t b d → Agrees w d0 t (CopyBytes at bytes ∷ b) d
one_copied w d0 t at bytes b d is = record {
  stands = one_on w d0 t.published (CopyBytes at bytes) b d is.stands refl refl refl;
  done = is.done;
  told_so = is.told_so;
}

taken_by : (w : Whole) (d0 d : Device) (n : ℕ) (runs : List Run) (named : Named)
    (b : List Access) (known_so : Known) → known w.kind b ≡ known_so → is_whole known_so ≡ true →
    ring_of w.kind d ≡ ring_after w.kind (ring_of w.kind d0) b →
    ring_of w.kind (with_one_taken w.kind d) ≡
    ring_after w.kind (ring_of w.kind d0) (TellPages w.kind runs named ∷ b)
taken_by w d0 d n runs named b known_so e f ring =
    (moves w.kind d).taken_ring ∙ (ap (λ (r : Virtqueue). with_taken r) ring
    ∙ ap (λ (x : Bool). with_taken_if x (ring_after w.kind (ring_of w.kind d0) b))
    (sym (ap (λ (k : Known). is_whole k) e ∙ f)))

pub one_taken : (w : Whole) (d0 : Device) (n : ℕ) (runs : List Run) (named : Named)
    (b : List Access) (d : Device) (known_so : Known) → known w.kind b ≡ known_so →
    is_whole known_so ≡ true → Stands w d0 n b d →
    Stands w d0 n (TellPages w.kind runs named ∷ b) (with_one_taken w.kind d)
one_taken w d0 n runs named b d known_so e f is = record {
  ring = taken_by w d0 d n runs named b known_so e f is.ring;
  settings = (moves w.kind d).taken_settings ∙ is.settings;
  keeps = (moves w.kind d).taken_keeps ∙ is.keeps;
  round = (moves w.kind d).taken_round ∙ is.round;
  lasts = refl;
  index = ap (λ (o : Option ℕ). earlier o (TellPages w.kind runs named)) is.index;
}

-- after pages of a portion that were told: the chain isn't taken yet
pub one_portion : (w : Whole) (d0 : Device) (n : ℕ) (runs : List Run) (named : Named)
    (b : List Access) (d : Device) (known_so : Known) → known w.kind b ≡ known_so →
    is_whole known_so ≡ false → Stands w d0 n b d →
    Stands w d0 n (TellPages w.kind runs named ∷ b) d
one_portion w d0 n runs named b d known_so e f is =
    one_on w d0 n (TellPages w.kind runs named) b d is
    (ap (λ (x : Bool). with_taken_if x (ring_after w.kind (ring_of w.kind d0) b))
    (ap (λ (k : Known). is_whole k) e ∙ f)) refl refl

-- ---- the end

-- what a notice that ends comes to
flags_say : (w : Whole) (d : Device) (t : Tally) (why : Option Denial) (more : Bool)
    (o : Option Spot) (log : List Access) → FlagsAt w d t why more o log →
    (w.outcome.tally ≡ t) × (w.outcome.why ≡ why)
flags_say w d t why more None log h =
    (ap (λ (x : Outcome). x.tally) h.outcome, ap (λ (x : Outcome). x.why) h.outcome)
flags_say w d t why more (Some at) log h = (
  ap (λ (x : Outcome). x.tally) h.then_stops.outcome,
  ap (λ (x : Outcome). x.why) h.then_stops.outcome,
)

where_says : (given : Bool) (w : Whole) (d : Device) (t : Tally) (why : Option Denial)
    (more : Bool) (log : List Access) → EndsWhere given w d t why more log →
    (w.outcome.tally ≡ t) × (w.outcome.why ≡ why)
where_says false w d t why more log h =
    (ap (λ (x : Outcome). x.tally) h.outcome, ap (λ (x : Outcome). x.why) h.outcome)
where_says true w d t why more log h =
    flags_say w d t why more (spot w.regions (ring_of w.kind d).avail 2) log h

pub ends_say : (w : Whole) (d : Device) (t : Tally) (why : Option Denial) (more : Bool)
    (log : List Access) → Ends w d t why more log → (w.outcome.tally ≡ t) × (w.outcome.why ≡ why)
ends_say w d t why more log h = where_says t.given w d t why more log h

-- the flags lie where the queue's are, and weren't read yet; the round is as the accesses say
pub record Flags (w : Whole) (d0 : Device) (b : List Access) (d : Device) : Type 0 where
  pub avail : (ring_of w.kind d).avail ≡ (ring_after w.kind (ring_of w.kind d0) b).avail
  pub lasts : is_over b ≡ false
  pub round : d.round ≡ round_so_far d0.round b

pub flags_of : (w : Whole) (d0 : Device) (n : ℕ) (b : List Access) (d : Device) →
    Stands w d0 n b d → Flags w d0 b d
flags_of w d0 n b d is = record {
  avail = ap (λ (r : Virtqueue). r.avail) is.ring;
  lasts = is.lasts;
  round = is.round;
}

-- so they are of a device that is like it
pub like_flags : (w : Whole) (d0 : Device) (n : ℕ) (b : List Access) (d d2 : Device) →
    IsLike w.kind d2 d → Stands w d0 n b d → Flags w d0 b d2
like_flags w d0 n b d d2 like is = record {
  avail = like.avail ∙ ap (λ (r : Virtqueue). r.avail) is.ring;
  lasts = is.lasts;
  round = like.round ∙ is.round;
}

-- the device that a notice leaves has the round of the one that it ends with
left_round : (w : Whole) (d0 d : Device) (b : List Access) → w.device ≡ d → Flags w d0 b d →
    w.device.round ≡ round_so_far d0.round b
left_round w d0 d b e is = ap (λ (x : Device). x.round) e ∙ is.round

flags_at : (w : Whole) (d0 d : Device) (t : Tally) (why : Option Denial) (more : Bool) (m : ℕ)
    (o : Option Spot) (b log : List Access) → 2 ≤ m → Flags w d0 b d →
    spot w.regions (ring_of w.kind d).avail 2 ≡ o → FlagsAt w d t why more o log →
    Goes w d0 t.keeps m b log
flags_at w d0 d t why more m None b log le is e h =
    nothing w d0 t.keeps m b log h.nothing (left_round w d0 d b h.device is)
flags_at w d0 d t why more m (Some at) b log le is e h = asked w d0 t.keeps m b log _ h.asks
    (one_more w d0 t.keeps 1 m Full b _ le
    (record { reads = is.lasts; tells = tt; writes = tt; follows = tt; touches = tt; holds = tt })
    (one_more w d0 t.keeps 0 1 (ReadWord at h.flags) (Full ∷ b) _ (omega arith) (record {
      reads = subst (λ (a : ℕ). spot w.regions a 2 ≡ Some at) is.avail e;
      tells = tt;
      writes = tt;
      follows = tt;
      touches = within w.regions (ring_of w.kind d).avail 2 at e;
      holds = tt;
    }) (nothing w d0 t.keeps 0 (ReadWord at h.flags ∷ Full ∷ b) h.rest h.then_stops.nothing
    (left_round w d0 d b h.then_stops.device is))))

ends_where : (given : Bool) (w : Whole) (d0 d : Device) (t : Tally) (why : Option Denial)
    (more : Bool) (m : ℕ) (b log : List Access) → 2 ≤ m → Flags w d0 b d →
    EndsWhere given w d t why more log → Goes w d0 t.keeps m b log
ends_where false w d0 d t why more m b log le is h =
    nothing w d0 t.keeps m b log h.nothing (left_round w d0 d b h.device is)
ends_where true w d0 d t why more m b log le is h =
    flags_at w d0 d t why more m (spot w.regions (ring_of w.kind d).avail 2) b log le is refl h

pub ends_go : (w : Whole) (d0 d : Device) (t : Tally) (why : Option Denial) (more : Bool) (m : ℕ)
    (b log : List Access) → 2 ≤ m → Flags w d0 b d → Ends w d t why more log →
    Goes w d0 t.keeps m b log
ends_go w d0 d t why more m b log le is h = ends_where t.given w d0 d t why more m b log le is h

pub breaks_go : (w : Whole) (d0 d : Device) (t : Tally) (fault : ChainFault) (m : ℕ)
    (b log : List Access) → 2 ≤ m → Flags w d0 b d → Breaks w d t fault log →
    Goes w d0 t.keeps m b log
breaks_go w d0 d t fault m b log le is h = ends_go w d0 (needing_reset d) t _ false m b log le
    (record {
      avail = (flawed_like w.kind d).avail ∙ is.avail;
      lasts = is.lasts;
      round = is.round;
    }) h
