-- The next chain of a queue is served, by what memory says of it.
use Rattle.std.proofs.Common.{◌≡◌, ◌≢◌, sym, subst, refl, arith, inl, inr, ℕ, suc}
use Rattle.std.proofs.Common.{◌+◌, ◌<◌, ◌≤◌, Bool, true, false, List, [], ◌∷◌, length, Option, Some}
use Rattle.std.proofs.Common.{None, Result, Ok, Err}
use Rattle.std.specs.Prelude.{◌==◌, nat_lt}
use Rattle.std.proofs.lemmas.Bool.Decides.{nat_tests}
use Rattle.vb_chain.specs.declared.fault.ChainFault.{ChainFault, TheVariants.BadHead}
use Rattle.vb_chain.proofs.Walking.{walked_init}
use Rattle.vb_core.specs.declared.kinds.Kind.{Kind}
use Rattle.vb_core.specs.declared.device.{Denial.Denial, Device.Device, Denial.TheVariants.Broken}
use Rattle.vb_core.specs.Devices.{ring_of, needing_reset, queue_denial}
use Rattle.vb_monitor.specs.declared.{regions.Spot.Spot}
use Rattle.vb_monitor.specs.declared.outcome.{Budget.Budget, Tally.Tally, Outcome.Outcome}
use Rattle.vb_monitor.specs.Accesses.{Access, ReadWord, Acquire, Makes}
use Rattle.vb_monitor.specs.Regions.{spot}
use Rattle.vb_monitor.specs.Ends.{Whole, Breaks}
use Rattle.vb_monitor.specs.Chains.{longest, memory_end, no_row}
use Rattle.vb_monitor.specs.Machine.{next_chain, serves}
use Rattle.vb_monitor.specs.Notices.{entry_offset, stands, HeadBy, EntryAt, TakesChain, AfterIndex}
use Rattle.vb_monitor.specs.Notices.{IndexAt, LooksBy, TakesUnlessSpent, TakesNext, with_chains}
use Rattle.vb_monitor.specs.Notices.{fresh, with_published, ServesPublished, Serves}
use Rattle.vb_monitor.specs.{Still.{StaysUntil, index_in}, Within.{ChainWithin, FaultWithin}}
use Rattle.vb_monitor.proofs.{StillFound.ends_so, StillLaws.some_long, StillWalk.{Walk, walks, none_shows}}
use Rattle.vb_served.specs.Store.{Store, After}
use Rattle.vb_served.specs.One.{byte, all_of, head_in, descriptor_in, BreaksRule}
use Rattle.vb_served.specs.One.{ServesNext, Denied, Jumped, NoneThere, Broke, Found}
use Rattle.vb_served.proofs.StaysLemmas.{Between, stays_so}
use Rattle.vb_virtio.specs.declared.limits.TheConstants.{MAX_REQUEST_PAGES}
use Rattle.vb_served.proofs.{OneLemmas.over, OneKinds.by_kind}
use Rattle.vb_served.proofs.MayServe.{IsOf, MayServe, ring_mapped, parts_mapped, may_give}
use Rattle.vb_served.proofs.WholeMemory.{plain_all}

-- what is known of a queue that isn't refused, and of the notice
record IsOpen (kind : Kind) (d1 : Device) (t : Tally) (s : Store) : Type 0 where
  of : IsOf d1 (length s.mem)
  open_so : queue_denial kind d1 ≡ None
  next_avail : (ring_of kind d1).next_avail < 65536
  held : t.held ≡ None
  given : t.given ≡ false
  keeps : t.keeps ≡ false
  longest : t.longest ≡ MAX_REQUEST_PAGES

abbrev Still : Store → Store → List Access → Type 0
Still s u log = StaysUntil (Between s u) (byte s) (all_of (length s.mem)) log

lt_false : (a b : ℕ) → nat_lt a b ≡ false → b ≤ a
lt_false a b e = grind (arith, nat_tests)

lt_true : (a b : ℕ) → nat_lt a b ≡ true → a < b
lt_true a b e = grind (arith, nat_tests)

breaks_so : (kind : Kind) (d1 d2 : Device) (outcome : Outcome) (t : Tally) (s u : Store)
    (fault : ChainFault) (log : List Access) → t.given ≡ false → Still s u log →
    Breaks (over (length s.mem) kind d2 outcome) d1 t fault log →
    BreaksRule fault d1 d2 outcome.why s u
breaks_so kind d1 d2 outcome t s u fault log given stays h =
    let (so, device, still) = ends_so (Still s u) t.given (over (length s.mem) kind d2 outcome)
    (needing_reset d1) t (Some (Broken fault)) false log given stays h in
    record { ends = so; device = device; memory = still }

-- ---- the chain of a head

walked : (kind : Kind) (d1 d2 : Device) (outcome : Outcome) (t : Tally) (s u : Store) (head : ℕ)
    (log : List Access) → IsOpen kind d1 t s → t.chains ≡ 0 →
    t.published ≡ index_in (byte s) (ring_of kind d1) →
    stands (ring_of kind d1) (index_in (byte s) (ring_of kind d1)) ≡ Ok true →
    head ≡ head_in (byte s) (ring_of kind d1) →
    Walk (Still s u) (over (length s.mem) kind d2 outcome) d1 t
    (serves (over (length s.mem) kind d2 outcome) t d1 head) (descriptor_in (byte s)
    (ring_of kind d1)) (ring_of kind d1).size (memory_end d1) head log →
    ServesNext kind d1 d2 outcome s u
walked kind d1 d2 outcome t s u head log is none index there same (inl h) =
    let r = ring_of kind d1 in
    let n = length s.mem in
    let gives = subst (λ (x : ℕ). ChainWithin (descriptor_in (byte s) r)
    r.size (memory_end d1) x h.pieces) same h.gives in
    Found h.pieces is.open_so there gives
    (by_kind kind d1 d2 outcome t (head_in (byte s) r) h.pieces s u h.rest (record {
      open_so = is.open_so;
      holds = is.of.holds;
      held = is.held;
      none = none;
      given = is.given;
      keeps = is.keeps;
      longest = is.longest;
      plain = record { place = plain_all n };
      may = subst (λ (i : ℕ). MayServe (all_of n) kind d1
          (head_in (byte s) r) i) (sym index)
          (may_give n kind d1 (head_in (byte s) r) (index_in (byte s) r) is.of gives.gives.chain.inside
          is.next_avail there is.open_so);
      parts = parts_mapped n r.size (head_in (byte s) r) kind d1 (descriptor_in (byte s) r) h.pieces
          is.of is.open_so gives.gives;
    }) h.still_so
    (subst (λ (x : ℕ). serves (over n kind d2 outcome) t d1 x h.pieces h.rest) same h.serves))
walked kind d1 d2 outcome t s u head log is none index there same (inr h) =
    let r = ring_of kind d1 in
    Broke h.fault is.open_so there
    (subst (λ (x : ℕ). FaultWithin (descriptor_in (byte s) r) r.size
    (memory_end d1) x h.fault) same h.gives)
    (breaks_so kind d1 d2 outcome t s u h.fault h.rest is.given h.still_so h.breaks)

by_head : (kind : Kind) (d1 d2 : Device) (outcome : Outcome) (t : Tally) (s u : Store) (head : ℕ)
    (below : Bool) (log : List Access) → IsOpen kind d1 t s → t.chains ≡ 0 →
    t.published ≡ index_in (byte s) (ring_of kind d1) →
    stands (ring_of kind d1) (index_in (byte s) (ring_of kind d1)) ≡ Ok true →
    head ≡ head_in (byte s) (ring_of kind d1) →
    nat_lt head (ring_of kind d1).size ≡ below → Still s u log →
    HeadBy below (over (length s.mem) kind d2 outcome)
    (next_chain (over (length s.mem) kind d2 outcome) t) d1 t head log →
    ServesNext kind d1 d2 outcome s u
by_head kind d1 d2 outcome t s u head false log is none index there same e stays h =
    let r = ring_of kind d1 in
    let past : r.size ≤ head = lt_false head _ e in
    Broke BadHead is.open_so there
    (subst (λ (x : ℕ). FaultWithin (descriptor_in (byte s) r) r.size
    (memory_end d1) x BadHead) same (inl (record { past = past; is = refl })))
    (breaks_so kind d1 d2 outcome t s u BadHead log is.given stays h)
by_head kind d1 d2 outcome t s u head true log is none index there same e stays h =
    let r = ring_of kind d1 in
    let n = length s.mem in
    let w = over n kind d2 outcome in
    let below : head < r.size = lt_true head _ e in
    let some : 0 < longest r.size = some_long r.size head below in
    let map = ring_mapped n kind d1 is.of is.open_so in
    walked kind d1 d2 outcome t s u head log is none index there same
    (walks (longest r.size) (Between s u) (byte s) w d1 t (serves w t d1 head) r.size head (head ∷ []) 0 head
    no_row false [] log (none_shows (byte s) r.table) refl map.descriptors (omega arith) some below
    (walked_init (descriptor_in (byte s) r) r.size (memory_end d1) head below) stays h)

-- ---- the entry and the index

by_entry : (kind : Kind) (d1 d2 : Device) (outcome : Outcome) (t : Tally) (s u : Store)
    (o : Option Spot) (log : List Access) → IsOpen kind d1 t s → t.chains ≡ 0 →
    t.published ≡ index_in (byte s) (ring_of kind d1) →
    stands (ring_of kind d1) (index_in (byte s) (ring_of kind d1)) ≡ Ok true →
    spot (all_of (length s.mem)) ((ring_of kind d1).avail + entry_offset (ring_of kind d1)) 2 ≡ o →
    o ≢ None → Still s u log →
    EntryAt (over (length s.mem) kind d2 outcome)
    (next_chain (over (length s.mem) kind d2 outcome) t) d1 t o log →
    ServesNext kind d1 d2 outcome s u
by_entry kind d1 d2 outcome t s u None log is none index there e mapped stays h =
    absurd (mapped refl)
by_entry kind d1 d2 outcome t s u (Some at) log is none index there e mapped stays h =
    let r = ring_of kind d1 in
    let all : Still s u (Acquire ∷ ReadWord at h.head ∷ h.rest) =
    subst (λ (l : List Access). Still s u l) h.asks stays in
    by_head kind d1 d2 outcome t s u h.head (nat_lt h.head r.size) h.rest is none index
    there (all.1.0 (r.avail + entry_offset r) e) refl all.1.1 h.goes_on

-- the budget has room for the chain that is available
unspent : (w : Whole) (d : Device) (t : Tally) (n : ℕ) (log : List Access) →
    (t.pages == 0) ≡ false → TakesNext (suc n) w d t log →
    TakesChain w (next_chain w (with_chains n t)) d (with_chains n t) log
unspent w d t n log e h = subst (λ (b : Bool). TakesUnlessSpent b w
    (next_chain w (with_chains n t)) d (with_chains n t) log) e h

by_index : (kind : Kind) (d1 d2 : Device) (outcome : Outcome) (t : Tally) (s u : Store)
    (o : Result Bool ChainFault) (log : List Access) → IsOpen kind d1 t s →
    (t.pages == 0) ≡ false → t.published ≡ index_in (byte s) (ring_of kind d1) →
    stands (ring_of kind d1) (index_in (byte s) (ring_of kind d1)) ≡ o → Still s u log →
    AfterIndex o (over (length s.mem) kind d2 outcome)
    (TakesNext 1 (over (length s.mem) kind d2 outcome) d1 t) d1 t log →
    ServesNext kind d1 d2 outcome s u
by_index kind d1 d2 outcome t s u (Err f) log is some index e stays h =
    Jumped f is.open_so e (breaks_so kind d1 d2 outcome t s u f log is.given stays h)
by_index kind d1 d2 outcome t s u (Ok false) log is some index e stays h =
    let (so, device, still) = ends_so (Still s u) t.given (over (length s.mem) kind d2 outcome) d1 t
    None false log is.given stays h in
    NoneThere is.open_so e (record { ends = so; device = device; memory = still })
by_index kind d1 d2 outcome t s u (Ok true) log is some index e stays h =
    let r = ring_of kind d1 in
    let w = over (length s.mem) kind d2 outcome in
    by_entry kind d1 d2 outcome (with_chains 0 t) s u
    (spot (all_of (length s.mem)) (r.avail + entry_offset r) 2) log (record {
      of = is.of;
      open_so = is.open_so;
      next_avail = is.next_avail;
      held = is.held;
      given = is.given;
      keeps = is.keeps;
      longest = is.longest;
    }) refl index e refl (ring_mapped (length s.mem) kind d1 is.of is.open_so).entry stays
    (unspent w d1 t 0 log some h)

by_place : (kind : Kind) (d1 d2 : Device) (outcome : Outcome) (t : Tally) (s u : Store)
    (o : Option Spot) (log : List Access) → IsOpen kind d1 t s → (t.pages == 0) ≡ false →
    spot (all_of (length s.mem)) ((ring_of kind d1).avail + 2) 2 ≡ o → o ≢ None → Still s u log →
    IndexAt (over (length s.mem) kind d2 outcome)
    (ServesPublished 1 (over (length s.mem) kind d2 outcome)) d1 t o log →
    ServesNext kind d1 d2 outcome s u
by_place kind d1 d2 outcome t s u None log is some e mapped stays h = absurd (mapped refl)
by_place kind d1 d2 outcome t s u (Some at) log is some e mapped stays h =
    let r = ring_of kind d1 in
    let w = over (length s.mem) kind d2 outcome in
    let all : Still s u (ReadWord at h.index ∷ h.rest) =
    subst (λ (l : List Access). Still s u l) h.asks stays in
    let read : h.index ≡ index_in (byte s) r = all.0 (r.avail + 2) e in
    by_index kind d1 d2 outcome (with_published h.index t) s u (stands r (index_in (byte s) r))
    h.rest (record {
      of = is.of;
      open_so = is.open_so;
      next_avail = is.next_avail;
      held = is.held;
      given = is.given;
      keeps = is.keeps;
      longest = is.longest;
    }) some read refl all.1
    (subst (λ (i : ℕ). AfterIndex (stands r i) w (TakesNext 1 w d1 (with_published h.index t)) d1
    (with_published h.index t) h.rest) read h.goes_on)

-- ---- the whole

looks : (kind : Kind) (d1 d2 : Device) (outcome : Outcome) (t : Tally) (s u : Store)
    (o : Option Denial) (log : List Access) → IsOf d1 (length s.mem) →
    (ring_of kind d1).next_avail < 65536 → t.held ≡ None → t.given ≡ false → t.keeps ≡ false →
    t.longest ≡ MAX_REQUEST_PAGES → (t.pages == 0) ≡ false → queue_denial kind d1 ≡ o → Still s u log →
    LooksBy o (over (length s.mem) kind d2 outcome)
    (ServesPublished 1 (over (length s.mem) kind d2 outcome)) d1 t log →
    ServesNext kind d1 d2 outcome s u
looks kind d1 d2 outcome t s u (Some why) log of few free given keeps longest some e stays h =
    let (so, device, still) = ends_so (Still s u) t.given (over (length s.mem) kind d2 outcome) d1 t
    (Some why) false log given stays h in
    Denied why e (record { ends = so; device = device; memory = still })
looks kind d1 d2 outcome t s u None log of few free given keeps longest some e stays h =
    let r = ring_of kind d1 in
    by_place kind d1 d2 outcome t s u (spot (all_of (length s.mem)) (r.avail + 2) 2) log (record {
      of = of;
      open_so = e;
      next_avail = few;
      held = free;
      given = given;
      keeps = keeps;
      longest = longest;
    }) some refl (ring_mapped (length s.mem) kind d1 of e).index stays h

pub next_so : (kind : Kind) (budget : Budget) (d1 d2 : Device) (outcome : Outcome) (s u : Store) →
    budget.chains ≡ 1 → (budget.pages == 0) ≡ false → budget.keeps ≡ false →
    budget.longest ≡ MAX_REQUEST_PAGES →
    IsOf d1 (length s.mem) → (ring_of kind d1).next_avail < 65536 →
    Makes After s u (Serves (all_of (length s.mem)) kind budget d1 d2 outcome) →
    ServesNext kind d1 d2 outcome s u
next_so kind budget d1 d2 outcome s u chains some keeps longest of few made =
    let n = length s.mem in
    let w = over n kind d2 outcome in
    looks kind d1 d2 outcome (fresh budget) s u (queue_denial kind d1) made.log of few refl refl keeps
    longest some refl (stays_so s u (all_of n) made.log (record { place = plain_all n }) made.steps)
    (subst (λ (m : ℕ). LooksBy (queue_denial kind d1) w (ServesPublished m w) d1 (fresh budget)
    made.log) chains made.is)
