-- A notice over memory that stays as it is does what memory has next.
use Rattle.std.proofs.Common.{◌≡◌, ◌≢◌, ◌∙◌, ap, sym, subst, refl, arith, inl, inr, ℕ, suc, ◌+◌}
use Rattle.std.proofs.Common.{◌<◌, ◌≤◌, Bool, true, false, List, [], ◌∷◌}
use Rattle.std.proofs.Common.{Option, Some, None, Result, Ok, Err}
use Rattle.std.specs.{Prelude.{◌==◌, nat_lt, nat_le}, Int.{w16, from_le_bytes}}
use Rattle.std.proofs.lemmas.{Bool.Decides.nat_tests}
use Rattle.vb_chain.specs.declared.fault.ChainFault.{ChainFault, TheVariants.{BadHead, IndexJump}}
use Rattle.vb_chain.{proofs.Walking.walked_init}
use Rattle.vb_ring.specs.Entries.{ahead, next_by}
use Rattle.vb_core.{specs.declared.kinds.Kind.Kind, specs.declared.ring.Virtqueue.Virtqueue}
use Rattle.vb_core.specs.declared.device.{Denial.Denial, Device.Device, Denial.TheVariants.Broken}
use Rattle.vb_core.specs.Devices.{ring_of, needing_reset, queue_denial}
use Rattle.vb_core.proofs.{DenialLemmas.open_call, RingLemmas.placed_size}
use Rattle.vb_monitor.specs.declared.{regions.Region.Region, regions.Spot.Spot, outcome.Tally.Tally}
use Rattle.vb_monitor.specs.declared.outcome.{Budget.Budget, Outcome.Outcome}
use Rattle.vb_monitor.specs.{Regions.spot, Accesses.{Access, ReadWord, Acquire}, Ends.{Whole, Breaks}}
use Rattle.vb_monitor.specs.Chains.{longest, memory_end, no_row}
use Rattle.vb_monitor.specs.Notices.{entry_offset, stands}
use Rattle.vb_monitor.specs.Notices.{HeadBy, EntryAt, TakesChain, AfterIndex, IndexAt, LooksBy}
use Rattle.vb_monitor.specs.Notices.{TakesUnlessSpent, TakesNext, with_chains, fresh, Serves}
use Rattle.vb_monitor.specs.Notices.{with_published, ServesPublished}
use Rattle.vb_monitor.specs.{Machine.{whole, next_chain, serves}, Giving.Then}
use Rattle.vb_monitor.specs.Still.{IsMapped, index_in, entry_in, in_memory, head_in, Finds}
use Rattle.vb_monitor.specs.Still.{StaysUntil, EndsSo, DoesNext, is_read, bytes_from}
use Rattle.vb_monitor.specs.{Still.as_read, Within.FaultWithin}
use Rattle.vb_monitor.proofs.StillWalk.{Walk, walks, none_shows}
use Rattle.vb_monitor.proofs.StillFound.{ByFound, one_more, ends_so, found_by, tests_alike, offset_so}
use Rattle.vb_monitor.proofs.StillAnswers.{by_found}

-- ---- what is found

-- the queue is one, and lies in memory
pub record IsShown (w : Whole) (d : Device) : Type 0 where
  pub some : 0 < (ring_of w.kind d).size
  pub mapped : IsMapped w.regions (ring_of w.kind d)

-- memory has this next, and the notice does it
abbrev pub Does : (List Access → Type 0) → (ℕ → ℕ) → Whole → Device → Tally → List Access → Type 0
Does still byte w d t log = Finds byte w.kind d (λ found. ByFound still found w d t log)

broken : (still : List Access → Type 0) (byte : ℕ → ℕ) (w : Whole) (d : Device) (t : Tally)
    (head : ℕ) (f : ChainFault) (rest log : List Access) → t.given ≡ false →
    head_in byte (ring_of w.kind d) ≡ Ok (Some head) →
    FaultWithin (in_memory byte (ring_of w.kind d).table) (ring_of w.kind d).size (memory_end d) head
    f → still rest → Breaks w d t f rest → Does still byte w d t log
broken still byte w d t head f rest log none e gives stays h = record {
  found = Err f;
  is_next = inr (record { head = head; is_next = e; gives = gives });
  does_so = ends_so still t.given w (needing_reset d) t (Some (Broken f)) false rest none stays h;
}

one_before : (still : List Access → Type 0) (byte : ℕ → ℕ) (w : Whole) (d : Device) (t : Tally)
    (x : Access) (rest log : List Access) → log ≡ x ∷ rest → Does still byte w d t rest →
    Does still byte w d t log
one_before still byte w d t x rest log e h = record {
  found = h.found;
  is_next = h.is_next;
  does_so = one_more still h.found w d t x rest log e h.does_so;
}

-- ---- the chain of a head

walked : (still : List Access → Type 0) (byte : ℕ → ℕ) (w : Whole) (d : Device) (t : Tally)
    (head : ℕ) (log : List Access) → t.given ≡ false →
    head_in byte (ring_of w.kind d) ≡ Ok (Some head) →
    Walk still w d t (serves w t d head) (in_memory byte (ring_of w.kind d).table)
    (ring_of w.kind d).size (memory_end d) head log → Does still byte w d t log
walked still byte w d t head log none e (inl h) = record {
  found = Ok (Some (record { head = head; chain = h.pieces }));
  is_next = (e, h.gives);
  does_so =
      record { read = h.read; rest = h.rest; all = h.all; is = h.serves; still_so = h.still_so };
}
walked still byte w d t head log none e (inr h) =
    broken still byte w d t head h.fault h.rest log none e h.gives h.still_so h.breaks

lt_false : (a b : ℕ) → nat_lt a b ≡ false → b ≤ a
lt_false a b e = grind (arith, nat_tests)

lt_true : (a b : ℕ) → nat_lt a b ≡ true → a < b
lt_true a b e = grind (arith, nat_tests)

pub some_long : (q n : ℕ) → n < q → 0 < longest q
some_long q n lt = grind arith

by_head : (onward : List Access → Type 0) (byte : ℕ → ℕ) (w : Whole) (d : Device) (t : Tally)
    (head : ℕ) (below : Bool) (log : List Access) →
    IsShown w d → t.given ≡ false → head_in byte (ring_of w.kind d) ≡ Ok (Some head) →
    nat_lt head (ring_of w.kind d).size ≡ below → StaysUntil onward byte w.regions log →
    HeadBy below w (next_chain w t) d t head log → Does (StaysUntil onward byte w.regions) byte w d t
    log
by_head onward byte w d t head false log is none e f stays h =
    let past : (ring_of w.kind d).size ≤ head = lt_false head _ f in
    broken (StaysUntil onward byte w.regions) byte w d t head BadHead log log none e
    (inl (record { past = past; is = refl })) stays h
by_head onward byte w d t head true log is none e f stays h =
    let r = ring_of w.kind d in
    let below : head < r.size = lt_true head _ f in
    let some : 0 < longest r.size = some_long r.size head below in
    walked (StaysUntil onward byte w.regions) byte w d t head log none e
    (walks (longest r.size) onward byte w d t (serves w t d head) r.size head
    (head ∷ []) 0 head no_row false [] log
    (none_shows byte r.table) refl is.mapped.descriptors (omega arith) some below
    (walked_init (in_memory byte r.table) r.size (memory_end d) head below) stays h)

-- ---- the entry and the index

by_entry : (onward : List Access → Type 0) (byte : ℕ → ℕ) (w : Whole) (d : Device) (t : Tally)
    (o : Option Spot) (log : List Access) →
    IsShown w d → t.given ≡ false →
    ((head : ℕ) → head ≡ entry_in byte (ring_of w.kind d) →
    head_in byte (ring_of w.kind d) ≡ Ok (Some head)) →
    spot w.regions ((ring_of w.kind d).avail + entry_offset (ring_of w.kind d)) 2 ≡ o → o ≢ None →
    StaysUntil onward byte w.regions log → EntryAt w (next_chain w t) d t o log →
    Does (StaysUntil onward byte w.regions) byte w d t log
by_entry onward byte w d t None log is none next e mapped stays h = absurd (mapped refl)
by_entry onward byte w d t (Some at) log is none next e mapped stays h =
    let r = ring_of w.kind d in
    let still = StaysUntil onward byte w.regions in
    let all : StaysUntil onward byte w.regions (Acquire ∷ ReadWord at h.head ∷ h.rest) =
    subst (λ (l : List Access). StaysUntil onward byte w.regions l) h.asks stays in
    let head : h.head ≡ entry_in byte r =
    all.1.0 (r.avail + entry_offset r) e
    ∙ ap (λ (o : ℕ). from_le_bytes w16 (bytes_from byte (r.avail + o) 2)) (offset_so r is.some) in
    one_before still byte w d t Acquire (ReadWord at h.head ∷ h.rest) log h.asks
    (one_before still byte w d t (ReadWord at h.head) h.rest
    (ReadWord at h.head ∷ h.rest) refl
    (by_head onward byte w d t h.head (nat_lt h.head r.size) h.rest is none
    (next h.head head) refl all.1.1 h.goes_on))

next_is : (byte : ℕ → ℕ) (r : Virtqueue) (index : ℕ) → index ≡ index_in byte r →
    head_in byte r ≡ found_by (stands r index) (entry_in byte r)
next_is byte r index e =
    ap (λ (n : ℕ). next_by (ahead n r.next_avail) r.size IndexJump (entry_in byte r)) (sym e)
    ∙ tests_alike (ahead index r.next_avail == 0) (nat_le (ahead index r.next_avail) r.size)
    (entry_in byte r)

-- the budget has room for the chain that is there
unspent : (w : Whole) (d : Device) (t : Tally) (n : ℕ) (log : List Access) →
    (t.pages == 0) ≡ false → TakesNext (suc n) w d t log →
    TakesChain w (next_chain w (with_chains n t)) d (with_chains n t) log
unspent w d t n log e h = subst (λ (b : Bool). TakesUnlessSpent b w
    (next_chain w (with_chains n t)) d (with_chains n t) log) e h

by_index : (onward : List Access → Type 0) (byte : ℕ → ℕ) (w : Whole) (d : Device) (t : Tally)
    (n : ℕ) (o : Result Bool ChainFault) (log : List Access)
    → IsShown w d → t.given ≡ false → (t.pages == 0) ≡ false
    → head_in byte (ring_of w.kind d) ≡ found_by o (entry_in byte (ring_of w.kind d))
    → StaysUntil onward byte w.regions log → AfterIndex o w (TakesNext (suc n) w d t) d t log
    → Does (StaysUntil onward byte w.regions) byte w d (with_chains n t) log
by_index onward byte w d t n (Err f) log is none some e stays h = record {
  found = Err f;
  is_next = inl e;
  does_so = ends_so (StaysUntil onward byte w.regions) t.given w (needing_reset d) t
      (Some (Broken f)) false log none stays h;
}
by_index onward byte w d t n (Ok false) log is none some e stays h = record {
  found = Ok None;
  is_next = e;
  does_so = ends_so (StaysUntil onward byte w.regions) t.given w d t None false log none stays h;
}
by_index onward byte w d t n (Ok true) log is none some e stays h =
    let r = ring_of w.kind d in
    by_entry onward byte w d (with_chains n t) (spot w.regions (r.avail + entry_offset r) 2) log is
    none (λ head same. e ∙ ap (λ (n : ℕ). Ok (Some n)) (sym same)) refl is.mapped.entry stays
    (unspent w d t n log some h)

-- what may be served after the first chain, and the index that memory has
abbrev pub left_then : (ℕ → ℕ) → Whole → Device → Tally → ℕ → Tally
left_then byte w d t n = with_chains n (with_published (index_in byte (ring_of w.kind d)) t)

by_place : (onward : List Access → Type 0) (byte : ℕ → ℕ) (w : Whole) (d : Device) (t : Tally)
    (n : ℕ) (o : Option Spot) (log : List Access) →
    IsShown w d → t.given ≡ false → (t.pages == 0) ≡ false →
    spot w.regions ((ring_of w.kind d).avail + 2) 2 ≡ o → o ≢ None →
    StaysUntil onward byte w.regions log →
    IndexAt w (ServesPublished (suc n) w) d t o log →
    Does (StaysUntil onward byte w.regions) byte w d (left_then byte w d t n) log
by_place onward byte w d t n None log is none some e mapped stays h = absurd (mapped refl)
by_place onward byte w d t n (Some at) log is none some e mapped stays h =
    let r = ring_of w.kind d in
    let still = StaysUntil onward byte w.regions in
    let all : StaysUntil onward byte w.regions (ReadWord at h.index ∷ h.rest) =
    subst (λ (l : List Access). StaysUntil onward byte w.regions l) h.asks stays in
    let read : h.index ≡ index_in byte r = all.0 (r.avail + 2) e in
    subst (λ (i : ℕ). Does still byte w d (with_chains n (with_published i t)) log) read
    (one_before still byte w d (with_chains n (with_published h.index t)) (ReadWord at h.index)
    h.rest log h.asks (by_index onward byte w d (with_published h.index t) n (stands r h.index)
    h.rest is none some (next_is byte r h.index read) all.1 h.goes_on))

-- ---- the whole

looks_so : (onward : List Access → Type 0) (byte : ℕ → ℕ) (w : Whole) (d : Device) (t : Tally)
    (n : ℕ) (o : Option Denial) (log : List Access) → IsMapped w.regions (ring_of w.kind d) →
    t.given ≡ false → (t.pages == 0) ≡ false → queue_denial w.kind d ≡ o → o ≡ None →
    StaysUntil onward byte w.regions log → LooksBy o w (ServesPublished (suc n) w) d t log →
    Does (StaysUntil onward byte w.regions) byte w d (left_then byte w d t n) log
looks_so onward byte w d t n (Some why) log mapped none some e f stays h = absurd cc
looks_so onward byte w d t n None log mapped none some e f stays h =
    let r = ring_of w.kind d in
    let open_so = open_call w.kind true true d e in
    by_place onward byte w d t n (spot w.regions (r.avail + 2) 2) log
    (record { some = placed_size d.settings.memory_end r open_so.place; mapped = mapped })
    none some refl mapped.index stays h

-- a notice finds what memory has next
pub finds : (onward : List Access → Type 0) (byte : ℕ → ℕ) (regions : List Region) (kind : Kind)
    (budget : Budget) (n : ℕ) (d1 d2 : Device) (outcome : Outcome) (log : List Access) →
    budget.chains ≡ suc n → (budget.pages == 0) ≡ false → queue_denial kind d1 ≡ None →
    IsMapped regions (ring_of kind d1) → StaysUntil onward byte regions log →
    Serves regions kind budget d1 d2 outcome log →
    Does (StaysUntil onward byte regions) byte (whole regions kind d2 outcome) d1
    (as_read n budget (index_in byte (ring_of kind d1))) log
finds onward byte regions kind budget n d1 d2 outcome log chains some unrefused mapped stays h =
    let w = whole regions kind d2 outcome in
    looks_so onward byte w d1 (fresh budget) n (queue_denial kind d1) log mapped refl some refl
    unrefused stays
    (subst (λ (m : ℕ). LooksBy (queue_denial kind d1) w (ServesPublished m w) d1 (fresh budget)
    log) chains h)

pub serves_as : (onward : List Access → Type 0) (byte : ℕ → ℕ) (regions : List Region) (kind : Kind)
    (budget : Budget) (n : ℕ) (d1 d2 : Device) (outcome : Outcome) (log : List Access) →
    is_read kind ≡ true → budget.chains ≡ suc n → (budget.pages == 0) ≡ false →
    queue_denial kind d1 ≡ None → IsMapped regions (ring_of kind d1) →
    StaysUntil onward byte regions log → Serves regions kind budget d1 d2 outcome log →
    Finds byte kind d1 (DoesNext (StaysUntil onward byte regions) (whole regions kind d2 outcome)
    (as_read n budget (index_in byte (ring_of kind d1))) d1 log)
serves_as onward byte regions kind budget n d1 d2 outcome log read chains some unrefused mapped
    stays h =
    let is = finds onward byte regions kind budget n d1 d2 outcome log chains some unrefused mapped
    stays h in
    record {
      found = is.found;
      is_next = is.is_next;
      does_so = by_found (StaysUntil onward byte regions) (whole regions kind d2 outcome) d1
          (as_read n budget (index_in byte (ring_of kind d1))) is.found log read refl is.does_so;
    }

refused_by : (still : List Access → Type 0) (w : Whole) (next : Then) (d : Device) (t : Tally)
    (why : Denial) (o : Option Denial) (log : List Access) → t.given ≡ false → o ≡ Some why →
    still log → LooksBy o w next d t log → EndsSo still (Some why) w d
refused_by still w next d t why None log none e stays h = absurd cc
refused_by still w next d t why (Some other) log none e stays h =
    subst (λ (o : Option Denial). EndsSo still o w d) e
    (ends_so still t.given w d t (Some other) false log none stays h)

pub refused_as : (onward : List Access → Type 0) (byte : ℕ → ℕ) (regions : List Region)
    (kind : Kind) (budget : Budget) (d1 d2 : Device) (outcome : Outcome) (log : List Access)
    (why : Denial) → queue_denial kind d1 ≡ Some why → StaysUntil onward byte regions log →
    Serves regions kind budget d1 d2 outcome log →
    EndsSo (StaysUntil onward byte regions) (Some why) (whole regions kind d2 outcome) d1
refused_as onward byte regions kind budget d1 d2 outcome log why e stays h =
    let w = whole regions kind d2 outcome in
    refused_by (StaysUntil onward byte regions) w (ServesPublished budget.chains w) d1
    (fresh budget) why (queue_denial kind d1) log refl e stays h
