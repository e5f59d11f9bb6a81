-- A chain that is answered may be served, and the notice ends once it was.
use Rattle.std.proofs.Common.{◌≡◌, ◌≢◌, ◌∙◌, ap, sym, subst, refl, arith, ℕ, ◌+◌, ◌*◌, ◌%◌, ◌/◌, ◌<◌, ◌≤◌}
use Rattle.std.proofs.Common.{Bool, true, false, List, length, Option, Some, None, Result, Ok, Err}
use Rattle.std.specs.Prelude.{IsOk, All, nat_lt, nat_le, ◌==◌, if◌then◌else◌}
use Rattle.std.proofs.lemmas.Bool.Decides.{nat_tests}
use Rattle.vb_chain.specs.declared.fault.ChainFault.{ChainFault, TheVariants.IndexJump}
use Rattle.vb_ring.specs.Entries.{ahead}
use Rattle.vb_core.specs.declared.kinds.Kind.{Kind}
use Rattle.vb_core.specs.declared.kinds.Kind.TheVariants.{Inflate, Deflate, Statistics, Hint, Report}
use Rattle.vb_core.specs.declared.ring.Virtqueue.{Virtqueue}
use Rattle.vb_core.specs.declared.runs.Run.{Run}
use Rattle.vb_core.specs.declared.name.Named.{Named}
use Rattle.vb_chain.specs.declared.{descriptor.Descriptor.Descriptor, pieces.Piece.Piece}
use Rattle.vb_chain.specs.Chain.{ChainGives}
use Rattle.vb_request.proofs.Chains.{chain_fits}
use Rattle.vb_core.specs.declared.device.{Denial.Denial, Device.Device}
use Rattle.vb_core.specs.declared.settings.{Settings.Settings, TheConstants.MEMORY_LIMIT}
use Rattle.vb_core.specs.Name.{NamesNumbersBy, name_denial, after_chain, after_numbers}
use Rattle.vb_core.specs.Name.{told}
use Rattle.vb_core.specs.Report.{NamesPiecesBy, pieces_denial, report_named}
use Rattle.vb_core.specs.Rings.{used_entry, has_place, with_taken, with_used}
use Rattle.vb_core.specs.Devices.{ring_of, with_one_taken, queue_denial, call_denial}
use Rattle.vb_core.specs.Settings.{memory_pages, are_settings}
use Rattle.vb_core.specs.Using.{use_denial}
use Rattle.vb_core.proofs.DenialLemmas.{open_call}
use Rattle.vb_monitor.specs.declared.regions.Region.{Region}
use Rattle.vb_monitor.specs.Giving.{used_spots, after_use, after_last}
use Rattle.vb_monitor.specs.Notices.{stands}
use Rattle.vb_monitor.specs.Pieces.{all_parts}
use Rattle.vb_monitor.specs.Still.{IsMapped, ArePartsMapped}
use Rattle.vb_monitor.specs.Chains.{memory_end}
use Rattle.vb_monitor.proofs.StillAnswers.{first_of}
use Rattle.vb_served.specs.One.{all_of}
use Rattle.vb_served.proofs.WholeMemory.{Lies, lies, mapped, used_there, pieces_there}

-- the device is of a memory of n pages
pub record IsOf (d : Device) (n : ℕ) : Type 0 where
  pub end : d.settings.memory_end ≡ 4096 * n
  pub holds : d.settings.holds_deflates ≡ 0

-- the chain of this head may be given back once it was taken, its element is guest memory, and then
-- no more entries are ahead than the queue has
pub record MayServe (regions : List Region) (kind : Kind) (d : Device)
    (head index : ℕ) : Type 0 where
  pub open_so : use_denial kind head (with_one_taken kind d) ≡ None
  pub there_so : used_spots regions (used_entry (ring_of kind (with_one_taken kind d)) head) ≢ None
  pub goes_on : IsOk (stands (ring_of kind (after_use kind (with_one_taken kind d))) index)

-- ---- the device that named pages

named_by : (kind : Kind) (runs : List Run) (d1 d : Device) (named : Named)
    (answer : Result Named ChainFault) → Ok named ≡ told answer → d ≡ after_chain kind answer d1 →
    d ≡ with_one_taken kind d1
named_by kind runs d1 d named (Err f) e same = absurd cc
named_by kind runs d1 d named (Ok x) e same = same

numbered_by : (d1 d : Device) (named : Named) (answer : Result Named ChainFault) →
    Ok named ≡ told answer → d ≡ after_numbers answer d1 → d ≡ d1
numbered_by d1 d named (Err f) e same = absurd cc
numbered_by d1 d named (Ok x) e same = same

named_or : (kind : Kind) (bytes : List ℕ) (runs : List Run) (d1 d : Device) (named : Named)
    (o : Option Denial) → name_denial kind (length bytes) 256 d1 ≡ o →
    NamesNumbersBy kind bytes 256 runs d1 d (Ok named) → d ≡ d1
named_or kind bytes runs d1 d named (Some why) e names =
    let refused : Ok named ≡ Err why = (names.denied why e).0 in absurd cc
named_or kind bytes runs d1 d named None e names =
    let (answer, is, same, device) = names.names e in
    numbered_by d1 d named answer same device

pub named_device : (kind : Kind) (bytes : List ℕ) (runs : List Run) (d1 d : Device)
    (answer : Result Named Denial) (named : Named) → answer ≡ Ok named →
    NamesNumbersBy kind bytes 256 runs d1 d answer →
    after_last kind answer d ≡ with_one_taken kind d1
named_device kind bytes runs d1 d answer named is names =
    ap (λ (a : Result Named Denial). after_last kind a d) is
    ∙ ap (λ (x : Device). with_one_taken kind x) (named_or kind bytes runs d1 d named _ refl
    (subst (λ (a : Result Named Denial). NamesNumbersBy kind bytes 256 runs d1 d a) is names))

reported_or : (kind : Kind) (pieces : List Piece) (runs : List Run) (d1 d : Device) (named : Named)
    (o : Option Denial) → pieces_denial kind pieces 256 d1 ≡ o →
    NamesPiecesBy kind pieces 256 runs d1 d (Ok named) → d ≡ with_one_taken kind d1
reported_or kind pieces runs d1 d named (Some why) e names =
    let refused : Ok named ≡ Err why = (names.denied why e).0 in absurd cc
reported_or kind pieces runs d1 d named None e names =
    named_by kind runs d1 d named (report_named pieces d1.settings.reserved_pages)
    (names.answer e) (names.device e)

pub reported_device : (kind : Kind) (pieces : List Piece) (runs : List Run) (d1 d : Device)
    (named : Named) → NamesPiecesBy kind pieces 256 runs d1 d (Ok named) → d ≡ with_one_taken kind d1
reported_device kind pieces runs d1 d named names =
    reported_or kind pieces runs d1 d named _ refl names

-- ---- memory

pages_so : (d : Device) (n : ℕ) → IsOf d n → memory_pages d.settings ≡ n
pages_so d n of =
    let whole : 4096 * n / 4096 ≡ n = omega arith in
    ap (λ (m : ℕ). m / 4096) of.end ∙ whole

below_limit : (s : Settings) → are_settings s ≡ true → s.memory_end < MEMORY_LIMIT
below_limit s e = grind (arith, nat_tests, first_of)

few_so : (kind : Kind) (d : Device) (n : ℕ) → IsOf d n → queue_denial kind d ≡ None →
    4096 * n ≤ MEMORY_LIMIT
few_so kind d n of e =
    let below : d.settings.memory_end < MEMORY_LIMIT =
    below_limit d.settings (open_call kind true true d e).settings in
    omega (arith, below, of.end)

ring_lies : (kind : Kind) (d : Device) (n : ℕ) → IsOf d n → queue_denial kind d ≡ None →
    Lies (4096 * n) (ring_of kind d)
ring_lies kind d n of e = lies (4096 * n) (ring_of kind d)
    (subst (λ (m : ℕ). has_place m (ring_of kind d) ≡ true) of.end
    (open_call kind true true d e).place)

pub ring_mapped : (n : ℕ) (kind : Kind) (d : Device) → IsOf d n → queue_denial kind d ≡ None →
    IsMapped (all_of n) (ring_of kind d)
ring_mapped n kind d of e = mapped n (ring_of kind d) (few_so kind d n of e)
    (ring_lies kind d n of e)

pub end_so : (n : ℕ) (d : Device) → IsOf d n → memory_end d ≡ 4096 * n
end_so n d of = ap (λ (m : ℕ). 4096 * m) (pages_so d n of)

pub parts_mapped : (n q head : ℕ) (kind : Kind) (d : Device) (ds : ℕ → Descriptor)
    (pieces : List Piece) → IsOf d n → queue_denial kind d ≡ None →
    ChainGives ds q (memory_end d) head pieces → ArePartsMapped (all_of n) (all_parts pieces)
parts_mapped n q head kind d ds pieces of open_so gives =
    pieces_there n pieces (few_so kind d n of open_so)
    (subst (λ (m : ℕ). All (λ p. p.addr + p.len ≤ m) pieces) (end_so n d of)
    (chain_fits ds q (memory_end d) head pieces gives))

-- ---- one more entry is taken

ring_taken : (kind : Kind) (d : Device) →
    ring_of kind (with_one_taken kind d) ≡ with_taken (ring_of kind d)
ring_taken Inflate d = refl
ring_taken Deflate d = refl
ring_taken Statistics d = refl
ring_taken Hint d = refl
ring_taken Report d = refl

ring_used : (kind : Kind) (d : Device) → ring_of kind (after_use kind d) ≡ with_used
    (ring_of kind d)
ring_used Inflate d = refl
ring_used Deflate d = refl
ring_used Statistics d = refl
ring_used Hint d = refl
ring_used Report d = refl

used_open : (kind : Kind) (head : ℕ) (d : Device) (b : Bool) →
    nat_lt head (ring_of kind d).size ≡ b → b ≡ true → queue_denial kind d ≡ None →
    use_denial kind head (with_one_taken kind d) ≡ None
used_open Inflate head d b e f open_so =
    ap (λ (c : Bool). call_denial Inflate true c d) (e ∙ f) ∙ open_so
used_open Deflate head d b e f open_so =
    ap (λ (c : Bool). call_denial Deflate true c d) (e ∙ f) ∙ open_so
used_open Statistics head d b e f open_so =
    ap (λ (c : Bool). call_denial Statistics true c d) (e ∙ f) ∙ open_so
used_open Hint head d b e f open_so =
    ap (λ (c : Bool). call_denial Hint true c d) (e ∙ f) ∙ open_so
used_open Report head d b e f open_so =
    ap (λ (c : Bool). call_denial Report true c d) (e ∙ f) ∙ open_so

lt_so : (a b : ℕ) → a < b → nat_lt a b ≡ true
lt_so a b lt = grind (arith, nat_tests)

lies_taken : (end : ℕ) (r : Virtqueue) → Lies end r → Lies end (with_taken r)
lies_taken end r at =
    record { some = at.some; table = at.table; avail = at.avail; used = at.used }

-- an entry that is available is ahead, and no further than the queue has
stands_by_so : (z fits : Bool) →
    (if z then Ok false else (if fits then Ok true else Err IndexJump)) ≡ Ok true →
    (z ≡ false) × (fits ≡ true)
stands_by_so true fits e = absurd cc
stands_by_so false true e = (refl, refl)
stands_by_so false false e = absurd cc

not_zero : (n : ℕ) → (n == 0) ≡ false → 0 < n
not_zero n e = grind (arith, nat_tests)

le_so : (a b : ℕ) → nat_le a b ≡ true → a ≤ b
le_so a b e = grind (arith, nat_tests)

le_back : (a b : ℕ) → a ≤ b → nat_le a b ≡ true
le_back a b le = grind (arith, nat_tests)

-- the index is one less ahead then
one_less : (index n size : ℕ) → n < 65536 → 0 < ahead index n → ahead index n ≤ size →
    ahead index ((n + 1) % 65536) ≤ size
one_less index n size few some most = omega (arith, few, some, most)

ok_by : (z fits : Bool) → fits ≡ true →
    IsOk (if z then Ok false else (if fits then Ok true else Err IndexJump))
ok_by true fits e = refl
ok_by false true e = refl
ok_by false false e = absurd cc

stands_so : (r : Virtqueue) (index : ℕ) → r.next_avail < 65536 → stands r index ≡ Ok true →
    IsOk (stands (with_used (with_taken r)) index)
stands_so r index few e =
    let a = ahead index r.next_avail in
    let (some, most) = stands_by_so (a == 0) (nat_le a r.size) e in
    let b = ahead index ((r.next_avail + 1) % 65536) in
    ok_by (b == 0) (nat_le b r.size) (le_back b r.size
    (one_less index r.next_avail r.size few (not_zero a some) (le_so a r.size most)))

-- ---- all of it

-- of a chain that is next, where the queue isn't refused
pub may_give : (n : ℕ) (kind : Kind) (d : Device) (head index : ℕ) → IsOf d n →
    head < (ring_of kind d).size → (ring_of kind d).next_avail < 65536 →
    stands (ring_of kind d) index ≡ Ok true → queue_denial kind d ≡ None →
    MayServe (all_of n) kind d head index
may_give n kind d head index of below next_avail there open_so =
    let r = ring_of kind d in
    let few = few_so kind d n of open_so in
    let at = ring_lies kind d n of open_so in
    let taken = with_one_taken kind d in
    record {
      open_so = used_open kind head d _ refl (lt_so head r.size below) open_so;
      there_so = subst (λ (q : Virtqueue). used_spots (all_of n) (used_entry q head) ≢ None)
          (sym (ring_taken kind d)) (used_there n head (with_taken r) few
          (lies_taken (4096 * n) r at));
      goes_on = subst (λ (q : Virtqueue). IsOk (stands q index))
          (sym (ring_used kind taken ∙ ap with_used (ring_taken kind d)))
          (stands_so r index next_avail there);
    }
