-- What a request's bytes come to is what the definitions give of it.
use Rattle.std.proofs.Common.{◌≡◌, ◌∙◌, ap, sym, subst, refl, arith, ℕ, ◌/◌, ◌<◌}
use Rattle.std.proofs.Common.{Bool, true, false, List, length, take, Option, Some, None}
use Rattle.std.proofs.Common.{Result, Ok, Err}
use Rattle.std.specs.Prelude.{◌&&◌, not, nat_le, nat_lt, if◌then◌else◌, IsOkAnd}
use Rattle.std.specs.List.{list_any}
use Rattle.std.proofs.lemmas.Bool.Decides.{nat_tests}
use Rattle.vb_virtio.specs.Tests.{is_in}
use Rattle.vb_ram.specs.Pages.{Pages}
use Rattle.vb_chain.specs.declared.{fault.ChainFault.ChainFault, pieces.Piece.Piece}
use Rattle.vb_chain.specs.declared.fault.ChainFault.TheVariants.{WrongDirection, BadLength}
use Rattle.vb_request.specs.Request.{bytes_of, request_length, is_request_length}
use Rattle.vb_request.specs.Request.{page_request, pages_of_numbers, numbers_of, total_length}
use Rattle.vb_request.specs.Request.{first_number_fault, unless_fault, each_once}
use Rattle.vb_request.proofs.{Bytes.read_numbers, RequestPages.request_pages}
use Rattle.vb_core.specs.declared.kinds.Kind.{Kind}
use Rattle.vb_core.specs.declared.{runs.Run.Run, name.Named.Named}
use Rattle.vb_core.specs.declared.device.{Denial.Denial, Device.Device, Denial.TheVariants.Broken}
use Rattle.vb_core.specs.Devices.{queue_denial, call_denial, needing_reset, with_one_taken}
use Rattle.vb_core.specs.Name.{right_numbers, is_request, name_denial, NamesRuns, AreNamed}
use Rattle.vb_core.specs.Name.{told, after_chain, after_numbers, is_length_of_numbers}
use Rattle.vb_core.specs.Runs.{pages_of_runs}
use Rattle.vb_core.specs.Settings.{memory_pages, skips}
use Rattle.vb_core.proofs.NamedLaws.{named_fault, named_members}
use Rattle.vb_monitor.specs.{Giving.after_last, Still.{bytes_of as read_bytes}}
use Rattle.vb_served.specs.{Store.Store, One.{byte, BreaksRule, NamesOne, ServesRequest, Settles}}
use Rattle.vb_served.proofs.RoomLemmas.{request_bytes}
use Rattle.vb_served.proofs.RunPages.{in_all, are_inside, tells_some}
use Rattle.vb_served.proofs.CutLemmas.{AreInside}

-- ---- lengths

by_tests : (a b : Bool) (n : ℕ) (pages : Result (List ℕ) ChainFault) (f : ChainFault) →
    (if a then Err WrongDirection else (if not b then Err BadLength else Ok n)) ≡ Err f →
    (if a then Err WrongDirection else (if not b then Err BadLength else pages)) ≡ Err f
by_tests true b n pages f e = wrong f e where
  wrong : (f : ChainFault) → ◌≡◌ {A = Result ℕ ChainFault} (Err WrongDirection) (Err f)
      → ◌≡◌ {A = Result (List ℕ) ChainFault} (Err WrongDirection) (Err f)
  wrong f e = let same : WrongDirection ≡ f = cc in ap Err same
by_tests false false n pages f e = bad f e where
  bad : (f : ChainFault) → ◌≡◌ {A = Result ℕ ChainFault} (Err BadLength) (Err f)
      → ◌≡◌ {A = Result (List ℕ) ChainFault} (Err BadLength) (Err f)
  bad f e = let same : BadLength ≡ f = cc in ap Err same
by_tests false true n pages f e = absurd cc

pub wrong_length : (mem : Pages) (pieces : List Piece) (reserved : ℕ) (f : ChainFault) →
    request_length pieces ≡ Err f → page_request mem pieces reserved ≡ Err f
unfolding page_request
wrong_length mem pieces reserved f e =
    by_tests (list_any (λ piece. piece.writable) pieces) (is_request_length (total_length pieces))
    (total_length pieces)
    (pages_of_numbers reserved (length mem) (numbers_of (bytes_of mem pieces))) f e

length_ok : (pieces : List Piece) (n : ℕ) → request_length pieces ≡ Ok n →
    is_request_length n ≡ true
length_ok pieces n e = grind (arith, nat_tests)

few_numbers : (n : ℕ) → is_request_length n ≡ true → nat_le (n / 4) 256 ≡ true
few_numbers n e = grind (arith, nat_tests)

second : (a b : Bool) → (a && b) ≡ true → b ≡ true
second true b e = e
second false b e = absurd cc

-- a request's bytes may be named at once
numbers_fit : (n : ℕ) → is_request_length n ≡ true → is_length_of_numbers n ≡ true
numbers_fit n e = second (nat_lt 0 n) (is_length_of_numbers n) e

pub same_bytes : (s : Store) (pieces : List Piece) → read_bytes (byte s) pieces ≡ bytes_of s.mem pieces
unfolding bytes_of
same_bytes s pieces = refl

known_so : (kind : Kind) → is_request kind ≡ true → (a : Bool) (d : Device) →
    call_denial kind (is_request kind) a d ≡ call_denial kind true a d
known_so kind e a d = ap (λ (k : Bool). call_denial kind k a d) e

-- what a queue isn't refused for a request of its bytes isn't refused for either
pub name_open : (kind : Kind) (d : Device) (bytes : List ℕ) (n : ℕ) → is_request kind ≡ true →
    length bytes ≡ n → is_request_length n ≡ true → queue_denial kind d ≡ None →
    name_denial kind (length bytes) 256 d ≡ None
name_open kind d bytes n is long fits open_so =
    ap (λ (m : ℕ). name_denial kind m 256 d) long
    ∙ (known_so kind is (is_length_of_numbers n && nat_le (n / 4) 256) d
    ∙ (ap (λ (b : Bool). call_denial kind true (b && nat_le (n / 4) 256) d) (numbers_fit n fits)
    ∙ (ap (λ (b : Bool). call_denial kind true (true && b) d) (few_numbers n fits) ∙ open_so)))

-- ---- what is made of a request

-- by the definitions: a rule is broken, or just these pages are named
pub data RequestDoes (kind : Kind) (head reserved : ℕ) (pieces : List Piece) (d1 d2 : Device)
    (why : Option Denial) (s t : Store) : Type 0 where
  Wrong : (f : ChainFault) → page_request s.mem pieces reserved ≡ Err f
      → BreaksRule f d1 d2 why s t → RequestDoes kind head reserved pieces d1 d2 why s t
  Right : (pages : List ℕ) (runs : List Run) → page_request s.mem pieces reserved ≡ Ok pages
      → ((p : ℕ) → is_in p (pages_of_runs runs) ≡ is_in p pages)
      → AreInside (length s.mem) runs
      → Settles kind head runs (with_one_taken kind d1) d2 why s t
      → RequestDoes kind head reserved pieces d1 d2 why s t

and_both : {A B : Type 0} (o : Result A B) (P Q : A → Type 0) → IsOkAnd o P → IsOkAnd o Q →
    IsOkAnd o (λ x. P x × Q x)
and_both (Ok x) P Q p q = (p, q)
and_both (Err e) P Q p q = p

-- where the bytes named pages
right_so : (kind : Kind) (head reserved : ℕ) (pieces : List Piece) (d1 d2 device : Device)
    (why : Option Denial) (s t : Store) (runs : List Run) (pages : List ℕ) (answer : Result Named
    Denial) (o : Result Named ChainFault) → page_request s.mem pieces reserved ≡ Ok pages →
    IsOkAnd o (λ named. (AreNamed (right_numbers reserved (length s.mem)
    (numbers_of (bytes_of s.mem pieces))) (length (numbers_of (bytes_of s.mem pieces))) runs named)
    × ((p : ℕ) → is_in p (pages_of_runs (take named.runs runs)) ≡ is_in p pages)) →
    answer ≡ told o → device ≡ after_chain kind o d1 →
    NamesOne kind head runs device d2 why s t answer →
    RequestDoes kind head reserved pieces d1 d2 why s t
right_so kind head reserved pieces d1 d2 device why s t runs pages answer (Err f) e is same after did
    = absurd is
right_so kind head reserved pieces d1 d2 device why s t runs pages answer (Ok named) e is same after
    did =
    let below = request_pages s.mem pieces reserved pages e in
    let told_so = is.0.told_so in
    Right pages (take named.runs runs) e is.1
    (are_inside (length s.mem) (take named.runs runs) (tells_some (take named.runs runs) _ told_so)
    (λ p inside. in_all (λ page. page < length s.mem) pages p below.below (sym (is.1 p) ∙ inside)))
    (subst (λ (x : Device). Settles kind head (take named.runs runs) x d2 why s t) after
    (subst (λ (r : Result Named Denial). NamesOne kind head runs device d2 why s t r) same did))

wrong_so : (kind : Kind) (head : ℕ) (d1 d2 device : Device) (why : Option Denial) (s t : Store)
    (runs : List Run) (answer : Result Named Denial) (f : ChainFault) → answer ≡ Err (Broken f) →
    device ≡ needing_reset d1 → NamesOne kind head runs device d2 why s t answer →
    BreaksRule f d1 d2 why s t
wrong_so kind head d1 d2 device why s t runs answer f same after did =
    let left = subst (λ (r : Result Named Denial). NamesOne kind head runs device d2 why s t r) same
    did in
    record { ends = left.ends; device = left.device ∙ after; memory = left.memory }

-- the pages that the definitions give, or the fault
by_pages : (kind : Kind) (head reserved n : ℕ) (pieces : List Piece) (d1 d2 device : Device)
    (why : Option Denial) (s t : Store) (runs : List Run) (answer : Result Named Denial)
    (o : Result Named ChainFault) (found : Result (List ℕ) ChainFault) →
    request_length pieces ≡ Ok n → page_request s.mem pieces reserved ≡ found →
    NamesRuns false reserved (length s.mem) (numbers_of (bytes_of s.mem pieces)) runs o →
    answer ≡ told o → device ≡ after_chain kind o d1 →
    NamesOne kind head runs device d2 why s t answer →
    RequestDoes kind head reserved pieces d1 d2 why s t
by_pages kind head reserved n pieces d1 d2 device why s t runs answer o (Err f) e found names same
    after did =
    let broken : o ≡ Err f = named_fault s.mem pieces reserved n runs o f e names found in
    Wrong f found (wrong_so kind head d1 d2 device why s t runs answer f
    (same ∙ ap (λ (x : Result Named ChainFault). told x) broken)
    (after ∙ ap (λ (x : Result Named ChainFault). after_chain kind x d1) broken) did)
by_pages kind head reserved n pieces d1 d2 device why s t runs answer o (Ok pages) e found names same
    after did =
    right_so kind head reserved pieces d1 d2 device why s t runs pages answer o found
    (and_both o _ _ (names.named (none_wrong reserved (length s.mem)
    (numbers_of (bytes_of s.mem pieces)) pages (numbers_so s.mem pieces reserved n pages e found)))
    (named_members s.mem pieces reserved n runs o pages e names found)) same after did
  where
    none_wrong : (reserved count : ℕ) (ns pages : List ℕ) →
        pages_of_numbers reserved count ns ≡ Ok pages →
        first_number_fault reserved count ns ≡ None
    none_wrong reserved count ns pages e =
        by (first_number_fault reserved count ns) refl e where
          by : (f : Option ChainFault) →
              first_number_fault reserved count ns ≡ f →
              unless_fault f
              (each_once ns) ≡ Ok pages → f ≡ None
          by None g h = refl
          by (Some x) g h = absurd cc

    numbers_so : (mem : Pages) (pieces : List Piece) (reserved n : ℕ) (pages : List ℕ) →
        request_length pieces ≡ Ok n → page_request mem pieces reserved ≡ Ok pages →
        pages_of_numbers reserved (length mem) (numbers_of (bytes_of mem pieces)) ≡ Ok pages
    numbers_so mem pieces reserved n pages e found =
        sym (read_numbers mem pieces reserved n e) ∙ found

-- the device once a request's numbers were named, all at once, and its entry was taken
all_taken : (kind : Kind) (d1 d : Device) (answer : Result Named Denial)
    (o : Result Named ChainFault) → answer ≡ told o → d ≡ after_numbers o d1 →
    after_last kind answer d ≡ after_chain kind o d1
all_taken kind d1 d answer (Ok named) same after =
    ap (λ (a : Result Named Denial). after_last kind a d) same
    ∙ ap (λ (x : Device). with_one_taken kind x) after
all_taken kind d1 d answer (Err f) same after =
    ap (λ (a : Result Named Denial). after_last kind a d) same ∙ after

-- what is known of the device beside the queue
pub record IsStrict (d : Device) (s : Store) (reserved : ℕ) : Type 0 where
  pub skipping : skips d.settings ≡ false
  pub reserved_so : d.settings.reserved_pages ≡ reserved
  pub pages : memory_pages d.settings ≡ length s.mem

pub request_does : (kind : Kind) (head reserved : ℕ) (pieces : List Piece) (d1 d2 : Device)
    (why : Option Denial) (s t : Store) (n : ℕ) → is_request kind ≡ true →
    queue_denial kind d1 ≡ None → IsStrict d1 s reserved → request_length pieces ≡ Ok n →
    ServesRequest kind head (read_bytes (byte s) pieces) d1 d2 why s t →
    RequestDoes kind head reserved pieces d1 d2 why s t
request_does kind head reserved pieces d1 d2 why s t n is open_so strict e did =
    let bytes = read_bytes (byte s) pieces in
    let (o, names, same, after) = did.names.names (name_open kind d1 bytes n is
    (request_bytes (byte s) pieces n e) (length_ok pieces n e) open_so) in
    by_pages kind head reserved n pieces d1 d2 (after_last kind did.answer did.device) why s t did.runs did.answer o
    (page_request s.mem pieces reserved) e refl
    (subst (λ (bs : List ℕ). NamesRuns false reserved (length s.mem) (numbers_of bs) did.runs o)
    (same_bytes s pieces)
    (subst (λ (m : ℕ). NamesRuns false reserved m (numbers_of bytes) did.runs o) strict.pages
    (subst (λ (m : ℕ). NamesRuns false m (memory_pages d1.settings) (numbers_of bytes) did.runs o)
    strict.reserved_so
    (subst (λ (b : Bool). NamesRuns b d1.settings.reserved_pages (memory_pages d1.settings)
    (numbers_of bytes) did.runs o) strict.skipping names)))) same
    (all_taken kind d1 did.device did.answer o same after) did.serves
