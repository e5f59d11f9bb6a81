-- The walk along a chain, where memory stays as it is.
use Rattle.std.proofs.Common.{◌≡◌, ◌≢◌, ◌⊎◌, ◌∙◌, ap, sym, subst, refl, arith, inl, inr, ℕ, zero}
use Rattle.std.proofs.Common.{suc, ◌+◌, ◌-◌, ◌*◌, ◌<◌, ◌≤◌, Bool, true, false, List, [], ◌∷◌, ◌++◌}
use Rattle.std.{proofs.Common.{length, take, drop, Option, Some, None}, specs.Prelude.{◌||◌}}
use Rattle.std.proofs.lemmas.{Bool.Decides.nat_tests}
use Rattle.std.proofs.lemmas.List.FromFn.{take-map-range_with_len, length-map-range_with_len}
use Rattle.vb_chain.proofs.Walking.{Walked, walked_more}
use Rattle.vb_chain.specs.{Rules.{has_next, is_writable, piece_of}, declared.descriptor.Descriptor.Descriptor}
use Rattle.vb_chain.specs.declared.{fault.ChainFault.ChainFault, pieces.Piece.Piece}
use Rattle.vb_core.{specs.declared.device.Device.Device, specs.Devices.ring_of}
use Rattle.vb_monitor.specs.declared.{regions.Region.Region, regions.Spot.Spot, outcome.Tally.Tally}
use Rattle.vb_monitor.specs.{Accesses.{Access, CopyBytes}, Ends.{Whole, Breaks}, Regions.spot}
use Rattle.vb_monitor.specs.Chains.{descriptor_of, longest, memory_end, chain_fault, table_fault, Follows}
use Rattle.vb_monitor.specs.Chains.{TableRow, row_of, no_row, in_row, unless_apart, most_further}
use Rattle.vb_monitor.specs.Chains.{DescriptorBy, GoesOn, AfterDescriptor, RowAt, FollowsBy}
use Rattle.vb_monitor.proofs.TableRowLemmas.{first_in_row, in_row_is, none_in_none}
use Rattle.vb_monitor.specs.Still.{bytes_from, Holds, in_memory}
use Rattle.vb_monitor.specs.{Still.StaysUntil, Within.{ChainWithin, FaultWithin}}
use Rattle.vb_monitor.proofs.TableRowLemmas.{room_for}
use Rattle.vb_monitor.proofs.WithinLemmas.{chain_within, fault_within, no_first, next_below, visited}

-- the whole chain is served, after what was read
pub record IsWhole (still : List Access → Type 0) (whole : List Piece → List Access →
    Type 0) (d : ℕ → Descriptor)
    (q end head : ℕ) (log : List Access) : Type 0 where
  pub pieces : List Piece
  pub read : List Access
  pub rest : List Access
  pub all : log ≡ read ++ rest
  pub gives : ChainWithin d q end head pieces
  pub serves : whole pieces rest
  pub still_so : still rest

-- or the first fault ends the notice
pub record IsBroken (still : List Access → Type 0) (w : Whole) (d : Device) (t : Tally) (ds : ℕ →
    Descriptor) (q end head : ℕ) :
    Type 0 where
  pub fault : ChainFault
  pub rest : List Access
  pub gives : FaultWithin ds q end head fault
  pub breaks : Breaks w d t fault rest
  pub still_so : still rest

abbrev pub Walk : (List Access → Type 0) → Whole → Device → Tally →
    (List Piece → List Access → Type 0) → (ℕ → Descriptor) → ℕ → ℕ → ℕ → List Access → Type 0
Walk still w d t whole ds q end head log =
    IsWhole still whole ds q end head log ⊎ IsBroken still w d t ds q end head

-- after one more access
read_first : (still : List Access → Type 0) (w : Whole) (d : Device) (t : Tally) (whole : List Piece →
    List Access → Type 0)
    (ds : ℕ → Descriptor) (q end head : ℕ) (x : Access) (rest log : List Access) → log ≡ x ∷ rest →
    Walk still w d t whole ds q end head rest → Walk still w d t whole ds q end head log
read_first still w d t whole ds q end head x rest log e (inl h) = inl (record {
  pieces = h.pieces;
  read = x ∷ h.read;
  rest = h.rest;
  all = e ∙ ap (λ (l : List Access). x ∷ l) h.all;
  gives = h.gives;
  serves = h.serves;
  still_so = h.still_so;
})
read_first still w d t whole ds q end head x rest log e (inr h) = inr h

-- ---- a step

first_alone : (q end : ℕ) (writing : Bool) (k : ℕ) (x : Descriptor) → k < longest q →
    table_fault q end writing k x ≡ chain_fault q end writing k x
first_alone q end writing k x lt = grind (arith, nat_tests)

-- what was copied is what memory has there
pub copied_as : (byte : ℕ → ℕ) (regions : List Region) (a len : ℕ) (at : Spot) (bytes : List ℕ) →
    Holds byte regions (CopyBytes at bytes) → spot regions a len ≡ Some at → length bytes ≡ len →
    bytes ≡ bytes_from byte a len
copied_as byte regions a len at bytes holds e long =
    holds a (ap (λ (n : ℕ). spot regions a n) long ∙ e) ∙ ap (λ (n : ℕ). bytes_from byte a n) long

-- ---- rows

from_on : (byte : ℕ → ℕ) (a i n : ℕ) → drop i (bytes_from byte a (i + n)) ≡ bytes_from byte
    (a + i) n
from_on byte a zero n =
    let none : zero + n ≡ n = omega arith in
    let same : a ≡ a + zero = omega arith in
    ap (λ (k : ℕ). bytes_from byte a k) none ∙ ap (λ (b : ℕ). bytes_from byte b n) same
from_on byte a (suc i) n =
    let more : suc i + n ≡ suc (i + n) = omega arith in
    let next : a + 1 + i ≡ a + suc i = omega arith in
    ap (λ (k : ℕ). drop (suc i) (bytes_from byte a k)) more
    ∙ (from_on byte (a + 1) i n ∙ ap (λ (b : ℕ). bytes_from byte b n) next)

part_of : (byte : ℕ → ℕ) (a i m n : ℕ) → i + m ≤ n →
    take m (drop i (bytes_from byte a n)) ≡ bytes_from byte (a + i) m
part_of byte a i m n le =
    let whole : n ≡ i + (n - i) = omega (arith, le) in
    ap (λ (k : ℕ). take m (drop i (bytes_from byte a k))) whole
    ∙ (ap (λ (l : List ℕ). take m l) (from_on byte a i (n - i))
    ∙ take-map-range_with_len byte (a + i) (n - i) m (omega (arith, le)))

-- each descriptor of a row is the one that memory has
pub record Shows (byte : ℕ → ℕ) (table : ℕ) (row : TableRow) : Type 0 where
  pub alike : (k : ℕ) (bytes : List ℕ) → in_row row k ≡ Some bytes →
      descriptor_of bytes ≡ in_memory byte table k

pub none_shows : (byte : ℕ → ℕ) (table : ℕ) → Shows byte table no_row
none_shows byte table = record { alike = λ k bytes e. absurd (none_in_none k bytes e) }

pub row_shows : (byte : ℕ → ℕ) (table number further : ℕ) (bytes : List ℕ) →
    bytes ≡ bytes_from byte (table + 16 * number) (16 * (further + 1)) →
    Shows byte table (row_of number bytes)
row_shows byte table number further bytes e = record {
  alike = λ k found is.
      let (le, fits, same) = in_row_is (row_of number bytes) k found is in
      let long : length bytes ≡ 16 * (further + 1) = ap (λ (l : List ℕ). length l) e
      ∙ length-map-range_with_len byte (table + 16 * number) (16 * (further + 1)) in
      let place : table + 16 * number + 16 * (k - number) ≡ table + 16 * k = omega (arith, le) in
      ap descriptor_of (same ∙ (ap (λ (l : List ℕ). take 16 (drop (16 * (k - number)) l)) e
      ∙ (part_of byte (table + 16 * number) (16 * (k - number)) 16 (16 * (further + 1))
      (omega (arith, fits, long)) ∙ ap (λ (a : ℕ). bytes_from byte a 16) place)));
}

-- ---- the walk

-- what a walk that goes on comes to: `follows` from the next descriptor on, once i were visited
abbrev Onward : (List Access → Type 0) → (ℕ → ℕ) → Whole → Device → Tally → (List Piece →
    List Access → Type 0) →
    (ℕ → Bool → List Piece → List Access → Type 0) → (ℕ → Descriptor) → ℕ → ℕ → ℕ → ℕ → Type 0
Onward onward byte w d t whole follows ds q end head i =
    (path : List ℕ) (index : ℕ) (writing : Bool) (pieces : List Piece) (log : List Access) →
    i < longest q → index < q → Walked ds q end head path i index writing pieces →
    StaysUntil onward byte w.regions log
    → follows index writing pieces log → Walk (StaysUntil onward byte w.regions) w d t whole ds q
    end head log

goes : (onward : List Access → Type 0) (byte : ℕ → ℕ) (w : Whole) (d : Device) (t : Tally)
    (whole : List Piece → List Access → Type 0)
    (follows : ℕ → Bool → List Piece → List Access → Type 0) (ds : ℕ → Descriptor) (q end head : ℕ)
    (path : List ℕ) (i index : ℕ) (writing : Bool) (pieces : List Piece) (log : List Access)
    (on : Onward onward byte w d t whole follows ds q end head (i + 1)) (more : Bool) → i < longest q
    → Walked ds q end head path i index writing pieces → chain_fault q end writing i (ds index)
    ≡ None → has_next (ds index) ≡ more → StaysUntil onward byte w.regions log
    → GoesOn more follows whole writing (ds index) pieces log →
    Walk (StaysUntil onward byte w.regions) w d t whole ds q end head log
goes onward byte w d t whole follows ds q end head path i index writing pieces log on true lt walked
    e f
    stays h =
    let none = no_first q end writing i (ds index) e in
    let below = next_below q end writing i (ds index) none f in
    let room = room_for q end writing i (ds index) e f in
    on (path ++ (ds index).next ∷ []) (ds index).next (writing || is_writable (ds index))
    (pieces ++ piece_of (ds index) ∷ []) log room below
    (walked_more ds q end head path i index writing pieces walked none f) stays h
goes onward byte w d t whole follows ds q end head path i index writing pieces log on false lt
    walked e f
    stays h = inl (record {
      pieces = pieces ++ piece_of (ds index) ∷ [];
      read = [];
      rest = log;
      all = refl;
      gives = chain_within ds q end head path i index writing pieces walked lt e f;
      serves = h;
      still_so = stays;
    })

by_fault : (onward : List Access → Type 0) (byte : ℕ → ℕ) (w : Whole) (d : Device) (t : Tally)
    (whole : List Piece → List Access → Type 0)
    (follows : ℕ → Bool → List Piece → List Access → Type 0) (ds : ℕ → Descriptor) (q end head : ℕ)
    (path : List ℕ) (i index : ℕ) (writing : Bool) (pieces : List Piece) (log : List Access)
    (on : Onward onward byte w d t whole follows ds q end head (i + 1)) (o : Option ChainFault) →
    i < longest q
    → Walked ds q end head path i index writing pieces → chain_fault q end writing i (ds index) ≡ o
    → StaysUntil onward byte w.regions log → DescriptorBy o w d t follows whole writing
    (ds index) pieces log
    → Walk (StaysUntil onward byte w.regions) w d t whole ds q end head log
by_fault onward byte w d t whole follows ds q end head path i index writing pieces log on
    (Some f) lt
    walked e stays h = inr (record {
      fault = f;
      rest = log;
      gives = fault_within ds q end head path i index writing pieces f walked lt e;
      breaks = h;
      still_so = stays;
    })
by_fault onward byte w d t whole follows ds q end head path i index writing pieces log on None lt
    walked e
    stays h = goes onward byte w d t whole follows ds q end head path i index writing pieces log on
    (has_next (ds index)) lt walked e refl stays h

-- what a descriptor says that is the one that memory has
after : (onward : List Access → Type 0) (byte : ℕ → ℕ) (w : Whole) (d : Device) (t : Tally)
    (whole : List Piece → List Access → Type 0)
    (follows : ℕ → Bool → List Piece → List Access → Type 0) (q head : ℕ) (path : List ℕ)
    (i index : ℕ) (writing : Bool) (pieces : List Piece) (bytes : List ℕ) (log : List Access)
    (on : Onward onward byte w d t whole follows (in_memory byte (ring_of w.kind d).table) q
    (memory_end d) head (i + 1)) → q ≡ (ring_of w.kind d).size → i < longest q →
    descriptor_of bytes ≡ in_memory byte (ring_of w.kind d).table index →
    Walked (in_memory byte (ring_of w.kind d).table) q (memory_end d) head path i index writing
    pieces → StaysUntil onward byte w.regions log →
    AfterDescriptor w d t follows whole writing pieces bytes log →
    Walk (StaysUntil onward byte w.regions) w d t whole (in_memory byte
    (ring_of w.kind d).table) q (memory_end d) head log
after onward byte w d t whole follows q head path i index writing pieces bytes log on is lt same
    walked
    stays h =
    let ds = in_memory byte (ring_of w.kind d).table in
    let end = memory_end d in
    let k : length pieces ≡ i = visited ds q end head path i index writing pieces walked in
    let fault : table_fault (ring_of w.kind d).size end writing (length pieces)
    (descriptor_of bytes) ≡ chain_fault q end writing i (ds index) =
    ap (λ (n : ℕ). table_fault n end writing (length pieces) (descriptor_of bytes)) (sym is)
    ∙ (ap (λ (n : ℕ). table_fault q end writing n (descriptor_of bytes)) k
    ∙ (ap (λ (x : Descriptor). table_fault q end writing i x) same
    ∙ first_alone q end writing i (ds index) lt)) in
    by_fault onward byte w d t whole follows ds q end head path i index writing pieces log on
    _ lt walked refl stays
    (subst (λ (x : Descriptor). DescriptorBy (chain_fault q end writing i (ds index)) w d t follows
    whole writing x pieces log) same
    (subst (λ (o : Option ChainFault). DescriptorBy o w d t follows whole writing
    (descriptor_of bytes) pieces log) fault h))

-- a row is copied, which is what memory has there
abbrev Rows : (List Access → Type 0) → (ℕ → ℕ) → Whole → Device → Tally → (List Piece →
    List Access → Type 0) →
    (TableRow → ℕ → Bool → List Piece → List Access → Type 0) → ℕ → ℕ → ℕ → Type 0
Rows onward byte w d t whole follows q head i =
    (row : TableRow) → Shows byte (ring_of w.kind d).table row →
    Onward onward byte w d t whole (follows row) (in_memory byte (ring_of w.kind d).table) q
    (memory_end d) head i

row_at : (onward : List Access → Type 0) (byte : ℕ → ℕ) (w : Whole) (d : Device) (t : Tally)
    (whole : List Piece → List Access → Type 0)
    (follows : TableRow → ℕ → Bool → List Piece → List Access → Type 0) (q head : ℕ)
    (path : List ℕ) (i index further : ℕ) (writing : Bool) (pieces : List Piece)
    (log : List Access) (on : Rows onward byte w d t whole follows q head (i + 1))
    (o : Option Spot) →
    q ≡ (ring_of w.kind d).size →
    spot w.regions ((ring_of w.kind d).table + 16 * index) (16 * (further + 1)) ≡ o → o ≢ None →
    i < longest q →
    Walked (in_memory byte (ring_of w.kind d).table) q (memory_end d) head path i index writing
    pieces → StaysUntil onward byte w.regions log →
    RowAt w d t follows whole index further writing pieces o log →
    Walk (StaysUntil onward byte w.regions) w d t whole (in_memory byte
    (ring_of w.kind d).table) q (memory_end d) head log
row_at onward byte w d t whole follows q head path i index further writing pieces log on None is e
    mapped
    lt walked stays h = absurd (mapped refl)
row_at onward byte w d t whole follows q head path i index further writing pieces log on
    (Some at) is e mapped lt walked stays h =
    let table = (ring_of w.kind d).table in
    let row = row_of index h.bytes in
    let both : Holds byte w.regions (CopyBytes at h.bytes) × StaysUntil onward byte w.regions h.rest
    =
    subst (λ (l : List Access). StaysUntil onward byte w.regions l) h.asks stays in
    let shows : Shows byte table row = row_shows byte table index further h.bytes
    (copied_as byte w.regions (table + 16 * index) (16 *
    (further + 1)) at h.bytes both.0 e h.long) in
    read_first (StaysUntil onward byte w.regions) w d t whole (in_memory byte table) q
    (memory_end d) head (CopyBytes at h.bytes) h.rest
    log h.asks
    (after onward byte w d t whole (follows row) q head path i index writing pieces
    (take 16 h.bytes)
    h.rest (on row shows) is lt
    (shows.alike index (take 16 h.bytes) (first_in_row index h.bytes further h.long)) walked both.1
    h.goes_on)

is_some : (at : Spot) → Some at ≡ None → ⊥
is_some at e = absurd cc

-- it lies in guest memory where its first descriptor does
row_mapped : (regions : List Region) (a many : ℕ) (o : Option Spot) →
    spot regions a (16 * (many + 1)) ≡ o → spot regions a 16 ≢ None →
    spot regions a (16 * (unless_apart o many + 1)) ≢ None
row_mapped regions a many None e mapped = mapped
row_mapped regions a many (Some at) e mapped =
    λ f. absurd (is_some at (sym e ∙ f))

row_by : (onward : List Access → Type 0) (byte : ℕ → ℕ) (w : Whole) (d : Device) (t : Tally)
    (whole : List Piece → List Access → Type 0)
    (follows : TableRow → ℕ → Bool → List Piece → List Access → Type 0) (q head : ℕ)
    (path : List ℕ) (i index : ℕ) (row : TableRow) (writing : Bool) (pieces : List Piece)
    (log : List Access) (on : Rows onward byte w d t whole follows q head (i + 1))
    (o : Option (List ℕ)) → in_row row index ≡ o → Shows byte (ring_of w.kind d).table row →
    q ≡ (ring_of w.kind d).size →
    spot w.regions ((ring_of w.kind d).table + 16 * index) 16 ≢ None → i < longest q →
    Walked (in_memory byte (ring_of w.kind d).table) q (memory_end d) head path i index writing
    pieces → StaysUntil onward byte w.regions log →
    FollowsBy o w d t follows whole row index writing pieces log →
    Walk (StaysUntil onward byte w.regions) w d t whole (in_memory byte
    (ring_of w.kind d).table) q (memory_end d) head log
row_by onward byte w d t whole follows q head path i index row writing pieces log on None e shows is
    mapped lt walked stays h =
    row_at onward byte w d t whole follows q head path i index _ writing pieces log on _ is refl
    (row_mapped w.regions _ (most_further (ring_of w.kind d).size index pieces) _ refl
    mapped) lt walked stays h
row_by onward byte w d t whole follows q head path i index row writing pieces log on
    (Some bytes) e shows
    is mapped lt walked stays h =
    after onward byte w d t whole (follows row) q head path i index writing pieces bytes log
    (on row shows) is lt (shows.alike index bytes e) walked stays h

-- where the chain may have n more descriptors, i were visited, and this one is next
pub walks : (n : ℕ) (onward : List Access → Type 0) (byte : ℕ →
    ℕ) (w : Whole) (d : Device) (t : Tally)
    (whole : List Piece → List Access → Type 0) (q head : ℕ) (path : List ℕ) (i index : ℕ)
    (row : TableRow) (writing : Bool) (pieces : List Piece) (log : List Access) →
    Shows byte (ring_of w.kind d).table row → q ≡ (ring_of w.kind d).size
    → ((k : ℕ) → k < q → spot w.regions ((ring_of w.kind d).table + 16 * k) 16 ≢ None)
    → n + i ≡ longest q → i < longest q → index < q
    → Walked (in_memory byte (ring_of w.kind d).table) q (memory_end d) head path i index writing
    pieces → StaysUntil onward byte w.regions log → Follows n w d t whole row index writing pieces
    log
    → Walk (StaysUntil onward byte w.regions) w d t whole (in_memory byte
    (ring_of w.kind d).table) q (memory_end d) head log
walks zero onward byte w d t whole q head path i index row writing pieces log shows is mapped sum lt
    below
    walked stays h = absurd (omega (arith, sum, lt))
walks (suc n) onward byte w d t whole q head path i index row writing pieces log shows is mapped sum
    lt
    below walked stays h = row_by onward byte w d t whole
    (Follows n w d t whole) q head path i index row
    writing pieces log (λ row2 shows2 path2 index2 writing2 pieces2 log2.
    walks n onward byte w d t whole q head path2 (i + 1) index2 row2 writing2 pieces2 log2 shows2 is
    mapped
    (omega (arith, sum))) _ refl shows is (mapped index below) lt walked stays h
