-- Steps of a walk: rows that are asked for, and descriptors of a row, one after the other.
use Rattle.std.proofs.Common.{◌≡◌, ◌∙◌, ap, sym, subst, refl, arith, ℕ, suc, ◌+◌, ◌-◌, ◌*◌, ◌<◌, ◌≤◌}
use Rattle.std.proofs.Common.{Bool, true, false, List, [], ◌∷◌, ◌++◌, length, take, drop}
use Rattle.std.proofs.Common.{Option, Some, None, length-take, length-append}
use Rattle.std.specs.Prelude.{◌||◌, ◌&&◌, nat_lt, nat_le, min, if◌then◌else◌}
use Rattle.std.proofs.lemmas.{Bool.Decides.nat_tests, List.take-take}
use Rattle.vb_chain.specs.Rules.{has_next, is_writable, piece_of, first_fault}
use Rattle.vb_chain.specs.declared.{pieces.Piece.Piece, fault.ChainFault.{ChainFault, TheVariants.TooLong}}
use Rattle.vb_chain.specs.declared.descriptor.Descriptor.{Descriptor}
use Rattle.vb_core.{specs.Pieces.pieces_in, specs.Devices.ring_of, proofs.PieceLemmas.{none_in, length_in}}
use Rattle.vb_core.specs.declared.pieces.ChainPiece.{ChainPiece}
use Rattle.vb_core.specs.declared.{device.Device.Device}
use Rattle.vb_monitor.specs.declared.{regions.Spot.Spot, outcome.Tally.Tally}
use Rattle.vb_monitor.specs.{Accesses.Access, Ends.{Whole, Breaks}, Regions.spot}
use Rattle.vb_monitor.specs.{Notices.{HeadBy, AfterEntry}, Machine.{next_chain, serves, row_bytes}}
use Rattle.vb_monitor.specs.declared.step.Walk.{Walk}
use Rattle.vb_monitor.specs.Chains.{TableRow, row_of, no_row, has_descriptor, in_row, most_further}
use Rattle.vb_monitor.specs.Chains.{unless_apart, further_in_row, descriptor_of, longest, memory_end}
use Rattle.vb_monitor.specs.Chains.{or_too_long, chain_fault, table_fault, DescriptorBy, GoesOn, AfterDescriptor, AsksRow}
use Rattle.vb_monitor.specs.Chains.{RowAt, TakesRow, FollowsBy, Follows}

-- what goes on in a row
abbrev pub Onward : Type 1
Onward = TableRow → ℕ → Bool → List Piece → List Access → Type 0

abbrev pub Served : Type 1
Served = List Piece → List Access → Type 0

-- ---- a row is asked for

-- all of it, where it lies in one region
pub takes_all : (w : Whole) (d : Device) (t : Tally) (on : Onward) (whole : Served)
    (first further : ℕ) (writing : Bool) (pieces : List Piece) (at : Spot) (log : List Access) →
    spot w.regions ((ring_of w.kind d).table + 16 * first) (16 * (further + 1)) ≡ Some at →
    AsksRow w d t on whole first further writing pieces at log →
    TakesRow w d t on whole first (unless_apart
    (spot w.regions ((ring_of w.kind d).table + 16 * first) (16 * (further + 1))) further) writing
    pieces log
takes_all w d t on whole first further writing pieces at log e h =
    subst (λ (n : ℕ). TakesRow w d t on whole first n writing pieces log)
    (sym (ap (λ (o : Option Spot). unless_apart o further) e))
    (subst (λ (o : Option Spot). RowAt w d t on whole first further writing pieces o log) (sym e) h)

-- else its first descriptor alone
takes_by : (w : Whole) (d : Device) (t : Tally) (on : Onward) (whole : Served)
    (first further : ℕ) (writing : Bool) (pieces : List Piece) (o : Option Spot)
    (log : List Access) →
    spot w.regions ((ring_of w.kind d).table + 16 * first) (16 * (further + 1)) ≡ None →
    spot w.regions ((ring_of w.kind d).table + 16 * first) 16 ≡ o →
    RowAt w d t on whole first 0 writing pieces o log →
    TakesRow w d t on whole first (unless_apart
    (spot w.regions ((ring_of w.kind d).table + 16 * first) (16 * (further + 1))) further) writing
    pieces log
takes_by w d t on whole first further writing pieces o log e f h =
    subst (λ (n : ℕ). TakesRow w d t on whole first n writing pieces log)
    (sym (ap (λ (o : Option Spot). unless_apart o further) e))
    (subst (λ (o : Option Spot). RowAt w d t on whole first 0 writing pieces o log) (sym f) h)

pub takes_one : (w : Whole) (d : Device) (t : Tally) (on : Onward) (whole : Served)
    (first further : ℕ) (writing : Bool) (pieces : List Piece) (at : Spot) (log : List Access) →
    spot w.regions ((ring_of w.kind d).table + 16 * first) (16 * (further + 1)) ≡ None →
    spot w.regions ((ring_of w.kind d).table + 16 * first) 16 ≡ Some at →
    AsksRow w d t on whole first 0 writing pieces at log →
    TakesRow w d t on whole first (unless_apart
    (spot w.regions ((ring_of w.kind d).table + 16 * first) (16 * (further + 1))) further) writing
    pieces log
takes_one w d t on whole first further writing pieces at log e f h =
    takes_by w d t on whole first further writing pieces (Some at) log e f h

-- a chain's first one is
pub none_of_none : (n : ℕ) → in_row no_row n ≡ None
none_of_none n = grind (arith, nat_tests)

pub none_in_none : (n : ℕ) (bytes : List ℕ) → in_row no_row n ≡ Some bytes → ⊥
none_in_none n bytes e = let none = none_of_none n in absurd cc

is_less : (n m : ℕ) → n < m → nat_lt n m ≡ true
is_less n m lt = grind (arith, nat_tests)

pub longest_few : (q : ℕ) → longest q ≤ 256
longest_few q = grind arith

pub longest_within : (q : ℕ) → longest q ≤ q
longest_within q = grind arith

one_at_least : (q n : ℕ) → n < q → suc (longest q - 1) ≡ longest q
one_at_least q n lt = grind arith

pub first_goes : (w : Whole) (d : Device) (t : Tally) (head : ℕ) (pieces : List Piece)
    (log : List Access) → head < (ring_of w.kind d).size → pieces ≡ [] →
    TakesRow w d t (Follows (longest (ring_of w.kind d).size - 1) w d t (serves w t d head))
    (serves w t d head) head (unless_apart
    (spot w.regions ((ring_of w.kind d).table + 16 * head) 16) 0) false pieces log →
    AfterEntry w (next_chain w t) d t head log
first_goes w d t head pieces log lt none h =
    let size = (ring_of w.kind d).size in
    let q = longest size in
    let is : suc (q - 1) ≡ q = one_at_least size head lt in
    subst (λ (b : Bool). HeadBy b w (next_chain w t) d t head log) (sym (is_less head size lt))
    (subst (λ (n : ℕ). Follows n w d t (serves w t d head) no_row head false [] log) is
    (subst (λ (o : Option (List ℕ)). FollowsBy o w d t (Follows (q - 1) w d t (serves w t d head))
    (serves w t d head) no_row head false [] log) (sym (none_of_none head))
    (subst (λ (ps : List Piece). TakesRow w d t (Follows (q - 1) w d t (serves w t d head))
    (serves w t d head) head (unless_apart
    (spot w.regions ((ring_of w.kind d).table + 16 * head) 16) 0) false ps log) none h)))

-- another one, with those after it
after_some : (q number : ℕ) (pieces : List Piece) → 0 < length pieces →
    most_further q number pieces ≡ min 31 (q - (number + 1))
after_some q number [] lt = absurd (omega (arith, lt))
after_some q number (p ∷ ps) lt = refl

pub next_goes : (w : Whole) (d : Device) (t : Tally) (on : Onward) (whole : Served)
    (number further : ℕ) (writing : Bool) (pieces : List Piece) (log : List Access) →
    0 < length pieces → further ≡ min 31 ((ring_of w.kind d).size - (number + 1)) →
    TakesRow w d t on whole number (unless_apart
    (spot w.regions ((ring_of w.kind d).table + 16 * number) (16 * (further + 1))) further) writing
    pieces log →
    TakesRow w d t on whole number (further_in_row w.regions (ring_of w.kind d) number pieces)
    writing pieces log
next_goes w d t on whole number further writing pieces log some is =
    subst (λ (n : ℕ). TakesRow w d t on whole number (unless_apart
    (spot w.regions ((ring_of w.kind d).table + 16 * number) (16 * (n + 1))) n) writing
    pieces log → TakesRow w d t on whole number
    (further_in_row w.regions (ring_of w.kind d) number pieces) writing pieces log)
    (after_some (ring_of w.kind d).size number pieces some ∙ sym is) (λ h. h)

-- ---- a row is walked along

-- a row that was copied has its first one
has_first : (number n : ℕ) (bytes : List ℕ) → length bytes ≡ 16 * (n + 1) →
    has_descriptor (row_of number bytes) number ≡ true
has_first number n bytes e = grind (arith, nat_tests)

zero_less : (n : ℕ) → 16 * (n - n) ≡ 0
zero_less n = omega arith

pub first_in_row : (number : ℕ) (bytes : List ℕ) (n : ℕ) → length bytes ≡ 16 * (n + 1) →
    in_row (row_of number bytes) number ≡ Some (take 16 bytes)
first_in_row number bytes n e =
    ap (λ (b : Bool). if b then Some (take 16 (drop (16 * (number - number)) bytes)) else None)
    (has_first number n bytes e)
    ∙ ap (λ (k : ℕ). Some (take 16 (drop k bytes))) (zero_less number)

-- what a row has
in_row_by : (row : TableRow) (number : ℕ) (bytes : List ℕ) (has : Bool) →
    has_descriptor row number ≡ has →
    (if has then Some (take 16 (drop (16 * (number - row.first)) row.bytes)) else None) ≡ Some bytes
    → (row.first ≤ number) × (16 * (number - row.first) + 16 ≤ length row.bytes) ×
    (bytes ≡ take 16 (drop (16 * (number - row.first)) row.bytes))
in_row_by row number bytes true e f = (grind (arith, nat_tests), grind (arith, nat_tests), cc)
in_row_by row number bytes false e f = absurd cc

pub in_row_is : (row : TableRow) (number : ℕ) (bytes : List ℕ) → in_row row number ≡ Some bytes →
    (row.first ≤ number) × (16 * (number - row.first) + 16 ≤ length row.bytes) ×
    (bytes ≡ take 16 (drop (16 * (number - row.first)) row.bytes))
in_row_is row number bytes e = in_row_by row number bytes (has_descriptor row number) refl e

pub front_of_row : (walk : Walk) (bytes : List ℕ) →
    take 16 (take (row_bytes walk) bytes) ≡ take 16 bytes
front_of_row walk bytes = take-take 16 (row_bytes walk) bytes (omega arith)

-- what comes where a descriptor of these bytes is the next one, and n were before it
abbrev pub At : Whole → Device → Tally → ℕ → ℕ → TableRow → ℕ → Bool → List Piece → List ℕ →
    List Access → Type 0
At w d t head q row k writing pieces bytes log =
    AfterDescriptor w d t (Follows (longest q - (k + 1)) w d t (serves w t d head) row) (serves w t d head)
    writing pieces bytes log

-- a descriptor was read of its bytes, and tested after the first of these pieces
pub record Tested (q end : ℕ) (writing : Bool) (k : ℕ) (ps : List ChainPiece) (bytes : List ℕ)
    (x : Descriptor) (fault : Option ChainFault) : Type 0 where
  pub says : x ≡ descriptor_of bytes
  pub is : table_fault q end writing (length (take k ps)) x ≡ fault

pub tested_within : (q end : ℕ) (writing : Bool) (k : ℕ) (ps : List ChainPiece) (bytes : List ℕ)
    (x : Descriptor) (o : Option ChainFault) → x ≡ descriptor_of bytes → length ps ≡ 256 →
    k < longest q → chain_fault q end writing k x ≡ o → Tested q end writing k ps bytes x o
tested_within q end writing k ps bytes x o says long lt e =
    let all : length (take k ps) ≡ k =
    omega (arith, length-take k ps, long, lt, longest_few q) in
    let here : nat_lt k (longest q) ≡ true = is_less k (longest q) lt in
    record {
      says = says;
      is = ap (λ (n : ℕ). table_fault q end writing n x) all
          ∙ (ap (λ (b : Bool). if b then chain_fault q end writing k x else Some TooLong) here ∙ e);
    }

-- what it comes to
by_fault : (q end : ℕ) (w : Whole) (d : Device) (t : Tally)
    (on : ℕ → Bool → List Piece → List Access → Type 0) (whole : Served) (writing : Bool) (k : ℕ)
    (ps : List ChainPiece) (bytes : List ℕ) (x : Descriptor) (o : Option ChainFault)
    (log : List Access) → Tested q end writing k ps bytes x o →
    (ring_of w.kind d).size ≡ q → memory_end d ≡ end →
    DescriptorBy o w d t on whole writing x (pieces_in (take k ps)) log →
    AfterDescriptor w d t on whole writing (pieces_in (take k ps)) bytes log
by_fault q end w d t on whole writing k ps bytes x o log tested e f h =
    let seen = λ (n : ℕ). table_fault q end writing n x in
    subst (λ (y : Descriptor). DescriptorBy (table_fault (ring_of w.kind d).size
    (memory_end d) writing (length (pieces_in (take k ps))) y) w d t on whole writing y
    (pieces_in (take k ps)) log) tested.says
    (subst (λ (o : Option ChainFault). DescriptorBy o w d t on whole writing x
    (pieces_in (take k ps)) log) (sym (ap (λ (n : ℕ). table_fault n (memory_end d) writing
    (length (pieces_in (take k ps))) x) e ∙ (ap (λ (n : ℕ). table_fault q n writing
    (length (pieces_in (take k ps))) x) f ∙ (ap seen (length_in (take k ps)) ∙ tested.is)))) h)

-- it breaks a rule; it is the chain's last one; or it names another
pub breaks_in_row : (q end : ℕ) (w : Whole) (d : Device) (t : Tally) (head : ℕ) (row : TableRow)
    (writing : Bool) (k : ℕ) (ps : List ChainPiece) (bytes : List ℕ) (x : Descriptor)
    (fault : ChainFault) (log : List Access) → Tested q end writing k ps bytes x (Some fault) →
    (ring_of w.kind d).size ≡ q → memory_end d ≡ end → Breaks w d t fault log →
    At w d t head q row k writing (pieces_in (take k ps)) bytes log
breaks_in_row q end w d t head row writing k ps bytes x fault log tested e f h =
    by_fault q end w d t (Follows (longest q - (k + 1)) w d t (serves w t d head) row) (serves w t d head)
    writing k ps bytes x (Some fault) log tested e f h

-- as many were there before as a chain may have
pub none_left : (q end : ℕ) (w : Whole) (d : Device) (t : Tally) (head : ℕ) (row : TableRow)
    (writing : Bool) (k : ℕ) (ps : List ChainPiece) (bytes : List ℕ) (log : List Access) →
    longest q ≤ length (take k ps) → (ring_of w.kind d).size ≡ q → memory_end d ≡ end →
    Breaks w d t TooLong log → At w d t head q row k writing (pieces_in (take k ps)) bytes log
none_left q end w d t head row writing k ps bytes log le e f h =
    let past : nat_lt (length (take k ps)) (longest q) ≡ false = grind (arith, nat_tests) in
    breaks_in_row q end w d t head row writing k ps bytes (descriptor_of bytes) TooLong log
    (record {
      says = refl;
      is = ap (λ (b : Bool). if b then chain_fault q end writing (length (take k ps))
          (descriptor_of bytes) else Some TooLong) past;
    }) e f h

pub ends_in_row : (q end : ℕ) (w : Whole) (d : Device) (t : Tally) (head : ℕ) (row : TableRow)
    (writing : Bool) (k : ℕ) (ps : List ChainPiece) (more : List Piece) (bytes : List ℕ)
    (x : Descriptor) (log : List Access) → Tested q end writing k ps bytes x None →
    has_next x ≡ false → more ≡ pieces_in (take k ps) ++ piece_of x ∷ [] →
    (ring_of w.kind d).size ≡ q → memory_end d ≡ end → serves w t d head more log →
    At w d t head q row k writing (pieces_in (take k ps)) bytes log
ends_in_row q end w d t head row writing k ps more bytes x log tested last is e f h =
    let on = Follows (longest q - (k + 1)) w d t (serves w t d head) row in
    by_fault q end w d t on (serves w t d head) writing k ps bytes x None log tested e f
    (subst (λ (b : Bool). GoesOn b on (serves w t d head) writing x (pieces_in (take k ps)) log)
    (sym last) (subst (λ (ps : List Piece). serves w t d head ps log) is h))

-- one that breaks no rule and names another leaves room for it
too_long_by : (past : Bool) (o : Option ChainFault) → or_too_long past o ≡ None → past ≡ false
too_long_by true None e = absurd cc
too_long_by true (Some f) e = absurd cc
too_long_by false o e = refl

both : (a b : Bool) → (a && b) ≡ false → a ≡ true → b ≡ false
both true b e f = e
both false b e f = absurd cc

not_past : (m k : ℕ) → nat_le m (k + 1) ≡ false → k + 1 < m
not_past m k e = grind (arith, nat_tests)

pub room_for : (q end : ℕ) (writing : Bool) (k : ℕ) (x : Descriptor) →
    chain_fault q end writing k x ≡ None → has_next x ≡ true → k + 1 < longest q
room_for q end writing k x e more = not_past (longest q) k
    (both (has_next x) (nat_le (longest q) (k + 1)) (too_long_by _ (first_fault q end writing k x) e)
    more)

within_by : (there : Bool) (o : Option ChainFault) → (if there then o else Some TooLong) ≡ None →
    o ≡ None
within_by true o e = e
within_by false o e = absurd cc

room_after : (q end : ℕ) (writing : Bool) (k : ℕ) (x : Descriptor) →
    table_fault q end writing k x ≡ None → has_next x ≡ true → k + 1 < longest q
room_after q end writing k x e more = room_for q end writing k x
    (within_by (nat_lt k (longest q)) (chain_fault q end writing k x) e) more

pub goes_in_row : (q end : ℕ) (w : Whole) (d : Device) (t : Tally) (head : ℕ) (row : TableRow)
    (writing now : Bool) (k : ℕ) (ps : List ChainPiece) (more : List Piece) (bytes : List ℕ)
    (x : Descriptor) (o : Option (List ℕ)) (log : List Access) →
    Tested q end writing k ps bytes x None → has_next x ≡ true →
    k ≡ length (take k ps) → now ≡ (writing || is_writable x) →
    more ≡ pieces_in (take k ps) ++ piece_of x ∷ [] →
    in_row row x.next ≡ o → (ring_of w.kind d).size ≡ q → memory_end d ≡ end →
    FollowsBy o w d t (Follows (longest q - (k + 1 + 1)) w d t (serves w t d head)) (serves w t d head) row
    x.next now more log → At w d t head q row k writing (pieces_in (take k ps)) bytes log
goes_in_row q end w d t head row writing now k ps more bytes x o log tested next all wr is has e f
    h =
    let on = Follows (longest q - (k + 1)) w d t (serves w t d head) row in
    let room : length (take k ps) + 1 < longest q =
    room_after q end writing (length (take k ps)) x tested.is next in
    let one : suc (longest q - (k + 1 + 1)) ≡ longest q - (k + 1) = omega (arith, room, all) in
    by_fault q end w d t on (serves w t d head) writing k ps bytes x None log tested e f
    (subst (λ (b : Bool). GoesOn b on (serves w t d head) writing x (pieces_in (take k ps)) log)
    (sym next) (subst (λ (ps : List Piece). on x.next (writing || is_writable x) ps log) is
    (subst (λ (b : Bool). on x.next b more log) wr
    (subst (λ (n : ℕ). Follows n w d t (serves w t d head) row x.next now more log) one
    (subst (λ (o : Option (List ℕ)). FollowsBy o w d t
    (Follows (longest q - (k + 1 + 1)) w d t (serves w t d head)) (serves w t d head) row x.next now more
    log) (sym has) h)))))

pub one_there : (ps : List Piece) (p : Piece) → 0 < length (ps ++ p ∷ [])
one_there ps p = let long = length-append ps (p ∷ []) in omega (arith, long)

-- ---- for the functions that go on by them

pub ruleset row_steps = (takes_all, takes_one)

pub ruleset first_steps = (first_goes, none_in)

pub ruleset next_steps = (next_goes)
