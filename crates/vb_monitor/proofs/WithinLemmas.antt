-- Chains of no more descriptors than one may have: what a walk along one says, and that there is one
-- chain or one fault.
use Rattle.std.proofs.Common.{◌≡◌, ◌∙◌, ap, sym, subst, refl, arith, inl, inr, ℕ, zero, suc, ◌+◌, ◌-◌}
use Rattle.std.proofs.Common.{◌<◌, ◌≤◌, Bool, true, false, List, [], ◌∷◌, ◌++◌, length, take}
use Rattle.std.{proofs.Common.{Option, Some, None}, specs.{Prelude.{◌&&◌, ◌⊎◌, nat_le, slice_index}, List.list_any}}
use Rattle.std.proofs.lemmas.{Bool.{cases_lt, Decides.nat_tests}, Grind.same_number_lists}
use Rattle.std.proofs.lemmas.List.{length-map, length-take-le, length-append, get_or-take}
use Rattle.vb_chain.proofs.{Walking.{Walked, fault_last, walked_chain}}
use Rattle.vb_chain.proofs.Unique.{chain_is_one, chain_or_fault, fault_is_one}
use Rattle.vb_chain.specs.Rules.{has_next, is_writable, piece_of, first_fault}
use Rattle.vb_chain.specs.Chain.{IsPath, fault_at, IsChain, ChainGives, FaultGives}
use Rattle.vb_chain.specs.declared.{descriptor.Descriptor.Descriptor, pieces.Piece.Piece}
use Rattle.vb_chain.specs.declared.fault.ChainFault.{ChainFault, TheVariants.TooLong}
use Rattle.vb_monitor.specs.Chains.{longest, or_too_long, chain_fault}
use Rattle.vb_monitor.specs.Within.{ChainWithin, BreaksWithin, GoesPast, FaultWithin}
use Rattle.vb_monitor.proofs.TableRowLemmas.{longest_within}

-- ---- a step

both : (a b : Bool) → (a && b) ≡ false → a ≡ true → b ≡ false
both true b e f = e
both false b e f = absurd cc

-- a descriptor that breaks no rule and goes on names one of the table
pub next_below : (q end : ℕ) (writing : Bool) (k : ℕ) (x : Descriptor) →
    first_fault q end writing k x ≡ None → has_next x ≡ true → x.next < q
next_below q end writing k x e more = grind (arith, nat_tests, both)

-- one that the table refuses is refused
none_by : (past : Bool) (o : Option ChainFault) → or_too_long past o ≡ None → o ≡ None
none_by past None e = refl
none_by past (Some f) e = absurd cc

pub no_first : (q end : ℕ) (writing : Bool) (k : ℕ) (x : Descriptor) →
    chain_fault q end writing k x ≡ None → first_fault q end writing k x ≡ None
no_first q end writing k x e = none_by _ _ e

pub visited : (ds : ℕ → Descriptor) (q end head : ℕ) (path : List ℕ) (i index : ℕ) (writing : Bool)
    (pieces : List Piece) → Walked ds q end head path i index writing pieces → length pieces ≡ i
visited ds q end head path i index writing pieces w = ap (λ (ps : List Piece). length ps) w.read
    ∙ (length-map (take i path) (λ (j : ℕ). piece_of (ds j))
    ∙ length-take-le i path (omega (arith, w.count)))

-- ---- what a walk says

-- a chain ends
pub chain_within : (d : ℕ → Descriptor) (q end head : ℕ) (path : List ℕ) (i index : ℕ)
    (writing : Bool) (pieces : List Piece) → Walked d q end head path i index writing pieces →
    i < longest q → chain_fault q end writing i (d index) ≡ None → has_next (d index) ≡ false →
    ChainWithin d q end head (pieces ++ piece_of (d index) ∷ [])
chain_within d q end head path i index writing pieces w lt e stop =
    let long = visited d q end head path i index writing pieces w in
    let one = length-append pieces (piece_of (d index) ∷ []) in record {
      gives = walked_chain d q end head path i index writing pieces w
          (omega (arith, lt, longest_within q)) (no_first q end writing i (d index) e) stop;
      few = omega (arith, long, one, lt);
    }

-- a rule of the table is broken, or the chain is too long
breaks_here : (d : ℕ → Descriptor) (q end head : ℕ) (path : List ℕ) (i index : ℕ)
    (writing : Bool) (pieces : List Piece) (f : ChainFault) →
    Walked d q end head path i index writing pieces → i < longest q →
    first_fault q end writing i (d index) ≡ Some f → BreaksWithin d q end head f
breaks_here d q end head path i index writing pieces f w lt e = record {
  path = path;
  few = omega (arith, w.count, lt);
  breaks = record {
    inside = w.inside;
    is_path = w.is_path;
    sound = λ k h. w.sound k (omega (arith, w.count));
    breaks = λ k h. let at : k ≡ i = omega (arith, w.count, h) in
        ap (λ (n : ℕ). fault_at d q end path n) at
        ∙ fault_last d q end head path i index writing pieces w ∙ e;
  };
}

sound_to : (d : ℕ → Descriptor) (q end head : ℕ) (path : List ℕ) (i index : ℕ) (writing : Bool)
    (pieces : List Piece) → Walked d q end head path i index writing pieces →
    first_fault q end writing i (d index) ≡ None → (k : ℕ) → k < i ⊎ k ≡ i →
    fault_at d q end path k ≡ None
sound_to d q end head path i index writing pieces w e k (inl lt) = w.sound k lt
sound_to d q end head path i index writing pieces w e k (inr at) =
    ap (λ (n : ℕ). fault_at d q end path n) at
    ∙ fault_last d q end head path i index writing pieces w ∙ e

below_or_at : (k i : ℕ) → k < i + 1 → k < i ⊎ k ≡ i
below_or_at k i lt = elim (cases_lt k i) [
  | inl less ↦ inl less
  | inr more ↦ inr (omega (arith, lt, more))
]

goes_past : (d : ℕ → Descriptor) (q end head : ℕ) (path : List ℕ) (i index : ℕ)
    (writing : Bool) (pieces : List Piece) → Walked d q end head path i index writing pieces →
    i + 1 ≡ longest q → first_fault q end writing i (d index) ≡ None → has_next (d index) ≡ true →
    GoesPast d q end head TooLong
goes_past d q end head path i index writing pieces w all e more = record {
  path = path;
  inside = w.inside;
  is_path = w.is_path;
  all = w.count ∙ all;
  sound = λ k lt. sound_to d q end head path i index writing pieces w e k
      (below_or_at k i (omega (arith, lt, all)));
  more = λ k h. let at : k ≡ i = omega (arith, h, all) in
      ap (λ (n : ℕ). has_next (d (slice_index path n))) at
      ∙ ap (λ (n : ℕ). has_next (d n)) w.last ∙ more;
  is = refl;
}

parts : (a b : Bool) → (a && b) ≡ true → (a ≡ true) × (b ≡ true)
parts true b e = (refl, e)
parts false b e = absurd cc

too_long_is : (f : ChainFault) → Some TooLong ≡ Some f → TooLong ≡ f
too_long_is f e = cc

past_so : (m i : ℕ) → i < m → nat_le m (i + 1) ≡ true → i + 1 ≡ m
past_so m i lt e = grind (arith, nat_tests)

by_table : (d : ℕ → Descriptor) (q end head : ℕ) (path : List ℕ) (i index : ℕ) (writing : Bool)
    (pieces : List Piece) (f : ChainFault) (past : Bool) (o : Option ChainFault) →
    Walked d q end head path i index writing pieces → i < longest q →
    first_fault q end writing i (d index) ≡ o →
    (has_next (d index) && nat_le (longest q) (i + 1)) ≡ past → or_too_long past o ≡ Some f →
    FaultWithin d q end head f
by_table d q end head path i index writing pieces f past (Some g) w lt e p is =
    inr (inl (breaks_here d q end head path i index writing pieces f w lt (e ∙ is)))
by_table d q end head path i index writing pieces f true None w lt e p is =
    let (more, full) = parts (has_next (d index)) (nat_le (longest q) (i + 1)) p in
    inr (inr (subst (λ (x : ChainFault). GoesPast d q end head x) (too_long_is f is)
    (goes_past d q end head path i index writing pieces w (past_so (longest q) i lt full) e more)))
by_table d q end head path i index writing pieces f false None w lt e p is = absurd cc

pub fault_within : (d : ℕ → Descriptor) (q end head : ℕ) (path : List ℕ) (i index : ℕ)
    (writing : Bool) (pieces : List Piece) (f : ChainFault) →
    Walked d q end head path i index writing pieces → i < longest q →
    chain_fault q end writing i (d index) ≡ Some f → FaultWithin d q end head f
fault_within d q end head path i index writing pieces f w lt e =
    by_table d q end head path i index writing pieces f _ _ w lt refl refl e

-- ---- one chain, or one fault

-- two paths from one head go the same way
paths_agree : (d : ℕ → Descriptor) (head : ℕ) (p s : List ℕ) → IsPath d head p → IsPath d head s
    → (k : ℕ) → k < length p → k < length s → slice_index p k ≡ slice_index s k
paths_agree d head p s a b zero h l = a.begins ∙ sym b.begins
paths_agree d head p s a b (suc k) h l =
    grind (arith, paths_agree d head p s a b k (omega arith) (omega arith))

faults_agree : (d : ℕ → Descriptor) (q end head : ℕ) (p s : List ℕ) → IsPath d head p
    → IsPath d head s → (k : ℕ) → k < length p → k < length s
    → fault_at d q end p k ≡ fault_at d q end s k
faults_agree d q end head p s a b k h l =
    let lp : length (take k p) ≡ k = length-take-le k p (omega arith) in
    let ls : length (take k s) ≡ k = length-take-le k s (omega arith) in
    let front : take k p ≡ take k s = same_number_lists _ _ (lp ∙ sym ls) (λ i lt.
    let below : i < k = omega (arith, lp) in
    get_or-take k p i 0 below ∙ paths_agree d head p s a b i (omega arith) (omega arith)
    ∙ sym (get_or-take k s i 0 below)) in
    ap (λ xs. first_fault q end (list_any (λ i. is_writable (d i)) xs) k (d (slice_index p k)))
    front ∙ ap (λ n. first_fault q end (list_any (λ i. is_writable (d i)) (take k s)) k (d n))
    (paths_agree d head p s a b k h l)

-- each of those that go past what a chain may have goes on
goes_on_by : (d : ℕ → Descriptor) (q end head : ℕ) (f : ChainFault) (b : GoesPast d q end head f)
    (k : ℕ) → k < longest q → k + 1 < longest q ⊎ longest q ≤ k + 1 →
    has_next (d (slice_index b.path k)) ≡ true
goes_on_by d q end head f b k lt (inl next) = b.is_path.onward k (omega (arith, b.all, next))
goes_on_by d q end head f b k lt (inr last) = b.more k (omega (arith, lt, last))

clash : (a b : Bool) → a ≡ b → a ≡ false → b ≡ true → ⊥
clash a b e f g = cc

-- so no chain ends there
not_past : (d : ℕ → Descriptor) (q end head : ℕ) (p : List ℕ) (f : ChainFault) →
    IsChain d q end head p → length p ≤ longest q → GoesPast d q end head f → ⊥
not_past d q end head p f c few b =
    let k = length p - 1 in
    let some = c.is_path.some in
    let same : slice_index p k ≡ slice_index b.path k =
    paths_agree d head p b.path c.is_path b.is_path k (omega (arith, some))
    (omega (arith, some, few, b.all)) in
    clash _ _ (ap (λ (n : ℕ). has_next (d n)) same) (c.ends k (omega (arith, some)))
    (goes_on_by d q end head f b k (omega (arith, some, few))
    (cases_lt (k + 1) (longest q)))

-- and none of them breaks a rule
some_none : (f : ChainFault) (a b : Option ChainFault) → a ≡ b → a ≡ Some f → b ≡ None → ⊥
some_none f a b e g h = cc

not_broken : (d : ℕ → Descriptor) (q end head : ℕ) (f g : ChainFault) →
    BreaksWithin d q end head f → GoesPast d q end head g → ⊥
not_broken d q end head f g a b =
    let k = length a.path - 1 in
    let some = a.breaks.is_path.some in
    some_none f _ _ (faults_agree d q end head a.path b.path a.breaks.is_path b.is_path k
    (omega (arith, some)) (omega (arith, some, a.few, b.all)))
    (a.breaks.breaks k (omega (arith, some))) (b.sound k (omega (arith, some, a.few)))

pub chain_is_within : (d : ℕ → Descriptor) (q end head : ℕ) (xs ys : List Piece) →
    ChainWithin d q end head xs → ChainWithin d q end head ys → xs ≡ ys
chain_is_within d q end head xs ys a b = chain_is_one d q end head xs ys a.gives b.gives

as_long : (d : ℕ → Descriptor) (q end head : ℕ) (xs : List Piece) (a : ChainGives d q end head xs) →
    length xs ≡ length a.path
as_long d q end head xs a = ap (λ (ps : List Piece). length ps) a.pieces_are
    ∙ length-map a.path (λ (i : ℕ). piece_of (d i))

pub chain_or_fault_within : (d : ℕ → Descriptor) (q end head : ℕ) (xs : List Piece)
    (f : ChainFault) → ChainWithin d q end head xs → FaultWithin d q end head f → ⊥
chain_or_fault_within d q end head xs f a (inl b) = chain_or_fault d q end head xs f a.gives (inl b)
chain_or_fault_within d q end head xs f a (inr (inl b)) =
    chain_or_fault d q end head xs f a.gives (inr (b.path, b.breaks))
chain_or_fault_within d q end head xs f a (inr (inr b)) =
    not_past d q end head a.gives.path f a.gives.chain
    (omega (arith, a.few, as_long d q end head xs a.gives)) b

pub fault_is_within : (d : ℕ → Descriptor) (q end head : ℕ) (f g : ChainFault) →
    FaultWithin d q end head f → FaultWithin d q end head g → f ≡ g
fault_is_within d q end head f g (inl a) (inl b) = a.is ∙ sym b.is
fault_is_within d q end head f g (inl a) (inr (inl b)) =
    fault_is_one d q end head f g (inl a) (inr (b.path, b.breaks))
fault_is_within d q end head f g (inl a) (inr (inr b)) =
    let past = a.past in let inside = b.inside in absurd (omega (arith, past, inside))
fault_is_within d q end head f g (inr (inl a)) (inl b) =
    fault_is_one d q end head f g (inr (a.path, a.breaks)) (inl b)
fault_is_within d q end head f g (inr (inl a)) (inr (inl b)) =
    fault_is_one d q end head f g (inr (a.path, a.breaks)) (inr (b.path, b.breaks))
fault_is_within d q end head f g (inr (inl a)) (inr (inr b)) =
    absurd (not_broken d q end head f g a b)
fault_is_within d q end head f g (inr (inr a)) (inl b) =
    let past = b.past in let inside = a.inside in absurd (omega (arith, past, inside))
fault_is_within d q end head f g (inr (inr a)) (inr (inl b)) =
    absurd (not_broken d q end head g f b a)
fault_is_within d q end head f g (inr (inr a)) (inr (inr b)) = a.is ∙ sym b.is

-- ---- small tables

-- the last descriptor of a table may not go on
below_table : (q end : ℕ) (writing : Bool) (k : ℕ) (x : Descriptor) →
    first_fault q end writing k x ≡ None → has_next x ≡ true → k + 1 < q
below_table q end writing k x e more = grind (arith, nat_tests, both)

all_of_them : (q : ℕ) → q ≤ 256 → longest q ≡ q
all_of_them q few = grind arith

-- in a table of 256 at most no chain is too long before the table's own rule says so
pub fault_of_small : (d : ℕ → Descriptor) (q end head : ℕ) (f : ChainFault) → q ≤ 256 →
    FaultWithin d q end head f → FaultGives d q end head f
fault_of_small d q end head f few (inl a) = inl a
fault_of_small d q end head f few (inr (inl a)) = inr (a.path, a.breaks)
fault_of_small d q end head f few (inr (inr a)) =
    let all = all_of_them q few in
    let inside = a.inside in
    let k = q - 1 in
    let room : k + 1 < q = below_table q end _ k (d (slice_index a.path k))
    (a.sound k (omega (arith, inside, all))) (a.more k (omega (arith, inside, all))) in
    absurd (omega (arith, room, inside))
