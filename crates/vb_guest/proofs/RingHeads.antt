-- The heads of a ring: how often they are in its lists, and that each is out at most once.
use Rattle.std.specs.Prelude.{◌≡◌, ℕ, ◌+◌, ◌≤◌, ◌==◌, Bool, true, cond, List, [], ◌∷◌, ◌++◌}
use Rattle.std.specs.Prelude.{length, Some, None, slice_get, slice_index_or, remove, take, refl}
use Rattle.std.proofs.Common.{◌∙◌, ap, arith, length-append, eq-eqb}
use Rattle.std.proofs.lemmas.List.{length-map, map-append, Sums.sum_by-remove}
use Rattle.std.proofs.lemmas.Option.{get_or_from_slice_get, slice_get_within}
use Rattle.vb_virtio.specs.Tests.{one_if}
use Rattle.vb_virtio.proofs.Distinct.{times-append}
use Rattle.vb_ram.specs.Pages.{Pages}
use Rattle.vb_ring.specs.{Entries.is_head, Ends.{DriverEnd, outstanding}}
use Rattle.{vb_ring.specs.Meaning.{UsedElem, ids, times}, vb_guest.specs.Ring.{RingStands, used_of}}

-- ---- lists

pub one_is : (h : ℕ) → one_if (h == h) ≡ 1
one_is h = ap one_if (eq-eqb h h refl)

pub at_most_one : (b : Bool) → one_if b ≤ 1
at_most_one x = grind arith

pub is_one : (b : Bool) → 1 ≤ one_if b → b ≡ true
is_one x h = grind arith

pub cond_one : (b : Bool) → cond {A = ℕ} b 1 0 ≡ one_if b
cond_one x = grind arith

-- a head that is taken out of a list
pub times-remove : (h : ℕ) (hs : List ℕ) (i k : ℕ) → slice_get hs i ≡ Some k
    → times h (remove hs i) + one_if (k == h) ≡ times h hs
times-remove h hs i k is = let f : ℕ → ℕ = λ m. cond (m == h) 1 0 in
    let here : f (slice_index_or hs i k) ≡ f k = ap f (get_or_from_slice_get hs i k k is) in
    let less : times h (remove hs i) + f (slice_index_or hs i k) ≡ times h hs =
    sum_by-remove f hs i k (slice_get_within hs i k is) in
    omega (arith, here, less, cond_one (k == h))

-- the used elements of heads have these
pub ids-used : (hs : List ℕ) → ids (used_of hs) ≡ hs
ids-used [] = refl
ids-used (h ∷ hs) = ap (λ (l : List ℕ). h ∷ l) (ids-used hs)

pub ids-split : (gone : List UsedElem) (hs : List ℕ) → ids (gone ++ used_of hs) ≡ ids gone ++ hs
ids-split gone hs = map-append (λ (e : UsedElem). e.id) gone (used_of hs)
    ∙ ap (λ (l : List ℕ). ids gone ++ l) (ids-used hs)

pub times-used : (h : ℕ) (gone : List UsedElem) (hs : List ℕ)
    → times h (ids (gone ++ used_of hs)) ≡ times h (ids gone) + times h hs
times-used h gone hs = ap (times h) (ids-split gone hs) ∙ times-append h (ids gone) hs

pub length-used : (gone : List UsedElem) (hs : List ℕ)
    → length (gone ++ used_of hs) ≡ length gone + length hs
length-used gone hs = grind (arith, length-append, length-map)

pub length-ids : (elems : List UsedElem) → length (ids elems) ≡ length elems
length-ids elems = length-map elems (λ e. e.id)

-- the first s of a list that begins with s others are those
pub take_front : {A : Type 0} (xs ys : List A) → take (length xs) (xs ++ ys) ≡ xs
take_front [] ys = grind arith
take_front (x ∷ xs) ys = ap (λ l. x ∷ l) (take_front xs ys)

-- what comes after a list
pub get_after : {A : Type 0} (xs : List A) (y : A) (ys : List A)
    → slice_get (xs ++ y ∷ ys) (length xs) ≡ Some y
get_after [] y ys = refl
get_after (x ∷ xs) y ys = get_after xs y ys

pub none_after : {A : Type 0} (xs : List A) → slice_get (xs ++ []) (length xs) ≡ None
none_after [] = refl
none_after (x ∷ xs) = none_after xs

-- ---- the ring

-- a head is posted, taken or used once where the driver's table has it, and else not at all
pub ring_once : {mem : Pages}
    {q : ℕ} {ring : DriverEnd} {next_avail next_used : ℕ} {posted taken done : List ℕ} (h : ℕ)
    → RingStands mem q ring next_avail next_used posted taken done
    → times h posted + (times h taken + times h done) ≡ one_if (is_head ring.owner h)
ring_once {posted} {done} h stands =
    let front : times h (ids (take (length stands.gone) (stands.gone ++ used_of done)))
    ≡ times h (ids stands.gone) =
    ap (λ (l : List UsedElem). times h (ids l)) (take_front stands.gone (used_of done)) in
    omega (arith, stands.tracks.out h, front, times-append h stands.before posted, stands.balance h)

-- as many chains are out as there are posted, taken and used heads
pub ring_count : {mem : Pages} {q : ℕ} {ring : DriverEnd} {next_avail next_used : ℕ}
    {posted taken done : List ℕ} → RingStands mem q ring next_avail next_used posted taken done
    → outstanding ring ≡ length posted + (length taken + length done)
ring_count stands = grind (arith, length-append)
