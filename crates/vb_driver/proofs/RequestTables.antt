-- A queue whose chains are requests of one descriptor each.
use Rattle.std.proofs.Common.{◌≡◌, ◌≢◌, sym, ap, subst, arith, refl, ℕ, ◌<◌, ◌≤◌, true, false, List}
use Rattle.std.proofs.Common.{[], ◌∷◌, length, take, slice_get, slice_index, slice_index_or, inl}
use Rattle.{std.proofs.Common.{inr, ◌⊎◌, None, set, min}, vb_driver.proofs.ReportTables.none_owned}
use Rattle.std.proofs.{Common.{Option, Some, Ok, nat_lt}, lemmas.Bool.{cases_lt, Decides.nat_tests}}
use Rattle.std.proofs.lemmas.{List.{length-set, get_or-set_other, get_or_past}, Grind.get_or-set_at}
use Rattle.vb_ring.specs.Ends.{DriverEnd, IsDriverEnd, is_unused, free_descriptors, outstanding}
use Rattle.vb_ring.{specs.Entries.is_head, proofs.OwnerLaws.{claimed-at, released-at}}
use Rattle.vb_ring.proofs.Numbers.{numbers_pass, numbers_rise, numbers_has, length_all}
use Rattle.vb_ring.specs.Ends.{next_head, next_path, after_add, after_take, claimed}
use Rattle.vb_driver.specs.{State.{RequestSide, AreRequests, fresh_ring}, Reaps.after_reap}

-- ---- the next head

pub first_of : (xs : List ℕ) (h : ℕ) → slice_get xs 0 ≡ Some h
    → (nat_lt (length xs) 1 ≡ false) × (take 1 xs ≡ h ∷ [])
first_of [] h e = cc
first_of (x ∷ xs) h e = grind (arith, nat_lt, nat_tests)

pub next_path_is : (r : DriverEnd) (h : ℕ) → next_head r ≡ Some h → next_path r 1 ≡ h ∷ []
next_path_is r h e = (first_of (free_descriptors r) h e).1

some_first : (xs : List ℕ) → slice_get xs 0 ≡ None → length xs ≡ 0
some_first [] e = refl
some_first (x ∷ xs) e = cc

first_is : (xs : List ℕ) (h : ℕ) → slice_get xs 0 ≡ Some h
    → (0 < length xs) × (slice_index xs 0 ≡ h)
first_is [] h e = cc
first_is (x ∷ xs) h e = (omega arith, let same : x ≡ h = cc in same)

-- a descriptor is unused, or it is a request's
unused_or_head : (owner : List (Option ℕ)) (i : ℕ) → ((k : ℕ) → is_unused owner k ≡ false
    → is_head owner k ≡ true) → (is_unused owner i ≡ true) ⊎ (is_head owner i ≡ true)
unused_or_head owner i single = grind arith

-- where all below are requests, n are out
pub out_below : (r : DriverEnd) (h : ℕ) → h ≤ r.size → ((i : ℕ) → i < h → is_head r.owner i ≡ true)
    → h ≤ outstanding r
out_below r h le all = length_all (is_head r.owner) r.size h le all

-- with fewer requests than descriptors, there is a next head
pub head_there : (r : DriverEnd) → ((k : ℕ) → is_unused r.owner k ≡ false
    → is_head r.owner k ≡ true) → outstanding r < r.size → next_head r ≡ None → ⊥
head_there r single few none =
    let empty : length (free_descriptors r) ≡ 0 = some_first (free_descriptors r) none in
    let all : (i : ℕ) → i < r.size
    → is_head r.owner i ≡ true = λ i lt. elim (unused_or_head r.owner i single) [
      | inl free ↦ (let found = numbers_has (is_unused r.owner) r.size i lt free in
          absurd (omega (arith, found.1)))
      | inr head ↦ head
    ] in
    let full : r.size ≤ outstanding r = out_below r r.size (omega arith) all in absurd (omega arith)

-- it is one of the table, unused, and at most as many are out
pub head_low : (r : DriverEnd) (h : ℕ) → ((k : ℕ) → is_unused r.owner k ≡ false
    → is_head r.owner k ≡ true) → next_head r ≡ Some h → (h < r.size) × (h ≤ outstanding r)
head_low r h single e = let f = first_is (free_descriptors r) h e in
    let some : 0 < length (free_descriptors r) = f.0 in
    let passes = numbers_pass (is_unused r.owner) r.size 0 some in
    let inside : h < r.size = subst (λ (n : ℕ). n < r.size) f.1 passes.0 in
    let all : (i : ℕ) → i < h
    → is_head r.owner i ≡ true = λ i lt. elim (unused_or_head r.owner i single) [
      | inl free ↦
          let found = numbers_has (is_unused r.owner) r.size i (omega arith) free in
          let at : slice_index (free_descriptors r) found.0 ≡ i = found.2 in
          elim (cases_lt 0 found.0) [
            | inl later ↦
                let rise : slice_index (free_descriptors r) 0 < slice_index (free_descriptors r)
                found.0 = numbers_rise (is_unused r.owner) r.size 0 found.0 later found.1 in
                let first : slice_index (free_descriptors r) 0 ≡ h = f.1 in absurd (omega arith)
            | inr first ↦
                let zero_is : found.0 ≡ 0 = omega (arith, first) in
                let same : slice_index (free_descriptors r) found.0 ≡ slice_index
                (free_descriptors r) 0 = ap (slice_index (free_descriptors r)) zero_is in
                let is : slice_index (free_descriptors r) 0 ≡ h = f.1 in absurd (omega arith)
          ]
      | inr head ↦ head
    ] in (inside, out_below r h (omega arith) all)

-- ---- what an add and a take make of the table

pub claimed_same : (h : ℕ) (owner : List (Option ℕ)) → h < length owner
    → slice_index_or (claimed (h ∷ []) h owner) h None ≡ Some h
claimed_same h owner lt = grind (arith, claimed-at)

pub claimed_other : (h i : ℕ) (owner : List (Option ℕ)) → h < length owner → i ≢ h
    → slice_index_or (claimed (h ∷ []) h owner) i None ≡ slice_index_or owner i None
claimed_other h i owner lt ne = grind (arith, claimed-at)

-- what one request names, after it is set
set_at : (sent : List (List ℕ)) (h i : ℕ) (pages : List ℕ) → i ≢ h
    → slice_index_or (set sent h pages) i [] ≡ slice_index_or sent i []
set_at sent h i pages ne = get_or-set_other sent h i pages [] ne

set_short : (sent : List (List ℕ)) (h i : ℕ) (pages : List ℕ) → length pages ≤ 256
    → ((k : ℕ) → length (slice_index_or sent k []) ≤ 256)
    → length (slice_index_or (set sent h pages) i []) ≤ 256
set_short sent h i pages few short = grind (arith, get_or-set_at, get_or_past, length-set, set_at)

-- nothing is named where nothing was set
set_none : (sent : List (List ℕ)) {h i : ℕ} → i ≡ h → slice_index_or (set sent h []) i [] ≡ []
set_none sent same = grind (arith, get_or-set_at, get_or_past, length-set)

pub requests_added : (side : RequestSide) (h : ℕ) (pages : List ℕ) → AreRequests side
    → IsDriverEnd side.ring → next_head side.ring ≡ Some h → h < 16 → length pages ≤ 256
    → AreRequests
    (record side { ring = after_add side.ring 1 (Ok h); sent = set side.sent h pages })
requests_added side h pages all end e small few_pages =
    search (arith, head_low, claimed_same, claimed_other, length-set, set_at, set_short)

pub requests_taken : (side : RequestSide) (h : ℕ) → AreRequests side
    → AreRequests (after_reap side h)
requests_taken side h all = grind (arith, length-set, released-at, set_none, set_at)

pub requests_fresh : (queue size : ℕ) (sent : List (List ℕ)) → length sent ≡ 16
    → ((i : ℕ) → slice_index_or sent i [] ≡ [])
    → AreRequests (record { number = queue; ring = fresh_ring queue size; sent = sent })
requests_fresh queue size sent len none = grind (arith, none_owned)

pub requests_taken_at : (side : RequestSide) (r2 : DriverEnd) (h i : ℕ) (blank : List ℕ)
    → AreRequests side → r2 ≡ after_take side.ring (Ok (Some h)) → i ≡ h → blank ≡ []
    → AreRequests (record side { ring = r2; sent = set side.sent i blank })
requests_taken_at side r2 h i blank all state at none = grind (arith, requests_taken side h all)

pub requests_added_at : (side : RequestSide) (r2 : DriverEnd) (h i : ℕ) (pages : List ℕ)
    → AreRequests side → IsDriverEnd side.ring → next_head side.ring ≡ Some h → h < 16
    → length pages ≤ 256 → r2 ≡ after_add side.ring 1 (Ok h) → i ≡ h
    → AreRequests (record side { ring = r2; sent = set side.sent i pages })
requests_added_at side r2 h i pages all end e small few state at =
    grind (arith, requests_added side h pages all end e small few)

-- the facts of a queue that has room, from what is seen of it
pub room_inside : (side now : RequestSide) → side ≡ now
    → outstanding now.ring < min now.ring.size 16 → outstanding side.ring < min side.ring.size 16
room_inside side now same room =
    subst (λ (s : RequestSide). outstanding s.ring < min s.ring.size 16) (sym same) room

pub head_small : (r : DriverEnd) (h : ℕ) → ((k : ℕ) → is_unused r.owner k ≡ false
    → is_head r.owner k ≡ true) → next_head r ≡ Some h → outstanding r < min r.size 16 → h < 16
head_small r h single e room = omega (arith, (head_low r h single e).1)
