-- A table and the sets of its blocks, order by order.
use Rattle.std.proofs.Common.{List, [], length, get_or, set, replicate, Bool, true, false, min, eqb}
use Rattle.std.proofs.lemmas.Bool.{cases_lt, cases_eq, both_ways, cond-true, cond-false, and_parts}
use Rattle.std.proofs.lemmas.{Bool.{eqb-true, eq-eqb}, Nat.{pow_pos, mul-le}, List.get_or-replicate}
use Rattle.std.proofs.{lemmas.Bool.ne_eqb, Common.{◌+◌, ◌*◌, ◌/◌, ◌%◌, ◌^◌, ◌<◌, ◌≤◌, inl, inr}}
use Rattle.std.proofs.lemmas.List.{get_or-set_same, get_or-set_other, get_or_past, get_or_default}
use Rattle.std.proofs.lemmas.List.{same_lists, ext_get_or, length-set, length-replicate}
use Rattle.std.proofs.lemmas.List.FromFn.{get_or-map-range_with_len, length-map-range_with_len}
use Rattle.std.proofs.Common.{Option, Some, None, refl, sym, ◌∙◌, ap, arith, ◌≡◌, ◌≢◌, ℕ, zero, suc}
use Rattle.{vb_bits.specs.Sets.{has, HasNoneFrom, IsLeastFrom}, vb_pages.proofs.Sets.is_inside}
use Rattle.vb_pages.specs.Table.{order_at, is_order, AreBlocks, room_of, set_of_order, sets_of}
use Rattle.vb_pages.{specs.declared.table.TheConstants.MAX_PAGES, proofs.Sets.same_bool}
use Rattle.vb_pages.proofs.Aligned.{multiple_of, times_div, block_fits, div_ceil_le, div_ceil_from}
use Rattle.vb_pages.specs.Table.{is_in_sets, first_of, table_of, AreSetsOf, IsLowestStart}

-- ---- the order of a page

pub is_order-self : (k : ℕ) → is_order k (Some k) ≡ true
is_order-self k = eq-eqb k k refl

is_order-other : (j k : ℕ) → j ≢ k → is_order j (Some k) ≡ false
is_order-other j k h = ne_eqb k j (λ e. h (sym e))

pub is_order-true : (k : ℕ) (o : Option ℕ) → is_order k o ≡ true → o ≡ Some k
is_order-true k None h = absurd cc
is_order-true k (Some j) h = ap (λ (n : ℕ). Some n) (eqb-true j k h)

-- a page where a block starts is there
pub is_there : (t : List (Option ℕ)) (s k : ℕ) → order_at t s ≡ Some k → s < length t
is_there t s k e = grind (arith, get_or_past)

-- ---- the sets of a table

pub length-set_of_order : (k : ℕ) (t : List (Option ℕ))
    → length (set_of_order k t) ≡ room_of k (length t)
unfolding set_of_order
length-set_of_order k t =
    length-map-range_with_len (λ b. is_order k (order_at t (b * 2 ^ k))) 0 (room_of k (length t))

pub set_at : (k : ℕ) (t : List (Option ℕ)) (b : ℕ) → b < room_of k (length t)
    → has (set_of_order k t) b ≡ is_order k (order_at t (b * 2 ^ k))
unfolding set_of_order
set_at k t b h = grind (arith, get_or-map-range_with_len)

pub length-sets_of : (t : List (Option ℕ)) → length (sets_of t) ≡ 10
unfolding sets_of
length-sets_of t = length-map-range_with_len (λ order. set_of_order order t) 0 10

pub sets_at : (t : List (Option ℕ)) (k : ℕ) (d : List Bool) → k < 10
    → get_or (sets_of t) k d ≡ set_of_order k t
unfolding sets_of
sets_at t k d h =
    get_or-map-range_with_len (λ order. set_of_order order t) 0 10 k k d h (omega arith)

-- a block's number is below the bound of its set
pub block_below : (t : List (Option ℕ)) (s k : ℕ) → s % 2 ^ k ≡ 0 → s + 2 ^ k ≤ length t
    → s / 2 ^ k < room_of k (length t)
block_below t s k e l = omega (arith, block_fits s (length t) (2 ^ k) (pow_pos k) e l)

-- a member of an order's set is a block of the table
pub member_listed : (t : List (Option ℕ)) (k b : ℕ) → has (set_of_order k t) b ≡ true
    → order_at t (b * 2 ^ k) ≡ Some k
member_listed t k b h = grind (arith, is_inside, length-set_of_order, set_at)

pub listed_member : (t : List (Option ℕ)) (k s : ℕ) → AreBlocks t → order_at t s ≡ Some k
    → has (set_of_order k t) (s / 2 ^ k) ≡ true
listed_member t k s blocks e = grind (arith, set_at, block_below)

pub listed_number : (t : List (Option ℕ)) (k b : ℕ) → AreBlocks t
    → order_at t (b * 2 ^ k) ≡ Some k → has (set_of_order k t) b ≡ true
listed_number t k b blocks e = grind (arith, pow_pos k, listed_member t k (b * 2 ^ k) blocks e)

-- ---- the table of its sets

first_is : (test : ℕ → Bool) (n more k : ℕ) → n ≤ k → k < n + more → test k ≡ true
    → ((j : ℕ) → j ≢ k → test j ≡ false) → first_of test n more ≡ Some k
first_is test n zero k l h e other = absurd (omega arith)
first_is test n (suc more) k l h e other = elim (cases_eq n k) [
  | inl same ↦ cond-true (test n) (Some n) (first_of test (suc n) more) (ap test same ∙ e)
      ∙ ap (λ (i : ℕ). Some i) same
  | inr differ ↦ cond-false (test n) (Some n) (first_of test (suc n) more) (other n differ)
      ∙ first_is test (suc n) more k (omega arith) (omega arith) e other
]

first_none : (test : ℕ → Bool) (n more : ℕ) → ((j : ℕ) → test j ≡ false)
    → first_of test n more ≡ None
first_none test n zero other = refl
first_none test n (suc more) other = grind (arith, first_none test (suc n) more other)

-- a page's test is that of its entry
tested : (t : List (Option ℕ)) (p k : ℕ) → AreBlocks t
    → is_in_sets (sets_of t) p k ≡ is_order k (order_at t p)
tested t p k blocks = same_bool (is_in_sets (sets_of t) p k) (is_order k (order_at t p)) to from
  where
    to : is_in_sets (sets_of t) p k ≡ true → is_order k (order_at t p) ≡ true
    to h =
        let parts = and_parts (eqb (p % 2 ^ k) 0) (has (get_or (sets_of t) k []) (p / 2 ^ k)) h in
        elim (cases_lt k 10) [
          | inl l ↦
              let member : has (set_of_order k t) (p / 2 ^ k) ≡ true =
              ap (λ (xs : List Bool). has xs (p / 2 ^ k)) (sym (sets_at t k [] l)) ∙ parts.1 in
              ap (is_order k)
              (ap (order_at t) (sym (multiple_of p (2 ^ k) (eqb-true (p % 2 ^ k) 0 parts.0)))
              ∙ member_listed t k (p / 2 ^ k) member) ∙ is_order-self k
          | inr past ↦ absurd (both_ways (has (get_or (sets_of t) k []) (p / 2 ^ k))
              (ap (λ (xs : List Bool). has xs (p / 2 ^ k))
              (get_or_past (sets_of t) k [] (omega (arith, length-sets_of t)))) parts.1)
        ]

    from : is_order k (order_at t p) ≡ true → is_in_sets (sets_of t) p k ≡ true
    from h = grind (arith, sets_at, listed_member)

pub length-table_of : (pages : ℕ) (sets : List (List Bool)) → length (table_of pages sets) ≡ pages
unfolding table_of
length-table_of pages sets =
    length-map-range_with_len (λ page. first_of (is_in_sets sets page) 0 10) 0 pages

table_at : (t : List (Option ℕ)) → AreBlocks t → (p : ℕ) (d : Option ℕ) → p < length t
    → get_or (table_of (length t) (sets_of t)) p d ≡ order_at t p
unfolding table_of
table_at t blocks p d l =
    get_or-map-range_with_len (λ page. first_of (is_in_sets (sets_of t) page) 0 10) 0 (length t) p p
    d l (omega arith) ∙ entry (order_at t p) refl
  where
    entry : (o : Option ℕ) → order_at t p ≡ o → first_of (is_in_sets (sets_of t) p) 0 10 ≡ o
    entry None e = first_none (is_in_sets (sets_of t) p) 0 10
        (λ j. tested t p j blocks ∙ ap (is_order j) e)
    entry (Some k) e = first_is (is_in_sets (sets_of t) p) 0 10 k (omega arith)
        (omega (arith, blocks.bounded p k e))
        (tested t p k blocks ∙ ap (is_order k) e ∙ is_order-self k)
        (λ j differ. tested t p j blocks ∙ ap (is_order j) e ∙ is_order-other j k differ)

-- the sets of a table represent it
table_of_sets : (t : List (Option ℕ)) → AreBlocks t → table_of (length t) (sets_of t) ≡ t
table_of_sets t blocks = grind (arith, same_lists, length-table_of, table_at, get_or_default)

-- sets, and the table that they represent
pub record StandFor (pages : ℕ) (sets : List (List Bool)) (t : List (Option ℕ)) : Type 0 where
  pub table : table_of pages sets ≡ t
  pub kept : AreSetsOf pages sets

pub stand_for : (pages : ℕ) (sets : List (List Bool)) (t : List (Option ℕ)) → pages ≤ MAX_PAGES
    → pages ≡ length t → sets ≡ sets_of t → AreBlocks t → StandFor pages sets t
stand_for pages sets t small l e blocks = grind (arith, table_of_sets)

-- what a read of the sets gives
pub set_now : (pages : ℕ) (sets : List (List Bool)) (k : ℕ) (read : List Bool)
    → AreSetsOf pages sets → k < 10 → read ≡ get_or sets k read
    → read ≡ set_of_order k (table_of pages sets)
set_now pages sets k read s h e = grind (arith, sets_at)

pub ten_sets : (pages : ℕ) (sets : List (List Bool)) → AreSetsOf pages sets → length sets ≡ 10
ten_sets pages sets s = ap length s.same ∙ length-sets_of (table_of pages sets)

-- ---- one entry changed

-- a set that the change leaves alone
set-kept : (j s : ℕ) (t : List (Option ℕ)) (v : Option ℕ) → s < length t → is_order j v ≡ false
    → is_order j (order_at t s) ≡ false → set_of_order j (set t s v) ≡ set_of_order j t
set-kept j s t v l now before = ext_get_or false (set_of_order j (set t s v)) (set_of_order j t)
    (length-set_of_order j (set t s v) ∙ ap (room_of j) (length-set t s v)
    ∙ sym (length-set_of_order j t)) (grind (arith, length-set_of_order, length-set, at, set_at))
  where
    at : (b : ℕ) → is_order j (order_at (set t s v) (b * 2 ^ j))
        ≡ is_order j (order_at t (b * 2 ^ j))
    at b = grind (arith, get_or-set_same, get_or-set_other)

-- the set that it changes
set-changed : (k s : ℕ) (t : List (Option ℕ)) (v : Option ℕ) (flag : Bool) → s < length t
    → s % 2 ^ k ≡ 0 → is_order k v ≡ flag
    → set_of_order k (set t s v) ≡ set (set_of_order k t) (s / 2 ^ k) flag
set-changed k s t v flag l aligned e =
    ext_get_or false (set_of_order k (set t s v)) (set (set_of_order k t) (s / 2 ^ k) flag)
    (length-set_of_order k (set t s v) ∙ ap (room_of k) (length-set t s v)
    ∙ sym (length-set (set_of_order k t) (s / 2 ^ k) flag ∙ length-set_of_order k t)) (grind (
      arith,
      length-set_of_order,
      length-set,
      at,
      set_at,
    ))
  where
    at : (b : ℕ) → b < room_of k (length t) → is_order k (order_at (set t s v) (b * 2 ^ k))
        ≡ has (set (set_of_order k t) (s / 2 ^ k) flag) b
    at b h = elim (cases_eq b (s / 2 ^ k)) [
      | inl same ↦ grind (arith, multiple_of, length-set_of_order, get_or-set_same)
      | inr differ ↦ grind (arith, times_div, get_or-set_other, set_at)
    ]

sets-changed : (k s : ℕ) (t : List (Option ℕ)) (v : Option ℕ) (flag : Bool) → k < 10
    → s < length t → s % 2 ^ k ≡ 0 → is_order k v ≡ flag
    → ((j : ℕ) → j ≢ k → (is_order j v ≡ false) × (is_order j (order_at t s) ≡ false))
    → sets_of (set t s v) ≡ set (sets_of t) k (set (set_of_order k t) (s / 2 ^ k) flag)
sets-changed k s t v flag ten l aligned e other = grind (
  arith,
  same_lists,
  length-sets_of,
  length-set,
  sets_at,
  set-changed,
  get_or-set_same,
  set-kept,
  get_or-set_other,
)

-- a block that comes to the table
pub with_block_added : (t : List (Option ℕ)) (s k : ℕ) → AreBlocks t → k ≤ 9 → s % 2 ^ k ≡ 0
    → s + 2 ^ k ≤ length t → AreBlocks (set t s (Some k))
with_block_added t s k blocks nine aligned fits =
    grind (arith, pow_pos, get_or-set_same, length-set, get_or-set_other)

-- an entry that stays when a block leaves
pub entry_kept : (t : List (Option ℕ)) (s r j : ℕ) → s < length t
    → order_at (set t s None) r ≡ Some j → (r ≢ s) × (order_at t r ≡ Some j)
entry_kept t s r j l e = grind (arith, get_or-set_same, get_or-set_other)

pub with_block_removed : (t : List (Option ℕ)) (s : ℕ) → s < length t → AreBlocks t
    → AreBlocks (set t s None)
with_block_removed t s l blocks = grind (arith, entry_kept, length-set)

-- a table without a block
pub none_at : (n p : ℕ) → order_at (replicate n None) p ≡ None
none_at n p = grind (arith, get_or-replicate, get_or_past, length-replicate)

pub none_entry : (n s k : ℕ) → order_at (replicate n None) s ≡ Some k → ⊥
none_entry n s k e = let bad : Some k ≡ None = sym e ∙ none_at n s in cc

pub no_blocks : (n : ℕ) → AreBlocks (replicate n None)
no_blocks n = grind (arith, none_entry)

-- ---- what the calls leave

module _ (pages : ℕ) (sets : List (List Bool)) (s : AreSetsOf pages sets) where
  abbrev table : List (Option ℕ)
  table = table_of pages sets

  set_row : (k n : ℕ) (flag : Bool) (read row : List Bool) → k < 10 → read ≡ get_or sets k read
      → row ≡ set read n flag
      → set sets k row ≡ set (sets_of table) k (set (set_of_order k table) n flag)
  set_row k n flag read row ten r e = grind (arith, set_now)

  pub added : (k start : ℕ) (read row : List Bool) → k ≤ 9 → start % 2 ^ k ≡ 0
      → start + 2 ^ k ≤ length table → order_at table start ≡ None → read ≡ get_or sets k read → row
      ≡ set read (start / 2 ^ k) true → StandFor pages (set sets k row) (set table start (Some k))
  added k start read row nine aligned fits empty r e = let pos : 0 < 2 ^ k = pow_pos k in
      let ten : k < 10 = omega arith in
      let there : start < length table = omega arith in
      stand_for pages (set sets k row) (set table start (Some k)) s.small
      (sym (length-set table start (Some k) ∙ length-table_of pages sets))
      (set_row k (start / 2 ^ k) true read row ten r e
      ∙ sym (sets-changed k start table (Some k) true ten there aligned (is_order-self k)
      (λ j differ. (is_order-other j k differ, ap (is_order j) empty))))
      (with_block_added table start k s.blocks nine aligned fits)

  pub removed : (k start : ℕ) (read row : List Bool) → order_at table start ≡ Some k
      → read ≡ get_or sets k read → row ≡ set read (start / 2 ^ k) false
      → StandFor pages (set sets k row) (set table start None)
  removed k start read row listed r e =
      let ten : k < 10 = omega (arith, s.blocks.bounded start k listed) in
      let there : start < length table = is_there table start k listed in
      stand_for pages (set sets k row) (set table start None) s.small
      (sym (length-set table start None ∙ length-table_of pages sets))
      (set_row k (start / 2 ^ k) false read row ten r e
      ∙ sym (sets-changed k start table None false ten there (s.blocks.aligned start k listed) refl
      (λ j differ. (refl, ap (is_order j) listed ∙ is_order-other j k differ))))
      (with_block_removed table start there s.blocks)

-- sets without a member
pub none : (pages : ℕ) (sets : List (List Bool)) → pages ≤ MAX_PAGES → length sets ≡ 10
    → ((k : ℕ) (d : List Bool) → k < 10 → get_or sets k d ≡ replicate (room_of k pages) false)
    → StandFor pages sets (replicate pages None)
none pages sets small ten h = stand_for pages sets t small (sym count)
    (same_lists sets (sets_of t) (ten ∙ sym (length-sets_of t)) (λ k d l.
    let below : k < 10 = omega (arith, ten) in
    h k d below ∙ (sym (empty k) ∙ sym (sets_at t k d below)))) (no_blocks pages)
  where
    t : List (Option ℕ)
    t = replicate pages None

    count : length t ≡ pages
    count = length-replicate {A = Option ℕ} pages None

    empty : (k : ℕ) → set_of_order k t ≡ replicate (room_of k pages) false
    empty k = ext_get_or false (set_of_order k t) (replicate (room_of k pages) false)
        (length-set_of_order k t ∙ ap (room_of k) count
        ∙ sym (length-replicate (room_of k pages) false)) (λ b l.
        let inside : b < room_of k (length t) = omega (arith, length-set_of_order k t) in
        let inside' : b < room_of k pages = rw count at inside in set_at k t b inside
        ∙ (ap (is_order k) (none_at pages (b * 2 ^ k))
        ∙ sym (get_or-replicate (room_of k pages) b false false inside')))

-- sets of which all members were taken out
pub cleared : (pages : ℕ) (sets new : List (List Bool)) → AreSetsOf pages sets
    → length new ≡ length sets → ((k : ℕ) (d : List Bool) → k < 10
    → get_or new k d ≡ replicate (length (get_or sets k d)) false)
    → StandFor pages new (replicate pages None)
cleared pages sets new s l h =
    grind (arith, none, ten_sets, sets_at, length-set_of_order, length-table_of)

-- ---- the lowest start

pub lowest_none : (t : List (Option ℕ)) (k n : ℕ) → AreBlocks t
    → HasNoneFrom (set_of_order k t) (n / 2 ^ k + min 1 (n % 2 ^ k)) → IsLowestStart t k n None
lowest_none t k n blocks none = λ page from listed.
    let aligned = multiple_of page (2 ^ k) (blocks.aligned page k listed) in
    both_ways (has (set_of_order k t) (page / 2 ^ k)) (none (page / 2 ^ k)
    (div_ceil_le n (page / 2 ^ k) (2 ^ k) (pow_pos k) (omega (arith, from, aligned))))
    (listed_member t k page blocks listed)

pub lowest_some : (t : List (Option ℕ)) (k n b : ℕ) → AreBlocks t
    → IsLeastFrom (set_of_order k t) (n / 2 ^ k + min 1 (n % 2 ^ k)) b
    → IsLowestStart t k n (Some (b * 2 ^ k))
lowest_some t k n b blocks least = (
  member_listed t k b least.member,
  div_ceil_from n b (2 ^ k) (pow_pos k) least.from,
  λ page from listed.
      let aligned = multiple_of page (2 ^ k) (blocks.aligned page k listed) in
      elim (cases_lt (page / 2 ^ k) b) [
        | inl before ↦ absurd (both_ways (has (set_of_order k t) (page / 2 ^ k))
            (least.least (page / 2 ^ k)
            (div_ceil_le n (page / 2 ^ k) (2 ^ k) (pow_pos k) (omega (arith, from, aligned)))
            before) (listed_member t k page blocks listed))
        | inr after ↦
            let step : b * 2 ^ k ≤ (page / 2 ^ k) * 2 ^ k =
            mul-le b (2 ^ k) (page / 2 ^ k) (2 ^ k) after (omega arith) in
            omega (arith, step, aligned)
      ],
)
