-- Blocks that a table lists: which are maximal in the set that they make up, and what a change of
-- one does to it.
use Rattle.std.proofs.Common.{◌≡◌, ◌≢◌, ℕ, zero, suc, ◌+◌, ◌-◌, ◌%◌, ◌^◌, ◌<◌, ◌≤◌, ◌⊎◌, inl, inr}
use Rattle.std.proofs.Common.{Bool, true, false, List, length, set, replicate, Option, Some, None}
use Rattle.std.proofs.lemmas.Bool.{cases_lt, cases_eq, both_ways, or_cases, or_left, or_right}
use Rattle.std.proofs.lemmas.List.FromFn.{get_or-map-range_with_len, length-map-range_with_len}
use Rattle.std.{specs.List.{list_any, range_with_len}, proofs.Common.{refl, sym, ◌∙◌, ap, arith}}
use Rattle.std.proofs.lemmas.{Bool.{eq-eqb, eqb-true, false_from_ne_true}, Nat.pow_pos}
use Rattle.std.proofs.lemmas.List.{get_or-set_same, get_or-set_other, length-set, length-replicate}
use Rattle.{vb_model.specs.Pages.Block, vb_pages.proofs.Sets.{in_block, block_bounds, not_in_block}}
use Rattle.{vb_model.specs.Pages.pages_of, vb_pages.proofs.Aligned.{pow_twice, floor_aligned}}
use Rattle.vb_pages.proofs.Aligned.{aligned_step, aligned_same, aligned_down, end_aligned}
use Rattle.vb_pages.proofs.Sets.{same_sets, is_inside, length-with_pages, length-without_pages}
use Rattle.vb_pages.proofs.Sets.{with_old, with_new, with_cases, without_parts, without_old}
use Rattle.vb_pages.proofs.TableLemmas.{is_order-true, is_order-self, is_there, entry_kept}
use Rattle.vb_pages.specs.Areas.{has, with_pages, without_pages, block_at, IsBlock, LiesIn}
use Rattle.vb_pages.specs.Tiles.{is_covered, set_of, IsPlaced, IsMerged, HasRoom, IsTiled}
use Rattle.vb_pages.specs.declared.{block.FreeBlock.FreeBlock, table.TheConstants.MAX_PAGES}
use Rattle.vb_pages.proofs.TableLemmas.{with_block_added, with_block_removed, none_entry}
use Rattle.vb_pages.specs.Areas.{LiesWithin, IsMaximal, HasNoBlock, IsChosen}
use Rattle.vb_pages.specs.{Table.{order_at, is_order, IsLowestStart}, Tiles.IsLowestListed}

-- a block of the table that covers the page
pub record Covered (t : List (Option ℕ)) (p : ℕ) : Type 0 where
  pub start : ℕ
  pub order : ℕ
  pub listed : order_at t start ≡ Some order
  pub low : start ≤ p
  pub high : p < start + 2 ^ order

-- ---- the test and the fact

pub any_range : (f : ℕ → Bool) (a n : ℕ) → list_any f (range_with_len a n) ≡ true
    → (k : ℕ) × (a ≤ k) × (k < a + n) × (f k ≡ true)
any_range f a zero h = absurd cc
any_range f a (suc n) h = elim (or_cases (f a) (list_any f (range_with_len (a + 1) n)) h) [
  | inl e ↦ (a, omega arith, omega arith, e)
  | inr m ↦ let q = any_range f (a + 1) n m in (q.0, omega (arith, q.1), omega (arith, q.2), q.3)
]

range_any : (f : ℕ → Bool) (a n k : ℕ) → a ≤ k → k < a + n → f k ≡ true
    → list_any f (range_with_len a n) ≡ true
range_any f a zero k l h e = absurd (omega arith)
range_any f a (suc n) k l h e = elim (cases_eq a k) [
  | inl same ↦ or_left (f a) (list_any f (range_with_len (a + 1) n)) (ap f same ∙ e)
  | inr differ ↦ or_right (f a) (list_any f (range_with_len (a + 1) n))
      (range_any f (a + 1) n k (omega arith) (omega arith) e)
]

covered_from : (t : List (Option ℕ)) (p : ℕ) → is_covered t p ≡ true → Covered t p
unfolding is_covered
covered_from t p h =
    let q = any_range (λ order. is_order order (order_at t (p - p % 2 ^ order))) 0 10 h in
    let pos : 0 < 2 ^ q.0 = pow_pos q.0 in record {
      start = p - p % 2 ^ q.0;
      order = q.0;
      listed = is_order-true q.0 _ q.3;
      low = omega arith;
      high = omega arith;
    }

covered_to : (t : List (Option ℕ)) (p : ℕ) → IsPlaced t → Covered t p → is_covered t p ≡ true
unfolding is_covered
covered_to t p placed c = let pos : 0 < 2 ^ c.order = pow_pos c.order in
    let low : p - p % 2 ^ c.order ≤ p = omega arith in
    let high : p < (p - p % 2 ^ c.order) + 2 ^ c.order = omega arith in
    let same : p - p % 2 ^ c.order ≡ c.start =
    aligned_same (p - p % 2 ^ c.order) c.start (2 ^ c.order) p (floor_aligned p (2 ^ c.order) pos)
    (placed.blocks.aligned c.start c.order c.listed) low high c.low c.high in
    let ten : c.order ≤ 9 = placed.blocks.bounded c.start c.order c.listed in
    range_any (λ order. is_order order (order_at t (p - p % 2 ^ order))) 0 10 c.order (omega arith)
    (omega arith) (ap (is_order c.order) (ap (order_at t) same ∙ c.listed) ∙ is_order-self c.order)

pub length-set_of : (t : List (Option ℕ)) → length (set_of t) ≡ length t
unfolding set_of
length-set_of t = length-map-range_with_len (is_covered t) 0 (length t)

has-set_of : (t : List (Option ℕ)) (p : ℕ) → p < length t → has (set_of t) p ≡ is_covered t p
unfolding set_of
has-set_of t p h = get_or-map-range_with_len (is_covered t) 0 (length t) p p false h (omega arith)

pub in_set : (t : List (Option ℕ)) (p : ℕ) → has (set_of t) p ≡ true → Covered t p
in_set t p h = grind (arith, is_inside, length-set_of, covered_from, has-set_of)

module _ (t : List (Option ℕ)) (placed : IsPlaced t) where
  pub to_set : (p : ℕ) → Covered t p → has (set_of t) p ≡ true
  to_set p c = grind (arith, has-set_of, covered_to)

  -- a listed block that has all pages of another block
  pub record Within (a j : ℕ) : Type 0 where
    pub start : ℕ
    pub order : ℕ
    pub listed : order_at t start ≡ Some order
    pub low : start ≤ a
    pub high : a + 2 ^ j ≤ start + 2 ^ order
    pub large : j ≤ order

  -- an aligned block of covered pages lies within one listed block
  pub within : IsMerged t → (j a : ℕ) → j ≤ 9 → a % 2 ^ j ≡ 0
      → ((p : ℕ) → a ≤ p → p < a + 2 ^ j → Covered t p) → Within a j
  within merged zero a n e c = let x : Covered t a = c a (omega arith) (omega arith) in grind arith
  within merged (suc j) a n e c = let twice : 2 ^ suc j ≡ 2 ^ j + 2 ^ j = pow_twice j in
      let pos : 0 < 2 ^ j = pow_pos j in
      let e' : a % 2 ^ j ≡ 0 = aligned_down a j (suc j) (omega arith) e in
      let m' : (a + 2 ^ j) % 2 ^ j ≡ 0 = end_aligned a j j (omega arith) e' in
      join (within merged j a (omega arith) e' (λ p l h. c p l (omega arith)))
      (within merged j (a + 2 ^ j) (omega arith) m' (λ p l h. c p (omega arith) (omega arith)))
    where
      join : Within a j → Within (a + 2 ^ j) j → Within a (suc j)
      join x y = let twice : 2 ^ suc j ≡ 2 ^ j + 2 ^ j = pow_twice j in
          let pos : 0 < 2 ^ j = pow_pos j in elim (cases_lt j x.order) [
            | inl lt ↦
                grind (
                  arith,
                  aligned_step a (x.start + 2 ^ x.order) (2 ^ suc j) e (end_aligned x.start (suc j)
                      x.order lt (placed.blocks.aligned x.start x.order x.listed)) (omega (
                        arith,
                        x.high,
                      )),
                )
            | inr xle ↦ elim (cases_lt j y.order) [
              | inl lt ↦
                  let start_ok : y.start % 2 ^ suc j ≡ 0 = aligned_down y.start (suc j) y.order lt
                  (placed.blocks.aligned y.start y.order y.listed) in grind (arith, aligned_step)
              | inr yle ↦ grind arith
            ]
          ]

  abbrev listed_page : (s k p : ℕ) → order_at t s ≡ Some k → s ≤ p → p < s + 2 ^ k → Covered t p
  listed_page s k p e l h = record { start = s; order = k; listed = e; low = l; high = h }

  pub listed_inside : (s k : ℕ) → order_at t s ≡ Some k → LiesIn (set_of t) (block_at s k)
  listed_inside s k e p l h = to_set p (listed_page s k p e l h)

  pub listed_block : (s k : ℕ) → order_at t s ≡ Some k → IsBlock (block_at s k)
  listed_block s k e =
      (placed.blocks.bounded s k e, eq-eqb (s % 2 ^ k) 0 (placed.blocks.aligned s k e))

  inside_within : IsMerged t → (c : Block) → IsBlock c → LiesIn (set_of t) c
      → Within c.start c.order
  inside_within merged c b h = grind (arith, within, eqb-true, in_set)

  pub listed_maximal : IsMerged t → (s k : ℕ) → order_at t s ≡ Some k
      → IsMaximal (set_of t) (block_at s k)
  listed_maximal merged s k e =
      record { is_block = listed_block s k e; inside = listed_inside s k e; alone = alone }
    where
      alone : (c : Block) → IsBlock c → LiesIn (set_of t) c → LiesWithin (block_at s k) c
          → c.order ≤ k
      alone c b h l = grind (arith, inside_within merged c b h, pow_pos k)

  pub maximal_listed : IsMerged t → (b : Block) → IsMaximal (set_of t) b
      → order_at t b.start ≡ Some b.order
  maximal_listed merged b m = let w = inside_within merged b m.is_block m.inside in
      let le : w.order ≤ b.order =
      m.alone (block_at w.start w.order) (listed_block w.start w.order w.listed)
      (listed_inside w.start w.order w.listed) (w.low, w.high) in grind arith

  -- where no block of at least this order is listed, none lies in the set
  pub none_inside : IsMerged t → (order : ℕ) → ((s k : ℕ) → order ≤ k → order_at t s ≡ Some k → ⊥)
      → HasNoBlock (set_of t) order
  none_inside merged order none s b h = let w = inside_within merged (block_at s order) b h in
      none w.start w.order w.large w.listed

  pub chosen : IsMerged t → (order s k : ℕ) → order ≤ k
      → ((r j : ℕ) → order ≤ j → j < k → order_at t r ≡ Some j → ⊥) → IsLowestStart t k 0 (Some s)
      → IsChosen (set_of t) order (block_at s k)
  chosen merged order s k l none low =
      grind (arith, listed_maximal merged s k low.0, maximal_listed)

-- ---- a block leaves the table

pub removed_placed : (t : List (Option ℕ)) (s : ℕ) → s < length t → IsPlaced t
    → IsPlaced (set t s None)
removed_placed t s l placed = grind (arith, with_block_removed, entry_kept)

pub removed_merged : (t : List (Option ℕ)) (s : ℕ) → s < length t → IsMerged t
    → IsMerged (set t s None)
removed_merged t s l merged r j e f =
    merged r j (entry_kept t s r j l e).1 (entry_kept t s (r + 2 ^ j) j l f).1

pub removed_set : (t : List (Option ℕ)) (s k : ℕ) → IsPlaced t → order_at t s ≡ Some k
    → set_of (set t s None) ≡ without_pages (pages_of (block_at s k)) (set_of t)
removed_set t s k placed e = same_sets (set_of t') (without_pages block (set_of t))
    (length-set_of t' ∙ (length-set t s None
    ∙ (sym (length-set_of t) ∙ sym (length-without_pages block (set_of t))))) to from
  where
    t' : List (Option ℕ)
    t' = set t s None

    block : List ℕ
    block = pages_of (block_at s k)

    l : s < length t
    l = is_there t s k e

    to : (p : ℕ) → has (set_of t') p ≡ true → has (without_pages block (set_of t)) p ≡ true
    to p h = grind (arith, in_set, entry_kept, l, without_old, to_set, not_in_block)

    from : (p : ℕ) → has (without_pages block (set_of t)) p ≡ true → has (set_of t') p ≡ true
    from p h =
        grind (arith, without_parts, in_set, in_block, to_set, removed_placed, l, get_or-set_other)

-- ---- a block comes to the table

-- the other half isn't listed
pub record HasNoBuddy (t : List (Option ℕ)) (s k : ℕ) : Type 0 where
  pub right : order_at t (s + 2 ^ k) ≡ Some k → s % 2 ^ suc k ≡ 0 → k < 9 → ⊥
  pub left : (r : ℕ) → r + 2 ^ k ≡ s → order_at t r ≡ Some k → r % 2 ^ suc k ≡ 0 → k < 9 → ⊥

module _ (t : List (Option ℕ)) (s k : ℕ) (placed : IsPlaced t) (room : HasRoom t s k) where
  abbrev outside : (p : ℕ) → s ≤ p → p < s + 2 ^ k → Covered t p → ⊥
  outside p l h c = both_ways (has (set_of t) p) (room.outside p l h) (to_set t placed p c)

  pub room_there : s < length t
  room_there = let pos : 0 < 2 ^ k = pow_pos k in omega (arith, room.fits)

  pub room_empty : order_at t s ≡ None
  room_empty = step (order_at t s) refl where
    step : (o : Option ℕ) → order_at t s ≡ o → o ≡ None
    step None e = refl
    step (Some j) e = let pos : 0 < 2 ^ k = pow_pos k in
        let pos' : 0 < 2 ^ j = pow_pos j in absurd (outside s (omega arith) (omega arith)
        (record { start = s; order = j; listed = e; low = omega arith; high = omega arith }))

  -- an entry of the new table: the new block, or an old one elsewhere
  entry_cases : (r j : ℕ) → order_at (set t s (Some k)) r ≡ Some j
      → ((r ≡ s) × (j ≡ k)) ⊎ ((r ≢ s) × (order_at t r ≡ Some j))
  entry_cases r j e = grind (arith, cases_eq, get_or-set_same, room_there, get_or-set_other)

  pub added_placed : IsPlaced (set t s (Some k))
  added_placed = record {
    blocks = with_block_added t s k placed.blocks room.bounded room.aligned room.fits;
    apart = apart;
  } where
    apart : (r j q i : ℕ) → order_at (set t s (Some k)) r ≡ Some j → r < q → q < r + 2 ^ j
        → order_at (set t s (Some k)) q ≡ Some i → ⊥
    apart r j q i e a b f = elim (entry_cases r j e) [
      | inl x ↦ elim (entry_cases q i f) [
        | inl y ↦ omega (arith, x.0, y.0)
        | inr y ↦
            let w : 2 ^ j ≡ 2 ^ k = ap (λ (n : ℕ). 2 ^ n) x.1 in
            let pos : 0 < 2 ^ i = pow_pos i in
            outside q (omega (arith, x.0)) (omega (arith, x.0, w))
            (record { start = q; order = i; listed = y.1; low = omega arith; high = omega arith })
      ]
      | inr x ↦ elim (entry_cases q i f) [
        | inl y ↦ let pos : 0 < 2 ^ k = pow_pos k in outside s (omega arith) (omega arith) (grind arith)
        | inr y ↦ placed.apart r j q i x.1 a b y.1
      ]
    ]

  pub added_merged : IsMerged t → HasNoBuddy t s k → IsMerged (set t s (Some k))
  added_merged merged alone r j e f al nine = let pos : 0 < 2 ^ j = pow_pos j in
      elim (entry_cases r j e) [
        | inl x ↦ grind (arith, entry_cases)
        | inr x ↦ elim (entry_cases (r + 2 ^ j) j f) [
          | inl y ↦ alone.left r (ap (λ (n : ℕ). r + 2 ^ n) (sym y.1) ∙ y.0)
              (x.1 ∙ ap (λ (n : ℕ). Some n) y.1)
              (ap (λ (n : ℕ). r % 2 ^ suc n) (sym y.1) ∙ al) (omega (arith, y.1))
          | inr y ↦ merged r j x.1 y.1 al nine
        ]
      ]

  pub added_set : set_of (set t s (Some k)) ≡ with_pages (pages_of (block_at s k)) (set_of t)
  added_set = same_sets (set_of t') (with_pages block (set_of t))
      (length-set_of t' ∙ (length-set t s (Some k)
      ∙ (sym (length-set_of t) ∙ sym (length-with_pages block (set_of t))))) to from
    where
      t' : List (Option ℕ)
      t' = set t s (Some k)

      block : List ℕ
      block = pages_of (block_at s k)

      to : (p : ℕ) → has (set_of t') p ≡ true → has (with_pages block (set_of t)) p ≡ true
      to p h =
          grind (arith, in_set, entry_cases, with_new, length-set_of, in_block, with_old, to_set)

      from : (p : ℕ) → has (with_pages block (set_of t)) p ≡ true → has (set_of t') p ≡ true
      from p h = elim (with_cases block (set_of t) p h) [
        | inl old ↦
            let c = in_set t p old in
            let pos : 0 < 2 ^ k = pow_pos k in
            let pos' : 0 < 2 ^ c.order = pow_pos c.order in
            let differ : c.start ≢ s = λ same. outside s (omega arith) (omega arith) (grind arith) in
            grind (arith, to_set, added_placed, get_or-set_other)
        | inr new ↦ grind (arith, block_bounds, to_set, added_placed, get_or-set_same)
      ]

-- no blocks make up no pages
pub none_tiled : (n : ℕ) → n ≤ MAX_PAGES → IsTiled (replicate n None)
none_tiled n h = grind (arith, none_entry, length-replicate)

pub none_set : (n p : ℕ) → n ≤ MAX_PAGES → has (set_of (replicate n None)) p ≡ false
none_set n p h = false_from_ne_true (has (set_of (replicate n None)) p) (λ e.
    let c = in_set (replicate n None) p e in none_entry n c.start c.order c.listed)

-- ---- the lowest listed block, order by order

abbrev pub IsLowestBelow : List (Option ℕ) → ℕ → ℕ → ℕ → Option FreeBlock → Type 0
IsLowestBelow table order from end None = (start larger : ℕ) → order ≤ larger → larger < end
    → from ≤ start → order_at table start ≡ Some larger → ⊥
IsLowestBelow table order from end (Some b) = (order_at table b.start ≡ Some b.order)
    × (order ≤ b.order) × (b.order ≤ 9) × (from ≤ b.start) × ((start larger : ℕ) → order ≤ larger
    → larger < end → from ≤ start → order_at table start ≡ Some larger → b.start ≤ start)

pub lowest_all : (t : List (Option ℕ)) (order from end : ℕ) (best : Option FreeBlock) → 9 < end
    → IsLowestBelow t order from end best → IsLowestListed t order from best
lowest_all t order from end best l h = search (arith)
