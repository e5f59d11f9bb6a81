-- Which blocks are maximal, which one a request gets, and which is first, worked out.
use Rattle.std.proofs.Common.{◌≡◌, ℕ, ◌+◌, ◌-◌, ◌^◌, ◌<◌, ◌≤◌, Bool, true, false, List, []}
use Rattle.std.proofs.Common.{◌∷◌, arith, refl, replicate}
use Rattle.std.{proofs.Math.Pow.pow-lt, proofs.lemmas.Nat.pow_pos, specs.Prelude.{IsTrue, ◌≢◌}}
use Rattle.vb_model.specs.Pages.{Block}
use Rattle.vb_pages.specs.Areas.{has, block_at, IsBlock, LiesIn, LiesOutside, LiesWithin, IsMaximal}
use Rattle.vb_pages.specs.Areas.{IsChosen, IsLowestFrom, AreBlockBits}

-- of ten pages: page 0, pages 2 and 3, page 5, and pages 8 and 9
abbrev pub spread : List Bool
spread = true ∷ false ∷ true ∷ true ∷ false ∷ true ∷ false ∷ false ∷ true ∷ true ∷ []

no : (b : Bool) → b ≡ false → IsTrue b → ⊥
no b e is = cc

-- ---- blocks that are maximal

-- where the pages on both sides of a block aren't there, it lies in no larger one
beside : (set : List Bool) (start order : ℕ) (c : Block)
    → (0 < start → has set (start - 1) ≡ false) → has set (start + 2 ^ order) ≡ false
    → LiesIn set c → LiesWithin (block_at start order) c → order < c.order → ⊥
beside set start order c before behind inside within larger =
    let more : 2 ^ order < 2 ^ c.order = pow-lt larger in grind (arith, no)

pub maximal_between : (set : List Bool) (start order : ℕ) → IsBlock (block_at start order)
    → LiesIn set (block_at start order) → (0 < start → has set (start - 1) ≡ false)
    → has set (start + 2 ^ order) ≡ false → IsMaximal set (block_at start order)
maximal_between set start order is inside before behind =
    record { is_block = is; inside = inside; alone = alone }
  where
    alone : (c : Block) → IsBlock c → LiesIn set c → LiesWithin (block_at start order) c → c.order ≤ order
    alone c is inside within =
        let none : order < c.order → ⊥ = beside set start order c before behind inside within in
        grind arith

pub one_in : (set : List Bool) (start : ℕ) → IsTrue (has set start) → LiesIn set (block_at start 0)
one_in set start is page from to = let e : page ≡ start = omega (arith, from, to) in rw e is

two_in : (set : List Bool) (start : ℕ) → IsTrue (has set start) → IsTrue (has set (start + 1))
    → LiesIn set (block_at start 1)
two_in set start is also page from to = grind arith

-- page 0, pages 2 and 3, and pages 8 and 9
pub first_one : IsMaximal spread (block_at 0 0)
first_one = maximal_between spread 0 0 (omega arith, refl) (one_in spread 0 refl)
    (λ lt. absurd (omega (arith, lt))) refl

pub first_two : IsMaximal spread (block_at 2 1)
first_two = maximal_between spread 2 1 (omega arith, refl) (two_in spread 2 refl refl) (λ lt. refl) refl

last_two : IsMaximal spread (block_at 8 1)
last_two = maximal_between spread 8 1 (omega arith, refl) (two_in spread 8 refl refl) (λ lt. refl) refl

-- half of a block that is there, one that isn't aligned, and one of which a page isn't there
not_maximal : (IsMaximal spread (block_at 2 0) → ⊥)
    × (IsMaximal (false ∷ true ∷ true ∷ []) (block_at 1 1) → ⊥)
    × (IsMaximal spread (block_at 0 1) → ⊥) × (IsMaximal spread (block_at 1 0) → ⊥)
    × (IsMaximal (replicate 1024 true) (block_at 0 10) → ⊥)
not_maximal = (
  λ m. omega (arith, m.alone (block_at 2 1) (omega arith, refl) first_two.inside (omega arith, omega arith)),
  λ m. no false refl (m.is_block.1),
  λ m. no false refl (m.inside 1 (omega arith) (omega arith)),
  λ m. no false refl (m.inside 1 (omega arith) (omega arith)),
  λ m. omega (arith, m.is_block.0),
)

-- pages 6 and 7 aren't there; the first, and the last, of two others are
lie_outside : LiesOutside spread (block_at 6 1)
lie_outside page from to = by_page page from to where
  by_page : (page : ℕ) → 6 ≤ page → page < 8 → has spread page ≡ false
  by_page page from to = grind arith

not_lie_outside : (LiesOutside spread (block_at 0 1) → ⊥) × (LiesOutside spread (block_at 4 1) → ⊥)
not_lie_outside = (
  λ out. no true (out 0 (omega arith) (omega arith)) refl,
  λ out. no true (out 5 (omega arith) (omega arith)) refl,
)

-- both halves lie within a block, and it within itself; what begins before it doesn't, nor what goes on
lie_within : LiesWithin (block_at 2 0) (block_at 2 1) × LiesWithin (block_at 3 0) (block_at 2 1)
    × LiesWithin (block_at 2 1) (block_at 2 1)
lie_within = ((omega arith, omega arith), (omega arith, omega arith), (omega arith, omega arith))

not_lie_within : (LiesWithin (block_at 1 0) (block_at 2 1) → ⊥)
    × (LiesWithin (block_at 4 0) (block_at 2 1) → ⊥) × (LiesWithin (block_at 2 2) (block_at 2 1) → ⊥)
not_lie_within = (λ w. omega (arith, w.0), λ w. omega (arith, w.1), λ w. omega (arith, w.1))

-- ---- the block that a request gets

-- no block that is there begins with page 1
begins_past : (c : Block) → LiesIn spread c → 0 < c.start → 2 ≤ c.start
begins_past c inside past =
    let not_one : c.start ≢ 1 =
    λ e. no (has spread 1) refl (inside 1 (omega (arith, e)) (omega (arith, e, pow_pos c.order))) in
    omega (arith, not_one, past)

-- and none of order 1 with page 0
begins_later : (c : Block) → LiesIn spread c → 1 ≤ c.order → 2 ≤ c.start
begins_later c inside large =
    let some : 0 < c.order = omega (arith, large) in
    let more : 1 < 2 ^ c.order = pow-lt {i = 0} some in
    let not_one : c.start ≢ 1 =
    λ e. no (has spread 1) refl (inside 1 (omega (arith, e)) (omega (arith, e, more))) in
    let not_zero : c.start ≢ 0 =
    λ e. no (has spread 1) refl (inside 1 (omega (arith, e)) (omega (arith, e, more))) in
    omega (arith, not_one, not_zero)

-- a page is the first block of one page, and two are the first block of two
chosen : IsChosen spread 0 (block_at 0 0) × IsChosen spread 1 (block_at 2 1)
chosen = (
  record {
    maximal = first_one;
    sufficient = omega arith;
    smallest = λ c m le. omega arith;
    lowest = λ c m e. omega arith;
  },
  record {
    maximal = first_two;
    sufficient = omega arith;
    smallest = λ c m le. omega (arith, le);
    lowest = λ c m e. begins_later c m.inside (omega (arith, e));
  },
)

-- no part of a block, none that is too small or larger than need be, and none after another
not_chosen : (IsChosen spread 0 (block_at 2 0) → ⊥) × (IsChosen spread 1 (block_at 0 0) → ⊥)
    × (IsChosen spread 0 (block_at 2 1) → ⊥) × (IsChosen spread 1 (block_at 8 1) → ⊥)
not_chosen = (
  λ is. not_maximal.0 is.maximal,
  λ is. omega (arith, is.sufficient),
  λ is. omega (arith, is.smallest (block_at 0 0) first_one (omega arith)),
  λ is. omega (arith, is.lowest (block_at 2 1) first_two refl),
)

-- ---- the block that is first from a page on

lowest : IsLowestFrom spread 0 0 (block_at 0 0) × IsLowestFrom spread 0 1 (block_at 2 1)
    × IsLowestFrom spread 1 0 (block_at 2 1) × IsLowestFrom spread 0 2 (block_at 2 1)
lowest = (
  record {
    maximal = first_one;
    sufficient = omega arith;
    after = omega arith;
    lowest = λ c m le from. omega arith;
  },
  record {
    maximal = first_two;
    sufficient = omega arith;
    after = omega arith;
    lowest = λ c m le from. begins_past c m.inside (omega (arith, from));
  },
  record {
    maximal = first_two;
    sufficient = omega arith;
    after = omega arith;
    lowest = λ c m le from. begins_later c m.inside le;
  },
  record {
    maximal = first_two;
    sufficient = omega arith;
    after = omega arith;
    lowest = λ c m le from. omega (arith, from);
  },
)

-- no part of a block, none that is too small or begins too early, and none after one that is larger
not_lowest : (IsLowestFrom spread 0 1 (block_at 2 0) → ⊥)
    × (IsLowestFrom spread 1 0 (block_at 0 0) → ⊥) × (IsLowestFrom spread 0 1 (block_at 0 0) → ⊥)
    × (IsLowestFrom spread 0 2 (block_at 8 1) → ⊥)
not_lowest = (
  λ is. not_maximal.0 is.maximal,
  λ is. omega (arith, is.sufficient),
  λ is. omega (arith, is.after),
  λ is. omega (arith, is.lowest (block_at 2 1) first_two (omega arith) (omega arith)),
)

-- ---- blocks as bits

-- one word for 64 pages, or fewer, and two for 65; one for 64 pairs, and two for 96
words_are : (AreBlockBits (replicate 64 false) 0 (0 ∷ 0 ∷ []) → ⊥)
    × (AreBlockBits (replicate 65 false) 0 (0 ∷ []) → ⊥)
    × (AreBlockBits (replicate 129 false) 1 (0 ∷ 0 ∷ []) → ⊥) × (AreBlockBits [] 0 [] → ⊥)
    × (AreBlockBits (replicate 192 false) 1 (0 ∷ []) → ⊥)
words_are = (
  λ bits. omega (arith, bits.fewest),
  λ bits. omega (arith, bits.fewest),
  λ bits. omega (arith, bits.fewest),
  λ bits. omega (arith, bits.fewest),
  λ bits. omega (arith, bits.fewest),
)

-- pages 8 and 9 aren't told, or a pair that is none is
bits_are : (AreBlockBits spread 1 (2 ∷ []) → ⊥) × (AreBlockBits spread 1 (19 ∷ []) → ⊥)
bits_are = (
  λ bits. no false refl ((bits.tells 0 4 (omega arith)).1 last_two),
  λ bits. not_maximal.2 ((bits.tells 0 0 (omega arith)).0 refl),
)
