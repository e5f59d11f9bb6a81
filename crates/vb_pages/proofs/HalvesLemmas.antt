-- Blocks of a table that are halved, merged, or come back in part.
use Rattle.std.proofs.Common.{◌≡◌, ℕ, suc, ◌+◌, ◌-◌, ◌^◌, ◌<◌, ◌≤◌, min, Bool, true, false, List}
use Rattle.std.proofs.Common.{set, Option, Some, None, refl, sym, ◌∙◌, ap, subst, arith}
use Rattle.{std.proofs.lemmas.List.length-set, vb_pages.proofs.TableLemmas.is_there}
use Rattle.vb_virtio.specs.Tests.{is_in}
use Rattle.vb_model.specs.Pages.{pages_of}
use Rattle.vb_pages.proofs.TilesLemmas.{added_merged}
use Rattle.vb_pages.proofs.Aligned.{right_half, aligned_down, end_aligned, pow_twice}
use Rattle.vb_pages.proofs.Sets.{with_cases, without_parts, in_block, block_bounds, halves_turned}
use Rattle.vb_pages.proofs.Sets.{has-without_pages, with_without, without_with, halves}
use Rattle.vb_pages.specs.{Areas.{has, with_pages, without_pages, block_at}, Table.order_at}
use Rattle.vb_pages.specs.{Tiles.{set_of, IsPlaced, IsBuddy, HasRoom, IsTiled}, Table.IsLowestStart}
use Rattle.vb_pages.proofs.TilesLemmas.{listed_inside, removed_placed, removed_merged, removed_set}
use Rattle.vb_pages.proofs.TilesLemmas.{HasNoBuddy, added_placed, added_set, room_empty}

-- ---- halving and merging

pub no_buddy : (t : List (Option ℕ)) (s k b : ℕ) → IsBuddy s k b → (order_at t b ≡ Some k → ⊥)
    → HasNoBuddy t s k
no_buddy t s k b buddy none = grind (arith, right_half)

pub no_larger : (t : List (Option ℕ)) (s k : ℕ) → 9 ≤ k → HasNoBuddy t s k
no_larger t s k h = record { right = λ e a nine. omega arith; left = λ r e f a nine. omega arith }

-- the block that a block and its buddy make up
module _ (t : List (Option ℕ)) (s k b low : ℕ) (placed : IsPlaced t) (room : HasRoom t s k)
    (buddy : IsBuddy s k b) (listed : order_at t b ≡ Some k) (nine : k < 9)
    (least : low ≡ min s b) where
  abbrev after : List (Option ℕ)
  after = set t b None

  buddy_inside : (p : ℕ) → is_in p (pages_of (block_at b k)) ≡ true → has (set_of t) p ≡ true
  buddy_inside p h = let q = block_bounds b k p h in listed_inside t placed b k listed p q.0 q.1

  -- all pages of the larger block
  pub merged_set : with_pages (pages_of (block_at low (suc k))) (set_of after)
      ≡ with_pages (pages_of (block_at s k)) (set_of t)
  merged_set =
      let gone : set_of after ≡ without_pages (pages_of (block_at b k)) (set_of t) =
      removed_set t b k placed listed in
      let back : with_pages (pages_of (block_at b k)) (without_pages (pages_of (block_at b k))
      (set_of t)) ≡ set_of t = with_without (pages_of (block_at b k)) (set_of t) buddy_inside in
      grind (arith, halves, halves_turned)

  pub merged_room : HasRoom after low (suc k)
  merged_room =
      grind (arith, removed_set t b k placed listed, length-set t b None, without_parts, in_block)

-- the upper half of a block goes in
module _ (t : List (Option ℕ)) (s k : ℕ) (placed : IsPlaced t) (room : HasRoom t s (suc k)) where
  pub upper_room : HasRoom t (s + 2 ^ k) k
  upper_room = grind (arith, pow_twice, end_aligned, aligned_down)

  pub upper_alone : HasNoBuddy t (s + 2 ^ k) k
  upper_alone = grind (arith, right_half, room_empty t s (suc k) placed room)

  abbrev pub halved : List (Option ℕ)
  halved = set t (s + 2 ^ k) (Some k)

  pub halved_set : set_of halved ≡ with_pages (pages_of (block_at (s + 2 ^ k) k)) (set_of t)
  halved_set = added_set t (s + 2 ^ k) k placed upper_room

  pub lower_room : HasRoom halved s k
  lower_room = grind (arith, aligned_down, length-set, with_cases, halved_set, block_bounds)

  pub lower_set : with_pages (pages_of (block_at s k)) (set_of halved)
      ≡ with_pages (pages_of (block_at s (suc k))) (set_of t)
  lower_set = ap (λ (x : List Bool). with_pages (pages_of (block_at s k)) x) halved_set
      ∙ halves s k (set_of t)

-- a block that left the table has room in it
pub removed_room : (t : List (Option ℕ)) (s k : ℕ) → IsPlaced t → order_at t s ≡ Some k
    → HasRoom (set t s None) s k
removed_room t s k placed e =
    grind (arith, length-set t s None, removed_set t s k placed e, has-without_pages, in_block)

pub removed_tiled : (t : List (Option ℕ)) (s k : ℕ) → IsTiled t → order_at t s ≡ Some k
    → IsTiled (set t s None)
removed_tiled t s k tiled e = search (arith, is_there, removed_placed, removed_merged, length-set)

pub added_tiled : (t : List (Option ℕ)) (s k : ℕ) → IsTiled t → HasRoom t s k → HasNoBuddy t s k
    → IsTiled (set t s (Some k))
added_tiled t s k tiled room alone = record {
  placed = added_placed t s k tiled.placed room;
  merged = added_merged t s k tiled.placed room tiled.merged alone;
  small = omega (arith, tiled.small, length-set t s (Some k));
}

-- ---- what the calls leave

pub room_pages : (t : List (Option ℕ)) (s k : ℕ) → HasRoom t s k → (p : ℕ)
    → is_in p (pages_of (block_at s k)) ≡ true → has (set_of t) p ≡ false
room_pages t s k room p h = let q = block_bounds s k p h in room.outside p q.0 q.1

-- all of a block was taken
pub none_left : (t : List (Option ℕ)) (s k j : ℕ) → HasRoom t s k → j ≡ k → set_of t
    ≡ without_pages (pages_of (block_at s j)) (with_pages (pages_of (block_at s k)) (set_of t))
none_left t s k j room e = grind (arith, without_with, room_pages)

-- a block that left comes back but for its lower part
pub part_left : (t : List (Option ℕ)) (s k j : ℕ) → IsPlaced t → order_at t s ≡ Some k
    → without_pages (pages_of (block_at s j))
    (with_pages (pages_of (block_at s k)) (set_of (set t s None)))
    ≡ without_pages (pages_of (block_at s j)) (set_of t)
part_left t s k j placed e = ap (without_pages (pages_of (block_at s j)))
    (ap (with_pages (pages_of (block_at s k))) (removed_set t s k placed e)
    ∙ with_without (pages_of (block_at s k)) (set_of t)
    (λ p h. let q = block_bounds s k p h in listed_inside t placed s k e p q.0 q.1))

-- a block of order w whose upper half, of n pages, goes in
module _ (t : List (Option ℕ)) (s w size : ℕ) (tiled : IsTiled t) (room : HasRoom t s w)
    (some : 0 < w) (size_is : size ≡ 2 ^ (w - 1)) where
  w_is : w ≡ suc (w - 1)
  w_is = omega arith

  rest_whole : HasRoom t s (suc (w - 1))
  rest_whole = subst (λ (n : ℕ). HasRoom t s n) w_is room

  rest_at : s + 2 ^ (w - 1) ≡ s + size
  rest_at = ap (λ (n : ℕ). s + n) (sym size_is)

  pub rest_upper : HasRoom t (s + size) (w - 1)
  rest_upper = rw (← rest_at) (upper_room t s (w - 1) tiled.placed rest_whole)

  pub rest_empty : order_at t (s + size) ≡ None
  rest_empty = room_empty t (s + size) (w - 1) tiled.placed rest_upper

  rest_table : halved t s (w - 1) tiled.placed rest_whole ≡ set t (s + size) (Some (w - 1))
  rest_table = ap (λ (n : ℕ). set t n (Some (w - 1))) rest_at

  pub rest_tiled : IsTiled (set t (s + size) (Some (w - 1)))
  rest_tiled = subst IsTiled rest_table (added_tiled t (s + 2 ^ (w - 1)) (w - 1) tiled
      (upper_room t s (w - 1) tiled.placed rest_whole)
      (upper_alone t s (w - 1) tiled.placed rest_whole))

  pub rest_room : HasRoom (set t (s + size) (Some (w - 1))) s (w - 1)
  rest_room = rw (← rest_table) (lower_room t s (w - 1) tiled.placed rest_whole)

  pub rest_set : with_pages (pages_of (block_at s (w - 1)))
      (set_of (set t (s + size) (Some (w - 1)))) ≡ with_pages (pages_of (block_at s w)) (set_of t)
  rest_set = grind (arith, rest_table, lower_set, rest_whole, w_is)

-- a block and its buddy, taken out of the table, are merged
module _ (t : List (Option ℕ)) (s k b : ℕ) (tiled : IsTiled t) (room : HasRoom t s k)
    (buddy : IsBuddy s k b) (listed : order_at t b ≡ Some k) (nine : k < 9) where
  pub joined_tiled : IsTiled (set t b None)
  joined_tiled = removed_tiled t b k tiled listed

  pub joined_room : HasRoom (set t b None) (min s b) (k + 1)
  joined_room = subst (λ (n : ℕ). HasRoom (set t b None) (min s b) n)
      (let e : suc k ≡ k + 1 = omega arith in e)
      (merged_room t s k b (min s b) tiled.placed room buddy listed nine refl)

  pub joined_set : with_pages (pages_of (block_at (min s b) (k + 1))) (set_of (set t b None))
      ≡ with_pages (pages_of (block_at s k)) (set_of t)
  joined_set = grind (arith, merged_set)

-- the orders below are gone over
pub none_more : (t : List (Option ℕ)) (order k : ℕ) → IsLowestStart t k 0 None
    → ((s j : ℕ) → order ≤ j → j < k → order_at t s ≡ Some j → ⊥) → (s j : ℕ) → order ≤ j
    → j < k + 1 → order_at t s ≡ Some j → ⊥
none_more t order k none h s j a b e = grind arith
