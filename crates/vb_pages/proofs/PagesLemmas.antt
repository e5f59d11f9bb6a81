-- Each page is free or held at most once, before and after a call.
use Rattle.std.proofs.Common.{◌≡◌, ℕ, ◌+◌, ◌-◌, ◌^◌, ◌<◌, ◌≤◌, Bool, true, false, not, cond, List}
use Rattle.std.proofs.Common.{[], ◌∷◌, length, map, replicate, Option, Some, None, MatchOption, ◌∙◌}
use Rattle.std.proofs.lemmas.Bool.{or_parts, and_parts, and_from, le-leb, leb-true, lt-ltb}
use Rattle.std.proofs.{Common.{IfSome, refl, ap, arith}, lemmas.Bool.{ltb-true, false_from_ne_true}}
use Rattle.std.specs.{List.list_any, Prelude.{◌||◌, ◌&&◌, count_by, nat_lt, nat_le}}
use Rattle.{std.proofs.lemmas.Nat.pow_pos, vb_model.proofs.BlockSteps.count-without_block}
use Rattle.vb_virtio.specs.Tests.{is_in, one_if}
use Rattle.vb_virtio.proofs.Tables.{count_by-cons}
use Rattle.vb_pages.proofs.ServingLemmas.{length-takes_pages}
use Rattle.vb_model.specs.Driver.{with_block, without_block}
use Rattle.vb_model.specs.Pages.{Block, pages_of, covers, is_same_block}
use Rattle.vb_pages.specs.Areas.{has, with_pages, without_pages, unreserved, block_at, IsBlock}
use Rattle.vb_pages.specs.FreePages.{FreePages, in_lists, is_free_in, times_free, drained}
use Rattle.vb_pages.proofs.Sets.{is_inside, length-with_pages, length-without_pages, without_parts}
use Rattle.vb_pages.proofs.ListsLemmas.{times, times_in, times_out, one_if_le, one_if_true}
use Rattle.vb_pages.proofs.FreeLemmas.{free_of, flat, flat-empty, nothing, drained_times}
use Rattle.vb_pages.proofs.ServingLemmas.{serves_times, serves_length, tries_none, serves_reserved}
use Rattle.vb_pages.proofs.FreeLemmas.{given_times, given_reserved, given_length, block_times}
use Rattle.vb_pages.{specs.Areas.LiesIn, proofs.Sets.{without_old, in_block, not_in_block}}
use Rattle.vb_pages.specs.{Areas.{IsMaximal, IsLowestFrom}, declared.block.FreeBlock.FreeBlock}
use Rattle.vb_pages.specs.{Held.HeldBlocks, PageState.{PageState, is_unreserved, IsKept, HasRoomIn}}
use Rattle.vb_pages.specs.FreePages.{TakesPages, Tries, Serves, given_back, IsSoundFree, HasRoomFor}
use Rattle.vb_pages.proofs.{HeldLemmas.held_of, ListsLemmas.{takes_pages_times, page_block}}
use Rattle.vb_pages.proofs.AreasLemmas.{length-unreserved, has-unreserved}

-- ---- blocks that cover a page

count-with_block : (p : ℕ) (b : Block) (held : List Block)
    → count_by (covers p) (with_block b held) ≡ one_if (covers p b) + count_by (covers p) held
count-with_block p b [] = count_by-cons (covers p) b []
count-with_block p b (x ∷ held) = step (nat_lt b.start x.start) (count-with_block p b held) where
  step : (v : Bool) → count_by (covers p) (with_block b held)
      ≡ one_if (covers p b) + count_by (covers p) held
      → count_by (covers p) (cond v (b ∷ x ∷ held) (x ∷ with_block b held))
      ≡ one_if (covers p b) + count_by (covers p) (x ∷ held)
  step true ih = count_by-cons (covers p) b (x ∷ held)
  step false ih = omega
      (arith, count_by-cons (covers p) x (with_block b held), count_by-cons (covers p) x held, ih)

count_none : (test : Block → Bool) (bs : List Block) → count_by test bs ≤ 0
    → list_any test bs ≡ false
count_none test [] h = refl
count_none test (b ∷ bs) h = grind (arith, count_by-cons, count_none test bs)

none_count : (test : Block → Bool) (bs : List Block) → list_any test bs ≡ false
    → count_by test bs ≡ 0
none_count test [] h = refl
none_count test (b ∷ bs) h = let q = or_parts (test b) (list_any test bs) h in
    let o : one_if (test b) ≡ 0 = ap one_if q.0 in
    omega (arith, count_by-cons test b bs, o, none_count test bs q.1)

pub covers_bounds : (p s k : ℕ) → covers p (block_at s k) ≡ true → (s ≤ p) × (p < s + 2 ^ k)
covers_bounds p s k h = let q = and_parts (nat_le s p) (nat_lt p (s + 2 ^ k)) h in
    (leb-true s p q.0, ltb-true p (s + 2 ^ k) q.1)

pub bounds_cover : (p s k : ℕ) → s ≤ p → p < s + 2 ^ k → covers p (block_at s k) ≡ true
bounds_cover p s k l h =
    and_from (nat_le s p) (nat_lt p (s + 2 ^ k)) (le-leb s p l) (lt-ltb p (s + 2 ^ k) h)

-- ---- how often a page is free, and whether it is

free_some : (f : FreePages) (p : ℕ) → 1 ≤ times_free f p → is_free_in f p ≡ true
free_some f p h = grind (arith, times_out)

some_free : (f : FreePages) (p : ℕ) → is_free_in f p ≡ true → 1 ≤ times_free f p
some_free f p h = grind (arith, times_in)

free_none : (f : FreePages) (p : ℕ) → times_free f p ≤ 0 → is_free_in f p ≡ false
free_none f p h = false_from_ne_true (is_free_in f p) (λ t. omega (arith, some_free f p t))

pub free_same : (f g : FreePages) (p : ℕ) → times_free g p ≡ times_free f p
    → is_free_in g p ≡ is_free_in f p
free_same f g p e = grind (arith, free_some, some_free)

pub free_left : (f g : FreePages) (p : ℕ) (b : Block) → times_free f p ≤ 1
    → times_free g p + one_if (covers p b) ≡ times_free f p
    → is_free_in g p ≡ (is_free_in f p && not (covers p b))
free_left f g p b most e = grind (arith, free_none, free_same)

pub free_gained : (f g : FreePages) (p : ℕ) (b : Block) → times_free g p
    ≡ times_free f p + one_if (covers p b) → is_free_in g p ≡ (is_free_in f p || covers p b)
free_gained f g p b e = grind (arith, free_some, free_same)

-- ---- the two parts are kept

unreserved_below : (f : FreePages) (bs : List Block) (p : ℕ) → 1 ≤ one_if
    (is_unreserved (record { free = f; held = bs }) p) → (f.reserved ≤ p) × (p < length f.areas)
unreserved_below f bs p h = grind arith

pub kept_times : (f g : FreePages) (h : HeldBlocks) (blocks : List Block) → IsKept f h
    → length g.areas ≡ length f.areas → g.reserved ≡ f.reserved
    → ((p : ℕ) → times_free g p + count_by (covers p) blocks ≤ times_free f p + count_by (covers p)
    h.blocks) → IsKept g (held_of h.pages blocks)
kept_times f g h blocks kept l r less = grind arith

pub kept_less : (f g : FreePages) (h : HeldBlocks) → IsKept f h → length g.areas ≡ length f.areas
    → g.reserved ≡ f.reserved → ((p : ℕ) → times_free g p ≤ times_free f p) → IsKept g h
kept_less f g h kept l r less = kept_times f g h h.blocks kept l r (λ p. omega (arith, less p))

pub times_once : (f : FreePages) (h : HeldBlocks) (p : ℕ) → IsKept f h → times_free f p ≤ 1
times_once f h p kept =
    omega (arith, kept.apart p, one_if_le (is_unreserved (record { free = f; held = h.blocks }) p))

pub drained_kept : (f : FreePages) (h : HeldBlocks) → IsSoundFree f → IsKept f h
    → IsKept (drained f) h
drained_kept f h sound kept = grind (arith, length-with_pages, drained_times)

-- a block is handed out
module _ (f g : FreePages) (h : HeldBlocks) (cpu order s : ℕ) (sound : IsSoundFree f)
    (kept : IsKept f h) (l : cpu < length f.lists) (served : Serves f cpu order (Some s) g) where
  pub out_times : (p : ℕ) → times_free g p + one_if (covers p (block_at s order)) ≡ times_free f p
  out_times p = serves_times f g cpu order s sound l served p

  pub out_kept : IsKept g (held_of h.pages (with_block (block_at s order) h.blocks))
  out_kept = kept_times f g h (with_block (block_at s order) h.blocks) kept
      (serves_length f g cpu order s served) (serves_reserved f g cpu order s served)
      (λ p. omega (arith, out_times p, count-with_block p (block_at s order) h.blocks))

  pub out_free : (p : ℕ) → covers p (block_at s order) ≡ true → is_free_in f p ≡ true
  out_free p t = let o : one_if (covers p (block_at s order)) ≡ 1 = ap one_if t in
      free_some f p (omega (arith, o, out_times p))

  out_some : 1 ≤ times_free f s
  out_some = let pos : 0 < 2 ^ order = pow_pos order in
      some_free f s (out_free s (bounds_cover s s order (omega arith) (omega arith)))

  pub out_fits : s + 2 ^ order ≤ h.pages
  out_fits = let pos : 0 < 2 ^ order = pow_pos order in
      let last = s + 2 ^ order - 1 in
      let some : 1 ≤ times_free f last =
      some_free f last (out_free last (bounds_cover last s order (omega arith) (omega arith))) in
      let q = unreserved_below f h.blocks last (omega (arith, kept.apart last, some)) in
      omega (arith, q.1, kept.pages)

  pub out_outside : list_any (covers s) h.blocks ≡ false
  out_outside = grind (arith, count_none, out_some, one_if_le)

  pub out_left : (p : ℕ) → is_free_in g p ≡ (is_free_in f p && not (covers p (block_at s order)))
  out_left p = free_left f g p (block_at s order) (times_once f h p kept) (out_times p)

-- there is no block of the order
pub none_free : (f : FreePages) (h : HeldBlocks) (cpu order : ℕ) → IsSoundFree f → IsKept f h
    → Tries (drained f) cpu order None (drained f) → (s : ℕ) → IsBlock (block_at s order)
    → ((p : ℕ) → covers p (block_at s order) ≡ true → is_free_in f p ≡ true) → ⊥
none_free f h cpu order sound kept t s b free =
    (tries_none (drained f) (drained f) cpu order t).1 s b (λ p a e.
    let some = some_free f p (free p (bounds_cover p s order a e)) in
    let none : times p (in_lists (drained f)) ≡ 0 = ap (times p) (flat-empty f.lists) in
    one_if_true (has (drained f).areas p) (omega (arith, some, none, drained_times f sound p)))

-- a held block comes back
module _ (f : FreePages) (h : HeldBlocks) (s k : ℕ) (kept : IsKept f h) (held : list_any
    (λ x. is_same_block x (block_at s k)) h.blocks ≡ true) (block : IsBlock (block_at s k)) where
  held_count : (p : ℕ) → one_if (covers p (block_at s k)) + count_by (covers p)
      (without_block (block_at s k) h.blocks) ≡ count_by (covers p) h.blocks
  held_count p = count-without_block p (block_at s k) h.blocks held

  pub back_room : HasRoomFor f s k
  back_room = let pos : 0 < 2 ^ k = pow_pos k in
      let last : covers (s + 2 ^ k - 1) (block_at s k) ≡ true =
      bounds_cover (s + 2 ^ k - 1) s k (omega arith) (omega arith) in
      let o : one_if (covers (s + 2 ^ k - 1) (block_at s k)) ≡ 1 = ap one_if last in
      let q = unreserved_below f h.blocks (s + 2 ^ k - 1)
      (omega (arith, kept.apart (s + 2 ^ k - 1), held_count (s + 2 ^ k - 1), o)) in (
        block,
        omega (arith, q.1),
        λ p a e.
            grind (arith, free_none, held_count p),
      )

  pub back_kept : (cpu : ℕ) → IsSoundFree f → cpu < length f.lists
      → IsKept (given_back cpu s k f) (held_of h.pages (without_block (block_at s k) h.blocks))
  back_kept cpu sound l =
      grind (arith, kept_times, given_length, back_room, given_reserved, given_times, held_count)

-- a block that was taken comes back
pub room_for : (f : FreePages) (h : HeldBlocks) (s k : ℕ)
    → HasRoomIn (record { free = f; held = h.blocks }) (block_at s k) → HasRoomFor f s k
room_for f h s k room = (room.0, room.2, λ p a e. (room.3 p a e).0)

pub given_kept : (f : FreePages) (h : HeldBlocks) (s k : ℕ) → IsSoundFree f → IsKept f h
    → HasRoomIn (record { free = f; held = h.blocks }) (block_at s k)
    → IsKept (free_of (with_pages (pages_of (block_at s k)) f.areas) f.lists f.reserved) h
given_kept f h s k sound kept room =
    grind (arith, length-with_pages, block_times, covers_bounds, free_some, none_count, le-leb)

-- all pages are free
pub fresh_kept : (n r : ℕ) (lists : List (List ℕ)) → flat lists ≡ []
    → IsKept (free_of (unreserved n r) lists r) (held_of n [])
fresh_kept n r lists none = grind (arith, is_inside, length-unreserved, has-unreserved)

pub kept_at : (f g : FreePages) (h i : HeldBlocks) → f ≡ g → h ≡ i → IsKept g i → IsKept f h
kept_at f g h i a b k = rw a (rw b k)

pub flag_times : (f : FreePages) (p : ℕ) → times_free f p ≤ 1
    → one_if (is_free_in f p) ≡ times_free f p
flag_times f p most = grind (arith, some_free, free_some)

-- ---- a block that leaves a set in which it lies

without_times : (set : List Bool) (s k p : ℕ) → LiesIn set (block_at s k)
    → one_if (has (without_pages (pages_of (block_at s k)) set) p) + one_if
    (covers p (block_at s k)) ≡ one_if (has set p)
without_times set s k p inside =
    grind (arith, covers_bounds, without_parts, in_block, not_in_block, without_old)

abbrev pub IsolatesFrom : FreePages → ℕ → ℕ → Option FreeBlock → FreePages → Type 0
IsolatesFrom f order from got new = MatchOption got
    (((start larger : ℕ) → order ≤ larger → from ≤ start
    → IsMaximal (drained f).areas (block_at start larger) → ⊥) × (new ≡ drained f))
    (λ b. IsLowestFrom (drained f).areas order from (block_at b.start b.order)
    × (new ≡ record (drained f)
    { areas = without_pages (pages_of (block_at b.start b.order)) (drained f).areas }))

isolated_times : (f new : FreePages) (order from : ℕ) (b : FreeBlock) → IsSoundFree f
    → IsolatesFrom f order from (Some b) new → (p : ℕ)
    → times_free new p + one_if (covers p (block_at b.start b.order)) ≡ times_free f p
isolated_times f new order from b sound h p = grind (arith, without_times, drained_times)

pub isolated_kept : (f new : FreePages) (h : HeldBlocks) (order from : ℕ) (got : Option FreeBlock)
    → IsSoundFree f → IsKept f h → IsolatesFrom f order from got new → IsKept new h
isolated_kept f new h order from None sound kept i = rw i.1 (drained_kept f h sound kept)
isolated_kept f new h order from (Some b) sound kept i = kept_less f new h kept
    (ap (λ (x : FreePages). length x.areas) i.1
    ∙ (length-without_pages (pages_of (block_at b.start b.order)) (drained f).areas
    ∙ length-with_pages (in_lists f) f.areas)) (ap (λ (x : FreePages). x.reserved) i.1)
    (λ p. omega (arith, isolated_times f new order from b sound i p))

pub isolated_left : (f new : FreePages) (h : HeldBlocks) (order from : ℕ) (got : Option FreeBlock)
    → IsSoundFree f → IsKept f h → IsolatesFrom f order from got new → IfSome got (λ b. (p : ℕ)
    → is_free_in new p ≡ (is_free_in f p && not (covers p (block_at b.start b.order))))
isolated_left f new h order from None sound kept i = tt
isolated_left f new h order from (Some b) sound kept i = λ p. free_left f new p
    (block_at b.start b.order) (times_once f h p kept) (isolated_times f new order from b sound i p)

-- ---- single pages that leave

pub singles_times : (f new : FreePages) (pages : List ℕ) → IsSoundFree f
    → TakesPages (drained f).areas pages new.areas → new.lists ≡ (drained f).lists → (p : ℕ)
    → times_free new p + times p pages ≡ times_free f p
singles_times f new pages sound t l p =
    grind (arith, takes_pages_times (drained f).areas new.areas pages t p, drained_times f sound p)

pub singles_kept : (f new : FreePages) (h : HeldBlocks) (pages : List ℕ) → IsSoundFree f
    → IsKept f h → TakesPages (drained f).areas pages new.areas → new.lists ≡ (drained f).lists
    → new.reserved ≡ f.reserved → IsKept new h
singles_kept f new h pages sound kept t l r =
    grind (arith, length-takes_pages, length-with_pages, singles_times)

pub singles_left : (f new : FreePages) (h : HeldBlocks) (pages : List ℕ) → IsSoundFree f
    → IsKept f h → TakesPages (drained f).areas pages new.areas → new.lists ≡ (drained f).lists
    → (p : ℕ) → one_if (is_free_in new p) + times p pages ≡ one_if (is_free_in f p)
singles_left f new h pages sound kept t l p = grind (arith, singles_times, flag_times)

pub given_gained : (f : FreePages) (h : HeldBlocks) (s k : ℕ) → IsSoundFree f
    → HasRoomIn (record { free = f; held = h.blocks }) (block_at s k) → (p : ℕ)
    → is_free_in (free_of (with_pages (pages_of (block_at s k)) f.areas) f.lists f.reserved) p
    ≡ (is_free_in f p || covers p (block_at s k))
given_gained f h s k sound room p = grind (arith, block_times f s k sound (room_for f h s k room) p)

pub map_nothing : (xs : List (List ℕ))
    → map (λ (l : List ℕ). nothing) xs ≡ replicate (length xs) nothing
map_nothing [] = refl
map_nothing (x ∷ xs) = ap (λ (ys : List (List ℕ)). nothing ∷ ys) (map_nothing xs)

abbrev pub state_of : FreePages → List Block → PageState
state_of free held = record { free = free; held = held }

pub same_state : (f g : FreePages) (xs ys : List Block) → f ≡ g → xs ≡ ys
    → state_of f xs ≡ state_of g ys
same_state f g xs ys e l =
    ap (λ (x : FreePages). state_of x xs) e ∙ ap (λ (bs : List Block). state_of g bs) l

-- ---- what left may come back

room_of : (f new : FreePages) (h : HeldBlocks) (s k : ℕ) → IsKept f h
    → length new.areas ≡ length f.areas → new.reserved ≡ f.reserved → IsBlock (block_at s k)
    → ((p : ℕ) → s ≤ p → p < s + 2 ^ k → times_free new p + 1 ≤ times_free f p)
    → HasRoomIn (state_of new h.blocks) (block_at s k)
room_of f new h s k kept l r block less = let pos : 0 < 2 ^ k = pow_pos k in
    let first = unreserved_below f h.blocks s
    (omega (arith, kept.apart s, less s (omega arith) (omega arith))) in
    let last = unreserved_below f h.blocks (s + 2 ^ k - 1) (omega (arith, less (s + 2 ^ k - 1) (omega arith) (omega arith))) in (
      block,
      omega (arith, first.0, r),
      omega (arith, last.1, l),
      λ p a e. let most = one_if_le (is_unreserved (record { free = f; held = h.blocks }) p) in
          grind (arith, free_none, count_none),
    )

pub isolated_room : (f new : FreePages) (h : HeldBlocks) (order from : ℕ) (got : Option FreeBlock)
    → IsSoundFree f → IsKept f h → IsolatesFrom f order from got new
    → IfSome got (λ b. HasRoomIn (state_of new h.blocks) (block_at b.start b.order))
isolated_room f new h order from None sound kept i = tt
isolated_room f new h order from (Some b) sound kept i = room_of f new h b.start b.order kept
    (ap (λ (x : FreePages). length x.areas) i.1
    ∙ (length-without_pages (pages_of (block_at b.start b.order)) (drained f).areas
    ∙ length-with_pages (in_lists f) f.areas)) (ap (λ (x : FreePages). x.reserved) i.1)
    i.0.maximal.is_block (λ p a e.
    let o : one_if (covers p (block_at b.start b.order)) ≡ 1 =
    ap one_if (bounds_cover p b.start b.order a e) in
    omega (arith, o, isolated_times f new order from b sound i p))

pub singles_room : (f new : FreePages) (h : HeldBlocks) (pages : List ℕ) → IsSoundFree f
    → IsKept f h → TakesPages (drained f).areas pages new.areas → new.lists ≡ (drained f).lists
    → new.reserved ≡ f.reserved → (p : ℕ) → is_in p pages ≡ true
    → HasRoomIn (state_of new h.blocks) (block_at p 0)
singles_room f new h pages sound kept t l r p i = room_of f new h p 0 kept
    (length-takes_pages (drained f).areas new.areas pages t
    ∙ length-with_pages (in_lists f) f.areas) r (page_block p) (λ q a e.
    let same : q ≡ p = omega arith in
    let some : 1 ≤ times q pages = times_in q pages (ap (λ (n : ℕ). is_in n pages) same ∙ i) in
    omega (arith, some, singles_times f new pages sound t l q))
