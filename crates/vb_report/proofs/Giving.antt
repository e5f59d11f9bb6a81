-- Blocks come back, one after the other.
use Rattle.std.proofs.Common.{◌≡◌, ℕ, ◌+◌, ◌<◌, ◌≤◌, Bool, true, false, List, [], ◌∷◌, length, inl}
use Rattle.std.specs.Prelude.{◌||◌, All}
use Rattle.std.proofs.lemmas.List.Elements.{All-head, All-tail, All-nil, All-cons}
use Rattle.std.proofs.lemmas.Bool.{or_cases, or_from, or_parts, both_ways, false_from_ne_true}
use Rattle.std.proofs.Common.{inr, sym, ◌∙◌, ap, subst, arith, drop, get_or, add-one, drop-cons}
use Rattle.vb_virtio.specs.Tests.{is_in}
use Rattle.vb_model.specs.Pages.{Block, size, covers, pages_of, pages_of_all}
use Rattle.vb_pages.proofs.Sets.{length-with_pages, same_bool, with_old, with_new, with_cases}
use Rattle.vb_pages.specs.PageState.{PageState, page_count, is_free_page, HasRoomIn}
use Rattle.vb_pages.specs.{PageState.with_free_block, declared.block.FreeBlock.FreeBlock}
use Rattle.vb_pages.proofs.{ListsLemmas.{with_none, with_append_turned}, PagesLemmas.bounds_cover}
use Rattle.vb_pages.{proofs.Sets.block_bounds, specs.{Areas.{has, with_pages}, FreePages.in_lists}}
use Rattle.vb_report.proofs.Covering.{in_covered, covering, distinct_rest, distinct_apart}
use Rattle.vb_report.specs.Blocks.{block_of, blocks_of, is_covered, with_blocks, HaveRoom}

room_after : (s : PageState) (b x : Block) → HasRoomIn s x
    → ((p : ℕ) → covers p b ≡ true → covers p x ≡ false) → HasRoomIn (with_free_block b s) x
room_after s b x room apart = (
  room.0,
  room.1,
  (let inside : x.start + size x ≤ page_count s = room.2 in
      omega (arith, length-with_pages (pages_of b) s.free.areas)),
  λ p l u. (
    or_from (has (with_pages (pages_of b) s.free.areas) p) (is_in p (in_lists s.free))
        (false_from_ne_true (has (with_pages (pages_of b) s.free.areas) p) (λ h.
        elim (with_cases (pages_of b) s.free.areas p h) [
          | inl old ↦ both_ways (has s.free.areas p)
              (or_parts (has s.free.areas p) (is_in p (in_lists s.free)) (room.3 p l u).0).0 old
          | inr new ↦
              let q = block_bounds b.start b.order p new in
              both_ways (covers p x) (apart p (bounds_cover p b.start b.order q.0 q.1))
              (bounds_cover p x.start x.order l u)
        ])) (or_parts (has s.free.areas p) (is_in p (in_lists s.free)) (room.3 p l u).0).1,
    (room.3 p l u).1,
  ),
)

all_after : (s : PageState) (b : Block) (bs : List FreeBlock) → All (λ x. HasRoomIn s (block_of x)) bs
    → ((p : ℕ) → covers p b ≡ true → is_covered p bs ≡ false)
    → All (λ x. HasRoomIn (with_free_block b s) (block_of x)) bs
all_after s b [] all apart = All-nil (λ x. HasRoomIn (with_free_block b s) (block_of x))
all_after s b (x ∷ bs) all apart = All-cons (λ y. HasRoomIn (with_free_block b s) (block_of y)) x bs
    (room_after s b (block_of x) (All-head (λ y. HasRoomIn s (block_of y)) x bs all)
    (λ p c. (or_parts (covers p (block_of x)) (is_covered p bs) (apart p c)).0))
    (all_after s b bs (All-tail (λ y. HasRoomIn s (block_of y)) x bs all)
    (λ p c. (or_parts (covers p (block_of x)) (is_covered p bs) (apart p c)).1))

-- the others have room once the first block came back
pub rest_has_room : (s : PageState) (b : FreeBlock) (bs : List FreeBlock) → HaveRoom s (b ∷ bs)
    → HaveRoom (with_free_block (block_of b) s) bs
rest_has_room s b bs room = record {
  each = all_after s (block_of b) bs (All-tail (λ x. HasRoomIn s (block_of x)) b bs room.each)
      (λ p c. distinct_apart p (block_of b) (blocks_of bs) room.apart c);
  apart = distinct_rest (block_of b) (blocks_of bs) room.apart;
}

pub first_has_room : (s : PageState) (b : FreeBlock) (bs : List FreeBlock) → HaveRoom s (b ∷ bs)
    → HasRoomIn s (block_of b)
first_has_room s b bs room = All-head (λ x. HasRoomIn s (block_of x)) b bs room.each

abbrev with_areas : PageState → List Bool → PageState
with_areas s set = record s { free = record s.free { areas = set } }

-- the first block, and then the others
pub with_first : (s : PageState) (b : FreeBlock) (bs : List FreeBlock)
    → with_blocks bs (with_free_block (block_of b) s) ≡ with_blocks (b ∷ bs) s
with_first s b bs = grind (arith, with_append_turned)

pub with_no_block : (s : PageState) → with_blocks [] s ≡ s
with_no_block s = ap (with_areas s) (with_none s.free.areas)

-- what is free once all of them came back
pub free_with_blocks : (s : PageState) (bs : List FreeBlock) (p : ℕ) → HaveRoom s bs
    → is_free_page (with_blocks bs s) p ≡ (is_free_page s p || is_covered p bs)
free_with_blocks s bs p room =
    same_bool (is_free_page (with_blocks bs s) p) (is_free_page s p || is_covered p bs) to from
  where
    pages : List ℕ
    pages = pages_of_all (blocks_of bs)

    set : List Bool
    set = s.free.areas

    listed : Bool
    listed = is_in p (in_lists s.free)

    to : is_free_page (with_blocks bs s) p ≡ true → (is_free_page s p || is_covered p bs) ≡ true
    to h = grind (arith, with_cases, in_covered)

    from : (is_free_page s p || is_covered p bs) ≡ true → is_free_page (with_blocks bs s) p ≡ true
    from h = elim (or_cases (is_free_page s p) (is_covered p bs) h) [
      | inl f ↦ grind (arith, with_old)
      | inr c ↦
          let x = covering (λ b. HasRoomIn s (block_of b)) p bs room.each c in
          grind (arith, with_new, in_covered)
    ]

-- ---- the loop

-- what is left to be given from one block on
pub split_at : (bs : List FreeBlock) (i : ℕ) (d : FreeBlock) → i < length bs
    → drop i bs ≡ get_or bs i d ∷ drop (i + 1) bs
split_at bs i d h = rw add-one (drop-cons bs i d h)

pub record IsGiving (old now : PageState) (all left : List FreeBlock) : Type 0 where
  pub room : HaveRoom now left
  pub same : with_blocks left now ≡ with_blocks all old

pub giving_first : (old now : PageState) (all left : List FreeBlock) (b : FreeBlock)
    (bs : List FreeBlock) → left ≡ b ∷ bs → IsGiving old now all left → HasRoomIn now (block_of b)
giving_first old now all left b bs e g =
    first_has_room now b bs (subst (λ (xs : List FreeBlock). HaveRoom now xs) e g.room)

pub giving_next : (old now next : PageState) (all left : List FreeBlock) (b : FreeBlock)
    (bs : List FreeBlock) → left ≡ b ∷ bs → IsGiving old now all left
    → next ≡ with_free_block (block_of b) now → IsGiving old next all bs
giving_next old now next all left b bs e g is = grind (
  arith,
  rest_has_room now b bs (subst (λ (xs : List FreeBlock). HaveRoom now xs) e g.room),
  with_first now b bs,
)

pub giving_done : (old now : PageState) (all left : List FreeBlock) → left ≡ []
    → IsGiving old now all left → now ≡ with_blocks all old
giving_done old now all left e g =
    sym (with_no_block now) ∙ (ap (λ (xs : List FreeBlock). with_blocks xs now) (sym e) ∙ g.same)
