-- What is left of the areas while a report takes its blocks.
use Rattle.std.proofs.Common.{◌≡◌, ℕ, zero, suc, ◌+◌, ◌-◌, ◌^◌, ◌<◌, ◌≤◌, Bool, true, false, List}
use Rattle.std.proofs.Common.{[], ◌∷◌, ◌++◌, length, map, take, inl, inr, Some, None, refl, sym}
use Rattle.std.proofs.lemmas.Bool.{cases_lt, cases_Bool, both_ways, or_parts, or_from, and_parts}
use Rattle.std.proofs.lemmas.List.Elements.{All-push, All-weaker}
use Rattle.std.proofs.lemmas.{List.{map-append, length-map, length-take}, Nat.pow_pos}
use Rattle.std.{proofs.lemmas.Bool.false_from_ne_true, specs.Prelude.{not, ◌&&◌, ◌||◌, filter, All}}
use Rattle.std.proofs.Common.{◌∙◌, ap, subst, arith, append_assoc, length-append, append-nil}
use Rattle.vb_model.specs.Pages.{Block, size, covers, pages_of, pages_of_all, maximal_blocks}
use Rattle.vb_virtio.specs.Tests.{is_in, times, AllDistinct}
use Rattle.vb_virtio.proofs.Distinct.{distinct_once}
use Rattle.vb_model.proofs.{Blocks.reported_distinct, CallSteps.reported_pass, PageSteps.covers_is}
use Rattle.vb_model.specs.Pages.{reported}
use Rattle.vb_pages.proofs.Sets.{is_inside, without_parts, without_old, same_sets}
use Rattle.vb_pages.specs.Areas.{has, with_pages, without_pages, IsBlock, LiesIn, LiesWithin}
use Rattle.vb_pages.specs.PageState.{PageState, page_count, is_free_page, HasRoomIn, reserved_count}
use Rattle.vb_pages.proofs.ListsLemmas.{with_none}
use Rattle.vb_pages.{proofs.PagesLemmas.covers_bounds, specs.declared.block.FreeBlock.FreeBlock}
use Rattle.vb_pages.proofs.Sets.{length-without_pages, length-with_pages, has-without_pages}
use Rattle.vb_pages.{proofs.FreeLemmas.{flat-empty, nothing}, specs.Areas.{IsMaximal, IsLowestFrom}}
use Rattle.vb_pages.specs.{FreePages.{FreePages, in_lists, drained, is_free_in}, PageState.Isolates}
use Rattle.vb_report.specs.Blocks.{block_of, blocks_of, is_covered, without_blocks}
use Rattle.vb_report.proofs.Covering.{in_covered, covered_more, covering}
use Rattle.vb_report.proofs.Choosing.{is_later, none_named, first_named}
use Rattle.vb_report.{proofs.Maximal.{nested, aligned_is}, specs.Blocks.blocks_to_report}

-- ---- a set that maximal blocks were taken from, all of which end at a page or before it

record IsTakenFrom (set left : List Bool) (next : ℕ) : Type 0 where
  less : (p : ℕ) → has left p ≡ true → has set p ≡ true
  gone : (p : ℕ) → has set p ≡ true → has left p ≡ false → (b : Block)
      × IsMaximal set b × (b.start ≤ p) × (p < b.start + size b) × (b.start + size b ≤ next)

-- a maximal block from that page on is still one
still_maximal : (set left : List Bool) (next : ℕ) (c : Block) → IsTakenFrom set left next
    → IsMaximal set c → next ≤ c.start → IsMaximal left c
still_maximal set left next c t x l = grind (arith, cases_Bool)

-- what is maximal from that page on was so before
was_maximal : (set left : List Bool) (next : ℕ) (c : Block) → IsTakenFrom set left next
    → IsMaximal left c → next ≤ c.start → IsMaximal set c
was_maximal set left next c t x l = record {
  is_block = x.is_block;
  inside = λ p a e. t.less p (x.inside p a e);
  alone = λ d blk inside w. x.alone d blk (kept d blk inside w) w;
} where
  kept : (d : Block) → IsBlock d → LiesIn set d → LiesWithin c d → LiesIn left d
  kept d blk inside w p a e = elim (cases_Bool (has left p)) [
    | inl h ↦ h
    | inr n ↦
        let r = t.gone p (inside p a e) n in
        let b : Block = r.0 in
        let y : IsMaximal set b = r.1 in
        let low : b.start ≤ p = r.2 in
        let high : p < b.start + size b = r.3 in
        let before : b.start + size b ≤ next = r.4 in
        let some : 0 < 2 ^ c.order = pow_pos c.order in
        let wl : d.start ≤ c.start = w.0 in
        let wh : c.start + size c ≤ d.start + size d = w.1 in elim (cases_lt b.order d.order) [
          | inl o ↦
              let v = nested b.start b.order d.start d.order p
              (aligned_is b y.is_block.1) (aligned_is d blk.1) (omega arith) low high a e in
              let bad : d.order ≤ b.order = y.alone d blk inside v in absurd (omega arith)
          | inr o ↦
              let v = nested d.start d.order b.start b.order p (aligned_is d blk.1)
              (aligned_is b y.is_block.1) o a e low high in
              let vh : d.start + size d ≤ b.start + size b = v.1 in absurd (omega arith)
        ]
  ]

lowest_before : (set left : List Bool) (next : ℕ) (b : Block) → IsTakenFrom set left next
    → IsLowestFrom left 4 next b → IsLowestFrom set 4 next b
lowest_before set left next b t x = grind (arith, was_maximal, still_maximal)

-- ---- the blocks that were taken so far

abbrev pub areas_of : PageState → List Bool
areas_of s = (drained s.free).areas

abbrev is_before : List Bool → ℕ → FreeBlock → Type 0
is_before set next b = IsMaximal set (block_of b) × (b.start + 2 ^ b.order ≤ next)

taken_from : (set : List Bool) (bs : List FreeBlock) (next : ℕ) → All (is_before set next) bs
    → IsTakenFrom set (without_pages (pages_of_all (blocks_of bs)) set) next
taken_from set bs next all = record {
  less = λ p h. (without_parts (pages_of_all (blocks_of bs)) set p h).0;
  gone = λ p h n. let c : is_covered p bs ≡ true = grind (arith, without_old, in_covered) in
      let x = covering (is_before set next) p bs all c in
      let q = covers_bounds p x.0.start x.0.order x.2 in (block_of x.0, x.1.0, q.0, q.1, x.1.1);
}

-- ---- states whose lists are empty

empty_twice : (lists : List (List ℕ)) → map (λ (l : List ℕ). nothing) (map (λ (l : List ℕ). nothing) lists)
    ≡ map (λ (l : List ℕ). nothing) lists
empty_twice [] = refl
empty_twice (x ∷ xs) = ap (λ (ys : List (List ℕ)). nothing ∷ ys) (empty_twice xs)

abbrev with_lists : List Bool → List (List ℕ) → ℕ → FreePages
with_lists set lists reserved = record { areas = set; lists = lists; reserved = reserved }

drained_again : (set : List Bool) (lists : List (List ℕ)) (reserved : ℕ)
    → drained (with_lists set (map (λ (l : List ℕ). nothing) lists) reserved)
    ≡ with_lists set (map (λ (l : List ℕ). nothing) lists) reserved
drained_again set lists reserved = grind (arith, nothing, flat-empty, with_none, empty_twice)

pub drained_twice : (f : FreePages) → drained (drained f) ≡ drained f
drained_twice f = drained_again (with_pages (in_lists f) f.areas) f.lists f.reserved

-- once the lists are drained, what is free is in the areas
pub free_is_area : (set : List Bool) (lists : List (List ℕ)) (reserved p : ℕ)
    → is_free_in (with_lists set (map (λ (l : List ℕ). nothing) lists) reserved) p ≡ has set p
free_is_area set lists reserved p = grind (arith, flat-empty lists)

without_none : (set : List Bool) → without_pages [] set ≡ set
without_none set = grind (arith, same_sets, length-without_pages, without_parts, without_old)

-- pages that leave after others
without_more : (ps qs rs : List ℕ) (set : List Bool)
    → ((p : ℕ) → is_in p rs ≡ (is_in p qs || is_in p ps))
    → without_pages ps (without_pages qs set) ≡ without_pages rs set
without_more ps qs rs set split =
    grind (arith, same_sets, length-without_pages, without_parts, without_old, or_from, or_parts)

covers_in : (p : ℕ) (b : Block) → covers p b ≡ is_in p (pages_of b)
covers_in p b = covers_is p b (is_in p (pages_of b)) refl

block_more : (bs : List FreeBlock) (b : FreeBlock) (set : List Bool)
    → without_pages (pages_of (block_of b)) (without_pages (pages_of_all (blocks_of bs)) set)
    ≡ without_pages (pages_of_all (blocks_of (bs ++ b ∷ []))) set
block_more bs b set = without_more (pages_of (block_of b)) (pages_of_all (blocks_of bs))
    (pages_of_all (blocks_of (bs ++ b ∷ []))) set (λ p. in_covered p (bs ++ b ∷ [])
    ∙ (covered_more p bs b ∙ (ap (λ (v : Bool). v || covers p (block_of b)) (sym (in_covered p bs))
    ∙ ap (λ (v : Bool). is_in p (pages_of_all (blocks_of bs)) || v) (covers_in p (block_of b)))))

-- a block still has room where fewer pages are free
room_less : (s now : PageState) (b : Block) → HasRoomIn s b → page_count now ≡ page_count s
    → reserved_count now ≡ reserved_count s → now.held ≡ s.held
    → ((p : ℕ) → is_free_page now p ≡ true → is_free_page s p ≡ true) → HasRoomIn now b
room_less s now b room pages reserved held less = grind (arith, false_from_ne_true, both_ways)

-- ---- the loop

pub record IsTaking (old now : PageState) (from room next count : ℕ) (bs : List FreeBlock) :
    Type 0 where
  pub state : now ≡ without_blocks bs old
  pub before : All (is_before (areas_of old) next) bs
  pub fits : All (λ b. HasRoomIn now (block_of b)) bs
  pub long : length bs ≡ count
  pub rest : (test : ℕ → Bool) → ((p : ℕ) → test p ≡ has (areas_of old) p)
      → blocks_of bs ++ reported (room - count) next (maximal_blocks (page_count old) test)
      ≡ reported room from (maximal_blocks (page_count old) test)

abbrev with_free : PageState → FreePages → PageState
with_free s free = record s { free = free }

pub taking_none : (old : PageState) (from room : ℕ) → drained old.free ≡ old.free
    → IsTaking old old from room from 0 []
taking_none old from room d = grind (arith, without_none)

settled : (old : PageState) (bs : List FreeBlock)
    → drained (without_blocks bs old).free ≡ (without_blocks bs old).free
settled old bs = search (arith, drained_again)

pub taking_more : (old now next : PageState) (from room page count : ℕ) (bs : List FreeBlock)
    (b : FreeBlock) → IsTaking old now from room page count bs → count < room
    → Isolates now 4 page (Some b) next → HasRoomIn next (block_of b)
    → ((p : ℕ) → is_free_page next p ≡ (is_free_page now p && not (covers p (block_of b))))
    → IsTaking old next from room (b.start + 2 ^ b.order) (count + 1) (bs ++ b ∷ [])
taking_more old now next from room page count bs b t l isolates fits left = record {
  state = is;
  before = All-push (is_before (areas_of old) (b.start + 2 ^ b.order)) bs b
      (All-weaker (is_before (areas_of old) page) (is_before (areas_of old) (b.start + 2 ^ b.order))
      (λ x h. let e : x.start + 2 ^ x.order ≤ page = h.1 in
      let f : page ≤ b.start = low.after in (h.0, omega arith)) bs t.before)
      (low.maximal, omega arith);
  fits = All-push (λ x. HasRoomIn next (block_of x)) bs b
      (All-weaker (λ x. HasRoomIn now (block_of x)) (λ x. HasRoomIn next (block_of x))
      (λ x h. room_less now next (block_of x) h pages reserved held
      (λ p f. (and_parts (is_free_page now p) (not (covers p (block_of b)))
      (sym (left p) ∙ f)).0)) bs t.fits) fits;
  long = length-append bs (b ∷ []) ∙ omega (arith, t.long);
  rest = λ test same. listed test same ∙ t.rest test same;
} where
  got : Isolates (without_blocks bs old) 4 page (Some b) next
  got = subst (λ (s : PageState). Isolates s 4 page (Some b) next) t.state isolates

  low : IsLowestFrom (areas_of old) 4 page (block_of b)
  low = lowest_before (areas_of old) (without_pages (pages_of_all (blocks_of bs)) (areas_of old))
      page (block_of b) (taken_from (areas_of old) bs page t.before)
      (subst (λ (f : FreePages). IsLowestFrom f.areas 4 page (block_of b)) (settled old bs) got.0)

  is : next ≡ without_blocks (bs ++ b ∷ []) old
  is = grind (arith, settled, block_more)

  pages : page_count next ≡ page_count now
  pages = ap page_count is ∙ (length-without_pages (pages_of_all (blocks_of (bs ++ b ∷ [])))
      (areas_of old) ∙ (sym (length-without_pages (pages_of_all (blocks_of bs)) (areas_of old))
      ∙ sym (ap page_count t.state)))

  reserved : reserved_count next ≡ reserved_count now
  reserved = ap reserved_count is ∙ sym (ap reserved_count t.state)

  held : next.held ≡ now.held
  held = ap (λ (s : PageState). s.held) is ∙ sym (ap (λ (s : PageState). s.held) t.state)

  there : b.start < page_count old
  there = let some : 0 < 2 ^ b.order = pow_pos b.order in
      let q = is_inside (areas_of old) b.start
      (low.maximal.inside b.start (omega arith) (omega arith)) in
      omega (arith, length-with_pages (in_lists old.free) old.free.areas)

  listed : (test : ℕ → Bool) → ((p : ℕ) → test p ≡ has (areas_of old) p)
      → blocks_of (bs ++ b ∷ [])
      ++ reported (room - (count + 1)) (b.start + 2 ^ b.order) (maximal_blocks (page_count old) test)
      ≡ blocks_of bs ++ reported (room - count) page (maximal_blocks (page_count old) test)
  listed test same = let all : List Block = maximal_blocks (page_count old) test in
      let more : List Block = filter (is_later (b.start + 2 ^ b.order)) all in
      let first : filter (is_later page) all ≡ block_of b ∷ more =
      first_named test (areas_of old) same page b.start b.order (page_count old) low there in
      let n : room - count ≡ suc (room - (count + 1)) = omega arith in
      grind (arith, map-append, append_assoc)

-- no block is left
pub taking_all : (old now next : PageState) (from room page count : ℕ) (bs : List FreeBlock)
    → IsTaking old now from room page count bs → Isolates now 4 page None next
    → IsTaking old next from room page count bs × ((test : ℕ → Bool)
    → ((p : ℕ) → test p ≡ has (areas_of old) p)
    → blocks_of bs ≡ reported room from (maximal_blocks (page_count old) test))
taking_all old now next from room page count bs t isolates = (
  subst (λ (s : PageState). IsTaking old s from room page count bs) (t.state ∙ sym is) t,
  λ test same.
      let all : List Block = maximal_blocks (page_count old) test in
      let gone : filter (is_later page) all ≡ [] = none_named test (areas_of old) same page
      (page_count old) (λ b x. never b x.maximal x.large x.after) in
      grind (arith, append-nil, take_none),
) where
  take_none : (n : ℕ) → take {A = Block} n [] ≡ []
  take_none zero = refl
  take_none (suc n) = refl

  got : Isolates (without_blocks bs old) 4 page None next
  got = subst (λ (s : PageState). Isolates s 4 page None next) t.state isolates

  is : next ≡ without_blocks bs old
  is = got.1 ∙ ap (with_free old) (settled old bs)

  never : (b : Block) → IsMaximal (areas_of old) b → 4 ≤ b.order → page ≤ b.start → ⊥
  never b x o f = got.0 b (subst (λ (p : FreePages). IsMaximal p.areas b) (sym (settled old bs))
      (still_maximal (areas_of old) (without_pages (pages_of_all (blocks_of bs)) (areas_of old))
      page b (taken_from (areas_of old) bs page t.before) x f)) o f

-- as many as there is room for
pub taking_full : (old now : PageState) (from room page count : ℕ) (bs : List FreeBlock)
    → IsTaking old now from room page count bs → room ≤ count → (test : ℕ → Bool)
    → ((p : ℕ) → test p ≡ has (areas_of old) p)
    → blocks_of bs ≡ reported room from (maximal_blocks (page_count old) test)
taking_full old now from room page count bs t l test same = grind (arith, append-nil, is_later)

-- ---- what a report may rely on

pub taking_pages : (old now : PageState) (from room page count : ℕ) (bs : List FreeBlock)
    → IsTaking old now from room page count bs → page_count now ≡ page_count old
taking_pages old now from room page count bs t =
    grind (arith, length-without_pages, length-with_pages)

-- once the lists are drained, what is free is in the areas
pub free_is_drained : (s : PageState) (p : ℕ) → drained s.free ≡ s.free
    → is_free_page s p ≡ has (areas_of s) p
free_is_drained s p d =
    ap (λ (f : FreePages). is_free_in f p) (sym d) ∙ free_is_area (areas_of s) s.free.lists s.free.reserved p

pub free_without_blocks : (s : PageState) (bs : List FreeBlock) (p : ℕ)
    → is_free_page (without_blocks bs s) p ≡ (has (areas_of s) p && not (is_covered p bs))
free_without_blocks s bs p = grind (
  arith,
  free_is_area (without_pages (pages_of_all (blocks_of bs)) (areas_of s)) s.free.lists s.free.reserved p,
  has-without_pages (pages_of_all (blocks_of bs)) (areas_of s) p,
  in_covered p bs,
)

-- each page of blocks that have room is unreserved, and there
pub pages_inside : (s : PageState) (bs : List FreeBlock) (p : ℕ)
    → All (λ b. HasRoomIn s (block_of b)) bs → is_in p (pages_of_all (blocks_of bs)) ≡ true
    → (reserved_count s ≤ p) × (p < page_count s)
pages_inside s bs p all h = grind (
  arith,
  covering (λ b. HasRoomIn s (block_of b)) p bs all (sym (in_covered p bs) ∙ h),
  in_covered p bs,
)

pub drained_state : (s mid : PageState) → mid ≡ record s { free = drained s.free }
    → drained mid.free ≡ mid.free
drained_state s mid e =
    subst (λ (m : PageState). drained m.free ≡ m.free) (sym e) (drained_twice s.free)

pub drained_pages : (s mid : PageState) → mid ≡ record s { free = drained s.free }
    → page_count mid ≡ page_count s
drained_pages s mid e = ap page_count e ∙ length-with_pages (in_lists s.free) s.free.areas

-- what a report's blocks are, and what is left
pub record Chooses (old new : PageState) (from room : ℕ) (bs : List FreeBlock) : Type 0 where
  pub chosen : blocks_of bs ≡ blocks_to_report old from room
  pub count : length bs ≤ room
  pub taken : new ≡ without_blocks bs old
  pub left : (p : ℕ) → is_free_page new p ≡ (is_free_page old p && not (is_covered p bs))
  pub distinct : AllDistinct (pages_of_all (blocks_of bs))
  pub pages : (p : ℕ) → is_in p (pages_of_all (blocks_of bs)) ≡ true
      → (is_free_page old p ≡ true) × (reserved_count old ≤ p) × (p < page_count old)

pub chooses : (old mid new : PageState) (from room : ℕ) (bs : List FreeBlock) → mid
    ≡ record old { free = drained old.free } → ((p : ℕ) → is_free_page mid p ≡ is_free_page old p)
    → ((test : ℕ → Bool) → ((p : ℕ) → test p ≡ is_free_page mid p)
    → blocks_of bs ≡ reported room from (maximal_blocks (page_count mid) test))
    → new ≡ without_blocks bs mid → All (λ b. HasRoomIn new (block_of b)) bs
    → Chooses old new from room bs
chooses old mid new from room bs drains same reports takes fits = record {
  chosen = chosen;
  count = grind (arith, chosen, length-take, length-map);
  taken = taken;
  left = λ p. ap (λ (s : PageState). is_free_page s p) taken ∙ (free_without_blocks old bs p
      ∙ ap (λ (v : Bool). v && not (is_covered p bs)) (sym (free p) ∙ same p));
  distinct = distinct_once (pages_of_all (blocks_of bs)) (λ p.
      let e : times p (pages_of_all (blocks_of bs))
      ≡ times p (pages_of_all (blocks_to_report old from room)) =
      ap (λ (xs : List Block). times p (pages_of_all xs)) chosen in omega (
        arith,
        e,
        reported_distinct (is_free_page old) (is_later from) (page_count old) room p,
      ));
  pages =
      grind (arith, pages_inside, length-without_pages, length-with_pages, reported_pass, chosen);
} where
  chosen : blocks_of bs ≡ blocks_to_report old from room
  chosen = reports (is_free_page old) (λ p. sym (same p)) ∙ ap (λ (n : ℕ). reported room from
      (maximal_blocks n (is_free_page old))) (drained_pages old mid drains)

  taken : new ≡ without_blocks bs old
  taken = takes ∙ (ap (without_blocks bs) drains ∙ ap (λ (f : FreePages). with_free old
      (with_lists (without_pages (pages_of_all (blocks_of bs)) f.areas) f.lists f.reserved))
      (drained_twice old.free))

  free : (p : ℕ) → is_free_page mid p ≡ has (areas_of old) p
  free p = ap (λ (s : PageState). is_free_page s p) drains
      ∙ free_is_area (areas_of old) old.free.lists old.free.reserved p
