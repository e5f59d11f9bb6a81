-- Blocks leave the page areas for a report, and come back.
use Rattle.std.proofs.lemmas.{List.{length-map, get_or-map, Elements.All-map}, Nat.pow_pos}
use Rattle.std.proofs.Common.{◌≡◌, ◌∙◌, sym, ap, arith, refl, ℕ, ◌+◌, ◌^◌, ◌<◌, ◌≤◌}
use Rattle.std.proofs.Common.{Bool, true, false, cond, eqb, not, ◌&&◌, ◌||◌, List, [], ◌∷◌, length}
use Rattle.vb_virtio.proofs.Distinct.{distinct_once}
use Rattle.vb_virtio.specs.Tests.{is_in, times}
use Rattle.std.proofs.Common.{map, slice_index_or, All}
use Rattle.vb_model.specs.declared.places.Place.{Place}
use Rattle.vb_model.specs.Pages.{pages_of_all}
use Rattle.vb_model.specs.Pages.{is_free, place_of, reported, maximal_free_blocks}
use Rattle.vb_pages.proofs.Sets.{in_block, length-with_pages, length-without_pages}
use Rattle.vb_pages.{proofs.Sets.{same_sets, without_parts, without_old}, specs.Areas.without_pages}
use Rattle.vb_pages.specs.{declared.block.FreeBlock.FreeBlock, PageState.{PageState, page_count}}
use Rattle.vb_pages.specs.{PageState.{reserved_count, is_free_page, IsApart}, FreePages.drained}
use Rattle.vb_report.{proofs.Covering.in_covered, specs.Blocks.block_of}
use Rattle.vb_report.specs.Blocks.{blocks_of, is_covered, blocks_to_report, HaveRoom, with_blocks}
use Rattle.{vb_report.specs.Blocks.without_blocks, vb_driver.proofs.Moving.free_is_place}
use Rattle.vb_driver.proofs.Flags.{for_these, length_flags, flag_free, free_flag, flags_moved}
use Rattle.vb_driver.proofs.{Flags.drained_sizes, ReportTables.{in_all, block_inside_all}}
use Rattle.vb_driver.{proofs.Placing.marked_none, specs.{Places.marked, State.IsAreaBlock}}
use Rattle.vb_driver.specs.Areas.{Becomes, flags_of, is_free_at, is_covered as is_in_block}

-- a page is free just where its flag says so
flag_is : (s : PageState) (p : ℕ) → IsApart s → is_free_page s p ≡ is_free_at (flags_of s.free) p
flag_is s p apart = grind (arith, free_flag, flag_free)

-- ---- blocks are chosen

pub chosen_places : (s : PageState) (from room : ℕ) → IsApart s
    → ((t : PageState) (places : List Place) → length places ≡ page_count t
    → ((p : ℕ) → is_free_page t p ≡ is_free (place_of places p)) → (f r : ℕ)
    → blocks_to_report t f r ≡ reported r f (maximal_free_blocks places))
    → (places : List Place) → flags_of s.free ≡ map is_free places
    → blocks_to_report s from room ≡ reported room from (maximal_free_blocks places)
chosen_places s from room apart law places is =
    grind (arith, length_flags, length-map, flag_is, free_is_place)

pub chosen_blocks : {s : PageState} {blocks : List FreeBlock}
    → HaveRoom s blocks → All IsAreaBlock (blocks_of blocks)
chosen_blocks {blocks} room = All-map IsAreaBlock block_of blocks (λ k d lt.
    let fits = room.each k d lt in record { order = fits.0.0; aligned = fits.0.1 })

pub chosen_state : {s new : PageState} (blocks : List FreeBlock) → new ≡ without_blocks blocks s
    → ((p : ℕ) → is_free_page new p ≡ (is_free_page s p && not (is_covered p blocks)))
    → Becomes s new (marked (pages_of_all (blocks_of blocks)) false (flags_of s.free)) s.held
chosen_state {s} {new} blocks is left = let pages = pages_of_all (blocks_of blocks) in
    let sizes = drained_sizes s.free in record {
      free = flags_moved s new pages false (ap page_count is ∙ (length-without_pages pages
          (drained s.free).areas ∙ sizes.pages)) (λ p. left p ∙ (ap (λ (v : Bool). is_free_page
          s p && not v) (sym (in_covered p blocks)) ∙ gone (is_free_page s p) (is_in p pages)));
      held = ap (λ (v : PageState). v.held) is;
      same = for_these (ap (λ (v : PageState). v.free) is)
          (record { processors = sizes.same.processors; reserved = refl });
    } where
      gone : (old v : Bool) → (old && not v) ≡ cond v false old
      gone x y = grind arith

-- ---- no block is chosen

pub no_blocks : (blocks : List FreeBlock) → eqb (length blocks) 0 ≡ true → blocks ≡ []
no_blocks [] e = refl
no_blocks (b ∷ blocks) e = grind arith

pub none_chosen : {s new : PageState} {blocks : List FreeBlock} → blocks ≡ []
    → Becomes s new (marked (pages_of_all (blocks_of blocks)) false (flags_of s.free)) s.held
    → Becomes s new (flags_of s.free) s.held
none_chosen none becomes = grind (arith, marked_none)

without_none : {set : List Bool} → without_pages [] set ≡ set
without_none = grind (arith, same_sets, length-without_pages, without_parts, without_old)

pub only_drained : (s : PageState) {new : PageState} {blocks : List FreeBlock}
    → blocks ≡ [] → new ≡ without_blocks blocks s → new ≡ record s { free = drained s.free }
only_drained s none is = grind (arith, without_none)

-- ---- blocks come back

pub have_room : {s : PageState} {blocks : List FreeBlock}
    → IsApart s → All IsAreaBlock (blocks_of blocks)
    → ((p : ℕ) → is_in p (pages_of_all (blocks_of blocks)) ≡ true → reserved_count s ≤ p) → ((p : ℕ)
    → is_in p (pages_of_all (blocks_of blocks)) ≡ true → p < length (flags_of s.free)) → ((p : ℕ)
    → is_in p (pages_of_all (blocks_of blocks)) ≡ true → is_free_at (flags_of s.free) p ≡ false)
    → ((p : ℕ) → is_in p (pages_of_all (blocks_of blocks)) ≡ true → is_in_block p s.held ≡ false)
    → ((p : ℕ) → times p (pages_of_all (blocks_of blocks)) ≤ 1) → HaveRoom s blocks
have_room {s} {blocks} apart good unreserved inside taken uncovered once = record {
  each = λ k d lt.
      let b = block_of (slice_index_or blocks k d) in
      let is : slice_index_or (blocks_of blocks) k (block_of d) ≡ b = search (arith, get_or-map) in
      let fine : IsAreaBlock b = search (arith, length-map) in
      let here : (p : ℕ) → b.start ≤ p → p < b.start + 2 ^ b.order → is_in p
      (pages_of_all (blocks_of blocks)) ≡ true = λ p l u. in_all (blocks_of blocks) k (block_of d) p
      (omega (arith, length-map blocks block_of)) (rw is (in_block b.start b.order p l u)) in
      let some = pow_pos b.order in (
        (fine.order, fine.aligned),
        unreserved b.start (here b.start (omega arith) (omega arith)),
        block_inside_all blocks k d (page_count s) lt
            (λ p h. omega (arith, inside p h, length_flags s)),
        λ p l u. (flag_is s p apart ∙ taken p (here p l u), uncovered p (here p l u)),
      );
  apart = distinct_once (pages_of_all (blocks_of blocks)) once;
}

pub given_blocks : {s new : PageState} (blocks : List FreeBlock) → new ≡ with_blocks blocks s
    → ((p : ℕ) → is_free_page new p ≡ (is_free_page s p || is_covered p blocks))
    → Becomes s new (marked (pages_of_all (blocks_of blocks)) true (flags_of s.free)) s.held
given_blocks blocks is gained = search (arith, flags_moved, length-with_pages, in_covered)
