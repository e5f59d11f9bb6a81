-- The pages of the guest's own: blocks that are allocated and freed.
use Rattle.std.{specs.List.{list_any, range_with_len}, proofs.lemmas.Bool.{and_parts, or_cases}}
use Rattle.std.proofs.lemmas.{Bool.{or_left, or_right, both_ways, eqb-true}, List.length-map}
use Rattle.std.proofs.Common.{◌≡◌, ◌∙◌, sym, ap, arith, refl, ℕ, ◌+◌, ◌^◌, ◌<◌, ◌≤◌, Bool}
use Rattle.std.proofs.Common.{true, false, cond, eqb, not, ◌||◌, List, [], ◌∷◌, length, map, inl}
use Rattle.{std.proofs.Common.{inr, None, nat_le, nat_lt}, vb_model.specs.Pages.{Block, covers}}
use Rattle.vb_model.specs.Pages.{pages_of, is_same_block, is_wholly_free, place_of, placed, is_free}
use Rattle.vb_virtio.specs.FirstRefusal.{first_refusal, ◌⇒◌}
use Rattle.vb_virtio.specs.Tests.{is_in}
use Rattle.vb_virtio.specs.declared.refusals.Refusal.TheVariants.{BadOrder, BadCpu, NoPages}
use Rattle.vb_virtio.specs.declared.refusals.Refusal.TheVariants.{NotHeld}
use Rattle.vb_virtio.proofs.Tables.{list_all-at}
use Rattle.vb_model.specs.Pages.{is_used}
use Rattle.vb_model.specs.Driver.{with_block}
use Rattle.vb_model.specs.Driver.{without_block}
use Rattle.vb_model.specs.declared.places.Place.{Place}
use Rattle.vb_model.specs.declared.places.Place.TheVariants.{Free, Used, Giving, Taking, Reporting}
use Rattle.vb_model.proofs.PageSteps.{covers_is}
use Rattle.vb_pages.specs.{FreePages.FreePages, PageState.PageState}
use Rattle.vb_driver.specs.{Answers.{block_at, alloc_causes}, Places.marked, Areas.flags_of}
use Rattle.vb_driver.specs.Areas.{AreApart, AreFor, Becomes, is_free_at, is_covered, is_free_block}
use Rattle.vb_driver.{specs.State.{DriverState, page_state, IsDriver}, proofs.Counting.at_is}
use Rattle.vb_driver.proofs.{Moving.free_is_place, Placing.marked-get, ReportTables.block_inside}
use Rattle.vb_driver.proofs.Keeping.{kept_changed, there_by, Leaves, stays, free_set}

-- ---- free blocks

list_any_same : {A : Type 0} (f h : A → Bool) (xs : List A) → ((x : A) → f x ≡ h x)
    → list_any f xs ≡ list_any h xs
list_any_same f h xs same = search (arith)

pub whole_is : (places : List Place) {free : List Bool} (b : Block)
    → free ≡ map is_free places → is_free_block free b ≡ is_wholly_free places b
whole_is places b is = grind (arith, free_is_place)

-- a block of the areas is one of the driver
pub blocks_same : {d : DriverState} (order : ℕ) → IsDriver d → list_any (λ start. is_free_block
    (flags_of d.areas) (block_at start order)) (range_with_len 0 (length (flags_of d.areas)))
    ≡ list_any (λ start. is_wholly_free d.places (block_at start order)) (range_with_len 0 d.pages)
blocks_same {d} order kept =
    ap (λ (n : ℕ). list_any (λ start. is_free_block (flags_of d.areas) (block_at start order))
    (range_with_len 0 n)) (ap length kept.free ∙ (length-map d.places is_free ∙ kept.table))
    ∙ list_any_same (λ start. is_free_block (flags_of d.areas) (block_at start order))
    (λ start. is_wholly_free d.places (block_at start order)) (range_with_len 0 d.pages)
    (λ start. whole_is d.places (block_at start order) kept.free)

-- the areas refuse an allocation as the driver does
pub alloc_tests_same : {d : DriverState} (cpu order : ℕ) → IsDriver d → first_refusal
    ((nat_lt 9 order ⇒ BadOrder) ∷ (nat_le (length d.areas.lists) cpu ⇒ BadCpu) ∷ (not
    (list_any (λ start. is_free_block (flags_of d.areas) (block_at start order)) (range_with_len 0
    (length (flags_of d.areas)))) ⇒ NoPages) ∷ []) ≡ first_refusal (alloc_causes d cpu order)
alloc_tests_same cpu order kept = grind (arith, blocks_same)

-- ---- blocks that are held

swap : (x y z : Bool) → (x || (y || z)) ≡ (y || (x || z))
swap x y z = search (arith)

pub covered_with : (p : ℕ) (b : Block) (held : List Block)
    → is_covered p (with_block b held) ≡ (covers p b || is_covered p held)
covered_with p b [] = refl
covered_with p b (h ∷ held) = grind (arith, covered_with p b held)

pub covered_without : (p : ℕ) (b : Block) (held : List Block)
    → is_covered p (without_block b held) ≡ true → is_covered p held ≡ true
covered_without p b [] covered = covered
covered_without p b (x ∷ held) covered = grind (arith, covered_without p b held)

pub covered_held : (p : ℕ) (b : Block) (held : List Block)
    → list_any (λ h. is_same_block h b) held ≡ true → covers p b ≡ true → is_covered p held ≡ true
covered_held p b [] found covered = found
covered_held p b (x ∷ held) found covered =
    elim (or_cases (is_same_block x b) (list_any (λ h. is_same_block h b) held) found) [
      | inl same ↦
          let parts = and_parts (eqb x.start b.start) (eqb x.order b.order) same in
          let start : x.start ≡ b.start = eqb-true x.start b.start parts.0 in
          let order : x.order ≡ b.order = eqb-true x.order b.order parts.1 in
          or_left (covers p x) (is_covered p held)
          (ap (λ (n : ℕ). covers p (block_at n x.order)) start
          ∙ (ap (λ (n : ℕ). covers p (block_at b.start n)) order ∙ covered))
      | inr later ↦ or_right (covers p x) (is_covered p held) (covered_held p b held later covered)
    ]

-- ---- a block is allocated

-- each page of a free block is free
block_free : {d : DriverState} (b : Block) (p : ℕ) → IsDriver d → is_free_block (flags_of d.areas) b
    ≡ true → is_in p (pages_of b) ≡ true → place_of d.places p ≡ Free
block_free b p kept whole here = search (arith, at_is, free_is_place, list_all-at)

pub free_block_inside : {d : DriverState} (b : Block) → IsDriver d
    → is_free_block (flags_of d.areas) b ≡ true → b.start + 2 ^ b.order ≤ length d.places
free_block_inside {d} b kept whole = block_inside (length d.places) b
    (λ p here. there_by d.places p is_free refl (ap is_free (block_free b p kept whole here)))

pub allocated_kept : {d : DriverState} {areas2 : FreePages} (b : Block) → IsDriver d
    → is_free_block (flags_of d.areas) b ≡ true → flags_of areas2
    ≡ marked (pages_of b) false (flags_of d.areas) → AreFor d.areas areas2 → IsDriver (record d {
      places = placed (pages_of b) Used d.places;
      held = with_block b d.held;
      areas = areas2;
    })
allocated_kept {d} {areas2} b kept whole taken same = let pages = pages_of b in
    let leaves : Leaves d pages is_free = search (arith, block_free) in
    kept_changed (record {
      leaves = leaves;
      inflate = kept.inflate;
      deflate = kept.deflate;
      giving = stays leaves Used Giving refl kept.giving;
      taking = λ told. stays leaves Used Taking refl (kept.taking told);
      report = kept.report;
      reporting = stays leaves Used Reporting refl kept.reporting;
      free = free_set areas2 pages Used kept refl taken;
      same = same;
      used = λ p covered. used_at p (is_in p pages) refl (sym (covered_with p b d.held) ∙ covered);
    }) where
      used_at : (p : ℕ) (v : Bool) → is_in p (pages_of b) ≡ v → (covers p b || is_covered p d.held)
          ≡ true → cond (is_in p (pages_of b)) Used (place_of d.places p) ≡ Used
      used_at p y e covered = grind (arith, cond, covers_is)

-- a block is refused, though lists may be drained
pub unallocated_kept : {d : DriverState} {new : PageState} → IsDriver d → Becomes (page_state d) new
    (flags_of d.areas) d.held → IsDriver (record d { held = new.held; areas = new.free })
unallocated_kept kept becomes = search (arith)

-- ---- a block is freed

-- each page of a held block is used
block_used : {d : DriverState} (b : Block) (p : ℕ)
    → IsDriver d → list_any (λ h. is_same_block h b) d.held ≡ true
    → is_in p (pages_of b) ≡ true → place_of d.places p ≡ Used
block_used {d} b p kept held here =
    kept.used p (covered_held p b d.held held (covers_is p b true here))

pub held_block_inside : {d : DriverState} (b : Block) → IsDriver d
    → list_any (λ h. is_same_block h b) d.held ≡ true → b.start + 2 ^ b.order ≤ length d.places
held_block_inside {d} b kept held = block_inside (length d.places) b
    (λ p here. there_by d.places p is_used refl (ap is_used (block_used b p kept held here)))

-- what a free that isn't refused gave back was held
pub freed_was_held : (held : List Block) (b : Block) (processors cpu : ℕ) → None ≡ first_refusal
    ((nat_lt 9 b.order ⇒ BadOrder) ∷ (nat_le processors cpu ⇒ BadCpu)
    ∷ (not (list_any (λ h. is_same_block h b) held) ⇒ NotHeld) ∷ [])
    → list_any (λ h. is_same_block h b) held ≡ true
freed_was_held held b processors cpu e = grind arith

pub block_freed_kept : {d : DriverState} {new : PageState} (b : Block) → IsDriver d
    → list_any (λ h. is_same_block h b) d.held ≡ true
    → flags_of new.free ≡ marked (pages_of b) true (flags_of d.areas) → new.held
    ≡ without_block b d.held → AreFor d.areas new.free → AreApart new → IsDriver (record d {
      places = placed (pages_of b) Free d.places;
      held = without_block b d.held;
      areas = new.free;
    })
block_freed_kept {d} {new} b kept held given rest same apart = let pages = pages_of b in
    let used : (p : ℕ) → is_in p pages ≡ true
    → place_of d.places p ≡ Used = λ p here. block_used b p kept held here in
    let leaves : Leaves d pages is_used = search arith in
    kept_changed (record {
      leaves = leaves;
      inflate = kept.inflate;
      deflate = kept.deflate;
      giving = stays leaves Free Giving refl kept.giving;
      taking = λ told. stays leaves Free Taking refl (kept.taking told);
      report = kept.report;
      reporting = stays leaves Free Reporting refl kept.reporting;
      free = free_set new.free pages Free kept refl given;
      same = same;
      used = λ p covered. used_at p (is_in p pages) refl covered (used p);
    }) where
      used_at : (p : ℕ) (v : Bool) → is_in p (pages_of b) ≡ v → is_covered p (without_block b d.held)
          ≡ true → (is_in p (pages_of b) ≡ true → place_of d.places p ≡ Used)
          → cond (is_in p (pages_of b)) Free (place_of d.places p) ≡ Used
      used_at p true e covered used = let inside : p < length (flags_of d.areas) = omega (
        arith,
        ap length kept.free,
        length-map d.places is_free,
        there_by d.places p is_used refl (ap is_used (used e)),
      ) in
          let free : is_free_at (flags_of new.free) p ≡ true =
          search (arith, marked-get, cond) in
          let unfree : is_free_at (flags_of new.free) p ≡ false =
          apart.apart p (ap (is_covered p) rest ∙ covered) in
          absurd (both_ways (is_free_at (flags_of new.free) p) unfree free)
      used_at p false e covered used = ap (λ (v : Bool). cond v Free (place_of d.places p)) e
          ∙ kept.used p (covered_without p b d.held covered)
