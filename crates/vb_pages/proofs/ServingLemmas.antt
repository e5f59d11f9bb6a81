-- Pages that go out: a block, a single page, a try, and a request, which may try once more.
use Rattle.std.proofs.Common.{◌≡◌, ℕ, zero, suc, ◌+◌, ◌<◌, ◌≤◌, inl, inr, Bool, List, [], ◌∷◌, ◌++◌}
use Rattle.std.proofs.Common.{length, set, reverse, Option, Some, None, refl, ◌∙◌, ap, arith}
use Rattle.std.proofs.lemmas.{Bool.{eq-eqb, eqb-true}, List.Sums.{sum_by-append, sum_by-cons}}
use Rattle.std.proofs.lemmas.List.{get_or-set_same, get_or-set_other, set-get_or, length-set}
use Rattle.std.proofs.lemmas.List.{length-map, length-reverse, reverse-append, nil_from_length}
use Rattle.std.proofs.lemmas.List.Sorted.{sum_by-IsPermutation, length_permutation}
use Rattle.{std.specs.Prelude.{◌==◌, count_by, sum_by}, vb_model.specs.Pages.{pages_of, covers}}
use Rattle.vb_virtio.specs.Tests.{one_if}
use Rattle.std.proofs.Common.{length-append}
use Rattle.vb_pages.proofs.AreasLemmas.{count_without_block, count_zero, taken_inside}
use Rattle.vb_pages.proofs.ListsLemmas.{times, times-append, times-one, takes_times}
use Rattle.vb_pages.specs.Areas.{has, block_at, IsBlock, HasNoBlock, TakesBlock}
use Rattle.vb_pages.specs.FreePages.{FreePages, in_lists, times_free, list_of, drained, TakesPages}
use Rattle.vb_pages.specs.FreePages.{Refills, Pops, TakesSingle, Tries, Serves, IsSoundFree}
use Rattle.vb_pages.proofs.{Aligned.aligned_down, Sets.{length-with_pages, length-without_pages}}
use Rattle.vb_pages.proofs.ListsLemmas.{takes_pages_times, takes_more, no_page}
use Rattle.vb_pages.proofs.FreeLemmas.{times-set, nothing, sound_from, drained_times, free_of}

-- ---- a block goes out

pub takes_sound : (f : FreePages) (new : List Bool) (k s : ℕ) → IsSoundFree f
    → TakesBlock f.areas k (Some s) new → IsSoundFree (record f { areas = new })
takes_sound f new k s sound t = sound_from f (record f { areas = new }) sound
    (ap length t.1 ∙ length-without_pages (pages_of (block_at s k)) f.areas) refl
    (λ p. omega (arith, takes_times f.areas new k s t p)) sound.short

pub length-takes_pages : (set new : List Bool) (pages : List ℕ) → TakesPages set pages new
    → length new ≡ length set
length-takes_pages set new [] t = ap length t
length-takes_pages set new (x ∷ pages) t =
    grind (arith, length-without_pages, length-takes_pages t.0 new pages t.2)

-- ---- a single page goes out

sum_by-reverse : (g : ℕ → ℕ) (xs : List ℕ) → sum_by g (reverse xs) ≡ sum_by g xs
sum_by-reverse g [] = refl
sum_by-reverse g (x ∷ xs) = grind (
  arith,
  reverse-append (x ∷ []) xs,
  sum_by-append g (reverse xs) (x ∷ []),
  sum_by-cons g x xs,
  sum_by-reverse g xs,
)

refill_times : (set new : List Bool) (list : List ℕ) → Refills set list new → (p : ℕ)
    → one_if (has new p) + times p list ≡ one_if (has set p)
refill_times set new list r p =
    grind (arith, times, sum_by-IsPermutation, sum_by-reverse, takes_pages_times)

pub length-refill : (set new : List Bool) (list : List ℕ) → Refills set list new → length list ≤ 8
length-refill set new list r = grind (arith, length-reverse, length_permutation)

abbrev taken_times : Option ℕ → ℕ → ℕ
taken_times None p = 0
taken_times (Some s) p = one_if (s == p)

pops_times : (list rest : List ℕ) (got : Option ℕ) → Pops list got rest → (p : ℕ)
    → times p rest + taken_times got p ≡ times p list
pops_times list rest None h p = omega (arith, ap (times p) h.0, ap (times p) h.1)
pops_times list rest (Some s) h p =
    omega (arith, ap (times p) h, times-append p rest (s ∷ []), times-one p s)

pops_length : (list rest : List ℕ) (got : Option ℕ) → Pops list got rest → length rest ≤ length list
pops_length list rest None h = omega (arith, ap length h.1)
pops_length list rest (Some s) h = omega (arith, ap length h, length-append rest (s ∷ []))

single_times : (set new : List Bool) (list rest : List ℕ) (got : Option ℕ)
    → TakesSingle set list got new rest → (p : ℕ)
    → one_if (has new p) + (times p rest + taken_times got p) ≡ one_if (has set p) + times p list
single_times set new [] rest got h p =
    omega (arith, refill_times set new h.0 h.1 p, pops_times h.0 rest got h.2 p)
single_times set new (x ∷ xs) rest got h p =
    omega (arith, ap (λ (s : List Bool). one_if (has s p)) h.0, pops_times (x ∷ xs) rest got h.1 p)

single_length : (set new : List Bool) (list rest : List ℕ) (got : Option ℕ)
    → TakesSingle set list got new rest → length list < 16 → length rest < 16
single_length set new [] rest got h l =
    omega (arith, length-refill set new h.0 h.1, pops_length h.0 rest got h.2)
single_length set new (x ∷ xs) rest got h l = omega (arith, pops_length (x ∷ xs) rest got h.1)

single_areas : (set new : List Bool) (list rest : List ℕ) (got : Option ℕ)
    → TakesSingle set list got new rest → length new ≡ length set
single_areas set new [] rest got h = length-takes_pages set new h.1.taken h.1.takes
single_areas set new (x ∷ xs) rest got h = ap length h.0

-- where no page comes out, nothing was there
single_none : (set new : List Bool) (list rest : List ℕ) → TakesSingle set list None new rest
    → (list ≡ []) × (rest ≡ []) × (new ≡ set) × HasNoBlock set 0
single_none set new [] rest h = let r = h.1 in
    grind (arith, length-reverse r.rising, length_permutation, nil_from_length)
single_none set new (x ∷ xs) rest h =
    absurd (let bad : length (x ∷ xs) ≡ 0 = ap length h.1.0 in omega (arith, bad))

-- ---- a try

-- a page that the processor's list and the areas give
pub single_sound : (f : FreePages) (cpu : ℕ) (new : List Bool) (rest : List ℕ) (got : Option ℕ)
    → IsSoundFree f → cpu < length f.lists → TakesSingle f.areas (list_of f cpu) got new rest
    → IsSoundFree (record f { areas = new; lists = set f.lists cpu rest })
single_sound f cpu new rest got sound l h = sound_from f
    (record f { areas = new; lists = set f.lists cpu rest }) sound (single_areas f.areas new
    (list_of f cpu) rest got h) (length-set f.lists cpu rest) (λ p. omega (
      arith,
      single_times f.areas new (list_of f cpu) rest got h p,
      times-set p f.lists cpu rest l,
    )) (grind (arith, get_or-set_same, single_length, get_or-set_other))

-- a try that gives nothing changes nothing, and there was no block
pub tries_none : (f new : FreePages) (cpu order : ℕ) → Tries f cpu order None new
    → (new ≡ f) × HasNoBlock f.areas order
tries_none f new cpu order h = grind (arith, single_none, set-get_or)

-- a try that gives a block takes just its pages
pub tries_times : (f new : FreePages) (cpu order start : ℕ) → cpu < length f.lists
    → Tries f cpu order (Some start) new → (p : ℕ)
    → times_free new p + one_if (covers p (block_at start order)) ≡ times_free f p
tries_times f new cpu zero start l h p = grind (
  arith,
  single_times f.areas new.areas (list_of f cpu) h.0 (Some start) h.1 p,
  times-set p f.lists cpu h.0 l,
)
tries_times f new cpu (suc order) start l h p =
    grind (arith, times p (in_lists f), takes_times f.areas new.areas (suc order) start h.0 p)

-- a request that is served takes just the block's pages
pub serves_times : (f new : FreePages) (cpu order start : ℕ) → IsSoundFree f → cpu < length f.lists
    → Serves f cpu order (Some start) new → (p : ℕ)
    → times_free new p + one_if (covers p (block_at start order)) ≡ times_free f p
serves_times f new cpu order start sound l h p = elim h [
  | inl now ↦ tries_times f new cpu order start l now p
  | inr later ↦ grind (
    arith,
    drained_times f sound p,
    tries_times (drained f) new cpu order start (omega (
      arith,
      length-map f.lists (λ (x : List ℕ).
          nothing),
    )) later.1 p,
  )
]

-- ---- single pages, one after the other

-- n pages were taken, and m are left
pub record AreTakenSoFar (set : List Bool) (i : ℕ) (new : List Bool) (out : List ℕ) : Type 0 where
  pub takes : TakesPages set out new
  pub long : length out ≡ i
  pub count : count_by (λ f. f) new + i ≡ count_by (λ f. f) set

pub taken_one : (set mid new : List Bool) (i page : ℕ) (out : List ℕ) → AreTakenSoFar set i mid out
    → TakesBlock mid 0 (Some page) new → AreTakenSoFar set (i + 1) new (out ++ page ∷ [])
taken_one set mid new i page out h t = grind (
  arith,
  count_without_block page 0 mid (taken_inside mid page 0 t.0.0 t.0.1),
  takes_more set mid new out page h.takes t,
  length-append out (page ∷ []),
)

pub taken_all : (set mid : List Bool) (i n : ℕ) (out : List ℕ) → AreTakenSoFar set i mid out
    → HasNoBlock mid 0 → i < n → n ≤ count_by (λ f. f) set → ⊥
taken_all set mid i n out h none l enough = grind (arith, count_zero mid (no_page mid none))

pub takes_pages_sound : (f : FreePages) (new : List Bool) (pages : List ℕ) → IsSoundFree f
    → TakesPages f.areas pages new → IsSoundFree (free_of new f.lists f.reserved)
takes_pages_sound f new pages sound t = grind (arith, length-takes_pages, takes_pages_times)

-- ---- a try, in its two forms

pub takes_any_sound : (f : FreePages) (new : List Bool) (k : ℕ) (got : Option ℕ) → IsSoundFree f
    → TakesBlock f.areas k got new → IsSoundFree (free_of new f.lists f.reserved)
takes_any_sound f new k got sound t = grind (arith, takes_sound)

-- a second try, after the first gave nothing
pub serves_later : (f mid new : FreePages) (cpu order : ℕ) (got : Option ℕ)
    → Tries f cpu order None mid → Tries (drained mid) cpu order got new
    → Serves f cpu order got new
serves_later f mid new cpu order got first second = grind (arith, tries_none)

tries_length : (f new : FreePages) (cpu order : ℕ) (got : Option ℕ) → Tries f cpu order got new
    → length new.areas ≡ length f.areas
tries_length f new cpu order got h = grind (arith, single_areas, length-without_pages)

pub serves_length : (f new : FreePages) (cpu order start : ℕ) → Serves f cpu order (Some start) new
    → length new.areas ≡ length f.areas
serves_length f new cpu order start h = grind (arith, tries_length, length-with_pages)

pub serves_reserved : (f new : FreePages) (cpu order start : ℕ)
    → Serves f cpu order (Some start) new → new.reserved ≡ f.reserved
serves_reserved f new cpu order start h = grind arith

tries_is_block : (f new : FreePages) (cpu order start : ℕ) → Tries f cpu order (Some start) new
    → IsBlock (block_at start order)
tries_is_block f new cpu order start h = grind (arith, eq-eqb, aligned_down, eqb-true)

pub serves_is_block : (f new : FreePages) (cpu order start : ℕ)
    → Serves f cpu order (Some start) new → IsBlock (block_at start order)
serves_is_block f new cpu order start h = grind (arith, tries_is_block)
