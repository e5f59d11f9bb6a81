-- Pages lose their frames one by one.
use Rattle.std.specs.Prelude.{◌≡◌, ◌≢◌, zero, suc, ◌+◌, false, ◌==◌, Option, None, Some, is_some}
use Rattle.std.specs.Prelude.{ℕ, ◌<◌, ◌≤◌, Bool, true, ◌||◌, List, [], ◌∷◌, ◌++◌, refl, count_by}
use Rattle.std.specs.{Prelude.{length, IfNone, if◌then◌else◌, replicate}, Option.option_to_list}
use Rattle.std.{specs.Prelude.{All, cond}, proofs.lemmas.List.{get_or-set_other, get_or-replicate}}
use Rattle.std.proofs.lemmas.List.{get_or-set_same, take_more, append-nil, map-id}
use Rattle.std.proofs.lemmas.List.{get_or_past, ext_get_or, Folds.list_any-append, Sums.sum_by-set}
use Rattle.std.proofs.lemmas.List.{append_assoc, length-replicate, FromFn.map-range_with_len_more}
use Rattle.std.proofs.Common.{sym, ◌∙◌, ap, arith, get_or, take, eq-eqb, inl, inr, subst, add-one}
use Rattle.std.proofs.lemmas.{Bool.{eqb-true, cases_eq, cases_lt}, Grind.flat_map-append}
use Rattle.vb_virtio.proofs.Tables.{length-each_from, each_page-get}
use Rattle.vb_virtio.specs.Tests.{is_in, one_if}
use Rattle.vb_virtio.proofs.Ranges.{is_in-range, outside-range}
use Rattle.std.specs.List.{range_with_len}
use Rattle.{std.proofs.Math.ListN.{set, length-set}, vb_ram.specs.Pages.{Pages, page_at, Discarded}}
use Rattle.{vb_ram.specs.Pages.{Page, frame_at, number_of}, vb_request.proofs.Once.each_once_push}
use Rattle.{vb_request.specs.Request.each_once, vb_device.specs.Discards.{discarded, frames_behind}}

cond_same : {A : Type 0} (b : Bool) (x : A) → cond b x x ≡ x
cond_same true x = refl
cond_same false x = refl

pub discarded-at : (pages : List ℕ) (mem : Pages) (q : ℕ) →
    page_at (discarded pages mem) q ≡ cond (is_in q pages) None (page_at mem q)
discarded-at pages mem q = grind (arith, each_page-get, cond_same)

pub discarded-length : (pages : List ℕ) (mem : Pages) → length (discarded pages mem) ≡ length mem
discarded-length pages mem = length-each_from 0 (λ page old. cond (is_in page pages) None old) mem

pub in_more : (pages : List ℕ) (i q : ℕ) → i < length pages →
    is_in q (take (i + 1) pages) ≡ (is_in q (take i pages) || ((get_or pages i 0 == q) || false))
in_more pages i q lt = grind (
  arith,
  take_more pages i 0 lt,
  list_any-append (λ m. m == q) (take i pages) (get_or pages i 0 ∷ []),
)

pub or_true : (a b : Bool) → b ≡ true → (a || (b || false)) ≡ true
or_true true b e = refl
or_true false b e = ap (λ v. v || false) e

pub or_false : (a b : Bool) → b ≡ false → (a || (b || false)) ≡ a
or_false true b e = refl
or_false false b e = ap (λ v. v || false) e

pub not_equal : (p q : ℕ) (b : Bool) → (p == q) ≡ b → q ≢ p → b ≡ false
not_equal p q true e ne = absurd (ne (sym (eqb-true p q e)))
not_equal p q false e ne = refl

-- one more page has lost its frame
pub discard_more : (first mem new : Pages) (pages : List ℕ) (i page : ℕ) → i < length pages →
    get_or pages i 0 ≡ page → mem ≡ discarded (take i pages) first → Discarded mem new page →
    new ≡ discarded (take (i + 1) pages) first
discard_more first mem new pages i page lt at e d =
    ext_get_or None new (discarded (take (i + 1) pages) first) (d.count ∙
    (ap (λ (m : Pages). length m) e ∙ (discarded-length (take i pages) first ∙
    sym (discarded-length (take (i + 1) pages) first)))) (λ q l. elim (cases_eq q page) [
      | inl same ↦ ap (page_at new) same ∙ (d.bare ∙ sym (discarded-at (take (i + 1) pages) first q
          ∙ ap (λ b. cond b None (page_at first q)) (in_more pages i q lt ∙
          or_true (is_in q (take i pages)) (get_or pages i 0 == q)
          (eq-eqb (get_or pages i 0) q (at ∙ sym same)))))
      | inr ne ↦
          d.others q ne ∙ (ap (λ (m : Pages). page_at m q) e ∙ (discarded-at (take i pages) first q
          ∙ sym (discarded-at (take (i + 1) pages) first q ∙ ap (λ b. cond b None (page_at first q))
          (in_more pages i q lt ∙ or_false (is_in q (take i pages)) (get_or pages i 0 == q)
          (not_equal (get_or pages i 0) q (get_or pages i 0 == q) refl (λ x. ne (x ∙ at)))))))
    ])

-- the frame that backs a page that may have lost it
frame_now : (first mem : Pages) (pages : List ℕ) (i page : ℕ) → mem ≡ discarded (take i pages) first
    → page_at mem page ≡ cond (is_in page (take i pages)) None (page_at first page)
frame_now first mem pages i page e =
    ap (λ (m : Pages). page_at m page) e ∙ discarded-at (take i pages) first page

frames_push : (first : Pages) (pages : List ℕ) (page : ℕ) → frames_behind first (pages ++ page ∷ [])
    ≡ frames_behind first pages ++ option_to_list (frame_at first page)
frames_push first pages page = grind (arith, flat_map-append, append-nil)

-- the frames that back pages of which each counts once, with one page more
once_push : (first : Pages) (once : List ℕ) (page : ℕ) (b : Bool) →
    frames_behind first (if b then once else once ++ page ∷ []) ≡
    frames_behind first once ++ option_to_list (number_of (cond b None (page_at first page)))
once_push first once page true = sym (append-nil (frames_behind first once))
once_push first once page false = frames_push first once page

pub discarded_none : (mem : Pages) → mem ≡ discarded [] mem
discarded_none mem = ext_get_or None mem (discarded [] mem) (sym (discarded-length [] mem))
    (λ q l. sym (discarded-at [] mem q))

-- one more page, whose frame, if it still has one, is loose now
pub loose_more : (first mem : Pages) (pages : List ℕ) (i page : ℕ) (before now after : List ℕ) →
    i < length pages → get_or pages i 0 ≡ page → mem ≡ discarded (take i pages) first
    → now ≡ before ++ frames_behind first (each_once (take i pages)) →
    after ≡ now ++ option_to_list (frame_at mem page) →
    after ≡ before ++ frames_behind first (each_once (take (i + 1) pages))
loose_more first mem pages i page before now after lt at e now_is after_is =
    let front : List ℕ = take i pages in
    let once : each_once (take (i + 1) pages)
    ≡ (if is_in page front then each_once front else each_once front ++ page ∷ []) = ap each_once
    (take_more pages i 0 lt ∙ ap (λ n. front ++ n ∷ []) at) ∙ each_once_push front page in
    after_is ∙ (ap (λ xs. xs ++ option_to_list (frame_at mem page)) now_is
    ∙ (append_assoc before (frames_behind first (each_once front))
    (option_to_list (frame_at mem page)) ∙ ap (λ xs. before ++ xs)
    (ap (λ o. frames_behind first (each_once front) ++ option_to_list (number_of o))
    (frame_now first mem pages i page e) ∙ sym (ap (frames_behind first) once ∙
    once_push first (each_once front) page (is_in page front)))))

-- ---- how many pages have a frame

abbrev pub frame_count : Pages → ℕ
frame_count mem = count_by is_some mem

one_is : (b : Bool) → cond b 1 0 ≡ one_if b
one_is true = refl
one_is false = refl

discarded_is : (old new : Pages) (page : ℕ) → page < length old → Discarded old new page →
    new ≡ set old page None
discarded_is old new page lt d = ext_get_or None new
    (set old page None) (d.count ∙ sym (length-set old page None)) (λ k l. elim (cases_eq k page) [
      | inl same ↦ ap (λ (j : ℕ). page_at new j) same ∙ (d.bare ∙
          sym (ap (λ (j : ℕ). page_at (set old page None) j) same ∙
          get_or-set_same old page None None lt))
      | inr ne ↦ d.others k ne ∙ sym (get_or-set_other old page k None None ne)
    ])

past_none : (mem : Pages) (page : ℕ) → length mem ≤ page → page_at mem page ≡ None
past_none mem page le = get_or_past mem page None le

loses_inside : (old new : Pages) (page : ℕ) → page < length old → Discarded old new page →
    frame_count new + one_if (is_some (page_at old page)) ≡ frame_count old
loses_inside old new page lt d = grind (
  arith,
  sum_by-set (λ (o : Option Page). cond (is_some o) 1 0) old page None None lt,
  discarded_is old new page lt d,
  one_is (is_some (page_at old page)),
)

none_of : (o p : Option Page) (P : Type 0) → o ≡ p → IfNone o P → p ≡ None → P
none_of None p P e is none = is
none_of (Some x) p P e is none = absurd cc

-- each frame that is loose backed a page
loses_one : (old new : Pages) (page : ℕ) → Discarded old new page → (page_at old page ≡ None
    → new ≡ old) → frame_count new + one_if (is_some (page_at old page)) ≡ frame_count old
loses_one old new page d same = grind (arith, cases_lt, loses_inside, past_none)

-- the same, by what backed the page
pub loses_found : (old new : Pages) (page : ℕ) (found : Option Page) → found ≡ page_at old page →
    Discarded old new page → IfNone found (new ≡ old) →
    frame_count new + one_if (is_some found) ≡ frame_count old
loses_found old new page found is d same = grind (arith, loses_one, none_of)

-- ---- all pages

-- the pages of a memory, with one page more
pages_more : (n : ℕ) → range_with_len 0 (n + 1) ≡ range_with_len 0 n ++ n ∷ []
pages_more n = grind (
  arith,
  map-id (range_with_len 0 (n + 1)),
  map-range_with_len_more (λ (k : ℕ). k) 0 n n (omega arith),
  map-id (range_with_len 0 n),
)

page_is_new : (n : ℕ) (b : Bool) → is_in n (range_with_len 0 n) ≡ b → b ≡ false
page_is_new n true e = absurd (omega (arith, (is_in-range n 0 n e).1))
page_is_new n false e = refl

-- each of them is there once
pub all_once : (n : ℕ) → each_once (range_with_len 0 n) ≡ range_with_len 0 n
all_once zero = refl
all_once (suc n) = let put : Bool → List ℕ → List ℕ = λ b ns. if b then ns else ns ++ n ∷ [] in
    subst (λ (m : ℕ). each_once (range_with_len 0 m) ≡ range_with_len 0 m) (add-one n)
    (ap each_once (pages_more n) ∙ (each_once_push (range_with_len 0 n) n ∙
    (ap (λ b. put b (each_once (range_with_len 0 n)))
    (page_is_new n (is_in n (range_with_len 0 n)) refl) ∙
    (ap (put false) (all_once n) ∙ sym (pages_more n)))))

page_is_there : (q n : ℕ) (b : Bool) → q < n → is_in q (range_with_len 0 n) ≡ b → b ≡ true
page_is_there q n true lt e = refl
page_is_there q n false lt e = absurd (outside-range q 0 n e (omega arith) (omega (arith, lt)))

-- a memory of which each page has lost its frame
pub all_discarded : (mem : Pages) →
    discarded (range_with_len 0 (length mem)) mem ≡ replicate (length mem) None
all_discarded mem = let all : List ℕ = range_with_len 0 (length mem) in
    let size : length (discarded all mem) ≡ length mem = discarded-length all mem in
    ext_get_or None (discarded all mem) (replicate (length mem) None)
    (size ∙ sym (length-replicate (length mem) None)) (λ q l.
    let inside : q < length mem = omega (arith, l, size) in
    discarded-at all mem q ∙ (ap (λ b. cond b None (page_at mem q))
    (page_is_there q (length mem) (is_in q all) inside refl) ∙
    sym (get_or-replicate (length mem) q None None inside)))

low_step : (a b : Bool) → a ≡ false → b ≡ false → (a || b) ≡ false
low_step a b e f = ap (λ v. v || b) e ∙ f

away : (reserved x p : ℕ) → reserved ≤ x → p < reserved → p ≡ x → ⊥
away reserved x p h l e = absurd (omega arith)

pub low_not_in : (reserved p : ℕ) (pages : List ℕ) → p < reserved
    → All (λ page. reserved ≤ page) pages → is_in p pages ≡ false
low_not_in reserved p [] l above = refl
low_not_in reserved p (x ∷ xs) l above = low_step (x == p) (is_in p xs)
    (not_equal x p (x == p) refl (λ e. away reserved x p (above 0 x (omega arith)) l e))
    (low_not_in reserved p xs l (λ k d lt. above (suc k) d (omega arith)))

-- a reserved page stays as it is
pub reserved_still : (reserved p : ℕ) (pages : List ℕ) (mem new : Pages) → p < reserved
    → All (λ page. reserved ≤ page) pages → new ≡ discarded pages mem
    → page_at new p ≡ page_at mem p
reserved_still reserved p pages mem new l above e = grind (arith, discarded-at, low_not_in)
