-- Frames that pages lose: each is loose then, or backs its page as before.
use Rattle.std.proofs.Common.{◌≡◌, ◌∙◌, ap, sym, subst, refl, arith, inl, inr, ℕ, zero, suc, ◌+◌, ◌<◌, ◌≤◌}
use Rattle.std.proofs.Common.{Bool, true, false, List, [], ◌++◌, length, get_or, take, add-one}
use Rattle.std.proofs.Common.{Option, Some, None, ◌⊎◌}
use Rattle.std.specs.Prelude.{◌==◌, ◌||◌, cond, count_by}
use Rattle.std.specs.Option.{option_to_list}
use Rattle.std.proofs.Math.ListN.{set, length-set}
use Rattle.std.proofs.lemmas.Bool.{cases_lt}
use Rattle.std.proofs.lemmas.List.{ext_get_or, take_all, get_or-set_same, get_or-set_other, get_or_past}
use Rattle.std.proofs.lemmas.List.{Folds.list_any-append, Sums.sum_by-set}
use Rattle.vb_virtio.specs.Tests.{is_in, times, one_if}
use Rattle.vb_virtio.proofs.Tables.{count_by-append, count_by-one}
use Rattle.vb_ram.specs.Pages.{Page, Pages, page_at, frame_at, number_of, Discarded}
use Rattle.vb_request.specs.Request.{each_once}
use Rattle.vb_device.specs.Discards.{discarded, frames_behind}
use Rattle.vb_device.proofs.Discards.{discarded-at, discarded-length, discarded_none, discard_more}
use Rattle.vb_device.proofs.Discards.{loose_more}

-- the page has the frame of this number
abbrev pub is_frame : ℕ → Option Page → Bool
is_frame n None = false
is_frame n (Some page) = page.number == n

-- how many pages the frame of this number backs
abbrev pub backing : ℕ → Pages → ℕ
backing n mem = count_by (is_frame n) mem

weighed : (b : Bool) → cond b 1 0 ≡ one_if b
weighed true = refl
weighed false = refl

its_frame : (n : ℕ) (o : Option Page) → times n (option_to_list (number_of o)) ≡ one_if (is_frame n o)
its_frame n None = refl
its_frame n (Some page) = count_by-one (λ m. m == n) page.number

-- a page of memory
loses_inside : (n page : ℕ) (mem : Pages) → page < length mem →
    backing n (set mem page None) + one_if (is_frame n (page_at mem page)) ≡ backing n mem
loses_inside n page mem lt =
    let sum = sum_by-set (λ (o : Option Page). cond (is_frame n o) 1 0) mem page None None lt in
    omega (arith, sum, weighed (is_frame n (page_at mem page)))

discarded_set : (page : ℕ) (mem : Pages) → page < length mem → Discarded mem (set mem page None) page
discarded_set page mem lt = record {
  bare = get_or-set_same mem page None None lt;
  others = λ q ne. get_or-set_other mem page q None None ne;
  count = length-set mem page None;
}

discarded_past : (page : ℕ) (mem : Pages) → length mem ≤ page → Discarded mem mem page
discarded_past page mem le =
    record { bare = get_or_past mem page None le; others = λ q ne. refl; count = refl }

-- one more of these pages
one_lost : (n : ℕ) (mem : Pages) (pages : List ℕ) (i : ℕ) → i < length pages →
    times n (option_to_list (frame_at (discarded (take i pages) mem) (get_or pages i 0)))
    + backing n (discarded (take (i + 1) pages) mem) ≡ backing n (discarded (take i pages) mem)
one_lost n mem pages i lt =
    let page = get_or pages i 0 in
    let now = discarded (take i pages) mem in
    by_place n mem pages i page now lt refl refl
    (cases_lt page (length now))
  where
    by_place : (n : ℕ) (mem : Pages) (pages : List ℕ) (i page : ℕ) (now : Pages) →
        i < length pages → get_or pages i 0 ≡ page → now ≡ discarded (take i pages) mem →
        (page < length now) ⊎ (length now ≤ page) →
        times n (option_to_list (frame_at now page))
        + backing n (discarded (take (i + 1) pages) mem) ≡ backing n now
    by_place n mem pages i page now lt at e (inl inside) =
        let same : set now page None ≡ discarded (take (i + 1) pages) mem =
        discard_more mem now (set now page None) pages i page lt at e (discarded_set page now inside)
        in
        subst (λ (m : Pages). times n (option_to_list (frame_at now page)) + backing n m
        ≡ backing n now) same
        (omega (arith, its_frame n (page_at now page), loses_inside n page now inside))
    by_place n mem pages i page now lt at e (inr past) =
        let same : now ≡ discarded (take (i + 1) pages) mem =
        discard_more mem now now pages i page lt at e (discarded_past page now past) in
        let none : times n (option_to_list (frame_at now page)) ≡ 0 =
        ap (λ (o : Option Page). times n (option_to_list (number_of o)))
        (get_or_past now page None past) in
        subst (λ (m : Pages). times n (option_to_list (frame_at now page)) + backing n m
        ≡ backing n now) same (omega (arith, none))

-- of the first ones
first_lost : (n : ℕ) (mem : Pages) (pages : List ℕ) (i : ℕ) → i ≤ length pages →
    times n (frames_behind mem (each_once (take i pages))) + backing n (discarded (take i pages) mem)
    ≡ backing n mem
first_lost n mem pages zero le = omega (arith, ap (backing n) (discarded_none mem))
first_lost n mem pages (suc i) le =
    let lt : i < length pages = omega (arith, le) in
    let page = get_or pages i 0 in
    let before = frames_behind mem (each_once (take i pages)) in
    let lost = option_to_list (frame_at (discarded (take i pages) mem) page) in
    let more : before ++ lost ≡ [] ++ frames_behind mem (each_once (take (i + 1) pages)) =
    loose_more mem (discarded (take i pages) mem) pages i page [] before (before ++ lost) lt refl refl
    refl refl in
    let sum : times n (before ++ lost) ≡ times n before + times n lost =
    count_by-append (λ m. m == n) before lost in
    subst (λ (j : ℕ). times n (frames_behind mem (each_once (take j pages)))
    + backing n (discarded (take j pages) mem) ≡ backing n mem) (add-one i)
    (omega (
      arith,
      sym (ap (times n) more),
      sum,
      one_lost n mem pages i lt,
      first_lost n mem pages i (omega (arith, le)),
    ))

-- and of all of them
pub all_lost : (n : ℕ) (mem : Pages) (pages : List ℕ) →
    times n (frames_behind mem (each_once pages)) + backing n (discarded pages mem) ≡ backing n mem
all_lost n mem pages =
    subst (λ (ps : List ℕ). times n (frames_behind mem (each_once ps))
    + backing n (discarded ps mem) ≡ backing n mem) (take_all (length pages) pages (omega arith))
    (first_lost n mem pages (length pages) (omega arith))

-- ---- pages that are the same

or_both : {A : Type 0} (a b : Bool) (none x : A) → cond (a || b) none x ≡ cond b none (cond a none x)
or_both true true none x = refl
or_both true false none x = refl
or_both false b none x = refl

-- these pages, and then those
pub discarded_both : (xs ys : List ℕ) (mem : Pages) →
    discarded (xs ++ ys) mem ≡ discarded ys (discarded xs mem)
discarded_both xs ys mem = ext_get_or None (discarded (xs ++ ys) mem) (discarded ys (discarded xs mem))
    (discarded-length (xs ++ ys) mem ∙ sym (discarded-length ys (discarded xs mem)
    ∙ discarded-length xs mem)) (λ q l.
    discarded-at (xs ++ ys) mem q
    ∙ (ap (λ (b : Bool). cond b None (page_at mem q)) (list_any-append (λ m. m == q) xs ys)
    ∙ (or_both (is_in q xs) (is_in q ys) None (page_at mem q)
    ∙ sym (discarded-at ys (discarded xs mem) q
    ∙ ap (λ (o : Option Page). cond (is_in q ys) None o) (discarded-at xs mem q)))))

pub discarded_alike : (xs ys : List ℕ) (mem : Pages) → ((p : ℕ) → is_in p xs ≡ is_in p ys) →
    discarded xs mem ≡ discarded ys mem
discarded_alike xs ys mem same = ext_get_or None (discarded xs mem) (discarded ys mem)
    (discarded-length xs mem ∙ sym (discarded-length ys mem)) (λ q l.
    discarded-at xs mem q ∙ (ap (λ (b : Bool). cond b None (page_at mem q)) (same q)
    ∙ sym (discarded-at ys mem q)))
