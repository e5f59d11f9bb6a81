-- Runs of rising pages, one page more at a time.
use Rattle.std.specs.Prelude.{◌≡◌, ℕ, zero, suc, ◌+◌, ◌<◌, ◌==◌, Bool, true, false, if◌then◌else◌}
use Rattle.std.specs.Prelude.{List, [], ◌∷◌, ◌++◌, length, take, slice_set, slice_index_or, refl}
use Rattle.std.proofs.Common.{sym, ◌∙◌, ap, arith}
use Rattle.vb_virtio.specs.Tests.{pages_from, pages_where}
use Rattle.vb_model.specs.declared.places.PageRun.{PageRun}
use Rattle.{vb_model.specs.Queries.{runs, runs_with}, vb_guest.proofs.Discarding.other_not}

abbrev pub single : ℕ → PageRun
single page = record { first = page; last = page }

abbrev pub ends_at : PageRun → ℕ → PageRun
ends_at r page = record { first = r.first; last = page }

-- one more page after the runs
abbrev with_page : List PageRun → ℕ → List PageRun
with_page [] page = single page ∷ []
with_page (r ∷ []) page = if suc r.last == page then ends_at r page ∷ [] else r ∷ single page ∷ []
with_page (r ∷ s ∷ rs) page = r ∷ with_page (s ∷ rs) page

before_after : (a page : ℕ) (rs : List PageRun)
    → runs_with a (with_page rs page) ≡ with_page (runs_with a rs) page
before_after a page rs = grind arith

runs_pushed : (pages : List ℕ) (page : ℕ) → runs (pages ++ page ∷ []) ≡ with_page (runs pages) page
runs_pushed [] page = refl
runs_pushed (p ∷ ps) page = ap (runs_with p) (runs_pushed ps page) ∙ before_after p page (runs ps)

-- ---- how the runs are changed

-- the last run gets longer
last_set : (rs : List PageRun) {page : ℕ} (i : ℕ) (d : PageRun)
    → suc i ≡ length rs → suc (slice_index_or rs i d).last ≡ page
    → with_page rs page ≡ slice_set rs i (ends_at (slice_index_or rs i d) page)
last_set [] i d e next = absurd (omega arith)
last_set (r ∷ []) zero d e next = grind arith
last_set (r ∷ []) (suc i) d e next = absurd (omega arith)
last_set (r ∷ s ∷ rs) zero d e next = absurd (omega arith)
last_set (r ∷ s ∷ rs) (suc i) d e next =
    ap (λ (l : List PageRun). r ∷ l) (last_set (s ∷ rs) i d (omega arith) next)

-- or a run of its own comes after it
last_pushed : (rs : List PageRun) (page i : ℕ) (d : PageRun) → suc i ≡ length rs → (suc
    (slice_index_or rs i d).last == page) ≡ false → with_page rs page ≡ rs ++ single page ∷ []
last_pushed [] page i d e apart = absurd (omega arith)
last_pushed (r ∷ []) page zero d e apart =
    ap (λ (b : Bool). if b then ends_at r page ∷ [] else r ∷ single page ∷ []) apart
last_pushed (r ∷ []) page (suc i) d e apart = absurd (omega arith)
last_pushed (r ∷ s ∷ rs) page zero d e apart = absurd (omega arith)
last_pushed (r ∷ s ∷ rs) page (suc i) d e apart =
    ap (λ (l : List PageRun). r ∷ l) (last_pushed (s ∷ rs) page i d (omega arith) apart)

first_pushed : (rs : List PageRun) (page : ℕ) → length rs ≡ 0
    → with_page rs page ≡ rs ++ single page ∷ []
first_pushed [] page e = refl
first_pushed (r ∷ rs) page e = absurd (omega arith)

same_entry : (rs : List PageRun) (i : ℕ) (d e : PageRun) → i < length rs
    → slice_index_or rs i d ≡ slice_index_or rs i e
same_entry [] i d e lt = absurd (omega arith)
same_entry (r ∷ rs) zero d e lt = refl
same_entry (r ∷ rs) (suc i) d e lt = same_entry rs i d e (omega (arith, lt))

-- what a page does to the runs of those below it
pub page_joined : {rs : List PageRun} {page : ℕ} (i : ℕ) {d e : PageRun} (pages : List ℕ)
    → suc i ≡ length rs → d ≡ slice_index_or rs i d → e ≡ slice_index_or rs i e → e.last + 1 ≡ page
    → rs ≡ runs pages → slice_set rs i (ends_at d page) ≡ runs (pages ++ page ∷ [])
page_joined i pages last at_d at_e next is = grind (arith, same_entry, last_set, runs_pushed)

pub page_alone : {rs new : List PageRun} (page i : ℕ) {e : PageRun} (pages : List ℕ)
    → suc i ≡ length rs → e ≡ slice_index_or rs i e → (e.last + 1 ≡ page → ⊥)
    → new ≡ rs ++ single page ∷ [] → rs ≡ runs pages → new ≡ runs (pages ++ page ∷ [])
page_alone {rs} page i {e} pages last at_e apart pushed is =
    let other : (suc (slice_index_or rs i e).last == page) ≡ false = search (arith, other_not) in
    pushed ∙ sym (last_pushed rs page i e last other)
    ∙ ap (λ (l : List PageRun). with_page l page) is ∙ sym (runs_pushed pages page)

pub page_first : {rs new : List PageRun} (page : ℕ) (pages : List ℕ) → length rs ≡ 0
    → new ≡ rs ++ single page ∷ [] → rs ≡ runs pages → new ≡ runs (pages ++ page ∷ [])
page_first page pages none pushed is = grind (arith, first_pushed, runs_pushed)

-- ---- the pages of a table

-- the pages below the next index that pass
pages_take : {A : Type 0} (test : A → Bool) (xs : List A) (first i n : ℕ) (d : A) → i < length xs
    → n ≡ first + i → pages_from first test (take (suc i) xs) ≡ pages_from first test (take i xs)
    ++ (if test (slice_index_or xs i d) then n ∷ [] else [])
pages_take test [] first i n d lt e = absurd (omega arith)
pages_take test (x ∷ xs) first zero n d lt e = grind arith
pages_take test (x ∷ xs) first (suc i) n d lt e =
    grind (arith, pages_take test xs (suc first) i n d (omega (arith, lt)) (omega (arith, e)))

-- one index more
pub runs_more : {A : Type 0} (test : A → Bool) (xs : List A) (i : ℕ)
    (d : A) {old new : List PageRun} → i < length xs → old ≡ runs (pages_where test (take i xs))
    → test (slice_index_or xs i d) ≡ true → ((pages : List ℕ) → old ≡ runs pages
    → new ≡ runs (pages ++ i ∷ [])) → new ≡ runs (pages_where test (take (i + 1) xs))
runs_more test xs i d lt is passes pushed = let next : i + 1 ≡ suc i = omega arith in
    pushed (pages_where test (take i xs)) is ∙ ap runs (sym
    (ap (λ (k : ℕ). pages_where test (take k xs)) next ∙ pages_take test xs 0 i i d lt (omega arith)
    ∙ ap (λ (b : Bool). pages_where test (take i xs) ++ (if b then i ∷ [] else [])) passes))

none_more : (xs : List ℕ) → xs ++ [] ≡ xs
none_more [] = refl
none_more (x ∷ xs) = ap (λ (l : List ℕ). x ∷ l) (none_more xs)

pub runs_same : {A : Type 0} (test : A → Bool) (xs : List A) (i : ℕ) (d : A) {old : List PageRun}
    → i < length xs → old ≡ runs (pages_where test (take i xs))
    → test (slice_index_or xs i d) ≡ false → old ≡ runs (pages_where test (take (i + 1) xs))
runs_same test xs i d lt is fails = let next : i + 1 ≡ suc i = omega arith in
    is ∙ ap runs (sym (ap (λ (k : ℕ). pages_where test (take k xs)) next
    ∙ pages_take test xs 0 i i d lt (omega arith) ∙ ap (λ (b : Bool). pages_where test (take i xs)
    ++ (if b then i ∷ [] else [])) fails ∙ none_more (pages_where test (take i xs))))
