-- Which request asks a page back: no other one of the kind names it.
use Rattle.std.proofs.Common.{List, [], arith, refl, suc, true, zero, ℕ, ◌++◌, ◌∷◌, ◌≡◌}
use Rattle.std.specs.Prelude.{Some, remove, slice_get}
use Rattle.vb_model.proofs.PageSteps.{after_finish, after_reap, after_take, naming-all, naming-cons}
use Rattle.vb_virtio.specs.Queues.{Request}
use Rattle.vb_model.specs.Requests.{Requests, all_requests, names, naming, posting}

abbrev pub OnlyIn : ℕ → ℕ → List ℕ → List Request → Type 0
OnlyIn page head pages [] = Unit {0}
OnlyIn page head pages (r ∷ rs) =
    (names page r ≡ true → (r.head ≡ head) × (r.pages ≡ pages)) × OnlyIn page head pages rs

-- no request names the page but those with this head and these pages
pub record Only (page head : ℕ) (pages : List ℕ) (rs : Requests) : Type 0 where
  pub posted : OnlyIn page head pages rs.posted
  pub taken : OnlyIn page head pages rs.taken
  pub done : OnlyIn page head pages rs.done

pub only-append : (page head : ℕ) (pages : List ℕ) (xs ys : List Request) → OnlyIn page head pages xs
    → OnlyIn page head pages ys → OnlyIn page head pages (xs ++ ys)
only-append page head pages [] ys a b = b
only-append page head pages (x ∷ xs) ys a b = (a.0, only-append page head pages xs ys a.1 b)

pub only-remove : (page head : ℕ) (pages : List ℕ) (xs : List Request) (i : ℕ)
    → OnlyIn page head pages xs → OnlyIn page head pages (remove xs i)
only-remove page head pages [] zero a = tt
only-remove page head pages [] (suc i) a = tt
only-remove page head pages (x ∷ xs) zero a = a.1
only-remove page head pages (x ∷ xs) (suc i) a = (a.0, only-remove page head pages xs i a.1)

pub only-get : (page head : ℕ) (pages : List ℕ) (xs : List Request) (i : ℕ) (r : Request)
    → slice_get xs i ≡ Some r → OnlyIn page head pages xs → names page r ≡ true
    → (r.head ≡ head) × (r.pages ≡ pages)
only-get page head pages [] i r e a = absurd cc
only-get page head pages (x ∷ xs) zero r e a = grind arith
only-get page head pages (x ∷ xs) (suc i) r e a = only-get page head pages xs i r e a.1

pub only-none : (page head : ℕ) (pages : List ℕ) (xs : List Request) → naming page xs ≡ 0
    → OnlyIn page head pages xs
only-none page head pages [] e = tt
only-none page head pages (x ∷ xs) e = grind (
  arith,
  naming-cons page x xs,
  only-none page head pages xs (omega (arith, e, naming-cons page x xs)),
)

-- where none named the page, only the new one does
pub only-posting : (page head : ℕ) (pages : List ℕ) (rs : Requests)
    → naming page (all_requests rs) ≡ 0 → Only page head pages (posting head pages rs)
only-posting page head pages rs none = record {
  posted = only-append page head pages rs.posted (record { head = head; pages = pages; visited = 0 }
      ∷ []) (only-none page head pages rs.posted (omega (arith, none, naming-all page rs)))
      (λ k. (refl, refl), tt);
  taken = only-none page head pages rs.taken (omega (arith, none, naming-all page rs));
  done = only-none page head pages rs.done (omega (arith, none, naming-all page rs));
}

pub only-take : (page head : ℕ) (pages : List ℕ) (r : Request) (rest : List Request) (rs : Requests)
    → rs.posted ≡ r ∷ rest → Only page head pages rs → Only page head pages (after_take r rest rs)
only-take page head pages r rest rs e o = grind (arith, only-append)

pub only-finish : (page head : ℕ) (pages : List ℕ) (i : ℕ) (r : Request) (rs : Requests)
    → slice_get rs.taken i ≡ Some r → Only page head pages rs
    → Only page head pages (after_finish i r rs)
only-finish page head pages i r rs e o = grind (arith, only-remove, only-append, only-get)

pub only-reap : (page head : ℕ) (pages : List ℕ) (r : Request) (rest : List Request) (rs : Requests)
    → rs.done ≡ r ∷ rest → Only page head pages rs → Only page head pages (after_reap rest rs)
only-reap page head pages r rest rs e o = grind arith

-- the first done request is that one, where it names the page
pub only_done : (page head : ℕ) (pages : List ℕ) (r : Request) (rest : List Request) (rs : Requests)
    → rs.done ≡ r ∷ rest → names page r ≡ true → Only page head pages rs
    → (r.head ≡ head) × (r.pages ≡ pages)
only_done page head pages r rest rs e k o = grind arith
