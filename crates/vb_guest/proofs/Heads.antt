-- The heads of requests.
use Rattle.std.specs.Prelude.{◌≡◌, ℕ, zero, suc, ◌+◌, ◌==◌, Bool, true, false, cond, List}
use Rattle.std.specs.Prelude.{[], ◌∷◌, ◌++◌, length, All, Some, slice_get, remove, option_map, refl}
use Rattle.std.proofs.lemmas.Option.{slice_get-map, get_or_from_slice_get, slice_get_within}
use Rattle.std.proofs.lemmas.List.{length-map, map_push, Elements.{All-append, All-take, All-drop}}
use Rattle.std.proofs.{lemmas.List.Elements.{All-cons, All-tail}, Common.{◌∙◌, ap, subst, arith}}
use Rattle.vb_virtio.proofs.Tables.{count_by-cons, count_by-append}
use Rattle.vb_virtio.specs.Tests.{one_if, times}
use Rattle.vb_virtio.specs.Queues.{is_unvisited, Request}
use Rattle.std.proofs.Common.{take, drop}
use Rattle.vb_model.specs.Device.{visiting}
use Rattle.{vb_model.specs.Requests.{Requests, all_requests, headed}, vb_guest.specs.Line.heads_of}

pub times-heads : (h : ℕ) (rs : List Request) → times h (heads_of rs) ≡ headed h rs
times-heads h [] = refl
times-heads h (r ∷ rs) = grind (
  arith,
  count_by-cons (λ k. k == h) r.head (heads_of rs),
  count_by-cons (λ (x : Request). x.head == h) r rs,
  times-heads h rs,
)

pub length-heads : (rs : List Request) → length (heads_of rs) ≡ length rs
length-heads rs = length-map rs (λ r. r.head)

pub heads-push : (rs : List Request) (r : Request)
    → heads_of (rs ++ r ∷ []) ≡ heads_of rs ++ r.head ∷ []
heads-push rs r = map_push (λ (x : Request). x.head) rs r

pub heads-remove : (rs : List Request) (i : ℕ) → heads_of (remove rs i) ≡ remove (heads_of rs) i
heads-remove [] zero = refl
heads-remove [] (suc i) = refl
heads-remove (r ∷ rs) zero = refl
heads-remove (r ∷ rs) (suc i) = ap (λ (l : List ℕ). r.head ∷ l) (heads-remove rs i)

pub heads-get : (rs : List Request) (i : ℕ) (r : Request) → slice_get rs i ≡ Some r
    → slice_get (heads_of rs) i ≡ Some r.head
heads-get rs i r is =
    slice_get-map (λ (x : Request). x.head) rs i ∙ ap (option_map (λ (x : Request). x.head)) is

pub headed-cons : (h : ℕ) (r : Request) (rs : List Request)
    → headed h (r ∷ rs) ≡ one_if (r.head == h) + headed h rs
headed-cons h r rs = count_by-cons (λ (x : Request). x.head == h) r rs

pub headed-all : (h : ℕ) (rs : Requests)
    → headed h (all_requests rs) ≡ headed h rs.posted + (headed h rs.taken + headed h rs.done)
headed-all h rs = grind (arith, count_by-append)

pub all_remove : {A : Type 0} (P : A → Type 0) (xs : List A) (i : ℕ) → All P xs
    → All P (remove xs i)
all_remove P xs i all =
    All-append P (take i xs) (drop (suc i) xs) (All-take P i xs all) (All-drop P (suc i) xs all)

-- what holds of all elements holds of one
pub one_of : {A : Type 0} (P : A → Type 0) (xs : List A) (i : ℕ) (x : A) → All P xs
    → slice_get xs i ≡ Some x → P x
one_of P xs i x all is =
    subst P (get_or_from_slice_get xs i x x is) (all i x (slice_get_within xs i x is))

-- ---- visits

-- P doesn't ask how many pages of a request are visited
abbrev pub IgnoresVisits : (Request → Type 0) → Type 0
IgnoresVisits P = (r : Request) (k : ℕ) → P r → P (record r { visited = k })

-- a visit changes a request's count alone
pub heads-visiting : (rs : List Request) → heads_of (visiting rs) ≡ heads_of rs
heads-visiting [] = refl
heads-visiting (r ∷ rs) = grind (arith, heads-visiting rs)

pub all-visiting : (P : Request → Type 0) → IgnoresVisits P → (rs : List Request) → All P rs
    → All P (visiting rs)
all-visiting P keeps [] all = all
all-visiting P keeps (r ∷ rs) all =
    step (is_unvisited r) (all-visiting P keeps rs (All-tail P r rs all)) where
      step : (v : Bool) → All P (visiting rs)
          → All P (cond v (record r { visited = r.visited + 1 } ∷ rs) (r ∷ visiting rs))
      step true later = All-cons P (record r { visited = r.visited + 1 }) rs
          (keeps r (r.visited + 1) (all 0 r (omega arith))) (All-tail P r rs all)
      step false later = All-cons P r (visiting rs) (all 0 r (omega arith)) later
