-- Each kind of step keeps the requests of one kind in order.
use Rattle.std.proofs.Common.{◌≡◌, ℕ, zero, suc, ◌+◌, ◌<◌, ◌≤◌, Bool, true, false, cond, List, []}
use Rattle.std.proofs.Common.{◌∷◌, ◌++◌, length, get_or, take, drop, refl, ap, subst, ◌∙◌, arith}
use Rattle.std.{specs.Prelude.{◌==◌, slice_get, Some, remove}, proofs.lemmas.List.length-append}
use Rattle.std.{proofs.lemmas.List.Edits.length-remove, proofs.lemmas.List.Sums.sum_by-remove}
use Rattle.std.proofs.lemmas.Option.{get_or_from_slice_get, slice_get_within}
use Rattle.vb_virtio.specs.Queues.{Request, is_unvisited}
use Rattle.vb_virtio.specs.Tests.{times, one_if}
use Rattle.vb_virtio.proofs.Tables.{count_by-append, count_by-cons}
use Rattle.vb_model.specs.Requests.{Requests, all_requests, headed, outstanding, posting}
use Rattle.vb_model.specs.Orderly.{IsRequestSound, AllRequestsSound, AreOrderly}
use Rattle.vb_model.proofs.PageSteps.{after_take, after_finish, after_reap}
use Rattle.vb_model.specs.Requests.{IsLeastHead}
use Rattle.vb_model.specs.Device.{visiting}

-- ---- how many requests have a head

headed-all : (h : ℕ) (rs : Requests)
    → headed h (all_requests rs) ≡ headed h rs.posted + (headed h rs.taken + headed h rs.done)
headed-all h rs = grind (arith, count_by-append)

headed-push : (h : ℕ) (xs : List Request) (x : Request)
    → headed h (xs ++ x ∷ []) ≡ headed h xs + one_if (x.head == h)
headed-push h xs x = grind (arith, count_by-append)

headed-cons : (h : ℕ) (x : Request) (xs : List Request)
    → headed h (x ∷ xs) ≡ one_if (x.head == h) + headed h xs
headed-cons h x xs = count_by-cons (λ (r : Request). r.head == h) x xs

one_if_cond : (b : Bool) → cond b 1 0 ≡ one_if b
one_if_cond true = refl
one_if_cond false = refl

headed-remove : (h : ℕ) (rs : List Request) (i : ℕ) (r : Request) → slice_get rs i ≡ Some r
    → headed h (remove rs i) + one_if (r.head == h) ≡ headed h rs
headed-remove h rs i r e = let within : i < length rs = slice_get_within rs i r e in
    let at : get_or rs i r ≡ r = get_or_from_slice_get rs i r r e in
    let s = sum_by-remove (λ (x : Request). cond (x.head == h) 1 0) rs i r within in
    omega (
      arith,
      s,
      ap {B = ℕ} (λ (x : Request). cond (x.head == h) 1 0) at,
      one_if_cond (r.head == h),
    )

-- ---- sound requests in a list

all_sound-push : (xs : List Request) (x : Request) → AllRequestsSound xs → IsRequestSound x
    → AllRequestsSound (xs ++ x ∷ [])
all_sound-push [] x h s = (s, tt)
all_sound-push (y ∷ xs) x h s = (h.0, all_sound-push xs x h.1 s)

all_sound-append : (xs ys : List Request) → AllRequestsSound xs → AllRequestsSound ys
    → AllRequestsSound (xs ++ ys)
all_sound-append [] ys h k = k
all_sound-append (x ∷ xs) ys h k = (h.0, all_sound-append xs ys h.1 k)

all_sound-take : (n : ℕ) (xs : List Request) → AllRequestsSound xs → AllRequestsSound (take n xs)
all_sound-take zero xs h = tt
all_sound-take (suc n) [] h = tt
all_sound-take (suc n) (x ∷ xs) h = (h.0, all_sound-take n xs h.1)

all_sound-drop : (n : ℕ) (xs : List Request) → AllRequestsSound xs → AllRequestsSound (drop n xs)
all_sound-drop zero xs h = h
all_sound-drop (suc n) [] h = tt
all_sound-drop (suc n) (x ∷ xs) h = all_sound-drop n xs h.1

all_sound-remove : (xs : List Request) (i : ℕ) → AllRequestsSound xs
    → AllRequestsSound (remove xs i)
all_sound-remove xs i h =
    all_sound-append (take i xs) _ (all_sound-take i xs h) (all_sound-drop (suc i) xs h)

all_sound-at : (xs : List Request) (i : ℕ) (x : Request) → slice_get xs i ≡ Some x
    → AllRequestsSound xs → IsRequestSound x
all_sound-at [] i x e h = absurd cc
all_sound-at (y ∷ xs) zero x e h = grind arith
all_sound-at (y ∷ xs) (suc i) x e h = all_sound-at xs i x e h.1

all_sound-visiting : (xs : List Request) → AllRequestsSound xs → AllRequestsSound (visiting xs)
all_sound-visiting [] h = h
all_sound-visiting (x ∷ xs) h = step (is_unvisited x) refl (all_sound-visiting xs h.1) where
  step : (v : Bool) → is_unvisited x ≡ v → AllRequestsSound (visiting xs)
      → AllRequestsSound (cond v (record x { visited = x.visited + 1 } ∷ xs) (x ∷ visiting xs))
  step true e ih = grind arith
  step false e ih = (h.0, ih)

-- ---- the steps

pub orderly_posting : (most : ℕ) (rs : Requests) (head : ℕ) (pages : List ℕ) → AreOrderly most rs
    → IsLeastHead rs head → outstanding rs < most → ((page : ℕ) → times page pages ≤ 1)
    → AreOrderly most (posting head pages rs)
orderly_posting most rs head pages h least room distinct = record {
  heads = λ k. one k (head == k) refl;
  few = omega (
    arith,
    length-append rs.posted (record { head = head; pages = pages; visited = 0 } ∷ []),
  );
  posted = all_sound-push rs.posted _ h.posted
      (record { distinct = distinct; visits = omega arith });
  taken = h.taken;
  done = h.done;
} where
  one : (k : ℕ) (v : Bool) → (head == k) ≡ v → headed k (all_requests (posting head pages rs)) ≤ 1
  one k true e = grind (
    arith,
    headed-all k (posting head pages rs),
    headed-all k rs,
    headed-push k rs.posted (record { head = head; pages = pages; visited = 0 }),
  )
  one k false e = let added : one_if (head == k) ≡ 0 = ap one_if e in omega (
    arith,
    h.heads k,
    headed-all k (posting head pages rs),
    headed-all k rs,
    headed-push k rs.posted (record { head = head; pages = pages; visited = 0 }),
  )

pub orderly_take : (most : ℕ) (r : Request) (rest : List Request) (rs : Requests)
    → rs.posted ≡ r ∷ rest → AreOrderly most rs → AreOrderly most (after_take r rest rs)
orderly_take most r rest rs e h =
    let sound : AllRequestsSound (r ∷ rest) = subst AllRequestsSound e h.posted in record {
      heads = λ k. let was : headed k rs.posted ≡ headed k (r ∷ rest) = ap (headed k) e in omega (
        arith,
        h.heads k,
        headed-all k rs,
        headed-all k (after_take r rest rs),
        headed-cons k r rest,
        headed-push k rs.taken (record r { visited = 0 }),
      );
      few = let was : length rs.posted ≡ length rest + 1 = ap length e ∙ (omega arith) in
          omega (arith, h.few, length-append rs.taken (record r { visited = 0 } ∷ []));
      posted = sound.1;
      taken = all_sound-push rs.taken _ h.taken
          (record { distinct = sound.0.distinct; visits = omega arith });
      done = h.done;
    }

pub headed-visiting : (k : ℕ) (rs : List Request) → headed k (visiting rs) ≡ headed k rs
headed-visiting k [] = refl
headed-visiting k (r ∷ rs) = step (is_unvisited r) (headed-visiting k rs) where
  step : (v : Bool) → headed k (visiting rs) ≡ headed k rs → headed k
      (cond v (record r { visited = r.visited + 1 } ∷ rs) (r ∷ visiting rs)) ≡ headed k (r ∷ rs)
  step true ih =
      grind (arith, headed-cons k r rs, headed-cons k (record r { visited = r.visited + 1 }) rs)
  step false ih = omega (arith, headed-cons k r rs, headed-cons k r (visiting rs))

pub length-visiting : (rs : List Request) → length (visiting rs) ≡ length rs
length-visiting [] = refl
length-visiting (r ∷ rs) = step (is_unvisited r) (length-visiting rs) where
  step : (v : Bool) → length (visiting rs) ≡ length rs → length
      (cond v (record r { visited = r.visited + 1 } ∷ rs) (r ∷ visiting rs)) ≡ length (r ∷ rs)
  step true ih = refl
  step false ih = ap suc ih

pub orderly_work : (most : ℕ) (rs : Requests) → AreOrderly most rs
    → AreOrderly most (record rs { taken = visiting rs.taken })
orderly_work most rs h = record {
  heads = λ k. omega (
    arith,
    h.heads k,
    headed-all k rs,
    headed-all k (record rs { taken = visiting rs.taken }),
    headed-visiting k rs.taken,
  );
  few = omega (arith, h.few, length-visiting rs.taken);
  posted = h.posted;
  taken = all_sound-visiting rs.taken h.taken;
  done = h.done;
}

pub orderly_finish : (most i : ℕ) (r : Request) (rs : Requests) → slice_get rs.taken i ≡ Some r
    → AreOrderly most rs → AreOrderly most (after_finish i r rs)
orderly_finish most i r rs e h =
    let within : i < length rs.taken = slice_get_within rs.taken i r e in record {
      heads = λ k. omega (
        arith,
        h.heads k,
        headed-all k rs,
        headed-all k (after_finish i r rs),
        headed-remove k rs.taken i r e,
        headed-push k rs.done r,
      );
      few = omega (arith, h.few, length-remove rs.taken i within, length-append rs.done (r ∷ []));
      posted = h.posted;
      taken = all_sound-remove rs.taken i h.taken;
      done = all_sound-push rs.done r h.done (all_sound-at rs.taken i r e h.taken);
    }

pub orderly_reap : (most : ℕ) (r : Request) (rest : List Request) (rs : Requests)
    → rs.done ≡ r ∷ rest → AreOrderly most rs → AreOrderly most (after_reap rest rs)
orderly_reap most r rest rs e h =
    let sound : AllRequestsSound (r ∷ rest) = subst AllRequestsSound e h.done in record {
      heads = λ k. let was : headed k rs.done ≡ headed k (r ∷ rest) = ap (headed k) e in omega (
        arith,
        h.heads k,
        headed-all k rs,
        headed-all k (after_reap rest rs),
        headed-cons k r rest,
      );
      few = let was : length rs.done ≡ length rest + 1 = ap length e ∙ (omega arith) in
          omega (arith, h.few);
      posted = h.posted;
      taken = h.taken;
      done = sound.1;
    }
