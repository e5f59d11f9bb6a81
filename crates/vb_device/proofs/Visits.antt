-- The oldest page of the taken requests that isn't visited yet.
use Rattle.std.proofs.{Common.{◌∙◌, ap, arith, get_or}, Math.ListN.set, lemmas.Grind.common_steps}
use Rattle.std.proofs.lemmas.List.{Elements.All-set, Quantifiers.position-Some}
use Rattle.std.{proofs.lemmas.List.Sums.fails_before_first, specs.List.{position, position_or_len}}
use Rattle.std.specs.Prelude.{◌≡◌, ℕ, zero, suc, ◌+◌, ◌<◌, ◌≤◌, Bool, true, false, List, [], ◌∷◌}
use Rattle.std.specs.Prelude.{Some, All, refl, length, if◌then◌else◌, None, Option, slice_get}
use Rattle.vb_virtio.specs.Queues.{Request, is_unvisited}
use Rattle.vb_model.specs.Device.{visiting, next_page}
use Rattle.vb_device.specs.QueueState.{IsTaken}

abbrev pub once_more : Request → Request
once_more r = record r { visited = r.visited + 1 }

-- one request is what is visited next, by the test of it
visits_here : (r : Request) (rs : List Request) (b : Bool) → is_unvisited r ≡ b →
    (visiting (r ∷ rs) ≡ (if b then once_more r ∷ rs else r ∷ visiting rs)) ×
    (next_page (r ∷ rs) ≡ (if b then slice_get r.pages r.visited else next_page rs))
visits_here r rs b e = search (arith)

-- the first request with a page that isn't visited is what is visited next
first_visit : (rs : List Request) (i : ℕ) (d : Request) → i < length rs →
    is_unvisited (get_or rs i d) ≡ true → ((k : ℕ) → k < i → is_unvisited (get_or rs k d) ≡ false)
    → (visiting rs ≡ set rs i (once_more (get_or rs i d))) ×
    (next_page rs ≡ slice_get (get_or rs i d).pages (get_or rs i d).visited)
first_visit [] i d lt is before = absurd (omega arith)
first_visit (r ∷ rs) zero d lt is before = visits_here r rs true is
first_visit (r ∷ rs) (suc i) d lt is before =
    let rest = first_visit rs i d (omega arith) is (λ k l. before (suc k) (omega (arith, l))) in
    let here = visits_here r rs false (before 0 (omega arith)) in
    (here.0 ∙ ap (λ (xs : List Request). r ∷ xs) rest.0, here.1 ∙ rest.1)

all_visited : (rs : List Request) (d : Request) →
    ((k : ℕ) → k < length rs → is_unvisited (get_or rs k d) ≡ false) →
    (visiting rs ≡ rs) × (next_page rs ≡ None)
all_visited [] d each = (refl, refl)
all_visited (r ∷ rs) d each =
    let rest = all_visited rs d (λ k l. each (suc k) (omega (arith, l))) in
    let here = visits_here r rs false (each 0 (omega arith)) in
    (here.0 ∙ ap (λ (xs : List Request). r ∷ xs) rest.0, here.1 ∙ rest.1)

pub visits_at : (rs : List Request) (i : ℕ) (d : Request) → position is_unvisited rs ≡ Some i →
    (i < length rs) × (is_unvisited (get_or rs i d) ≡ true) ×
    (visiting rs ≡ set rs i (once_more (get_or rs i d)))
    × (next_page rs ≡ slice_get (get_or rs i d).pages (get_or rs i d).visited)
visits_at rs i d e = let at = position-Some is_unvisited rs i d e in
    let first = first_visit rs i d at.0 at.1 at.2 in (at.0, at.1, first.0, first.1)

pub visits_none : (rs : List Request) → position is_unvisited rs ≡ None →
    (visiting rs ≡ rs) × (next_page rs ≡ None)
visits_none rs e = let d : Request = record { head = 0; pages = []; visited = 0 } in
    let far : length rs ≤ position_or_len is_unvisited rs = grind (arith, common_steps) in
    all_visited rs d (λ k l. fails_before_first is_unvisited rs k d (omega (arith, l, far)))

-- a chain is one of the queue's still, once one more of its pages is visited
pub visiting_still : (n : ℕ) (rs : List Request) → All (IsTaken n) rs
    → All (IsTaken n) (visiting rs)
visiting_still n rs all = by_place (position is_unvisited rs) refl where
  by_place : (place : Option ℕ) → position is_unvisited rs ≡ place → All (IsTaken n) (visiting rs)
  by_place None e = rw (visits_none rs e).0 all
  by_place (Some i) e = let d : Request = record { head = 0; pages = []; visited = 0 } in
      let found = visits_at rs i d e in
      let was : IsTaken n (get_or rs i d) = all i d found.0 in rw found.2
      (All-set (IsTaken n) rs i (once_more (get_or rs i d))
      (record { head = was.head; above = was.above }) all)
