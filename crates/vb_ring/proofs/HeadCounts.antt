-- How often a head is in a list, and lists whose heads are all in another one.
use Rattle.std.specs.Prelude.{◌≡◌, ◌≢◌, ℕ, zero, suc, ◌+◌, ◌-◌, ◌<◌, ◌≤◌, ◌==◌, List, [], ◌∷◌, ◌++◌}
use Rattle.std.{specs.Prelude.{length, take, slice_index_or, refl}, proofs.lemmas.Bool.cases_eq}
use Rattle.std.proofs.{Common.{ap, arith, inl, inr, eq-eqb}, lemmas.List.length-map}
use Rattle.vb_virtio.specs.Tests.{one_if}
use Rattle.vb_virtio.proofs.Tables.{count_by-append, count_by-cons}
use Rattle.{vb_ram.specs.Pages.Pages, vb_ring.specs.Meaning.{UsedElem, no_elem, ids, times, Shows}}
use Rattle.vb_ring.specs.declared.layout.Layout.{Layout}

-- ---- how often a head is in a list

pub one_is : (h j : ℕ) → h ≡ j → one_if (h == j) ≡ 1
one_is h j e = ap one_if (eq-eqb h j e)

pub one_other : (h j : ℕ) → h ≢ j → one_if (h == j) ≡ 0
one_other h j ne = grind arith

pub times-push : (j : ℕ) (hs : List ℕ) (h : ℕ)
    → times j (hs ++ h ∷ []) ≡ times j hs + one_if (h == j)
times-push j hs h = grind (arith, count_by-append)

pub ids-push : (elems : List UsedElem) (e : UsedElem)
    → ids (elems ++ e ∷ []) ≡ ids elems ++ e.id ∷ []
ids-push [] e = refl
ids-push (x ∷ xs) e = ap (λ (ys : List ℕ). x.id ∷ ys) (ids-push xs e)

take_next : (xs : List UsedElem) (n : ℕ) → n < length xs
    → take (suc n) xs ≡ take n xs ++ slice_index_or xs n no_elem ∷ []
take_next [] n h = absurd (omega arith)
take_next (x ∷ xs) zero h = refl
take_next (x ∷ xs) (suc n) h = ap (λ (ys : List UsedElem). x ∷ ys) (take_next xs n (omega arith))

-- One used element more.
pub times-next : (j : ℕ) (elems : List UsedElem) (n : ℕ) → n < length elems
    → times j (ids (take (n + 1) elems))
    ≡ times j (ids (take n elems)) + one_if ((slice_index_or elems n no_elem).id == j)
times-next j elems n h = grind (arith, take_next, ids-push, times-push)

-- The first n have a head at most as often as all.
pub times-take : (j : ℕ) (elems : List UsedElem) (n : ℕ)
    → times j (ids (take n elems)) ≤ times j (ids elems)
times-take j [] n = omega (arith, ap (λ (es : List UsedElem). times j (ids es)) (none n)) where
  none : (n : ℕ) → take {A = UsedElem} n [] ≡ []
  none zero = refl
  none (suc n) = refl
times-take j (e ∷ es) zero = omega arith
times-take j (e ∷ es) (suc n) = grind (
  arith,
  count_by-cons (λ k. k == j) e.id (ids (take n es)),
  count_by-cons (λ k. k == j) e.id (ids es),
  times-take j es n,
)

-- ---- a list whose heads are among another's

-- A head that occurs is somewhere, and without it all others occur as often.
without : (xs : List ℕ) (h : ℕ) → 0 < times h xs → (ys : List ℕ) × (length xs ≡ length ys + 1)
    × ((j : ℕ) → times j xs ≡ times j ys + one_if (h == j))
without [] h some = absurd (omega arith)
without (x ∷ xs) h some = elim (cases_eq x h) [
  | inl e ↦ (
    xs,
    omega arith,
    λ j. omega (arith, count_by-cons (λ k. k == j) x xs, ap (λ n. one_if (n == j)) e),
  )
  | inr ne ↦
      let rest = without xs h
      (omega (arith, count_by-cons (λ k. k == h) x xs, one_other x h ne, some)) in (
        x ∷ rest.0,
        omega (arith, rest.1),
        λ j. omega (
          arith,
          count_by-cons (λ k. k == j) x xs,
          count_by-cons (λ k. k == j) x rest.0,
          rest.2 j,
        ),
      )
]

-- Such a list is no longer.
pub among-length : (xs ys : List ℕ) → ((j : ℕ) → times j xs ≤ times j ys) → length xs ≤ length ys
among-length [] ys h = omega arith
among-length (x ∷ xs) ys h =
    let first : 0 < times x ys =
    omega (arith, h x, count_by-cons (λ k. k == x) x xs, one_is x x refl) in
    let rest = without ys x first in
    let less : length xs ≤ length rest.0 = among-length xs rest.0
    (λ j. omega (arith, h j, count_by-cons (λ k. k == j) x xs, rest.2 j)) in
    omega (arith, less, rest.1)

-- A ring shows no more used elements than heads.
pub fewer_used : (mem : Pages) (l : Layout) (q : ℕ) (heads : List ℕ) (elems : List UsedElem)
    → Shows mem l q heads elems → length elems ≤ length heads
fewer_used mem l q heads elems shows =
    omega (arith, among-length (ids elems) heads shows.among, length-map elems (λ e. e.id))
