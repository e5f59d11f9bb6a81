-- Sums and counts over all guests, where one of them changes.
use Rattle.vb_virtio.proofs.Tables.{count_by-cons}
use Rattle.vb_virtio.specs.Tests.{one_if}
use Rattle.std.proofs.Common.{◌≡◌, inl}
use Rattle.vb_model.specs.Guest.{Guest}
use Rattle.std.proofs.Common.{ℕ, ◌≤◌, true, cond, List, ◌∷◌, ap, ◌∙◌, arith, Option, Some, None}
use Rattle.std.proofs.Common.{zero, suc, ◌+◌, Bool, false, [], refl, inr, sum_by, is_some, count_by}
use Rattle.{std.specs.Prelude.{◌==◌, slice_index_or}, vb_slot.specs.Steps.{is_frame, backing_count}}
use Rattle.std.proofs.lemmas.{List.Sums.sum_by-cons, Bool.{cases_lt, Decides.eqb_tells}}
use Rattle.vb_model.specs.HostFrames.{IsOut}
use Rattle.vb_model.specs.World.{World, guest_at, with_guest}
use Rattle.{vb_frames.specs.Out.is_out, vb_world.specs.Hosts.{backing_at, backing_of}}

pub sum-with : (m : Option Guest → ℕ) → m None ≡ 0
    → (n : ℕ) (x : Option Guest) (gs : List (Option Guest))
    → sum_by m (with_guest n x gs) + m (guest_at gs n) ≡ sum_by m gs + m x
sum-with m z zero x [] = omega (arith, sum_by-cons m x [], z)
sum-with m z zero x (y ∷ gs) = omega (arith, sum_by-cons m x gs, sum_by-cons m y gs)
sum-with m z (suc n) x [] =
    omega (arith, sum_by-cons m None (with_guest n x []), sum-with m z n x [], z)
sum-with m z (suc n) x (y ∷ gs) =
    omega (arith, sum_by-cons m y (with_guest n x gs), sum_by-cons m y gs, sum-with m z n x gs)

pub backing-with : (f n : ℕ) (x : Option Guest) (gs : List (Option Guest))
    → backing_of f (with_guest n x gs) + backing_at f (guest_at gs n)
    ≡ backing_of f gs + backing_at f x
backing-with f = sum-with (backing_at f) refl

pub count-with : (n : ℕ) (x : Option Guest) (gs : List (Option Guest))
    → count_by is_some (with_guest n x gs) + cond (is_some (guest_at gs n)) 1 0
    ≡ count_by is_some gs + cond (is_some x) 1 0
count-with n x gs = sum-with (λ y. cond (is_some y) 1 0) refl n x gs

-- a guest's count is part of the sum
pub backing-part : (f n : ℕ) (gs : List (Option Guest)) (g : Guest) → guest_at gs n ≡ Some g
    → backing_count f g ≤ backing_of f gs
backing-part f zero [] g e = absurd (cc e)
backing-part f (suc n) [] g e = absurd (cc e)
backing-part f zero (y ∷ gs) g e =
    let a = ap (backing_at f) e in omega (arith, sum_by-cons (backing_at f) y gs, a)
backing-part f (suc n) (y ∷ gs) g e =
    omega (arith, sum_by-cons (backing_at f) y gs, backing-part f n gs g e)

-- ---- frames that back pages

same_number : (f : ℕ) → (f == f) ≡ true
same_number f = grind arith

framed : (f p : ℕ) (frames : List (Option ℕ)) → slice_index_or frames p None ≡ Some f
    → 1 ≤ count_by (is_frame f) frames
framed f zero [] e = absurd (cc e)
framed f (suc p) [] e = absurd (cc e)
framed f zero (x ∷ xs) e = let a : is_frame f x ≡ true = ap (is_frame f) e ∙ same_number f in
    let b = ap one_if a in omega (arith, count_by-cons (is_frame f) x xs, b)
framed f (suc p) (x ∷ xs) e = omega (arith, count_by-cons (is_frame f) x xs, framed f p xs e)

pub page_of : (f : ℕ) (frames : List (Option ℕ)) → 1 ≤ count_by (is_frame f) frames
    → (p : ℕ) × (slice_index_or frames p None ≡ Some f)
page_of f [] h = absurd (omega arith)
page_of f (None ∷ xs) h =
    let (p, e) = page_of f xs (omega (arith, count_by-cons (is_frame f) None xs)) in (suc p, e)
page_of f (Some k ∷ xs) h = elim (eqb_tells k f) [
  | inl same ↦ (0, ap (λ (n : ℕ). Some n) same.1)
  | inr other ↦
      let b = ap one_if other.0 in
      let (p, e) = page_of f xs (omega (arith, h, b, count_by-cons (is_frame f) (Some k) xs)) in
      (suc p, e)
]

-- what a guest of the world says of a frame
pub record IsBehind (f : ℕ) (gs : List (Option Guest)) : Type 0 where
  pub n : ℕ
  pub guest : Guest
  pub there : guest_at gs n ≡ Some guest
  pub page : ℕ
  pub has : slice_index_or guest.frames page None ≡ Some f

pub behind : (f : ℕ) (gs : List (Option Guest)) → 1 ≤ backing_of f gs → IsBehind f gs
behind f [] h = absurd (omega arith)
behind f (None ∷ gs) h =
    let b = behind f gs (omega (arith, h, sum_by-cons (backing_at f) None gs)) in
    record { n = suc b.n; guest = b.guest; there = b.there; page = b.page; has = b.has }
behind f (Some g ∷ gs) h = elim (cases_lt 0 (backing_count f g)) [
  | inl some ↦
      let (p, e) = page_of f g.frames (omega (arith, some)) in
      record { n = 0; guest = g; there = refl; page = p; has = e }
  | inr none ↦
      let b = behind f gs (omega (arith, h, none, sum_by-cons (backing_at f) (Some g) gs)) in
      record { n = suc b.n; guest = b.guest; there = b.there; page = b.page; has = b.has }
]

one_is : (b : Bool) → 1 ≤ one_if b → b ≡ true
one_is true h = refl
one_is false h = absurd (omega arith)

-- the frames that are out are those that back pages
pub out_backs : (w : World) (out : List Bool) → ((f : ℕ)
    → backing_of f w.guests ≡ one_if (is_out out f)) → (f : ℕ) → is_out out f ≡ true → IsOut w f
out_backs w out backed f e = let a = ap one_if e in
    let b = behind f w.guests (omega (arith, backed f, a)) in
    (b.n, b.page, record { guest = b.guest; is_there = b.there; has = b.has })

pub backs_out : (w : World) (out : List Bool) → ((f : ℕ)
    → backing_of f w.guests ≡ one_if (is_out out f)) → (f : ℕ) → IsOut w f → is_out out f ≡ true
backs_out w out backed f (n, p, b) = one_is (is_out out f) (omega (
  arith,
  backed f,
  backing-part f n w.guests b.guest b.is_there,
  framed f p b.guest.frames b.has,
))
