-- How many frames are out is how many back pages.
use Rattle.std.{proofs.Common.{◌≡◌, ◌≢◌, ℕ, zero, suc}, specs.Prelude.{◌==◌, slice_index_or}}
use Rattle.std.proofs.Common.{◌+◌, ◌<◌, Bool, true, List, [], ◌∷◌, length, refl, sym, ap, ◌∙◌, inl}
use Rattle.std.proofs.Common.{inr, arith, sum_by, Option, Some, None, is_some, count_by, filter_map}
use Rattle.std.proofs.lemmas.{List.Sums.sum_by-cons, Bool.{false≢true, Decides.eqb_tells}}
use Rattle.vb_virtio.proofs.Tables.{count_by-cons}
use Rattle.vb_virtio.specs.Tests.{one_if}
use Rattle.vb_model.specs.Guest.{Guest, backed_count}
use Rattle.vb_model.specs.World.{World, guest_at}
use Rattle.vb_model.specs.HostFrames.{used_frames}
use Rattle.{vb_slot.specs.Steps.is_frame, vb_frames.specs.Out.is_out}
use Rattle.vb_world.{specs.Hosts.{backing_at, backing_of}, proofs.Guests.backs_out}

-- the sum over the numbers below n
abbrev sum_below : ℕ → (ℕ → ℕ) → ℕ
sum_below zero h = 0
sum_below (suc n) h = h 0 + sum_below n (λ k. h (suc k))

below_same : (n : ℕ) (a b : ℕ → ℕ) → ((k : ℕ) → k < n → a k ≡ b k) → sum_below n a ≡ sum_below n b
below_same zero a b e = refl
below_same (suc n) a b e = omega (
  arith,
  e 0 (omega arith),
  below_same n (λ k. a (suc k)) (λ k. b (suc k)) (λ k l. e (suc k) (omega (arith, l))),
)

below_sum : (n : ℕ) (a b : ℕ → ℕ) → sum_below n (λ k. a k + b k) ≡ sum_below n a + sum_below n b
below_sum zero a b = omega arith
below_sum (suc n) a b = omega (arith, below_sum n (λ k. a (suc k)) (λ k. b (suc k)))

below_none : (n : ℕ) → sum_below n (λ k. 0) ≡ 0
below_none zero = refl
below_none (suc n) = omega (arith, below_none n)

differ : (j k : ℕ) → j ≢ k → one_if (j == k) ≡ 0
differ j k ne =
    elim (eqb_tells j k) [ inl same ↦ absurd (ne same.1) | inr other ↦ ap one_if other.0 ]

zero_other : (k : ℕ) → one_if (0 == suc k) ≡ 0
zero_other k = differ 0 (suc k) (λ e. omega (arith, e))

same_suc : (j : ℕ) → one_if (j == j) ≡ 1
same_suc j =
    elim (eqb_tells j j) [ inl same ↦ ap one_if same.0 | inr other ↦ absurd (other.1 refl) ]

suc_same : (j k : ℕ) → one_if (suc j == suc k) ≡ one_if (j == k)
suc_same j k = elim (eqb_tells j k) [
  | inl same ↦ ap (λ (n : ℕ). one_if (suc j == suc n)) (sym same.1)
      ∙ (same_suc (suc j) ∙ sym (ap one_if same.0))
  | inr other ↦ differ (suc j) (suc k) (λ e. other.1 (omega (arith, e))) ∙ sym (differ j k other.1)
]

below_one : (n k : ℕ) → k < n → sum_below n (λ f. one_if (k == f)) ≡ 1
below_one zero k l = absurd (omega arith)
below_one (suc n) zero l = omega (
  arith,
  below_none n,
  below_same n (λ f. one_if (0 == suc f)) (λ f. 0) (λ f m. zero_other f),
)
below_one (suc n) (suc k) l = omega (
  arith,
  below_one n k (omega (arith, l)),
  below_same n (λ f. one_if (suc k == suc f)) (λ f. one_if (k == f)) (λ f m. suc_same k f),
  differ (suc k) 0 (λ e. omega (arith, e)),
)

below_flags : (out : List Bool)
    → sum_below (length out) (λ f. one_if (is_out out f)) ≡ count_by (λ b. b) out
below_flags [] = refl
below_flags (b ∷ bs) = omega (arith, below_flags bs, count_by-cons (λ c. c) b bs)

below_frames : (n : ℕ) (frames : List (Option ℕ))
    → ((p f : ℕ) → slice_index_or frames p None ≡ Some f → f < n)
    → sum_below n (λ f. count_by (is_frame f) frames) ≡ count_by (λ frame. is_some frame) frames
below_frames n [] h = below_none n
below_frames n (x ∷ xs) h = let more = below_frames n xs (λ p f e. h (suc p) f e) in
    let split = below_same n (λ f. count_by (is_frame f) (x ∷ xs)) (λ f. one_if
    (is_frame f x) + count_by (is_frame f) xs) (λ f l. count_by-cons (is_frame f) x xs) in
    let sum = below_sum n (λ f. one_if (is_frame f x)) (λ f. count_by (is_frame f) xs) in
    let first = here x (h 0) in
    omega (arith, more, split, sum, first, count_by-cons (λ frame. is_some frame) x xs)
  where
    here : (x : Option ℕ) → ((f : ℕ) → x ≡ Some f → f < n)
        → sum_below n (λ f. one_if (is_frame f x)) ≡ one_if (is_some x)
    here None h = below_none n
    here (Some k) h = below_one n k (h k refl)

-- the guests that there are
abbrev there_are : List (Option Guest) → List Guest
there_are gs = filter_map (λ guest. guest) gs

below_guests : (n : ℕ) (gs : List (Option Guest))
    → ((i p f : ℕ) (g : Guest) → guest_at gs i ≡ Some g → slice_index_or g.frames p None ≡ Some f
    → f < n) → sum_below n (λ f. backing_of f gs) ≡ sum_by backed_count (there_are gs)
below_guests n [] h = below_none n
below_guests n (x ∷ xs) h = let more = below_guests n xs (λ i p f g e. h (suc i) p f g e) in
    let split = below_same n (λ f. backing_of f (x ∷ xs)) (λ f. backing_at f x + backing_of f xs)
    (λ f l. sum_by-cons (backing_at f) x xs) in
    let sum = below_sum n (λ f. backing_at f x) (λ f. backing_of f xs) in
    let first = here x (λ p f g e. h 0 p f g e) in omega (arith, more, split, sum, first)
  where
    here : (x : Option Guest)
        → ((p f : ℕ) (g : Guest) → x ≡ Some g → slice_index_or g.frames p None ≡ Some f → f < n)
        → sum_below n (λ f. backing_at f x) + sum_by backed_count (there_are xs)
        ≡ sum_by backed_count (there_are (x ∷ xs))
    here None h = omega (arith, below_none n)
    here (Some g) h = omega (
      arith,
      below_frames n g.frames (λ p f e. h p f g refl e),
      sum_by-cons backed_count g (there_are xs),
    )

out_within : (out : List Bool) (f : ℕ) → is_out out f ≡ true → f < length out
out_within [] f e = absurd (false≢true e)
out_within (b ∷ bs) zero e = omega arith
out_within (b ∷ bs) (suc f) e = omega (arith, out_within bs f e)

pub used_are_out : (w : World) (out : List Bool) → ((f : ℕ)
    → backing_of f w.guests ≡ one_if (is_out out f)) → used_frames w ≡ count_by (λ b. b) out
used_are_out w out backed =
    let guests = below_guests (length out) w.guests (λ i p f g there has. out_within out f
    (backs_out w out backed f (i, p, record { guest = g; is_there = there; has = has }))) in
    sym guests ∙ (below_same (length out) (λ f. backing_of f w.guests) (λ f. one_if (is_out out f))
    (λ f l. backed f) ∙ below_flags out)
