-- Decisions of the same guests in another order.
use Rattle.std.proofs.Common.{◌≡◌, ℕ, ◌+◌, ◌<◌, ◌≤◌, List, sum_by, map, IsPermutation}
use Rattle.std.proofs.Common.{inl, inr, refl, ap, sym, ◌∙◌, arith}
use Rattle.std.proofs.Common.{[], ◌∷◌, Bool, true, false, ◌&&◌, if◌then◌else◌, subst, get_or}
use Rattle.std.proofs.Common.{eqb, slice_get, Some}
use Rattle.std.proofs.lemmas.List.Folds.{sum_by-zero}
use Rattle.std.proofs.lemmas.List.Sorted.{sum_by-IsPermutation}
use Rattle.std.specs.List.{list_all}
use Rattle.vb_policy.specs.declared.guest.Decision.{Decision}
use Rattle.vb_policy.specs.declared.guest.Decision.TheVariants.{Enough, Divided, Short}
use Rattle.vb_policy.specs.declared.guest.Division.{Division}
use Rattle.vb_policy.specs.declared.guest.Guest.{Guest}
use Rattle.vb_policy.specs.declared.guest.Host.{Host}
use Rattle.vb_policy.specs.declared.guest.Tier.{Tier}
use Rattle.vb_policy.specs.declared.guest.Tier.TheVariants.{Reserve, Unused}
use Rattle.vb_policy.specs.Decisions.{Decides, may_stay, short_targets}
use Rattle.vb_policy.specs.Divisions.{Divides, share}
use Rattle.vb_policy.specs.Settling.{base, settled, Settles}
use Rattle.vb_policy.specs.Tiers.{high, through}
use Rattle.vb_policy.proofs.Giving.{all-through-le, rank}
use Rattle.vb_policy.proofs.Maps.{map_at}
use Rattle.vb_policy.proofs.Later.{Grow, IsNoLater, no_later}

same_fields : (d e : Division) → d.tier ≡ e.tier → d.priority ≡ e.priority → d.kept ≡ e.kept
    → d ≡ e
same_fields d e t p k = ap (λ (u : Tier). of u d.priority d.kept) t
    ∙ (ap (λ (n : ℕ). of e.tier n d.kept) p ∙ ap (λ (n : ℕ). of e.tier e.priority n) k) where
      of : Tier → ℕ → ℕ → Division
      of t p k = record { tier = t; priority = p; kept = k }

-- neither is later
neither : (d e : Division) → IsNoLater e d → IsNoLater d e → d ≡ e
neither d e one other = elim one [
  | inl first ↦ elim other [
    | inl last ↦ absurd (omega (arith, first, last))
    | inr rest ↦ absurd (omega (arith, first, ap rank rest.0))
  ]
  | inr here ↦ elim other [
    | inl last ↦ absurd (omega (arith, last, ap rank here.0))
    | inr rest ↦ elim here.1 [
      | inl less ↦ elim rest.1 [
        | inl more ↦ absurd (omega (arith, less, more))
        | inr even ↦ absurd (omega (arith, less, even.0))
      ]
      | inr even ↦ elim rest.1 [
        | inl more ↦ absurd (omega (arith, even.0, more))
        | inr other_even ↦
            same_fields d e (sym here.0) (sym even.0) (omega (arith, even.1, other_even.1))
      ]
    ]
  ]
]

pub same_division : (lack : ℕ) (gs hs : List Guest) (d e : Division) → Grow gs hs → Grow hs gs
    → Divides lack gs d → Divides lack hs e → d ≡ e
same_division lack gs hs d e one other p q = neither d e
    (no_later lack lack gs hs d e (omega arith) one p q)
    (no_later lack lack hs gs e d (omega arith) other q p)

-- ---- the same guests in another order

pub reordered : (gs hs : List Guest) → IsPermutation gs hs → Grow gs hs
reordered gs hs same = record {
  through = λ t. omega (arith, sum_by-IsPermutation (through t) gs hs same);
  high = λ t p. omega (arith, sum_by-IsPermutation (high t p) gs hs same);
  share = λ t p k. omega (arith, sum_by-IsPermutation (share t p k) gs hs same);
}

pub reordered_back : (gs hs : List Guest) → IsPermutation gs hs → Grow hs gs
reordered_back gs hs same = record {
  through = λ t. omega (arith, sum_by-IsPermutation (through t) gs hs same);
  high = λ t p. omega (arith, sum_by-IsPermutation (high t p) gs hs same);
  share = λ t p k. omega (arith, sum_by-IsPermutation (share t p k) gs hs same);
}

-- where all settle to as much, the gaps are the same
same_gap : (host : Host) (gs hs : List Guest) (d e : Division) (m n : ℕ) → d ≡ e
    → ((k : ℕ) → sum_by (settled host e k) hs ≡ sum_by (settled host e k) gs)
    → Settles host gs d m → Settles host hs e n → m ≡ n
same_gap host gs hs d e m n alike sums p q =
    let one : n ≤ m = p.widest n q.fits (omega (
      arith,
      q.enough,
      sums n,
      ap (λ (c : Division). sum_by (settled host c n) gs) alike,
    )) in
    let other : m ≤ n = q.widest m p.fits (omega (
      arith,
      p.enough,
      sums m,
      ap (λ (c : Division). sum_by (settled host c m) gs) alike,
    )) in
    omega (arith, one, other)

-- ---- decisions of different kinds

pub not_divided : (lack missing : ℕ) (gs hs : List Guest) (d : Division) → Grow gs hs
    → Divides lack gs d → 0 < missing → lack ≡ sum_by (through Reserve) hs + missing → ⊥
not_divided lack missing gs hs d grow is some e =
    omega (arith, is.tier, all-through-le d.tier gs, grow.through Reserve, some, e)

pub alike : (host : Host) (gs hs : List Guest) (d e : Decision) (ts us : List ℕ)
    → IsPermutation gs hs → Decides host gs d ts → Decides host hs e us → d ≡ e
alike host gs hs Enough Enough ts us same p q = refl
alike host gs hs Enough (Divided e n) ts us same p q = absurd (omega (arith, p.0, q.0.tier_first))
alike host gs hs Enough (Short m) ts us same p q = absurd (omega (arith, p.0, q.0, q.1))
alike host gs hs (Divided d m) Enough ts us same p q = absurd (omega (arith, q.0, p.0.tier_first))
alike host gs hs (Divided d m) (Divided e n) ts us same p q =
    let division : d ≡ e = same_division host.lack gs hs d e (reordered gs hs same)
    (reordered_back gs hs same) p.0 q.0 in
    let gap : m ≡ n = same_gap host gs hs d e m n division
    (λ k. sum_by-IsPermutation (settled host e k) gs hs same) p.1 q.1 in
    ap (λ (c : Division). Divided c m) division ∙ ap (λ (k : ℕ). Divided e k) gap
alike host gs hs (Divided d m) (Short n) ts us same p q =
    absurd (not_divided host.lack n gs hs d (reordered gs hs same) p.0 q.0 q.1)
alike host gs hs (Short m) Enough ts us same p q = absurd (omega (arith, q.0, p.0, p.1))
alike host gs hs (Short m) (Divided e n) ts us same p q =
    absurd (not_divided host.lack m hs gs e (reordered_back gs hs same) q.0 p.0 p.1)
alike host gs hs (Short m) (Short n) ts us same p q = ap (λ (k : ℕ). Short k) (omega (
  arith,
  p.1,
  q.1,
  sum_by-IsPermutation (through Reserve) gs hs same,
))

-- ---- their targets

-- one for who fails a test
abbrev failed : {X : Type 0} → (X → Bool) → X → ℕ
failed p x = if p x then 0 else 1

same_tests : {X : Type 0} (p : X → Bool) (xs : List X)
    → list_all p xs ≡ list_all (λ x. eqb (failed p x) 0) xs
same_tests p [] = refl
same_tests p (x ∷ xs) = both (p x) (eqb (failed p x) 0) (list_all p xs)
    (list_all (λ x. eqb (failed p x) 0) xs) (tells (p x)) (same_tests p xs) where
      tells : (b : Bool) → b ≡ eqb (if b then 0 else 1) 0
      tells true = refl
      tells false = refl

      both : (a b c d : Bool) → a ≡ b → c ≡ d → (a && c) ≡ (b && d)
      both a b c d e f = ap (λ (x : Bool). x && c) e ∙ ap (λ (x : Bool). b && x) f

-- a test that all pass is passed by all in another order
all_alike : {X : Type 0} (p : X → Bool) (xs ys : List X) → IsPermutation xs ys
    → list_all p xs ≡ list_all p ys
all_alike p xs ys same = same_tests p xs ∙ (sym (sum_by-zero (failed p) xs)
    ∙ (ap (λ (n : ℕ). eqb n 0) (sym (sum_by-IsPermutation (failed p) xs ys same))
    ∙ (sum_by-zero (failed p) ys ∙ sym (same_tests p ys))))

equal_at : (f : Guest → ℕ) (gs hs : List Guest) (i j : ℕ) (g : Guest) (ts us : List ℕ)
    → slice_get gs i ≡ Some g → slice_get hs j ≡ Some g → ts ≡ map f gs → us ≡ map f hs
    → get_or ts i 0 ≡ get_or us j 0
equal_at f gs hs i j g ts us here there p q = omega (
  arith,
  map_at f gs i g here,
  map_at f hs j g there,
  ap (λ (vs : List ℕ). get_or vs i 0) p,
  ap (λ (vs : List ℕ). get_or vs j 0) q,
)

-- what all are asked for on a short host
abbrev short_by : Bool → Guest → ℕ
short_by b g = if b then g.target else g.spare

short_as_map : (host : Host) (gs : List Guest) (b : Bool) → list_all (may_stay host) gs ≡ b
    → short_targets host gs ≡ map (short_by b) gs
short_as_map host gs true e = rw e refl
short_as_map host gs false e = rw e refl

by_one : (host : Host) (gs hs : List Guest) (d : Decision) (ts us : List ℕ) (i j : ℕ) (g : Guest)
    → IsPermutation gs hs → Decides host gs d ts → Decides host hs d us
    → slice_get gs i ≡ Some g → slice_get hs j ≡ Some g → get_or ts i 0 ≡ get_or us j 0
by_one host gs hs Enough ts us i j g same p q here there =
    equal_at (base host Unused 0) gs hs i j g ts us here there p.1 q.1
by_one host gs hs (Divided d n) ts us i j g same p q here there =
    equal_at (settled host d n) gs hs i j g ts us here there p.2 q.2
by_one host gs hs (Short m) ts us i j g same p q here there =
    let all = list_all (may_stay host) gs in
    equal_at (short_by all) gs hs i j g ts us here there (p.2 ∙ short_as_map host gs all refl)
    (q.2 ∙ short_as_map host hs all (sym (all_alike (may_stay host) gs hs same)))

pub alike_at : (host : Host) (gs hs : List Guest) (d e : Decision) (ts us : List ℕ) (i j : ℕ)
    (g : Guest) → IsPermutation gs hs → Decides host gs d ts → Decides host hs e us
    → slice_get gs i ≡ Some g → slice_get hs j ≡ Some g → get_or ts i 0 ≡ get_or us j 0
alike_at host gs hs d e ts us i j g same p q here there =
    by_one host gs hs d ts us i j g same p
    (subst (λ (f : Decision). Decides host hs f us) (sym (alike host gs hs d e ts us same p q)) q)
    here there
