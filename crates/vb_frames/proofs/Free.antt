-- The frames that are out are those that aren't free.
use Rattle.std.proofs.Common.{◌≡◌, ℕ, ◌+◌, ◌<◌, Bool, true, false, List, [], ◌∷◌, length, map, not}
use Rattle.std.{proofs.Common.{replicate, refl, ap, ◌∙◌, arith, zero, suc}, specs.Prelude.count_by}
use Rattle.std.proofs.lemmas.Bool.{cases_lt, false≢true}
use Rattle.std.proofs.lemmas.List.{get_or-map, get_or_past, length-map}
use Rattle.vb_virtio.specs.Tests.{one_if}
use Rattle.vb_virtio.proofs.Tables.{count_by-cons}
use Rattle.vb_bits.specs.Sets.{has, HasNoneFrom, IsLeastFrom}
use Rattle.vb_frames.specs.Out.{is_out, IsFree, AllOut}

-- a frame is out exactly where it isn't free
pub out_is : (free : List Bool) (n : ℕ) → n < length free
    → is_out (map not free) n ≡ not (has free n)
out_is free n l = get_or-map not free n false false l

free_within : (free : List Bool) (n : ℕ) → has free n ≡ true → n < length free
free_within free n e = search (arith, cases_lt, false≢true, get_or_past)

pub all_out : (free : List Bool) → HasNoneFrom free 0 → AllOut (map not free)
all_out free none n l =
    out_is free n (omega (arith, l, length-map free not)) ∙ ap not (none n (omega arith))

pub least_free : (free : List Bool) (n : ℕ) → IsLeastFrom free 0 n
    → IsFree (map not free) n × ((m : ℕ) → m < n → is_out (map not free) m ≡ true)
least_free free n s = let within = free_within free n s.member in search (arith, length-map, out_is)

pub none_out : (n : ℕ) → map not (replicate n true) ≡ replicate n false
none_out zero = refl
none_out (suc n) = ap (λ (xs : List Bool). false ∷ xs) (none_out n)

-- each frame is out or free
pub count_out : (free : List Bool)
    → count_by (λ b. b) (map not free) + count_by (λ b. b) free ≡ length free
count_out [] = refl
count_out (b ∷ free) = omega (
  arith,
  count_out free,
  count_by-cons (λ (f : Bool). f) (not b) (map not free),
  count_by-cons (λ (f : Bool). f) b free,
  one_of b,
) where
  one_of : (b : Bool) → one_if (not b) + one_if b ≡ 1
  one_of true = refl
  one_of false = refl
