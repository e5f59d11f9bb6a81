-- Counts of pages over the words that have their bits.
use Rattle.std.proofs.lemmas.List.{FromFn.length-range_with_len, Sums.count_by-le-length}
use Rattle.std.proofs.lemmas.{Bool.cases_lt, Nat.Bits.{bit_at-lt, bit_at-suc, bit_at_lowest}}
use Rattle.std.{proofs.lemmas.Nat.{ones_le_self, pow-add}, specs.{Int.bit_at, List.range_with_len}}
use Rattle.std.proofs.Common.{false, refl, sym, ap, ◌∙◌, inl, inr, arith, eqb, count_by, count_ones}
use Rattle.vb_virtio.proofs.Tables.{count_by-cons}
use Rattle.vb_virtio.specs.Tests.{has_bit, one_if}
use lib.Count.{ones_step}
use Rattle.std.proofs.Common.{◌≡◌, ◌≢◌, ℕ, zero, suc, ◌+◌, ◌-◌, ◌*◌, ◌/◌, ◌%◌, ◌^◌, ◌<◌, ◌≤◌, Bool}

-- ---- over numbers in a row

-- one number more
count_next : (f : ℕ → Bool) (a n : ℕ) → count_by f (range_with_len a (suc n))
    ≡ one_if (f a) + count_by f (range_with_len (a + 1) n)
count_next f a n = count_by-cons f a (range_with_len (a + 1) n)

-- where one of two tests passes what a third one does, and never both do
pub count_add : (f g h : ℕ → Bool) (a n : ℕ)
    → ((p : ℕ) → one_if (f p) + one_if (g p) ≡ one_if (h p))
    → count_by f (range_with_len a n) + count_by g (range_with_len a n)
    ≡ count_by h (range_with_len a n)
count_add f g h a zero e = refl
count_add f g h a (suc n) e =
    grind (arith, count_add f g h (a + 1) n e, count_next f a n, count_next g a n, count_next h a n)

pub count_none : (f : ℕ → Bool) (a n : ℕ) → ((p : ℕ) → a ≤ p → p < a + n → f p ≡ false)
    → count_by f (range_with_len a n) ≡ 0
count_none f a zero none = refl
count_none f a (suc n) none =
    grind (arith, count_none f (a + 1) n (λ p from below. none p (omega arith) (omega arith)))

pub count_split : (f : ℕ → Bool) (a m n : ℕ) → count_by f (range_with_len a (m + n))
    ≡ count_by f (range_with_len a m) + count_by f (range_with_len (a + m) n)
count_split f a zero n = grind arith
count_split f a (suc m) n = let same : suc m + n ≡ suc (m + n) = omega arith in
    let start : a + 1 + m ≡ a + suc m = omega arith in
    let whole : count_by f (range_with_len a (suc m + n)) ≡ count_by f
    (range_with_len a (suc (m + n))) = ap (λ (k : ℕ). count_by f (range_with_len a k)) same in
    let rest : count_by f (range_with_len (a + 1 + m) n) ≡ count_by f
    (range_with_len (a + suc m) n) = ap (λ (b : ℕ). count_by f (range_with_len b n)) start in
    omega (arith, whole, rest, count_next f a (m + n), count_next f a m, count_split f (a + 1) m n)

-- numbers that pass are below a bound, and so no more than it
pub count_few : (f : ℕ → Bool) (n bound : ℕ) → ((p : ℕ) → bound ≤ p → f p ≡ false)
    → count_by f (range_with_len 0 n) ≤ bound
count_few f n bound none = elim (cases_lt n bound) [
  | inl less ↦
      omega (arith, less, count_by-le-length f (range_with_len 0 n), length-range_with_len 0 n)
  | inr more ↦
      let rest : ℕ = n - bound in
      let sum : n ≡ bound + rest = omega arith in
      grind (arith, count_none, count_split, count_by-le-length, length-range_with_len)
]

-- ---- over the bits of a word

-- a digit is 1 as often as it says
digit_counts : (d : ℕ) → d < 2 → one_if (eqb d 1) ≡ d
digit_counts d l = grind arith

-- where the numbers from one on pass as the bits of a word are 1
pub count_bits : (f : ℕ → Bool) (x a n : ℕ) → x < 2 ^ n
    → ((i : ℕ) → i < n → f (a + i) ≡ has_bit x i) → count_by f (range_with_len a n) ≡ count_ones x
count_bits f x a zero fits e = grind (arith, ones_le_self x)
count_bits f x a (suc n) fits e = let first : a + 0 ≡ a = omega arith in
    let here : one_if (f a) ≡ x % 2 = ap (λ (k : ℕ). one_if (f k)) (sym first)
    ∙ ap one_if (e 0 (omega arith)) ∙ digit_counts (bit_at x 0) (bit_at-lt x 0) ∙ bit_at_lowest x in
    let power : suc n ≡ n + 1 = omega arith in
    let twice : 2 ^ suc n ≡ 2 ^ n * 2 ^ 1 = ap (λ (k : ℕ). 2 ^ k) power ∙ pow-add 2 n 1 in
    let half : x / 2 < 2 ^ n = omega (arith, twice) in
    let more : count_by f (range_with_len (a + 1) n) ≡ count_ones (x / 2) =
    count_bits f (x / 2) (a + 1) n half (λ i l.
    let next : a + 1 + i ≡ a + suc i = omega arith in
    ap f next ∙ e (suc i) (omega arith) ∙ ap (λ (d : ℕ). eqb d 1) (bit_at-suc x i)) in
    omega (arith, here, more, count_next f a n, ones_step x)

-- and none passes outside of that word
pub count_word : (f : ℕ → Bool) (x w words : ℕ) → x < 2 ^ 64 → w < words
    → ((i : ℕ) → i < 64 → f (64 * w + i) ≡ has_bit x i) → ((p : ℕ) → p / 64 ≢ w → f p ≡ false)
    → count_by f (range_with_len 0 (64 * words)) ≡ count_ones x
count_word f x w words fits within e none = let rest : ℕ = 64 * words - (64 * w + 64) in
    let sum : 64 * words ≡ 64 * w + (64 + rest) = omega arith in
    let whole : count_by f (range_with_len 0 (64 * words)) ≡ count_by f (range_with_len 0
    (64 * w + (64 + rest))) = ap (λ (k : ℕ). count_by f (range_with_len 0 k)) sum in
    let before : count_by f (range_with_len 0 (64 * w)) ≡ 0 =
    count_none f 0 (64 * w) (λ p from below. none p (λ q. omega (arith, q, below))) in
    let start : 0 + 64 * w ≡ 64 * w = omega arith in
    let middle : count_by f (range_with_len (0 + 64 * w) 64) ≡ count_ones x =
    ap (λ (k : ℕ). count_by f (range_with_len k 64)) start ∙ count_bits f x (64 * w) 64 fits e in
    let behind : count_by f (range_with_len (0 + 64 * w + 64) rest) ≡ 0 =
    count_none f (0 + 64 * w + 64) rest (λ p from below. none p (λ q. omega (arith, q, from))) in
    omega (arith, count_split f 0 (64 * w) (64 + rest), count_split f (0 + 64 * w) 64 rest)

-- the words before one, and that one
pub count_more : (f : ℕ → Bool) (x w : ℕ) → x < 2 ^ 64 → ((i : ℕ)
    → i < 64 → f (64 * w + i) ≡ has_bit x i) → count_by f (range_with_len 0 (64 * (w + 1)))
    ≡ count_by f (range_with_len 0 (64 * w)) + count_ones x
count_more f x w fits e =
    grind (arith, count_bits f x (64 * w) 64 fits e, count_split f 0 (64 * w) 64)
