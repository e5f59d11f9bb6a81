-- Multiples of a number, and of powers of two.
use Rattle.std.proofs.Common.{◌≡◌, ℕ, suc, ◌+◌, ◌-◌, ◌*◌, ◌/◌, ◌%◌, ◌^◌, ◌<◌, ◌≤◌, ◌∙◌, ap, min}
use Rattle.std.{proofs.Common.arith, proofs.Math.Pow.pow_mono}
use Rattle.std.proofs.lemmas.Nat.{div-add-mod', div-mul-add, mod-mul-add, pow-add, pow_pos}

pub multiple_of : (a m : ℕ) → a % m ≡ 0 → (a / m) * m ≡ a
multiple_of a m h = omega (arith, div-add-mod' a m, h)

pub zero_mod : (x m : ℕ) → 0 < m → (x * m) % m ≡ 0
zero_mod x m h = let e : x * m ≡ x * m + 0 = omega arith in
    ap (λ (n : ℕ). n % m) e ∙ mod-mul-add x m 0 h

pub times_div : (x m : ℕ) → 0 < m → (x * m) / m ≡ x
times_div x m h = let e : x * m ≡ x * m + 0 = omega arith in
    ap (λ (n : ℕ). n / m) e ∙ div-mul-add x m 0 h

-- which multiple it is, where one more fits
pub block_fits : (a n m : ℕ) → 0 < m → a % m ≡ 0 → a + m ≤ n → a / m < n / m
block_fits a n m pos h l = grind arith

-- the multiples from a number on
pub div_ceil_le : (n b m : ℕ) → 0 < m → n ≤ b * m → n / m + min 1 (n % m) ≤ b
div_ceil_le n b m pos l = grind arith

pub div_ceil_from : (n b m : ℕ) → 0 < m → n / m + min 1 (n % m) ≤ b → n ≤ b * m
div_ceil_from n b m pos l = grind arith

-- the next multiple
pub aligned_step : (a e m : ℕ) → a % m ≡ 0 → e % m ≡ 0 → a < e → a + m ≤ e
aligned_step a e m ha he h = grind arith

-- two multiples less than one step apart
pub aligned_same : (a b m p : ℕ) → a % m ≡ 0 → b % m ≡ 0 → a ≤ p → p < a + m → b ≤ p → p < b + m
    → a ≡ b
aligned_same a b m p ha hb al ah bl bh = grind arith

pub aligned_add : (a b m : ℕ) → 0 < m → a % m ≡ 0 → b % m ≡ 0 → (a + b) % m ≡ 0
aligned_add a b m pos ha hb = grind (arith, zero_mod (a / m + b / m) m pos)

aligned_mul : (x b m : ℕ) → 0 < m → b % m ≡ 0 → (x * b) % m ≡ 0
aligned_mul x b m pos hb = grind (arith, zero_mod (x * (b / m)) m pos)

pub pow_aligned : (j k : ℕ) → j ≤ k → (2 ^ k) % 2 ^ j ≡ 0
pow_aligned j k h = grind (arith, pow-add 2 (k - j) j)

-- a multiple of a power is one of the lower powers too
pub aligned_down : (s j k : ℕ) → j ≤ k → s % 2 ^ k ≡ 0 → s % 2 ^ j ≡ 0
aligned_down s j k h e =
    grind (arith, aligned_mul (s / 2 ^ k) (2 ^ k) (2 ^ j) (pow_pos j) (pow_aligned j k h))

pub end_aligned : (s j k : ℕ) → j ≤ k → s % 2 ^ k ≡ 0 → (s + 2 ^ k) % 2 ^ j ≡ 0
end_aligned s j k h e =
    aligned_add s (2 ^ k) (2 ^ j) (pow_pos j) (aligned_down s j k h e) (pow_aligned j k h)

pub pow_twice : (j : ℕ) → 2 ^ suc j ≡ 2 ^ j + 2 ^ j
pow_twice j = grind arith

-- the start of the aligned block in which a page lies
pub floor_aligned : (p m : ℕ) → 0 < m → (p - p % m) % m ≡ 0
floor_aligned p m pos = grind arith

-- the half that a block makes up of the next larger one
pub right_half : (s k : ℕ) → s % 2 ^ suc k ≡ 0 → (s + 2 ^ k) % 2 ^ suc k ≡ 0 → ⊥
right_half s k a b = grind (arith, pow_pos)

pub left_of : (s k : ℕ) → s % 2 ^ k ≡ 0 → (s % 2 ^ suc k ≡ 0 → ⊥)
    → (2 ^ k ≤ s) × ((s - 2 ^ k) % 2 ^ suc k ≡ 0)
left_of s k a n = let m = 2 ^ k in
    let q = s - s % 2 ^ suc k in
    let twice : 2 ^ suc k ≡ 2 ^ k + 2 ^ k = pow_twice k in
    let pos : 0 < 2 ^ k = pow_pos k in
    let some : 0 < s % 2 ^ suc k = omega arith in
    let qa : q % 2 ^ suc k ≡ 0 = floor_aligned s (2 ^ suc k) (omega arith) in
    let qd : q % 2 ^ k ≡ 0 = aligned_down q k (suc k) (omega arith) qa in
    let step : q + 2 ^ k ≤ s = aligned_step q s (2 ^ k) qd a (omega arith) in
    let qe : (q + 2 ^ k) % 2 ^ k ≡ 0 = end_aligned q k k (omega arith) qd in
    grind (arith, aligned_same)

pub pow_small : (k : ℕ) → k ≤ 9 → 2 ^ k ≤ 512
pow_small k h = let m : 2 ^ k ≤ 2 ^ 9 = pow_mono h in m
