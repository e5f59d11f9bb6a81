-- What a range of numbers has.
use Rattle.std.specs.Prelude.{ℕ, Bool, false, ◌==◌, ◌<◌, true, ◌≡◌, ◌+◌, ◌||◌, ◌≤◌}
use Rattle.vb_virtio.specs.Tests.{is_in}
use Rattle.std.specs.List.{range_with_len}
use Rattle.std.proofs.Common.{arith, inl, inr, refl, suc, zero}
use Rattle.std.proofs.lemmas.Bool.{eqb-true, or_cases}

-- the pages of a block are those that it covers
pub is_in-range : (page start len : ℕ) → is_in page (range_with_len start len) ≡ true
    → (start ≤ page) × (page < start + len)
is_in-range page start zero h = absurd cc
is_in-range page start (suc len) h =
    elim (or_cases (start == page) (is_in page (range_with_len (start + 1) len)) h) [
      | inl e ↦ let q : start ≡ page = eqb-true start page e in (omega arith, omega arith)
      | inr m ↦ let q = is_in-range page (start + 1) len m in (omega arith, omega arith)
    ]

pub outside-range : (page start len : ℕ) → is_in page (range_with_len start len) ≡ false
    → (start ≤ page) → (page < start + len) → ⊥
outside-range page start zero h a b = omega arith
outside-range page start (suc len) h a b = step (start == page)
    (is_in page (range_with_len (start + 1) len)) refl h (outside-range page (start + 1) len)
  where
    step : (b c : Bool) → (start == page) ≡ b → (b || c) ≡ false
        → (c ≡ false → (start + 1 ≤ page) → (page < (start + 1) + len) → ⊥) → ⊥
    step true c q h ih = cc
    step false c q h ih = grind (arith, h)
