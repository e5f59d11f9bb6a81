-- Zeros written to guest memory.
use Rattle.std.proofs.Common.{◌≡◌, ◌∙◌, sym, ap, arith, ℕ, ◌+◌, ◌<◌, ◌≢◌, ◌&&◌, nat_lt, Bool}
use Rattle.std.{proofs.Common.{true, false, inl, inr}, proofs.lemmas.Bool.{cases_eq, lt-ltb}}
use Rattle.vb_ram.{specs.Pages.{Pages, byte_at, SameBut}, proofs.FieldLaws.same_page}
use Rattle.vb_driver.specs.Coding.{AreZeroed}

-- the pages below n that pass
abbrev pub passed : (ℕ → Bool) → ℕ → ℕ → Bool
passed f n p = f p && nat_lt p n

pub zeroed_none : {m : Pages} (f : ℕ → Bool) → AreZeroed m m (passed f 0)
zeroed_none f = grind arith

other_passed : (f : ℕ → Bool) (n p : ℕ) → p ≢ n → passed f (n + 1) p ≡ passed f n p
other_passed f n p ne = grind arith

-- a page that doesn't pass
pub pages_past : {m1 m2 : Pages} (f : ℕ → Bool) (n : ℕ)
    → f n ≡ false → AreZeroed m1 m2 (passed f n) → AreZeroed m1 m2 (passed f (n + 1))
pages_past f n fails before = grind arith

-- one page of zeros more
pub pages_more : {m1 m2 m3 : Pages} (f : ℕ → Bool) {n : ℕ}
    → f n ≡ true → AreZeroed m1 m2 (passed f n) → ((o : ℕ) → o < 4096 → byte_at m3 n o ≡ 0)
    → SameBut m2 m3 n 0 4096 → AreZeroed m1 m3 (passed f (n + 1))
pages_more {m2} {m3} f {n} passes before zero rest = record {
  zero = λ p o found inside. elim (cases_eq p n) [
    | inl is ↦ ap (λ k. byte_at m3 k o) is ∙ zero o inside
    | inr ne ↦ (same_page m2 m3 p 0 4096 (rest.others p ne)).bytes o (omega arith) inside
        ∙ before.zero p o (sym (other_passed f n p ne) ∙ found) inside
  ];
  others = λ p fails. elim (cases_eq p n) [
    | inl is ↦ absurd (let wrong : true ≡ false = sym (here p is) ∙ fails in cc)
    | inr ne ↦ rest.others p ne ∙ before.others p (sym (other_passed f n p ne) ∙ fails)
  ];
  backing = λ p. rest.backing p ∙ before.backing p;
  sizes = λ p. rest.sizes p ∙ before.sizes p;
  count = rest.count ∙ before.count;
} where
  here : (p : ℕ) → p ≡ n → passed f (n + 1) p ≡ true
  here p is = ap (λ (b : Bool). b && nat_lt p (n + 1)) (ap f is ∙ passes)
      ∙ lt-ltb p (n + 1) (omega (arith, is))

-- once all pages that may pass were visited
pub pages_all : {m1 m2 : Pages} {f : ℕ → Bool} (n : ℕ)
    → ((p : ℕ) → f p ≡ true → p < n) → AreZeroed m1 m2 (passed f n) → AreZeroed m1 m2 f
pages_all n below before = grind arith
