-- Numbers in a row of bytes, written and read.
use Rattle.std.proofs.Common.{◌≡◌, ℕ, suc, ◌+◌, ◌^◌, ◌<◌, ◌≤◌, List, ◌∷◌, ◌++◌, length, get_or}
use Rattle.std.proofs.Common.{drop-cons, take, drop, sym, ◌∙◌, ap, arith}
use Rattle.std.proofs.lemmas.Nat.{le_bytes_2, le_bytes_4, le_bytes_8}
use Rattle.std.proofs.lemmas.List.{take-append-drop, get_or-take, get_or-drop, get_or_past}
use Rattle.std.proofs.lemmas.List.{length-take, length-take-le, length-drop, drop-drop}
use Rattle.vb_core.specs.Format.{u16_bytes, u32_bytes, u64_bytes, u16_at, u32_at, u64_at}

abbrev pub AreBytes : List ℕ → Type 0
AreBytes bytes = (i : ℕ) → get_or bytes i 0 < 256

-- what comes after a part that is read
behind : (bytes more : List ℕ) (size p next : ℕ) → next ≡ p + size
    → drop size (drop p bytes) ≡ more → drop next bytes ≡ more
behind bytes more size p next q e =
    ap (λ (k : ℕ). drop k bytes) q ∙ sym (drop-drop size p bytes) ∙ e

-- ---- what was written is read

pub u16_then : (n : ℕ) (more bytes : List ℕ) (p next : ℕ) → n < 65536 → next ≡ p + 2
    → drop p bytes ≡ u16_bytes n ++ more → (u16_at bytes p ≡ n) × (drop next bytes ≡ more)
unfolding u16_bytes u16_at
u16_then n more bytes p next h q e =
    grind (arith, behind bytes more 2 p next q (ap (λ (xs : List ℕ). drop 2 xs) e))

pub u32_then : (n : ℕ) (more bytes : List ℕ) (p next : ℕ) → n < 2 ^ 32 → next ≡ p + 4
    → drop p bytes ≡ u32_bytes n ++ more → (u32_at bytes p ≡ n) × (drop next bytes ≡ more)
unfolding u32_bytes u32_at
u32_then n more bytes p next h q e =
    grind (arith, behind bytes more 4 p next q (ap (λ (xs : List ℕ). drop 4 xs) e))

pub u64_then : (n : ℕ) (more bytes : List ℕ) (p next : ℕ) → n < 2 ^ 64 → next ≡ p + 8
    → drop p bytes ≡ u64_bytes n ++ more → (u64_at bytes p ≡ n) × (drop next bytes ≡ more)
unfolding u64_bytes u64_at
u64_then n more bytes p next h q e =
    grind (arith, behind bytes more 8 p next q (ap (λ (xs : List ℕ). drop 8 xs) e))

pub byte_then : (n : ℕ) (more bytes : List ℕ) (p next : ℕ) → next ≡ p + 1
    → drop p bytes ≡ n ∷ more → (get_or bytes p 0 ≡ n) × (drop next bytes ≡ more)
byte_then n more bytes p next q e = grind (
  arith,
  behind bytes more 1 p next q (ap (λ (xs : List ℕ). drop 1 xs) e),
  get_or-drop p bytes 0 0,
)

-- ---- what is read is what was written

-- a part, and what comes after it
split : (bytes part : List ℕ) (size p next : ℕ) → next ≡ p + size
    → part ≡ take size (drop p bytes) → drop p bytes ≡ part ++ drop next bytes
split bytes part size p next q e =
    grind (arith, take-append-drop size (drop p bytes), drop-drop size p bytes)

length_part : (bytes : List ℕ) (size p next : ℕ) → next ≡ p + size → next ≤ length bytes
    → length (take size (drop p bytes)) ≡ size
length_part bytes size p next q l =
    length-take-le size (drop p bytes) (omega (arith, q, l, length-drop p bytes))

byte_of_part : (bytes : List ℕ) (size p : ℕ) → AreBytes bytes → AreBytes (take size (drop p bytes))
byte_of_part bytes size p all i = grind (arith, get_or-take, get_or-drop, get_or_past, length-take)

pub u16_again : (bytes : List ℕ) (p next : ℕ) → AreBytes bytes → next ≡ p + 2
    → next ≤ length bytes → drop p bytes ≡ u16_bytes (u16_at bytes p) ++ drop next bytes
unfolding u16_bytes u16_at
u16_again bytes p next all q l = search (arith, split, le_bytes_2, length_part, byte_of_part)

pub u32_again : (bytes : List ℕ) (p next : ℕ) → AreBytes bytes → next ≡ p + 4
    → next ≤ length bytes → drop p bytes ≡ u32_bytes (u32_at bytes p) ++ drop next bytes
unfolding u32_bytes u32_at
u32_again bytes p next all q l = search (arith, split, le_bytes_4, length_part, byte_of_part)

pub u64_again : (bytes : List ℕ) (p next : ℕ) → AreBytes bytes → next ≡ p + 8
    → next ≤ length bytes → drop p bytes ≡ u64_bytes (u64_at bytes p) ++ drop next bytes
unfolding u64_bytes u64_at
u64_again bytes p next all q l = search (arith, split, le_bytes_8, length_part, byte_of_part)

pub byte_again : (bytes : List ℕ) (p next : ℕ) → next ≡ p + 1 → next ≤ length bytes
    → drop p bytes ≡ get_or bytes p 0 ∷ drop next bytes
byte_again bytes p next q l = let e : suc p ≡ next = omega (arith, q) in
    drop-cons bytes p 0 (omega (arith, q, l))
    ∙ ap {B = List ℕ} (λ (k : ℕ). get_or bytes p 0 ∷ drop k bytes) e
