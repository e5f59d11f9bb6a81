-- Descriptors in memory, and the routes and pieces that a driver may write, worked out.
use Rattle.std.proofs.Common.{◌≡◌, ◌≢◌, ℕ, zero, suc, ◌+◌, ◌-◌, ◌^◌, ◌<◌, ◌≤◌, true, false, List}
use Rattle.std.proofs.Common.{[], ◌∷◌, ◌++◌, replicate, refl, arith}
use Rattle.std.specs.Prelude.{Some, None, slice_index, slice_index_or}
use Rattle.vb_ram.specs.Pages.{byte_at, field}
use Rattle.vb_chain.specs.declared.{descriptor.Descriptor.Descriptor, pieces.Piece.Piece}
use Rattle.vb_chain.specs.Table.{descriptor_at, FitsBytes, bytes_of}
use Rattle.vb_chain.specs.Written.{empty, IsRoute, AreSound}

abbrev one : ℕ → ℕ → ℕ → ℕ → Descriptor
one addr len flags next = record { addr = addr; len = len; flags = flags; next = next }

-- ---- the bytes of a descriptor: its address, length, flags and next, each lowest byte first

abbrev counting : List ℕ
counting = 1 ∷ 2 ∷ 3 ∷ 4 ∷ 5 ∷ 6 ∷ 7 ∷ 8 ∷ 9 ∷ 10 ∷ 11 ∷ 12 ∷ 13 ∷ 14 ∷ 15 ∷ 16 ∷ []

bytes : bytes_of (one 0x0807060504030201 0x0c0b0a09 0x0e0d 0x100f) ≡ counting
bytes = refl

-- the second of a table in page 1
second : descriptor_at
    (None ∷ Some (record { number = 9; bytes = replicate 16 0 ++ counting }) ∷ []) 1 1 ≡ one 0x0807060504030201 0x0c0b0a09 0x0e0d 0x100f
unfolding descriptor_at field byte_at
second = refl

largest : FitsBytes (one (2 ^ 64 - 1) (2 ^ 32 - 1) (2 ^ 16 - 1) (2 ^ 16 - 1))
largest = record { addr = omega arith; len = omega arith; flags = omega arith; next = omega arith }

too_large : (FitsBytes (one (2 ^ 64) 0 0 0) → ⊥) × (FitsBytes (one 0 (2 ^ 32) 0 0) → ⊥)
    × (FitsBytes (one 0 0 (2 ^ 16) 0) → ⊥) × (FitsBytes (one 0 0 0 (2 ^ 16)) → ⊥)
too_large = (
  λ fits. omega (arith, fits.addr),
  λ fits. omega (arith, fits.len),
  λ fits. omega (arith, fits.flags),
  λ fits. omega (arith, fits.next),
)

-- ---- routes through a table of eight

route : IsRoute 8 (7 ∷ 0 ∷ [])
route = record { inside = inside; apart = apart } where
  inside : (k : ℕ) → k < 2 → slice_index (7 ∷ 0 ∷ []) k < 8
  inside zero lt = omega arith
  inside (suc zero) lt = omega arith
  inside (suc (suc k)) lt = absurd (omega (arith, lt))

  apart : (j k : ℕ) → j < k → k < 2 → slice_index (7 ∷ 0 ∷ []) j ≢ slice_index (7 ∷ 0 ∷ []) k
  apart zero zero lt l = absurd (omega (arith, lt))
  apart zero (suc zero) lt l = λ e. omega (arith, e)
  apart zero (suc (suc k)) lt l = absurd (omega (arith, l))
  apart (suc j) k lt l = absurd (omega (arith, lt, l))

-- one that has a number past the table, and one that comes back at its end
no_route : (IsRoute 8 (7 ∷ 8 ∷ []) → ⊥) × (IsRoute 8 (3 ∷ 5 ∷ 3 ∷ []) → ⊥)
no_route = (
  λ is. omega (arith, is.inside 1 (omega arith)),
  λ is. is.apart 0 2 (omega arith) (omega arith) refl,
)

-- ---- pieces, where memory has 100 bytes

abbrev read : ℕ → ℕ → Piece
read addr len = record { addr = addr; len = len; writable = false }

abbrev written : ℕ → ℕ → Piece
written addr len = record { addr = addr; len = len; writable = true }

sound : AreSound 100 (read 96 4 ∷ written 0 100 ∷ [])
sound = record { some = omega arith; fit = fit; ordered = ordered } where
  fit : (k : ℕ) → k < 2 → (slice_index_or (read 96 4 ∷ written 0 100 ∷ []) k empty).addr
      + (slice_index_or (read 96 4 ∷ written 0 100 ∷ []) k empty).len ≤ 100
  fit zero lt = omega arith
  fit (suc zero) lt = omega arith
  fit (suc (suc k)) lt = absurd (omega (arith, lt))

  ordered : (j k : ℕ) → j < k → k < 2
      → (slice_index_or (read 96 4 ∷ written 0 100 ∷ []) j empty).writable ≡ true
      → (slice_index_or (read 96 4 ∷ written 0 100 ∷ []) k empty).writable ≡ true
  ordered zero zero lt l e = absurd (omega (arith, lt))
  ordered zero (suc zero) lt l e = refl
  ordered zero (suc (suc k)) lt l e = absurd (omega (arith, l))
  ordered (suc j) k lt l e = absurd (omega (arith, lt, l))

of_one : AreSound 100 (written 100 0 ∷ [])
of_one = record { some = omega arith; fit = fit; ordered = λ j k lt l. absurd (omega (arith, lt, l)) }
  where
    fit : (k : ℕ) → k < 1 → (slice_index_or (written 100 0 ∷ []) k empty).addr
        + (slice_index_or (written 100 0 ∷ []) k empty).len ≤ 100
    fit zero lt = omega arith
    fit (suc k) lt = absurd (omega (arith, lt))

-- none, one that goes past the end, and one that is read after another one is written
not_sound : (AreSound 100 [] → ⊥) × (AreSound 100 (read 0 4 ∷ read 96 5 ∷ []) → ⊥)
    × (AreSound 100 (written 0 4 ∷ written 0 4 ∷ read 0 4 ∷ []) → ⊥)
not_sound = (
  λ are. omega (arith, are.some),
  λ are. omega (arith, are.fit 1 (omega arith)),
  λ are. (let wrong : false ≡ true = are.ordered 0 2 (omega arith) (omega arith) refl in cc),
)
