-- What a frame shows by the bytes that it holds.
use Rattle.std.specs.Prelude.{◌≡◌, ℕ, ◌+◌, ◌<◌, ◌≤◌, ◌-◌, List, ◌++◌, length, drop, slice_index}
use Rattle.std.{specs.Prelude.{replicate, ◌⊎◌}, proofs.Common.{refl, sym, ◌∙◌, arith, inl, inr}}
use Rattle.std.proofs.lemmas.List.{get_or_append_left, get_or-append_right, get_or_past, get_or-drop}
use Rattle.std.proofs.lemmas.List.{length-append, length-drop, length-replicate, ext_get_or}
use Rattle.std.proofs.lemmas.Bool.{cases_lt}
use Rattle.vb_virtio.specs.Memory.{zero_page}
use Rattle.vb_ram.{specs.Blank.shown, specs.Put.PutAt}
use Rattle.vb_ram.proofs.Contents.{zero_page-at, length-zero_page, zeros-at}

-- a whole page is shown
pub length-shown : (bytes : List ℕ) → length bytes ≤ 4096 → length (shown bytes) ≡ 4096
length-shown bytes few = length-append bytes (drop (length bytes) zero_page)
    ∙ omega (arith, length-drop (length bytes) zero_page, length-zero_page, few)

-- zeros after the bytes change none of them, and each place past them has a zero
pub zeros_behind : (bytes zeros : List ℕ) → ((o : ℕ) → slice_index zeros o ≡ 0) → (o : ℕ)
    → slice_index (bytes ++ zeros) o ≡ slice_index bytes o
zeros_behind bytes zeros are o = at (cases_lt o (length bytes)) where
  at : (o < length bytes) ⊎ (length bytes ≤ o)
      → slice_index (bytes ++ zeros) o ≡ slice_index bytes o
  at (inl inside) = get_or_append_left bytes zeros 0 o inside
  at (inr behind) = get_or-append_right bytes zeros (length bytes) o 0 refl behind
      ∙ are (o - length bytes) ∙ sym (get_or_past bytes o 0 behind)

-- what is left of zeros is zeros
pub zeros_left : (m n o : ℕ) → slice_index (drop m (replicate n 0)) o ≡ 0
zeros_left m n o = get_or-drop m (replicate n 0) o 0 ∙ zeros-at n (m + o)

-- a byte that isn't held is a zero
pub shown-at : (bytes : List ℕ) (o : ℕ) → slice_index (shown bytes) o ≡ slice_index bytes o
shown-at bytes = zeros_behind bytes (drop (length bytes) zero_page)
    (λ o. get_or-drop (length bytes) zero_page o 0 ∙ zero_page-at (length bytes + o))

-- the same is shown where the same is at each place
pub same_shown : (a b : List ℕ) → length a ≤ 4096 → length b ≤ 4096
    → ((o : ℕ) → slice_index a o ≡ slice_index b o) → shown a ≡ shown b
same_shown a b few_a few_b same = ext_get_or 0 (shown a) (shown b) (length-shown a few_a
    ∙ sym (length-shown b few_b)) (λ o _. shown-at a o ∙ same o ∙ sym (shown-at b o))

-- more zeros show the same
pub shown-more : (bytes : List ℕ) (n : ℕ) → length bytes + n ≤ 4096
    → shown (bytes ++ replicate n 0) ≡ shown bytes
shown-more bytes n few = same_shown (bytes ++ replicate n 0) bytes
    (omega (arith, length-append bytes (replicate n 0), length-replicate {A = ℕ} n 0, few))
    (omega (arith, few)) (zeros_behind bytes (replicate n 0) (zeros-at n))

-- what is put into the bytes that are held is put into those that are shown
pub shown-put : (old new : List ℕ) (off : ℕ) (bs : List ℕ) → PutAt old new off bs
    → PutAt (shown old) (shown new) off bs
shown-put old new off bs put = record {
  written = λ k lt. shown-at new (off + k) ∙ put.written k lt;
  below = λ o lt. shown-at new o ∙ put.below o lt ∙ sym (shown-at old o);
  above = λ o le. shown-at new o ∙ put.above o le ∙ sym (shown-at old o);
}
