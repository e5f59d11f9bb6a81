-- The statistics buffer is written.
use Rattle.std.proofs.Common.{◌≡◌, ◌∙◌, arith, ℕ, ◌+◌, ◌^◌, ◌<◌, List, ◌++◌, IsSome, length}
use Rattle.std.proofs.{Common.{drop, slice_index, Result, IsOk, OnOk}, lemmas.List.get_or-drop}
use Rattle.{std.proofs.lemmas.Nat.from_le_bytes-to_le_bytes_8, byteorder.specs.Endian.little_bytes}
use Rattle.vb_ram.{specs.Pages.{Pages, byte_at, frame_at, Covers, Wrote}, proofs.Outcome.at_ok}
use Rattle.{vb_ram.proofs.FieldLaws.{field_2, field_8}, vb_driver.specs.Coding.IsStatistic}

abbrev figure_bytes : ℕ → ℕ → List ℕ
figure_bytes free total =
    little_bytes 2 4 ++ (little_bytes 8 free ++ (little_bytes 2 5 ++ little_bytes 8 total))

-- a byte of those from place n on
placed : {old new : Pages} {p : ℕ} (n : ℕ) {bs : List ℕ} (k : ℕ)
    → Wrote old new p 0 bs → n + k < length bs → slice_index (drop n bs) k ≡ byte_at new p (n + k)
placed n k w lt = grind (arith, get_or-drop)

-- the two statistics are where their bytes were written
free_written : {old new : Pages} {free : ℕ} (total : ℕ)
    → free < 2 ^ 64 → Wrote old new 12 0 (figure_bytes free total) → IsStatistic new 0 4 free
free_written {new} {free} total lt w = record {
  tagged = field_2 new 12 0 (figure_bytes free total) (λ k h. placed 0 k w (omega (arith, h)));
  valued = field_8 new 12 2 (drop 2 (figure_bytes free total))
      (λ k h. placed 2 k w (omega (arith, h))) ∙ from_le_bytes-to_le_bytes_8 free lt;
}

total_written : {old new : Pages} (free : ℕ) {total : ℕ}
    → total < 2 ^ 64 → Wrote old new 12 0 (figure_bytes free total) → IsStatistic new 10 5 total
total_written {new} free {total} lt w = record {
  tagged = field_2 new 12 10 (drop 10 (figure_bytes free total))
      (λ k h. placed 10 k w (omega (arith, h)));
  valued = field_8 new 12 12 (drop 12 (figure_bytes free total))
      (λ k h. placed 12 k w (omega (arith, h))) ∙ from_le_bytes-to_le_bytes_8 total lt;
}

pub record Figured (mem : Pages) (free total : ℕ) : Type 0 where
  pub free_is : IsStatistic mem 0 4 free
  pub total_is : IsStatistic mem 10 5 total

-- a write that had to be accepted has put them there
pub figures_written : {E : Type 0} {T : Type 0} {old new : Pages} {free total : ℕ} {bs : List ℕ}
    (answer : Result T E) → bs ≡ figure_bytes free total → free < 2 ^ 64 → total < 2 ^ 64
    → Covers old 12 0 20 → IsSome (frame_at old 12) → (Covers old 12 0 (length bs) → IsSome
    (frame_at old 12) → IsOk answer) → OnOk answer (Wrote old new 12 0 bs) → Figured new free total
figures_written
    {old} {new} {free} {total} {bs} answer is lt_free lt_total covers backed accepted put =
    let whole : Covers old 12 0 (length bs) = search arith in
    let wrote : Wrote old new 12 0 (figure_bytes free total) = rw (← is)
    (at_ok answer _ put (accepted whole backed)) in record {
      free_is = free_written total lt_free wrote;
      total_is = total_written free lt_total wrote;
    }
