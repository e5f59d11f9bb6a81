-- Courses that are not safe: bytes that change with a page's frame, and reads and writes of pages at
-- any place that leave its bytes aside.
use Rattle.std.proofs.Common.{[], inl, inr, refl, ℕ, ◌∷◌}
use Rattle.std.specs.Prelude.{None, Option, Some}
use Rattle.vb_model.proofs.SafeFacts.{SameBytes, SameFrame, goes, one_byte, with_byte}
use Rattle.vb_model.specs.{Courses.Course, Histories.IsSafeCourse}
use Rattle.vb_model.specs.declared.calls.Actor.TheVariants.{Processor}
use Rattle.vb_model.specs.declared.calls.Call.TheVariants.{Read, Work, Write}
use Rattle.vb_model.specs.declared.places.Place.{Place, TheVariants.{Free as FreePlace, Used}}
use Rattle.vb_model.specs.declared.replies.Reply.TheVariants.{Done, Idle, ReadBytes}

-- a page gets one frame for another, or its first one, and its bytes change with it
abbrev with_the_frame : (place : Place) (old new : Option ℕ) → Course
with_the_frame place old new = goes (with_byte place old 1) Work Idle (with_byte place new 2)

bytes_changed_with_the_frame : (IsSafeCourse (with_the_frame FreePlace (Some 5) (Some 6)) → ⊥)
    × (IsSafeCourse (with_the_frame Used None (Some 5)) → ⊥)
bytes_changed_with_the_frame = (
  λ s. elim (s.keeps_contents 0 16 (with_byte FreePlace (Some 5) 1) (with_byte FreePlace (Some 6) 2)
      refl refl (λ e. cc) (λ own. cc)) [
        | inl same ↦ (let e : SameBytes (one_byte 2) (one_byte 1) = same in cc)
        | inr lost ↦ (let e : SameFrame (Some 6) None = lost.1 in cc)
      ],
  λ s. elim (s.keeps_contents 0 16 (with_byte Used None 1) (with_byte Used (Some 5) 2)
      refl refl (λ e. cc) (λ own. cc)) [
        | inl same ↦ (let e : SameBytes (one_byte 2) (one_byte 1) = same in cc)
        | inr lost ↦ (let e : SameFrame (Some 5) None = lost.1 in cc)
      ],
)

-- a read gives other bytes, wherever the page is, with or without a frame
other_bytes_of_any_page : (place : Place) (frame : Option ℕ) → IsSafeCourse
    (goes (with_byte place frame 1) (Read 16 0 1) (ReadBytes (9 ∷ [])) (with_byte place frame 1))
    → ⊥
other_bytes_of_any_page place frame s =
    let e : SameBytes (9 ∷ []) (1 ∷ []) = (s.reads 0 16 0 1
    (9 ∷ []) (with_byte place frame 1) refl (Processor 0 0, [], refl)).1 in cc

-- a write is done, and the page holds what it did
any_write_without_effect : (place : Place) (frame : Option ℕ) → IsSafeCourse
    (goes (with_byte place frame 1) (Write 16 0 (7 ∷ [])) Done (with_byte place frame 1)) → ⊥
any_write_without_effect place frame s =
    let e : SameBytes (1 ∷ []) (7 ∷ []) = (s.writes 0 16 0 (7 ∷ []) (with_byte place frame 1)
    (with_byte place frame 1) refl refl (Processor 0 0, [], refl)).1 in cc
