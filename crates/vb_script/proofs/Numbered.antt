-- The lines that are left after the first one.
use Rattle.std.proofs.Common.{◌≡◌, ℕ, ◌+◌, ◌≤◌, false, List, [], ◌∷◌, length, refl, arith}
use Rattle.vb_script.specs.Texts.{is_skipped, lines_of, numbered}

pub numbered_line : (passed : ℕ) (text line rest : List ℕ) → lines_of text ≡ line ∷ lines_of rest
    → is_skipped line ≡ false
    → numbered passed (lines_of text) ≡ (passed + 1, line) ∷ numbered (passed + 1) (lines_of rest)
numbered_line passed text line rest first kept = rw (first, kept) refl

pub numbered_none : (passed : ℕ) (text : List ℕ) → length text ≤ 0
    → numbered passed (lines_of text) ≡ []
numbered_none passed [] none = refl
numbered_none passed (byte ∷ bytes) none = absurd (omega arith)
