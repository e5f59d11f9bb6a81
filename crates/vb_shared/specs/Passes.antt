-- A table of frames and its passes, as contracts see them.
use Rattle.std.specs.Prelude.{◌≡◌, ℕ, zero, suc, ◌<◌, ◌≤◌, List, [], ◌∷◌, Option, None}
use Rattle.atomic_table.specs.Table.{Me}
use Rattle.atomic_table.specs.Seated.{TableId}
use Rattle.vb_shared.specs.declared.rule.View.{View}
use Rattle.vb_shared.specs.declared.rule.Size.{Size}
use Rattle.vb_shared.specs.Rule.{pass}
use Rattle.vb_shared.specs.Steps.{held_of}

-- A pass: its table, its tag, the numbers of the frames that it holds, and what its last claim
-- answered.
pub record Pass : Type 0 where
  pub table : TableId
  pub tag : ℕ
  pub held : List ℕ
  pub found : Option ℕ

-- A table: which it is, and how many frames it has.
pub record Opened : Type 0 where
  pub table : TableId
  pub frames : ℕ

-- n passes of the table with the tags from one on, that hold nothing and claimed nothing.
abbrev pub new_passes : TableId → ℕ → ℕ → List Pass
new_passes table tag zero = []
new_passes table tag (suc n) =
    record { table = table; tag = tag; held = []; found = None } ∷ new_passes table (suc tag) n

-- ---- how they are kept

-- A table of n words, and a seat at it.
abbrev pub IsTable : TableId → Size → TableId → ℕ → Type 0
IsTable seat size table frames =
    (seat ≡ table) × (table.words ≡ frames) × (size.frames ≡ frames) × (0 < frames)

-- The numbers are from one on, below a bound.
abbrev pub Within : ℕ → ℕ → List ℕ → Type 0
Within least bound [] = Unit {0}
Within least bound (n ∷ ns) = (least ≤ n) × (n < bound) × Within least bound ns

-- The seat is that of one pass, which holds frames of the table.
abbrev pub IsPass : ℕ → ℕ → Me (Unit {0}) View → Type 0
IsPass frames tag me = (me ≡ (pass tag (held_of me.0), [])) × Within 0 frames (held_of me.0)
