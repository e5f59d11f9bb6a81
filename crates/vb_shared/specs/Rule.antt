-- The rule of a table of frames, and the three kinds of step that a pass makes on it.
use Rattle.std.specs.Prelude.{◌≡◌, ◌≢◌, ◌↔◌, ℕ, ◌+◌, ◌<◌, ◌≤◌, ◌==◌, true, false}
use Rattle.std.specs.Prelude.{List, [], ◌∷◌, length, slice_index, if◌then◌else◌}
use mathlib.Core.Option.{some}
use lib.ListN.{get_elem?}
use Rattle.vb_virtio.specs.Tests.{one_if}
use Rattle.vb_device.specs.Own.{has, without}
use Rattle.atomic_table.specs.Table.{State}
use Rattle.vb_shared.specs.declared.rule.Holding.{Holding}
use Rattle.vb_shared.specs.declared.rule.View.{View}
use Rattle.vb_shared.specs.declared.rule.Size.{Size}

-- ---- what is known at a table

-- A pass: its tag, and the numbers of the frames that it holds.
abbrev pub holding : ℕ → List ℕ → Holding
holding tag held = record { tag = tag; held = held }

-- A seat at the table represents some passes: for one usually; for none where it is spent; for both
-- while two passes meet; the opener's for those that it hasn't handed out.
abbrev pub view_of : List Holding → View
view_of passes = record { holdings = passes }

abbrev pub pass : ℕ → List ℕ → View
pass tag held = view_of (holding tag held ∷ [])

-- ---- the rule

-- How many of the passes have the tag.
abbrev pub count : ℕ → List Holding → ℕ
count tag [] = 0
count tag (p ∷ ps) = one_if (p.tag == tag) + count tag ps

abbrev pub count_all : ℕ → List View → ℕ
count_all tag [] = 0
count_all tag (v ∷ vs) = count tag v.holdings + count_all tag vs

-- The tag is a guest's, and a word is tag + 1 exactly where the pass holds the word's frame.
abbrev pub IsTied : ℕ → List ℕ → Holding → Type 0
IsTied guests words p =
    (p.tag < guests) × ((f : ℕ) → (slice_index words f == p.tag + 1) ≡ has p.held f)

abbrev pub AllTied : ℕ → List ℕ → List Holding → Type 0
AllTied guests words [] = Unit {0}
AllTied guests words (p ∷ ps) = IsTied guests words p × AllTied guests words ps

-- A word a frame: 0 where the frame is free, else its holder's tag + 1. Each pass has a tag of its
-- own.
pub record IsKept (size : Size) (words : List ℕ) (views : List View) : Type 0 where
  pub wide : length words ≡ size.frames
  pub small : (f : ℕ) → slice_index words f ≤ size.guests
  pub tied : (i : ℕ) (v : View) → get_elem? views i ≡ some v → AllTied size.guests words v.holdings
  pub apart : (tag : ℕ) → count_all tag views ≤ 1

abbrev pub Kept : Size → State (Unit {0}) View → Type 0
Kept size s = IsKept size s.words s.views

-- The same for the passes that are handed out, whose seats have the numbers i, j, ..: tags differ,
-- a word is tag + 1 exactly where the pass with that tag holds the word's frame, no word is above
-- the number of guests, and no frame is held by two passes.
pub record FrameRule (size : Size) (words : List ℕ) (views : List View) : Type 0 where
  pub tags : (i j tag other_tag : ℕ) (held other : List ℕ) → i ≢ j →
      get_elem? views i ≡ some (pass tag held) → get_elem? views j ≡ some (pass other_tag other) →
      tag ≢ other_tag
  pub holder : (i tag f : ℕ) (held : List ℕ) → get_elem? views i ≡ some (pass tag held) →
      (slice_index words f ≡ tag + 1) ↔ (has held f ≡ true)
  pub guests : (f : ℕ) → slice_index words f ≤ size.guests
  pub frames : (i j tag other_tag f : ℕ) (held other : List ℕ) → i ≢ j →
      get_elem? views i ≡ some (pass tag held) → get_elem? views j ≡ some (pass other_tag other) →
      has held f ≡ true → has other f ≡ false

-- ---- the kinds of step

-- What a pass does to one word in one step. There is no other kind.
pub data StepKind : Type 0 where
  TryClaim : StepKind
  PutBack : StepKind
  Look : StepKind

-- What a step of the pass with a tag makes of a word.
abbrev pub word_after : StepKind → ℕ → ℕ → ℕ
word_after TryClaim tag word = if word == 0 then tag + 1 else word
word_after PutBack tag word = if word == tag + 1 then 0 else word
word_after Look tag word = word

-- What the pass holds then, by the word that it found.
abbrev pub held_after : StepKind → ℕ → ℕ → ℕ → List ℕ → List ℕ
held_after TryClaim tag word f held = if word == 0 then f ∷ held else held
held_after PutBack tag word f held = if word == tag + 1 then without held f else held
held_after Look tag word f held = held
