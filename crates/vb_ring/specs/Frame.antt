-- What a call on a ring leaves as it was.
use Rattle.std.specs.Prelude.{◌≡◌, ◌≢◌, ℕ, ◌<◌, ◌≤◌, List, [], ◌∷◌, length}
use Rattle.vb_ram.specs.Pages.{Pages, byte_at, page_at, frame_at, contents_at}

-- Bytes of a page, from an offset up to another.
pub record Extent : Type 0 where
  pub page : ℕ
  pub from : ℕ
  pub to : ℕ

-- A byte lies in an extent.
pub record IsIn (e : Extent) (p o : ℕ) : Type 0 where
  pub page : p ≡ e.page
  pub from : e.from ≤ o
  pub to : o < e.to

-- A byte lies in none of these.
abbrev pub IsOutside : List Extent → ℕ → ℕ → Type 0
IsOutside [] p o = Unit {0}
IsOutside (e ∷ rest) p o = (¬ IsIn e p o) × IsOutside rest p o

-- A page holds none of these.
abbrev pub IsOther : List Extent → ℕ → Type 0
IsOther [] p = Unit {0}
IsOther (e ∷ rest) p = (p ≢ e.page) × IsOther rest p

-- Outside these nothing has changed.
pub record SameOutside (old new : Pages) (extents : List Extent) : Type 0 where
  pub bytes : (p o : ℕ) → IsOutside extents p o → byte_at new p o ≡ byte_at old p o
  pub others : (p : ℕ) → IsOther extents p → page_at new p ≡ page_at old p
  pub backing : (p : ℕ) → frame_at new p ≡ frame_at old p
  pub sizes : (p : ℕ) → length (contents_at new p) ≡ length (contents_at old p)
  pub count : length new ≡ length old
