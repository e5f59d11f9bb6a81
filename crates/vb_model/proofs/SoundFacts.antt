-- Guests whose parts don't agree, and pages that aren't blank, one for each thing that is promised.
use Rattle.std.proofs.Common.{List, [], ap, arith, false, length, refl, replicate, true, ℕ, ◌++◌}
use Rattle.std.{proofs.Common.{◌∙◌, ◌∷◌, ◌≡◌}, specs.Prelude.{Bool, None}}
use Rattle.vb_virtio.proofs.Differ.{differ}
use Rattle.vb_virtio.specs.Memory.{zero_page}
use Rattle.vb_model.proofs.BlankSteps.{length-zero_page}
use Rattle.vb_model.proofs.Samples.{page_16_at, ready}
use Rattle.vb_model.{proofs.Samples.{request, untold}, specs.Blank.IsBlank}
use Rattle.vb_model.specs.Consistent.{IsConsistent, IsPageSound}
use Rattle.vb_model.specs.Guest.{Guest}
use Rattle.vb_model.specs.{Pages.Block, Requests.{Requests, no_requests}}
use Rattle.vb_model.specs.declared.places.Place.{Place, TheVariants.{Free, Giving, Lent, Reporting}}
use Rattle.vb_model.specs.declared.places.Place.TheVariants.{Reserved, Taking, Used}

abbrev Same : ℕ → ℕ → Type 0
Same a b = a ≡ b

-- ---- page 16 at a place, and all else as if it were free

abbrev only : Place → Guest
only place = page_16_at place ready

abbrev Unsound : Guest → Type 0
Unsound g = IsConsistent g → ⊥

at_a_place_alone : Unsound (only Used) × Unsound (only Giving) × Unsound (only Taking)
    × Unsound (only Reporting) × Unsound (only Lent)
at_a_place_alone = (
  λ c. differ 0 1 refl (c.pages 16).holding,
  λ c. differ 0 1 refl (c.pages 16).inflating,
  λ c. differ 1 0 refl (c.pages 16).taking,
  λ c. differ 0 1 refl (c.pages 16).reporting,
  λ c. differ 0 1 refl (c.pages 16).ballooning,
)

-- ---- page 16 is free, and all else as if it were at another place

abbrev block : ℕ → ℕ → Block
block start order = record { start = start; order = order }

-- a request names page 16, at the stage that is last to be counted
abbrev naming_16 : Requests
naming_16 = record { posted = []; taken = []; done = request 0 (16 ∷ []) 0 ∷ [] }

free_but_held_or_named : Unsound (record ready { held = block 16 0 ∷ [] })
    × Unsound (record ready { inflate = naming_16 })
    × Unsound (record ready { deflate = naming_16 }) × Unsound (record ready { report = naming_16 })
    × Unsound (record ready { ballooned = replicate 16 false ++ (true ∷ replicate 47 false) })
free_but_held_or_named = (
  λ c. differ 1 0 refl (c.pages 16).holding,
  λ c. differ 1 0 refl (c.pages 16).inflating,
  λ c. differ 0 1 refl (c.pages 16).taking,
  λ c. differ 1 0 refl (c.pages 16).reporting,
  λ c. differ 1 0 refl (c.pages 16).ballooning,
)

-- ---- page 16 and a deflate that names it, with or without an inflate that names it too, where the
-- guest tells the host and where it doesn't

abbrev Named : Bool → Place → Requests → Requests → Bool → Type 0
Named told place inflate deflate flag =
    IsPageSound 16 told place [] inflate deflate no_requests flag

-- the page is taking until the deflate is reaped, and a page of a guest that doesn't tell is free
-- it is ballooned until the deflate is used
abbrev asking_16 : Requests
asking_16 = record { posted = []; taken = request 0 (16 ∷ []) 0 ∷ []; done = [] }

sound_while_named : Named true Taking no_requests naming_16 false
    × Named false Free no_requests naming_16 false × Named false Free no_requests asking_16 true
sound_while_named = grind arith

-- ballooned no more too early, and still too late; no page is taking in a guest that doesn't tell,
-- and no other one in a guest that does
unsound_while_named : (Named false Free no_requests asking_16 false → ⊥)
    × (Named false Free no_requests naming_16 true → ⊥)
    × (Named false Taking no_requests naming_16 false → ⊥)
    × (Named true Free no_requests naming_16 false → ⊥)
unsound_while_named = (
  λ s. differ 0 1 refl s.ballooning,
  λ s. differ 1 0 refl s.ballooning,
  λ s. differ 1 0 refl s.taking,
  λ s. differ 0 1 refl s.taking,
)

-- whether it tells or not, the page is neither lent nor offered, nor reserved, nor requested back
-- twice
abbrev Neither : Place → Requests → Requests → Bool → Type 0
Neither place inflate deflate flag =
    (Named true place inflate deflate flag → ⊥) × (Named false place inflate deflate flag → ⊥)

lent_offered_or_reserved : Neither Lent no_requests naming_16 true
    × Neither Giving naming_16 naming_16 true × Neither Reserved no_requests naming_16 false
lent_offered_or_reserved = grind arith

abbrev twice : Requests
twice =
    record { posted = request 1 (16 ∷ []) 0 ∷ []; taken = []; done = request 0 (16 ∷ []) 0 ∷ [] }

asked_back_twice : (Named true Taking no_requests twice true → ⊥)
    × (Named false Free no_requests twice true → ⊥)
asked_back_twice = grind arith

-- ---- a page of two blocks, or of two requests

held_or_named_twice : Unsound (record (only Used) { held = block 16 0 ∷ block 16 1 ∷ [] })
    × Unsound (record (only Giving) {
      inflate =
          record
          { posted = request 0 (16 ∷ []) 0 ∷ []; taken = request 1 (16 ∷ []) 0 ∷ []; done = [] };
    })
held_or_named_twice =
    (λ c. differ 2 1 refl (c.pages 16).holding, λ c. differ 2 1 refl (c.pages 16).inflating)

-- ---- `actual`, which counts the pages that a deflate names, wherever they are, and the sizes of
-- the tables

miscounted : Unsound (record ready { actual = 1 }) × Unsound (record untold { deflate = naming_16 })
    × Unsound (record ready { places = ready.places ++ (Free ∷ []) })
    × Unsound (record ready { ballooned = replicate 65 false })
miscounted = (
  λ c. differ 1 0 refl c.counted,
  λ c. differ 0 1 refl c.counted,
  λ c. differ 65 64 refl c.sized,
  λ c. differ 65 64 refl c.flagged,
)

-- ---- frames and contents

a_page_more : (IsBlank (record ready { frames = replicate 65 None }) → ⊥)
    × (IsBlank (record ready { contents = replicate 65 zero_page }) → ⊥)
a_page_more = (λ b. differ 65 64 refl b.framed, λ b. differ 65 64 refl b.filled)

page_of_one_byte : IsBlank
    (record ready { contents = replicate 63 zero_page ++ ((0 ∷ []) ∷ []) }) → ⊥
page_of_one_byte b = let e : Same 1 4096 = b.whole 63 (omega arith) in omega arith

bytes_without_a_frame : IsBlank
    (record ready { contents = replicate 16 zero_page ++ ((1 ∷ []) ∷ replicate 47 zero_page) }) → ⊥
bytes_without_a_frame b =
    let e : Same 1 4096 =
    ap (λ (bytes : List ℕ). length bytes) (b.blank 16 (omega arith) refl) ∙ length-zero_page in
    omega arith
