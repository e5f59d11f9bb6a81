-- What the records of frames say: loose ones, and those of a device's own. What isn't so would make
-- two things alike that aren't.
use Rattle.std.proofs.Common.{◌≡◌, ℕ, ◌+◌, ◌≤◌, ◌==◌, true, false, List, [], ◌∷◌, refl, arith}
use Rattle.std.specs.Prelude.{Bool, Some, None, length}
use Rattle.vb_ram.{specs.Pages.Page, specs.Part.{Part, no_part}}
use Rattle.vb_virtio.specs.Memory.{zero_page}
use Rattle.vb_model.specs.declared.calls.Claim.{Claim}
use Rattle.vb_model.specs.declared.calls.Claim.TheVariants.{Gave as GaveNumber, GaveNoFrame}
use Rattle.vb_device.{proofs.CallFacts.{keeper, frame, mem, busy}, specs.Calls.PutsBack}
use Rattle.vb_device.specs.declared.claimed.Claimed.TheVariants.{Gave, AskHost, NoFrame, NoMemory}
use Rattle.vb_device.specs.Calls.{SameFrames, PopsLoose, HandsBack, IsUnused, Claims, IsAnswered}
use Rattle.vb_device.{specs.Own.has, specs.Base.IsPlain}

-- ---- loose frames: none is lost or comes from nowhere

not_the_same : (SameFrames (7 ∷ 9 ∷ []) (7 ∷ []) → ⊥) × (SameFrames (9 ∷ []) (9 ∷ 9 ∷ []) → ⊥)
not_the_same = (λ same. omega (arith, same 9), λ same. omega (arith, same 9))

pops : (p2 : Part) → (PopsLoose (keeper (9 ∷ []) (4 ∷ [])) p2 (Some (frame 9))
    → SameFrames (9 ∷ []) (9 ∷ p2.loose) × (1 ≡ length p2.loose + 1)
    × (p2 ≡ keeper p2.loose (4 ∷ [])))
    × (PopsLoose (keeper [] (4 ∷ [])) p2 None → p2 ≡ keeper [] (4 ∷ []))
pops p2 = (λ by. (by.0, by.1, by.2), λ by. by.1)

hands_back : (p2 : Part)
    → (HandsBack (keeper (7 ∷ []) (4 ∷ [])) p2 (Some (frame 7))
    → (p2 ≡ keeper p2.loose p2.own) × (length p2.loose + 1 ≤ 1))
    × (HandsBack (keeper (9 ∷ []) (9 ∷ [])) p2 None → p2.loose ≡ [])
hands_back p2 = (λ back. (back.0.part, back.0.fewer), λ back. back.1)

-- ---- a claim

abbrev has_four : Part
has_four = keeper [] (4 ∷ [])

-- Just these numbers are out, and nothing else is changed.
abbrev Out : Part → List ℕ → Type 0
Out p2 own = ((n : ℕ) → has p2.own n ≡ has own n) × (p2 ≡ keeper [] p2.own)

gives : (p2 : Part) (frame : Page) → Claims has_four p2 (Gave frame)
    → (frame.bytes ≡ zero_page) × (has (4 ∷ []) frame.number ≡ false) × Out p2 (frame.number ∷ 4 ∷ [])
gives p2 frame claims = (claims.1, claims.2, (claims.3, claims.4))

gives_none : (p2 : Part) → (Claims has_four p2 NoFrame → Out p2 (4 ∷ []))
    × (Claims has_four p2 NoMemory → Out p2 (4 ∷ [])) × (Claims busy p2 AskHost → p2 ≡ busy)
gives_none p2 = (λ claims. (claims.1, claims.2), λ claims. (claims.1, claims.2), λ claims. claims.1)

-- one that keeps none gives none, and one that keeps some doesn't ask
not_of_busy : (p2 : Part) (frame : Page) → (Claims busy p2 (Gave frame) → false ≡ true)
    × (Claims busy p2 NoMemory → false ≡ true) × (Claims has_four p2 AskHost → true ≡ false)
not_of_busy p2 frame = (λ claims. claims.0, λ claims. claims.0, λ claims. claims.0)

-- ---- which claims may be answered so

abbrev only_seven : Claim → Bool
only_seven (GaveNumber n) = n == 7
only_seven _ = false

may : IsAnswered only_seven (Gave (frame 7)) × (IsAnswered only_seven (Gave (frame 8)) → false ≡ true)
    × (IsAnswered only_seven NoFrame → false ≡ true) × (IsAnswered only_seven NoMemory → false ≡ true)
may = (refl, λ is. is, λ is. is, λ is. is)

abbrev no_frame_alone : Claim → Bool
no_frame_alone GaveNoFrame = true
no_frame_alone _ = false

may_not : IsAnswered no_frame_alone NoFrame × (IsAnswered no_frame_alone NoMemory → false ≡ true)
    × IsAnswered no_frame_alone AskHost
may_not = (refl, λ is. is, tt)

-- ---- a frame that comes back, an own one or another's

comes_back : (p2 : Part) (other : Page) → (PutsBack has_four p2 (frame 4) None → Out p2 [])
    × (PutsBack has_four p2 (frame 4) (Some (frame 4)) → true ≡ false)
    × (PutsBack has_four p2 (frame 7) (Some other) → (other ≡ frame 7) × (p2 ≡ has_four))
comes_back p2 other = (λ back. (back.1, back.2), λ back. back.0, λ back. (back.1, back.2))

-- ---- a device that no guest has, and one without frames of its own

unused : (IsUnused mem no_part → mem ≡ [])
    × (IsUnused [] (keeper (7 ∷ []) []) → (keeper (7 ∷ []) []).loose ≡ [])
    × (IsPlain has_four → (true ≡ false) × (has_four.own ≡ []))
unused = (λ is. is.no_memory, λ is. is.no_frames, λ is. (is.keeps, is.own))
