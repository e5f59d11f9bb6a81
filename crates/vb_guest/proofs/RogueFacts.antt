-- What ties a guest that wrote past its driver, and either kind of guest, to its device and memory.
use Rattle.std.proofs.Common.{◌≡◌, ◌↔◌, ℕ, ◌<◌, ◌≤◌, true, false, List, [], ◌∷◌, refl, arith}
use Rattle.std.specs.Prelude.{Some, Bool, IsSome, All, length}
use Rattle.std.proofs.lemmas.List.Elements.{All-cons, All-nil}
use Rattle.vb_model.specs.Guest.{Guest, frame_of, is_ballooned}
use Rattle.vb_virtio.specs.Layout.{is_start_page}
use Rattle.vb_virtio.specs.Tests.{one_if}
use Rattle.vb_ram.specs.{Pages.{Pages, frame_at}, Part.{Part, no_part}}
use Rattle.{vb_device.specs.Own.has, vb_driver.specs.State.DriverState}
use Rattle.vb_guest.{specs.Steps.backing_count, specs.Stands.{Honest, OwnFrames, IsOwnRequest}}
use Rattle.vb_guest.specs.Stands.{IsRogueUp, Rogue, StandsBy, Stands}
use Rattle.vb_guest.proofs.StandFacts.{small, request, places, figures, frames, guest}

-- ---- frames of the device's own: just those that back the guest's pages, each one page

own : (part : Part)
    → (OwnFrames true part guest
    ↔ ((part.keeps ≡ true) × (true ≡ false → part.own ≡ [])
    × (true ≡ true → (n : ℕ) → backing_count n guest ≡ one_if (has part.own n))))
    × (OwnFrames false part guest → (part.keeps ≡ false) × (part.own ≡ []))
own part = (
  (
    λ is. (is.flag, is.none, is.each),
    λ all. record { flag = all.0; none = all.1; each = all.2 },
  ),
  λ is. (is.flag, is.none refl),
)

abbrev keeper : List ℕ → Part
keeper own = record no_part { keeps = true; own = own }

-- frame 7 backs a page, and no other
not_own : (OwnFrames true (keeper []) guest → ⊥) × (OwnFrames true (keeper (7 ∷ 9 ∷ [])) guest → ⊥)
    × (OwnFrames true (keeper (7 ∷ [])) (record guest { frames = Some 7 ∷ Some 7 ∷ [] }) → ⊥)
not_own = (
  λ is. omega (arith, is.each refl 7),
  λ is. omega (arith, is.each refl 9),
  λ is. omega (arith, is.each refl 7),
)

-- where it keeps none, frames back pages all the same
others : OwnFrames false no_part guest
others = record { flag = refl; none = λ e. refl; each = λ no. absurd cc }

-- ---- a guest that wrote past its driver

three : (P : ℕ → Type 0) (a b c : ℕ) → P a → P b → P c → All P (a ∷ b ∷ c ∷ [])
three P a b c x y z =
    All-cons P a (b ∷ c ∷ []) x (All-cons P b (c ∷ []) y (All-cons P c [] z (All-nil P)))

own_requests : IsOwnRequest 8 64 (request 0 (16 ∷ 63 ∷ 16 ∷ []))
    × (IsOwnRequest 8 64 (request 0 (16 ∷ 15 ∷ [])) → ⊥)
    × (IsOwnRequest 8 64 (request 0 (16 ∷ 64 ∷ [])) → ⊥)
    × (IsOwnRequest 256 64 (request 0 (31 ∷ [])) → ⊥)
own_requests = (
  record {
    above = three (λ page. 16 ≤ page) 16 63 16 (omega arith) (omega arith) (omega arith);
    below = three (λ page. page < 64) 16 63 16 (omega arith) (omega arith) (omega arith);
  },
  λ is. omega (arith, is.above 1 0 (omega arith)),
  λ is. omega (arith, is.below 1 0 (omega arith)),
  λ is. omega (arith, is.above 0 0 (omega arith)),
)

rogue_up : (m : Pages) (part : Part) → IsRogueUp 8 m part
    ↔ (((page : ℕ) → is_start_page 8 page ≡ true → IsSome (frame_at m page))
    × All (IsOwnRequest 8 (length m)) part.inflate.taken
    × All (IsOwnRequest 8 (length m)) part.report.taken)
rogue_up m part = (
  λ is. (is.backed, is.inflates, is.reports),
  λ all. record { backed = all.0; inflates = all.1; reports = all.2 },
)

rogue_up_larger : (m : Pages) (part : Part) → IsRogueUp 256 m part
    → (page : ℕ) → is_start_page 256 page ≡ true → IsSome (frame_at m page)
rogue_up_larger m part is = is.backed

abbrev wild : Guest
wild = record guest { rogue = true }

-- its driver, its device, and its memory; that it runs says no more than that it is up
rogue : (m : Pages) (part : Part) (d : DriverState) → Rogue m part d wild
    → ((true ≡ true) × (true ≡ true))
    × ((d.pages ≡ 64) × (d.queue_size ≡ 8) × (d.processors ≡ 2) × (d.places ≡ places) × (length places ≡ 64)
    × (d.actual ≡ 5))
    × ((part.queue_size ≡ 8) × (part.paced ≡ true) × (part.status ≡ 15) × (part.features ≡ 3)
    × (part.target ≡ 4) × (part.last ≡ figures) × (part.ballooned ≡ true ∷ []) × (length wild.ballooned ≡ 64)
    × ((page : ℕ) → page < 16 → is_ballooned (true ∷ []) page ≡ false) × (part.loose ≡ []))
    × ((length m ≡ 64) × (length frames ≡ 64) × (length wild.contents ≡ 64)
    × ((page : ℕ) → frame_at m page ≡ frame_of frames page))
rogue m part d is = (
  (is.rogue, is.config),
  (is.pages, is.queue_size, is.processors, is.places, is.placed, is.actual),
  (
    is.size,
    is.paced,
    is.status,
    is.features,
    is.target,
    is.last,
    is.ballooned,
    is.flagged,
    is.unreserved,
    is.loose,
  ),
  (is.length_is, is.framed, is.filled, is.behind),
)

-- it is up with any features, and whether or not it needs a reset
rogue_that_runs : (m : Pages) (part : Part) (d : DriverState)
    → (Rogue m (record part { status = 15 }) d wild → IsRogueUp 8 m (record part { status = 15 }))
    × (Rogue m (record part { status = 79 }) d wild → IsRogueUp 8 m (record part { status = 79 }))
rogue_that_runs m part d = (λ is. is.up refl, λ is. is.up refl)

no_rogue : (m : Pages) (part : Part) (d : DriverState)
    → (Rogue m part d guest → false ≡ true)
    × (Rogue m part d (record wild { config = record small { pages = 63 } }) → false ≡ true)
no_rogue m part d = (λ is. is.rogue, λ is. is.config)

-- ---- either kind

stands : (keeps : Bool) (m : Pages) (part : Part) (d : DriverState)
    → (Stands keeps m part d guest ↔ (Honest m part d guest × OwnFrames keeps part guest))
    × (Stands keeps m part d wild ↔ (Rogue m part d wild × OwnFrames keeps part wild))
    × (StandsBy true m part d guest ↔ Rogue m part d guest)
stands keeps m part d = (
  (λ is. (is.guest, is.own), λ all. record { guest = all.0; own = all.1 }),
  (λ is. (is.guest, is.own), λ all. record { guest = all.0; own = all.1 }),
  (λ is. is, λ is. is),
)
