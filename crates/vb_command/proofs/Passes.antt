-- Passes that hold no frame, and devices that have them.
use Rattle.std.proofs.Common.{◌≡◌, refl, subst, ℕ, zero, suc, List, [], ◌∷◌}
use Rattle.std.specs.Prelude.{⊤, true}
use Rattle.vb_ram.{specs.Pages.Pages, specs.Part.Part}
use Rattle.vb_device.specs.Calls.{IsUnused}
use Rattle.vb_shared.specs.Passes.{Pass, new_passes}

abbrev pub AreUnheld : List Pass → Type 0
AreUnheld [] = ⊤
AreUnheld (pass ∷ passes) = (pass.held ≡ []) × AreUnheld passes

pub new_unheld : (table : _) (tag n : ℕ) → AreUnheld (new_passes table tag n)
new_unheld table tag zero = tt
new_unheld table tag (suc n) = (refl, new_unheld table (suc tag) n)

pub next_unheld : (passes : List Pass) (pass : Pass) (rest : List Pass) → passes ≡ pass ∷ rest
    → AreUnheld passes → (pass.held ≡ []) × AreUnheld rest
next_unheld passes pass rest is unheld = subst AreUnheld is unheld

-- a device that leases frames is as unused as the one in it
pub leased_unused : (mem : Pages) (part : Part) (held : List ℕ) → IsUnused mem part
    → IsUnused mem (record part { keeps = true; own = held })
leased_unused mem part held unused =
    record { no_memory = unused.no_memory; no_frames = unused.no_frames }
