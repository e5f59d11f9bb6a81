-- What the exports for a host's policy answer: what the policy decides, as plain data.
use Rattle.std.specs.Prelude.{◌≡◌, ◌≢◌, ◌⊎◌, ℕ, min, List, length}
use Rattle.vb_core.specs.declared.device.Denial.TheVariants.{BadArgument}
use Rattle.vb_policy.specs.declared.figures.Budget.{Budget}
use Rattle.vb_policy.specs.declared.figures.Figures.{Figures}
use Rattle.vb_policy.specs.declared.guest.Decision.{Decision}
use Rattle.vb_policy.specs.declared.guest.Decision.TheVariants.{Enough, Divided, Short}
use Rattle.vb_policy.specs.declared.guest.Guest.{Guest}
use Rattle.vb_policy.specs.declared.guest.Tier.{Tier}
use Rattle.vb_policy.specs.declared.guest.Tier.TheVariants.{Unused, Cache, Reserve}
use Rattle.vb_policy.specs.Asking.{Asks}
use Rattle.vb_policy.specs.Needs.{cached_of, counts, most_of, spare_of, unused_of}
use Rattle.vb_c.specs.declared.policy.VbDecision.{VbDecision}
use Rattle.vb_c.specs.declared.policy.VbTiers.{VbTiers}
use Rattle.vb_monitor.specs.Codes.{code_of}

-- a tier, as vb_policy.h numbers it
abbrev pub tier_number : Tier → ℕ
tier_number Unused = 1
tier_number Cache = 2
tier_number Reserve = 3

abbrev pub decision_of : Decision → VbDecision
decision_of Enough = record { code = 0; tier = 0; missing = 0 }
decision_of (Divided d gap) = record { code = 0; tier = tier_number d.tier; missing = 0 }
decision_of (Short missing) = record { code = 8; tier = 4; missing = missing }

abbrev pub refused : VbDecision
refused = record { code = code_of BadArgument; tier = 0; missing = 0 }

abbrev pub tiers_of : Budget → Figures → VbTiers
tiers_of b g = record {
  pages = counts g;
  unused = min (unused_of b g) (min (cached_of b g) (spare_of b g));
  cached = min (cached_of b g) (spare_of b g);
  spare = spare_of b g;
  most = most_of b g;
}

-- Each list has a place for each guest, and the decision is that of the policy; else nothing is
-- changed.
pub record DecidesFor (b : Budget) (figures : List Figures) (rooms_old rooms_new : List Guest)
    (old new : List ℕ) (result : VbDecision) : Type 0 where
  pub other : (length rooms_old ≢ length figures) ⊎ (length old ≢ length figures)
      → (result ≡ refused) × (rooms_new ≡ rooms_old) × (new ≡ old)
  pub decided : length rooms_old ≡ length figures → length old ≡ length figures
      → (d : Decision) × Asks b figures d new × (result ≡ decision_of d)
