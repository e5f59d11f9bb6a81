-- What the guests of a host are asked for, by what is known of each.
use Rattle.std.specs.Prelude.{◌≡◌, ℕ, ◌+◌, ◌-◌, ◌^◌, min, Bool, true, false}
use Rattle.std.specs.Prelude.{List, [], ◌∷◌, map, sum_by, nat_lt, ◌&&◌}
use Rattle.std.specs.List.{list_any}
use Rattle.vb_policy.specs.declared.figures.Budget.{Budget}
use Rattle.vb_policy.specs.declared.figures.Figures.{Figures}
use Rattle.vb_policy.specs.declared.guest.Decision.{Decision}
use Rattle.vb_policy.specs.declared.guest.Host.{Host}
use Rattle.vb_policy.specs.declared.guest.Tier.TheVariants.{Reserve}
use Rattle.vb_policy.specs.Decisions.{Decides}
use Rattle.vb_policy.specs.Needs.{counts, forced, guest_of, waits, yielding}
use Rattle.vb_policy.specs.Tiers.{through}

-- what it counts for beside what is forced
abbrev pub rest : Budget → Figures → ℕ
rest b g = counts g - forced b g

-- the pages that guests have to give beside what is forced
abbrev pub lack : Budget → List Figures → ℕ
lack b guests = min (sum_by (rest b) guests - b.frames) (2 ^ 64 - 1)

abbrev pub host_of : Budget → List Figures → Host
host_of b guests = record { lack = lack b guests; slack = b.slack; band = b.band }

-- what is forced, and what is asked for beside that
abbrev pub joined : Budget → List Figures → List ℕ → List ℕ
joined b [] targets = targets
joined b (g ∷ guests) [] = []
joined b (g ∷ guests) (t ∷ targets) =
    min (t + forced b g) (2 ^ 32 - 1) ∷ joined b guests targets

-- The guests can't give enough, and one of them waits.
abbrev pub starves : Budget → List Figures → Bool
starves b guests =
    nat_lt (sum_by (through Reserve) (map (guest_of b) guests)) (lack b guests)
    && list_any waits guests

-- The decision is that over all guests. The targets are those of it, or, while one waits on a short
-- host, those with which the first that waits is served alone.
pub record Asks (b : Budget) (guests : List Figures) (result : Decision) (targets : List ℕ) :
    Type 0 where
  pub decided : List ℕ
  pub decides : Decides (host_of b guests) (map (guest_of b) guests) result decided
  pub usual : starves b guests ≡ false → targets ≡ joined b guests decided
  pub first : starves b guests ≡ true
      → (d : Decision) × (yielded : List ℕ)
      × Decides (host_of b guests) (map (yielding b) guests) d yielded
      × (targets ≡ joined b guests yielded)
