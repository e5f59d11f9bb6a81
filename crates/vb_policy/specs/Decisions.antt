-- What is decided, and the targets that are set.
use Rattle.std.specs.Prelude.{◌≡◌, ℕ, ◌+◌, ◌<◌, nat_le, if◌then◌else◌, Bool, ◌&&◌, not, List, map}
use Rattle.std.specs.Prelude.{sum_by}
use Rattle.std.specs.List.{list_all}
use Rattle.vb_policy.specs.declared.guest.Decision.{Decision}
use Rattle.vb_policy.specs.declared.guest.Decision.TheVariants.{Enough, Divided, Short}
use Rattle.vb_policy.specs.declared.guest.Guest.{Guest}
use Rattle.vb_policy.specs.declared.guest.Host.{Host}
use Rattle.vb_policy.specs.declared.guest.Tier.TheVariants.{Unused, Reserve}
use Rattle.vb_policy.specs.Divisions.{Divides}
use Rattle.vb_policy.specs.Settling.{base, settled, Settles}
use Rattle.vb_policy.specs.Tiers.{through}

-- On a short host a guest may stay at its target that is within the slack of all it can give, and
-- doesn't wait.
abbrev pub may_stay : Host → Guest → Bool
may_stay host g =
    nat_le g.target (g.spare + host.slack) && nat_le g.spare (g.target + host.slack) && not g.waits

-- Where all may stay, all do; else each is asked for all that it can give.
abbrev pub short_targets : Host → List Guest → List ℕ
short_targets host guests =
    if list_all (may_stay host) guests then map (λ g. g.target) guests
    else map (λ g. g.spare) guests

abbrev pub Decides : Host → List Guest → Decision → List ℕ → Type 0
Decides host guests Enough targets =
    (host.lack ≡ 0) × (targets ≡ map (base host Unused 0) guests)
Decides host guests (Divided d gap) targets = Divides host.lack guests d × Settles host guests d gap
    × (targets ≡ map (settled host d gap) guests)
Decides host guests (Short missing) targets = (0 < missing)
    × (host.lack ≡ sum_by (through Reserve) guests + missing)
    × (targets ≡ short_targets host guests)
