-- Which targets change, and how far.
use Rattle.std.specs.Prelude.{ℕ, ◌+◌, ◌-◌, ◌*◌, ◌<◌, ◌≤◌, ◌^◌, max, min, nat_lt, if◌then◌else◌}
use Rattle.std.specs.Prelude.{Bool, ◌||◌, List, sum_by}
use Rattle.vb_policy.specs.declared.guest.Division.{Division}
use Rattle.vb_policy.specs.declared.guest.Guest.{Guest}
use Rattle.vb_policy.specs.declared.guest.Host.{Host}
use Rattle.vb_policy.specs.declared.guest.Tier.{Tier}
use Rattle.vb_policy.specs.Divisions.{fair}
use Rattle.vb_policy.specs.Tiers.{through}

-- the most that a guest's target so far may be
abbrev pub most_of : Guest → ℕ
most_of g = max g.most g.spare

-- It has less left of the tier than the band of its part, by more than the slack.
abbrev pub is_squeezed : Host → Tier → ℕ → Guest → Bool
is_squeezed host tier part g = nat_lt (100 * ((through tier g - g.target) + host.slack))
    (min 100 host.band * (through tier g - part))

-- A guest is poor that is asked for more than may be, or is squeezed.
abbrev pub is_poor : Host → Tier → ℕ → Guest → Bool
is_poor host tier part g = nat_lt (most_of g) g.target || is_squeezed host tier part g

-- A poor guest gets its part, and another stays at its target.
abbrev pub base : Host → Tier → ℕ → Guest → ℕ
base host tier part g = if is_poor host tier part g then part else g.target

-- and rises to within the gap of its part
abbrev pub settled : Host → Division → ℕ → Guest → ℕ
settled host d gap g = max (base host d.tier (fair d g) g) (fair d g - gap)

-- the widest gap that leaves enough; the widest of all where nobody has to rise
pub record Settles (host : Host) (guests : List Guest) (d : Division) (gap : ℕ) : Type 0 where
  pub fits : gap < 2 ^ 32
  pub enough : host.lack ≤ sum_by (settled host d gap) guests
  pub widest : (n : ℕ) → n < 2 ^ 32 → host.lack ≤ sum_by (settled host d n) guests → n ≤ gap
