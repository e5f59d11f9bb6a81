-- What a guest can give, tier after tier, and within a tier class after class.
use Rattle.std.specs.Prelude.{ℕ, min, nat_le, nat_lt, if◌then◌else◌}
use Rattle.vb_policy.specs.declared.guest.Guest.{Guest}
use Rattle.vb_policy.specs.declared.guest.Tier.{Tier}
use Rattle.vb_policy.specs.declared.guest.Tier.TheVariants.{Unused, Cache, Reserve}

-- up to and with a tier: never more than with a later one, whatever is said of the guest
abbrev pub through : Tier → Guest → ℕ
through Unused g = min g.unused (min g.cached g.spare)
through Cache g = min g.cached g.spare
through Reserve g = g.spare

-- in the tiers before
abbrev pub before : Tier → Guest → ℕ
before Unused g = 0
before Cache g = through Unused g
before Reserve g = through Cache g

-- The least and the most that it gives while a class divides a tier: lower classes have given it,
-- and higher ones keep it.
abbrev pub low : Tier → ℕ → Guest → ℕ
low tier priority g = if nat_lt g.priority priority then through tier g else before tier g

abbrev pub high : Tier → ℕ → Guest → ℕ
high tier priority g = if nat_le g.priority priority then through tier g else before tier g
