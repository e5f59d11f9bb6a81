use Rattle.std.proofs.Common.{arith}
use Rattle.vb_policy.proofs.Sums.{sum_of_none}
use Rattle.vb_policy.proofs.level.first_tier.Goals as goal

pub returns-then-lack-all_through-clause-first : goal.returns-then-lack-all_through-clause-first
returns-then-lack-all_through-clause-first c =
    omega (arith, c.requires.some, sum_of_none c.args.guests.now)
