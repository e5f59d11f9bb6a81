-- What a guest within the limits has, for the crates above.
use Rattle.std.{specs.Prelude.{◌≡◌, ℕ, ◌≤◌, true}, proofs.Common.arith}
use Rattle.std.{proofs.lemmas.Bool.Decides.nat_tests, proofs.lemmas.Bool.and_parts}
use Rattle.vb_virtio.specs.Limits.{is_config, is_between}
use Rattle.vb_ram.specs.Limits.{AreWithinLimits}

-- the numbers between two are those that the test finds
pub between : (least most n : ℕ) → is_between least most n ≡ true → (least ≤ n) × (n ≤ most)
between least most n h = (grind (arith, nat_tests), grind (arith, nat_tests))

pub config_limits : (pages queue_size processors : ℕ) → is_config pages queue_size processors ≡ true
    → AreWithinLimits pages queue_size processors
config_limits pages queue_size processors h = grind (arith, and_parts, between)
