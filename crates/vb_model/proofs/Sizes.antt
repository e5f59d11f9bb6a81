-- Guests of small sizes.
use Rattle.std.{specs.Prelude.{◌≡◌, ℕ, ◌%◌, ◌≤◌, true, ◌==◌, ◌&&◌}, proofs.Common.arith}
use Rattle.std.proofs.lemmas.Bool.Decides.{nat_tests}
use Rattle.vb_virtio.specs.Limits.{is_power_of_two, is_between}
use Rattle.vb_model.specs.Sizes.{HasSmallShape, SmallConfigsAreConfigs}

pub small_shape : (size : ℕ) → size ≤ 128 → HasSmallShape size
small_shape size few = grind (arith, nat_tests)

pages_agree : (n : ℕ) → is_power_of_two n ≡ true → n ≤ 16384
    → (is_between 64 65536 n && (n % 16 == 0)) ≡ (is_between 64 16384 n && is_power_of_two n)
pages_agree n power few = search (arith, nat_tests)

queues_agree : (n : ℕ) → n ≤ 128 → is_between 2 256 n ≡ is_between 2 128 n
queues_agree n few = grind (arith, nat_tests)

pub small_configs : SmallConfigsAreConfigs
small_configs pages queue_size processors power few short = grind (arith, pages_agree, queues_agree)
