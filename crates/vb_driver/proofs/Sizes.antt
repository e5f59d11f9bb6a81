-- The sizes of a guest within the limits.
use Rattle.std.proofs.Common.{◌≡◌, ◌∙◌, refl, arith, ℕ, ◌%◌, ◌<◌, Bool, true, not, ◌||◌, eqb}
use Rattle.std.{proofs.Common.{eq-eqb, zero-add, get_or}, specs.List.{list_all, range_with_len}}
use Rattle.std.proofs.lemmas.{Bool.{and_parts, eqb-true}, List.Folds.list_any_at}
use Rattle.std.proofs.lemmas.List.FromFn.{length-range_with_len, get_or-range_with_len}
use Rattle.vb_virtio.specs.Tests.{is_in}
use Rattle.vb_virtio.proofs.Tables.{list_all-at}
use Rattle.vb_virtio.specs.Limits.{is_config, is_power_of_two}
use Rattle.vb_ring.specs.Layout.{IsSize}
use Rattle.vb_ram.proofs.Limits.{config_limits}

abbrev passes : ℕ → Bool
passes q = not (is_power_of_two q) || eqb (65536 % q) 0

table : list_all passes (range_with_len 0 257) ≡ true
table = refl

at_range : (s : ℕ) → s < 257 → is_in s (range_with_len 0 257) ≡ true
at_range s lt = list_any_at (λ m. eqb m s) (range_with_len 0 257) s s
    (omega (arith, length-range_with_len 0 257))
    (eq-eqb (get_or (range_with_len 0 257) s s) s (get_or-range_with_len 0 257 s s lt ∙ zero-add s))

second : (a : Bool) {b : Bool} → a ≡ true → (not a || b) ≡ true → b ≡ true
second x e h = grind arith

pub size_of_config : (pages : ℕ) {size : ℕ} (processors : ℕ)
    → is_config pages size processors ≡ true → IsSize size
size_of_config pages processors h =
    grind (arith, config_limits, and_parts, eqb-true, second, list_all-at, table, at_range)
