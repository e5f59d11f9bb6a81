-- What a ring's place says.
use Rattle.std.{proofs.Common.{◌≡◌, ℕ, zero, suc, ◌<◌, Bool, true, false, refl, arith}, specs.Prelude.◌&&◌}
use Rattle.std.specs.Int.{is_power_of_two}
use Rattle.vb_core.{specs.declared.ring.Virtqueue.Virtqueue, specs.Rings.{is_size, has_place}}
use lib.Count

both : (a b : Bool) → (a && b) ≡ true → (a ≡ true) × (b ≡ true)
both true b e = (refl, e)
both false b e = absurd cc

-- 0 is no power of two
no_power : is_power_of_two 0 ≡ false
unfolding lib.Count.ones
no_power = refl

some : (q : ℕ) → is_power_of_two q ≡ true → 0 < q
some zero e = let none = no_power in absurd cc
some (suc n) e = omega arith

size_is : (q : ℕ) → is_size q ≡ true → 0 < q
size_is q e = grind (arith, both, some)

-- a ring that has its place has a descriptor
pub placed_size : (end : ℕ) (r : Virtqueue) → has_place end r ≡ true → 0 < r.size
placed_size end r e = grind (arith, both, size_is)
