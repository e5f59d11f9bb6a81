-- What the device's part says of a guest's memory.
use Rattle.std.{specs.Prelude.{◌≡◌, ℕ, ◌≤◌, true, length, IsSome, ◌⊎◌}, proofs.Common.arith}
use Rattle.vb_virtio.specs.Status.{contains, driver_ok}
use Rattle.vb_virtio.specs.Layout.{is_start_page}
use Rattle.vb_model.specs.Guest.{Guest}
use Rattle.vb_ram.{proofs.Limits.config_limits, specs.Pages.{Pages, frame_at}}
use Rattle.{vb_ram.specs.Part.Part, vb_driver.specs.State.DriverState, vb_guest.specs.Stands.Honest}

pub down_not_ok : (status : ℕ) → (status ≡ 0) ⊎ (status ≡ 131) → contains status driver_ok ≡ true → ⊥
down_not_ok status h1 ok = grind arith

-- the pages of rings and buffers have frames where the device is initialised
pub start_backed : {m : Pages} {p : Part} {d : DriverState} {g : Guest} (page : ℕ)
    → Honest m p d g → contains p.status driver_ok ≡ true
    → is_start_page g.config.queue_size page ≡ true → IsSome (frame_at m page)
start_backed page stands ok start = grind arith

-- a guest has 64 pages at the least
pub large : {m : Pages} {p : Part} {d : DriverState} {g : Guest} → Honest m p d g → 64 ≤ length m
large stands = grind (arith, config_limits)
