-- What a driver and a device ask for before a call, of an honest guest and of a rogue one.
use Rattle.std.specs.Prelude.{◌≡◌, ℕ, ◌≤◌, ◌&&◌, Bool, true, length, IsSome}
use Rattle.vb_virtio.specs.Limits.{is_config}
use Rattle.vb_virtio.specs.Layout.{ring_page, is_start_page}
use Rattle.vb_virtio.specs.Status.{contains, driver_ok, is_up}
use Rattle.vb_virtio.proofs.Shapes.{InRing, in_ring_page, start_of_ring}
use Rattle.std.proofs.Common.{arith, sym, subst}
use Rattle.vb_model.specs.Guest.{Guest}
use Rattle.vb_ram.specs.Pages.{Pages, frame_at}
use Rattle.vb_ram.specs.Part.{Part}
use Rattle.{vb_ram.proofs.Limits.config_limits, vb_ring.specs.Layout.{IsBacked, layout_of}}
use Rattle.{vb_ring.proofs.Shapes.parts_in_ring, vb_device.specs.Queues.queue_layout}
use Rattle.{vb_device.proofs.Sizes.size_is, vb_driver.specs.State.DriverState}
use Rattle.vb_guest.{specs.Stands.Stands, proofs.{Freed.start_backed, Standing.by_guest}}

-- a guest has 64 pages at the least
pub is_large : {keeps : Bool} {m : Pages} {p : Part} {d : DriverState} {g : Guest}
    → Stands keeps m p d g → 64 ≤ length m
is_large stands = grind (arith, config_limits)

both : (ok sound : Bool) → (ok && sound) ≡ true → ok ≡ true
both x sound e = grind arith

-- where the device is initialised its pages of rings and buffers have frames
pub is_backed : {keeps : Bool} {m : Pages} {p : Part} {d : DriverState} {g : Guest}
    → Stands keeps m p d g → is_up p.status ≡ true
    → (page : ℕ) → is_start_page d.queue_size page ≡ true → IsSome (frame_at m page)
is_backed stands up page start = grind (arith, both)

-- and so have the pages of the queue's ring
ring_backed : {m : Pages} (p : Part) (g : Guest) (q : ℕ) → p.queue_size ≡ g.config.queue_size
    → is_config g.config.pages g.config.queue_size g.config.processors ≡ true
    → ((page : ℕ) → is_start_page g.config.queue_size page ≡ true → IsSome (frame_at m page))
    → IsBacked m (queue_layout q p)
ring_backed {m} p g q same config backed = let size = g.config.queue_size in
    let parts = parts_in_ring size q (size_is g.config.pages size g.config.processors config) in
    let at : (page : ℕ) → InRing size q page → IsSome (frame_at m page) =
    λ page there. backed page (start_of_ring size page (in_ring_page size q page there)) in
    subst (λ (s : ℕ). IsBacked m (layout_of (ring_page s q) s)) (sym same) (record {
      table = at (ring_page size q) parts.table;
      avail = at (layout_of (ring_page size q) size).avail.page parts.avail;
      used = at (layout_of (ring_page size q) size).used.page parts.used;
    })

pub has_ring : {keeps : Bool} {m : Pages} {p : Part} {d : DriverState} {g : Guest} (q : ℕ)
    → Stands keeps m p d g → contains p.status driver_ok ≡ true → IsBacked m (queue_layout q p)
has_ring {p} {g} q stands ok = by_guest stands (λ honest. ring_backed
    p g q honest.ties.parts.device.size honest.ties.parts.guest.config (λ page start. start_backed
    page honest ok start)) (λ rogue. ring_backed p g q rogue.size rogue.config (rogue.up ok).backed)
