-- What calls leave of a device that has something in each field: just so, and with no field changed that
-- isn't theirs. A definition that lets another field change, or the answer, is refused here.
use Rattle.std.proofs.Common.{◌≡◌, refl, ap, arith, ℕ}
use Rattle.vb_core.specs.declared.kinds.Kind.TheVariants.{Statistics}
use Rattle.vb_core.specs.{declared.device.Device.Device, Devices.{new_device, placed}}
use Rattle.vb_monitor.{specs.declared.balloon.Balloon.Balloon, specs.Places.Lies}
use Rattle.vb_c.specs.Registers.{Negotiates, WritesStatus, Places}
use Rattle.vb_c.specs.Places.{MapsAnew, PlacesOver}
use Rattle.vb_c.proofs.Samples.{Same, settings, two, first_alone}
use Rattle.vb_c.proofs.Samples.{a_buffer}

-- no field of it is as a device has it that was just made
abbrev full : Device
full = record {
  settings = record settings { offered = 0x100000037; reserved_pages = 3; needs_must_tell = 1; skips_bad_pages = 1; holds_deflates = 1; discards_hints = 1 };
  features = 0x100000037;
  target = 20;
  actual = 21;
  inflate = record (placed 0x1000 0x1800 0x1900 16) { next_avail = 5; next_used = 4 };
  deflate = record (placed 0x2000 0x2800 0x2900 32) { next_avail = 7; next_used = 6 };
  statistics = record (placed 0x3000 0x3800 0x3900 8) { next_avail = 9; next_used = 8 };
  hint = record (placed 0x5000 0x5800 0x5a00 32) { next_avail = 13; next_used = 12 };
  report = record (placed 0x4000 0x4800 0x4a00 64) { next_avail = 11; next_used = 10 };
  poison = 22;
  round = record { shown = 24; last = 24; opened = 1 };
  status = 11;
}

abbrev driving : Device
driving = record full { status = 3 }

abbrev target_of : Device → ℕ
target_of d = d.target

-- ---- features

negotiated : (d : Device) (n : ℕ) → Negotiates 0x100000003 driving d n →
    (n ≡ 0) × (d ≡ record driving { features = 0x100000003 })
negotiated d n h = h.accepted refl

target_too : Negotiates 0x100000003 driving (record driving { features = 0x100000003; target = 1 }) 0 → ⊥
target_too h = let e : Same 1 20 = ap target_of (h.accepted refl).1 in omega arith

-- ---- the status: a step, and a reset, which keeps the settings and the target alone

stepped : (d : Device) (n : ℕ) → WritesStatus 15 full d n → (n ≡ 0) × (d ≡ record full { status = 15 })
stepped d n h = h.accepted refl

actual_too : WritesStatus 15 full (record full { status = 15; actual = 0 }) 0 → ⊥
actual_too h = let e : Same 0 21 = ap (λ (d : Device). d.actual) (h.accepted refl).1 in omega arith

reset : (d : Device) (n : ℕ) → WritesStatus 0 full d n →
    (n ≡ 0) × (d ≡ record (new_device full.settings) { target = 20; round = record { shown = 0; last = 24; opened = 0 } })
reset d n h = h.accepted refl

target_reset_too : WritesStatus 0 full (new_device full.settings) 0 → ⊥
target_reset_too h = let e : Same 0 20 = ap target_of (h.accepted refl).1 in omega arith

poison_over_a_reset : WritesStatus 0 full (record (new_device full.settings) { target = 20; poison = 22; round = record { shown = 0; last = 24; opened = 0 } }) 0 → ⊥
poison_over_a_reset h = let e : Same 22 0 = ap (λ (d : Device). d.poison) (h.accepted refl).1 in omega arith

-- ---- other regions

abbrev holding : Balloon
holding = record { device = full; held = a_buffer 4 }

mapped : (b : Balloon) (n : ℕ) → MapsAnew first_alone holding b n → (n ≡ 0)
    × (b ≡ record { device = record full { settings = record full.settings { memory_end = 0x15000 } }; held = a_buffer 4 })
mapped b n h = h.mapped refl

unheld_too : MapsAnew first_alone holding
    (record { device = record full { settings = record full.settings { memory_end = 0x15000 } }; held = a_buffer 0 }) 0 → ⊥
unheld_too h = let e : Same 0 4 = ap (λ (b : Balloon). b.held.statistics) (h.mapped refl).1 in omega arith

-- ---- places

placed_alone : (d : Device) (n : ℕ) → Places Statistics 0 0x100 0x200 4 full d n →
    (n ≡ 0) × (d ≡ record full { statistics = placed 0 0x100 0x200 4 })
unfolding lib.Count.ones
placed_alone d n h = h.placed_so refl

another_queue_too : Places Statistics 0 0x100 0x200 4 full
    (record full { statistics = placed 0 0x100 0x200 4; deflate = placed 0 0x100 0x200 4 }) 0 → ⊥
unfolding lib.Count.ones
another_queue_too h = let e : Same 4 32 = ap (λ (d : Device). d.deflate.size) (h.placed_so refl).1 in omega arith

placed_over_alone : (b : Balloon) (n : ℕ) → Lies two (placed 0 0x100 0x200 4) →
    PlacesOver Statistics two 0 0x100 0x200 4 holding b n →
    b ≡ record { device = record full { statistics = placed 0 0x100 0x200 4 }; held = a_buffer 4 }
unfolding lib.Count.ones
placed_over_alone b n lies h = (h.placed_so refl lies).1
