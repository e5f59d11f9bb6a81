-- Numbers that fit the fields of a saved device, worked out: the largest ones, and one more of each.
use Rattle.std.proofs.Common.{ℕ, arith}
use Rattle.vb_core.specs.Format.{FitsSettings, FitsRing, FitsRound, FitsHolds, FitsSaved}
use Rattle.vb_core.specs.declared.{device.Device.Device, ring.Virtqueue.Virtqueue, hints.Round.Round}
use Rattle.vb_core.specs.declared.{saved.Saved.Saved, settings.Settings.Settings}

-- the largest numbers of 64, 32, 16 and 8 bits
abbrev settings : Settings
settings = record {
  memory_end = 0xffffffffffffffff;
  offered = 0xffffffffffffffff;
  reserved_pages = 0xffffffff;
  needs_must_tell = 255;
  skips_bad_pages = 255;
  holds_deflates = 255;
  discards_hints = 255;
}

abbrev ring : Virtqueue
ring = record {
  table = 0xffffffffffffffff;
  avail = 0xffffffffffffffff;
  used = 0xffffffffffffffff;
  size = 65535;
  next_avail = 65535;
  next_used = 65535;
}

abbrev round : Round
round = record { shown = 0xffffffff; last = 0xffffffff; opened = 255 }

abbrev device : Device
device = record {
  settings = settings;
  features = 0xffffffffffffffff;
  target = 0xffffffff;
  actual = 0xffffffff;
  inflate = ring;
  deflate = ring;
  statistics = ring;
  hint = ring;
  report = ring;
  poison = 0xffffffff;
  round = round;
  status = 255;
}

abbrev saved : Device → Saved
saved d = record {
  device = d;
  held = record { statistics = 0xffffffff; deflate = 0xffffffff; pages = 0xffffffff };
}

-- they fit: in settings, in a ring, and in the device with both
settings_fit : FitsSettings settings
settings_fit = record {
  memory_end = omega arith;
  offered = omega arith;
  reserved_pages = omega arith;
  needs_must_tell = omega arith;
  skips_bad_pages = omega arith;
}

ring_fits : FitsRing ring
ring_fits = record {
  table = omega arith;
  avail = omega arith;
  used = omega arith;
  size = omega arith;
  next_avail = omega arith;
  next_used = omega arith;
}

round_fits : FitsRound round
round_fits = record { shown = omega arith; last = omega arith; opened = omega arith }

holds_fit : FitsHolds (saved device)
holds_fit = record { setting = omega arith; deflate = omega arith; pages = omega arith }

all_fit : FitsSaved (saved device)
all_fit = record {
  settings = settings_fit;
  features = omega arith;
  target = omega arith;
  actual = omega arith;
  inflate = ring_fits;
  deflate = ring_fits;
  statistics = ring_fits;
  hint = ring_fits;
  report = ring_fits;
  poison = omega arith;
  round = round_fits;
  discards_hints = omega arith;
  status = omega arith;
  statistics_held = omega arith;
  holds = holds_fit;
}

-- one more doesn't fit: of settings, of a ring, and of the device
settings_past : (FitsSettings (record settings { memory_end = 0x10000000000000000 }) → ⊥)
    × (FitsSettings (record settings { offered = 0x10000000000000000 }) → ⊥)
    × (FitsSettings (record settings { reserved_pages = 0x100000000 }) → ⊥)
    × (FitsSettings (record settings { needs_must_tell = 256 }) → ⊥)
    × (FitsSettings (record settings { skips_bad_pages = 256 }) → ⊥)
settings_past = (
  λ f. omega (arith, f.memory_end),
  λ f. omega (arith, f.offered),
  λ f. omega (arith, f.reserved_pages),
  λ f. omega (arith, f.needs_must_tell),
  λ f. omega (arith, f.skips_bad_pages),
)

ring_past : (FitsRing (record ring { table = 0x10000000000000000 }) → ⊥)
    × (FitsRing (record ring { avail = 0x10000000000000000 }) → ⊥)
    × (FitsRing (record ring { used = 0x10000000000000000 }) → ⊥)
    × (FitsRing (record ring { size = 65536 }) → ⊥)
    × (FitsRing (record ring { next_avail = 65536 }) → ⊥)
    × (FitsRing (record ring { next_used = 65536 }) → ⊥)
ring_past = (
  λ f. omega (arith, f.table),
  λ f. omega (arith, f.avail),
  λ f. omega (arith, f.used),
  λ f. omega (arith, f.size),
  λ f. omega (arith, f.next_avail),
  λ f. omega (arith, f.next_used),
)

round_past : (FitsRound (record round { shown = 0x100000000 }) → ⊥)
    × (FitsRound (record round { last = 0x100000000 }) → ⊥)
    × (FitsRound (record round { opened = 256 }) → ⊥)
round_past =
    (λ f. omega (arith, f.shown), λ f. omega (arith, f.last), λ f. omega (arith, f.opened))

device_past : (FitsSaved (saved (record device { features = 0x10000000000000000 })) → ⊥)
    × (FitsSaved (saved (record device { target = 0x100000000 })) → ⊥)
    × (FitsSaved (saved (record device { actual = 0x100000000 })) → ⊥)
    × (FitsSaved (saved (record device { poison = 0x100000000 })) → ⊥)
    × (FitsSaved (saved (record device { status = 256 })) → ⊥)
    × (FitsSaved (record (saved device) { held = record (saved device).held { statistics = 0x100000000 } }) → ⊥)
device_past = (
  λ f. omega (arith, f.features),
  λ f. omega (arith, f.target),
  λ f. omega (arith, f.actual),
  λ f. omega (arith, f.poison),
  λ f. omega (arith, f.status),
  λ f. omega (arith, f.statistics_held),
)

-- nor one of its settings, and of each of its rings
abbrev long : Virtqueue
long = record ring { size = 65536 }

parts_past : (FitsSaved (saved (record device { settings = record settings { needs_must_tell = 256 } })) → ⊥)
    × (FitsSaved (saved (record device { inflate = long })) → ⊥)
    × (FitsSaved (saved (record device { deflate = long })) → ⊥)
    × (FitsSaved (saved (record device { statistics = long })) → ⊥)
    × (FitsSaved (saved (record device { hint = long })) → ⊥)
    × (FitsSaved (saved (record device { report = long })) → ⊥)
    × (FitsSaved (saved (record device { round = record round { opened = 256 } })) → ⊥)
    × (FitsSaved (saved (record device { settings = record settings { discards_hints = 256 } })) → ⊥)
parts_past = (
  λ f. omega (arith, f.settings.needs_must_tell),
  λ f. omega (arith, f.inflate.size),
  λ f. omega (arith, f.deflate.size),
  λ f. omega (arith, f.statistics.size),
  λ f. omega (arith, f.hint.size),
  λ f. omega (arith, f.report.size),
  λ f. omega (arith, f.round.opened),
  λ f. omega (arith, f.discards_hints),
)

-- nor what is held of deflates, or may be
abbrev holds : ℕ → ℕ → ℕ → Saved
holds setting deflate pages = record {
  device = record device { settings = record settings { holds_deflates = setting } };
  held = record { statistics = 0; deflate = deflate; pages = pages };
}

holds_past : (FitsSaved (holds 256 0 0) → ⊥) × (FitsSaved (holds 0 0x100000000 0) → ⊥)
    × (FitsSaved (holds 0 0 0x100000000) → ⊥)
holds_past = (
  λ f. omega (arith, f.holds.setting),
  λ f. omega (arith, f.holds.deflate),
  λ f. omega (arith, f.holds.pages),
)
