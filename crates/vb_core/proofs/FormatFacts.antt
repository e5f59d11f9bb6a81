-- The bytes of a saved device, worked out: each field has a number of its own.
use Rattle.std.specs.Prelude.{Ok, Err, take, drop}
use Rattle.std.proofs.Common.{◌≡◌, ℕ, true, false, List, [], ◌∷◌, ◌++◌, map, refl, ap, arith}
use Rattle.vb_core.specs.declared.{device.Device.Device, saved.Saved.Saved}
use Rattle.vb_core.specs.declared.{ring.Virtqueue.Virtqueue, hints.Round.Round}
use Rattle.vb_core.specs.Format.{in_a_row, round_parts, round_at, HoldsNoDeflate, HintsNothing}
use Rattle.vb_core.specs.Format.{u16_bytes, u32_bytes, u64_bytes, u16_at, u32_at, u64_at, checksum}
use Rattle.vb_core.specs.{Format.{saved_bytes, saved_in, older_bytes, older_in, oldest_bytes, oldest_in}, Saved.{can_be, restored}}
use Rattle.vb_core.specs.declared.saved.StateDenial.TheVariants.{BadLength, BadSum, Impossible, OtherVersion}
use lib.Count

abbrev ring : ℕ → ℕ → ℕ → ℕ → ℕ → ℕ → Virtqueue
ring table avail used size taken told = record {
  table = table;
  avail = avail;
  used = used;
  size = size;
  next_avail = taken;
  next_used = told;
}

abbrev saved : Saved
saved = record {
  device = record {
    settings = record {
      memory_end = 0x1000800;
      offered = 0x10000003b;
      reserved_pages = 16;
      needs_must_tell = 1;
      skips_bad_pages = 2;
      holds_deflates = 3;
      discards_hints = 4;
    };
    features = 0x10000003b;
    target = 0x1020304;
    actual = 0x5060708;
    inflate = ring 0x10000 0x11000 0x12000 256 0x102 0x304;
    deflate = ring 0x20000 0x21002 0x22004 128 5 6;
    statistics = ring 0x30010 0x31000 0x32000 64 7 8;
    hint = ring 0x50000 0x51000 0x52000 16 11 12;
    report = ring 0x40000 0x41000 0x42000 32 9 10;
    poison = 0xaabbccdd;
    round = record { shown = 0x1020307; last = 0x1020307; opened = 1 };
    status = 15;
  };
  held = record { statistics = 64; deflate = 100; pages = 200 };
}

-- the header; the settings; features, target, actual, the buffer that is held, and status; four
-- rings; poison_val; whether deflates are held, the one that is, and its pages; the ring of hints, the
-- round, and whether hints are discarded; and the checksum of all these
abbrev bytes : List ℕ
bytes =
    86 ∷ 66 ∷ 83 ∷ 84 ∷ 65 ∷ 84 ∷ 69 ∷ 0 ∷ 4 ∷ 0 ∷ 0 ∷ 0 ∷ 240 ∷ 0 ∷ 0 ∷ 0 ∷ 0 ∷ 8 ∷ 0 ∷ 1 ∷ 0 ∷ 0
    ∷ 0 ∷ 0 ∷ 59 ∷ 0 ∷ 0 ∷ 0 ∷ 1 ∷ 0 ∷ 0 ∷ 0 ∷ 16 ∷ 0 ∷ 0 ∷ 0 ∷ 1 ∷ 2 ∷ 59 ∷ 0 ∷ 0 ∷ 0 ∷ 1 ∷ 0 ∷ 0
    ∷ 0 ∷ 4 ∷ 3 ∷ 2 ∷ 1 ∷ 8 ∷ 7 ∷ 6 ∷ 5 ∷ 64 ∷ 0 ∷ 0 ∷ 0 ∷ 15 ∷ 0 ∷ 0 ∷ 1 ∷ 0 ∷ 0 ∷ 0 ∷ 0 ∷ 0 ∷ 0
    ∷ 16 ∷ 1 ∷ 0 ∷ 0 ∷ 0 ∷ 0 ∷ 0 ∷ 0 ∷ 32 ∷ 1 ∷ 0 ∷ 0 ∷ 0 ∷ 0 ∷ 0 ∷ 0 ∷ 1 ∷ 2 ∷ 1 ∷ 4 ∷ 3 ∷ 0 ∷ 0
    ∷ 2 ∷ 0 ∷ 0 ∷ 0 ∷ 0 ∷ 0 ∷ 2 ∷ 16 ∷ 2 ∷ 0 ∷ 0 ∷ 0 ∷ 0 ∷ 0 ∷ 4 ∷ 32 ∷ 2 ∷ 0 ∷ 0 ∷ 0 ∷ 0 ∷ 0 ∷ 128
    ∷ 0 ∷ 5 ∷ 0 ∷ 6 ∷ 0 ∷ 16 ∷ 0 ∷ 3 ∷ 0 ∷ 0 ∷ 0 ∷ 0 ∷ 0 ∷ 0 ∷ 16 ∷ 3 ∷ 0 ∷ 0 ∷ 0 ∷ 0 ∷ 0 ∷ 0 ∷ 32
    ∷ 3 ∷ 0 ∷ 0 ∷ 0 ∷ 0 ∷ 0 ∷ 64 ∷ 0 ∷ 7 ∷ 0 ∷ 8 ∷ 0 ∷ 0 ∷ 0 ∷ 4 ∷ 0 ∷ 0 ∷ 0 ∷ 0 ∷ 0 ∷ 0 ∷ 16 ∷ 4
    ∷ 0 ∷ 0 ∷ 0 ∷ 0 ∷ 0 ∷ 0 ∷ 32 ∷ 4 ∷ 0 ∷ 0 ∷ 0 ∷ 0 ∷ 0 ∷ 32 ∷ 0 ∷ 9 ∷ 0 ∷ 10 ∷ 0 ∷ 221 ∷ 204 ∷ 187
    ∷ 170 ∷ 3 ∷ 100 ∷ 0 ∷ 0 ∷ 0 ∷ 200 ∷ 0 ∷ 0 ∷ 0 ∷ 0 ∷ 0 ∷ 5 ∷ 0 ∷ 0 ∷ 0 ∷ 0 ∷ 0 ∷ 0 ∷ 16 ∷ 5 ∷ 0
    ∷ 0 ∷ 0 ∷ 0 ∷ 0 ∷ 0 ∷ 32 ∷ 5 ∷ 0 ∷ 0 ∷ 0 ∷ 0 ∷ 0 ∷ 16 ∷ 0 ∷ 11 ∷ 0 ∷ 12 ∷ 0 ∷ 7 ∷ 3 ∷ 2 ∷ 1 ∷ 7
    ∷ 3 ∷ 2 ∷ 1 ∷ 1 ∷ 4 ∷ 73 ∷ 250 ∷ 21 ∷ 254 ∷ 58 ∷ 199 ∷ 17 ∷ 48 ∷ []

-- those that the version before had of the same device, but for its hints
abbrev older : List ℕ
older =
    86 ∷ 66 ∷ 83 ∷ 84 ∷ 65 ∷ 84 ∷ 69 ∷ 0 ∷ 3 ∷ 0 ∷ 0 ∷ 0 ∷ 200 ∷ 0 ∷ 0 ∷ 0 ∷ 0 ∷ 8 ∷ 0 ∷ 1 ∷ 0 ∷ 0
    ∷ 0 ∷ 0 ∷ 59 ∷ 0 ∷ 0 ∷ 0 ∷ 1 ∷ 0 ∷ 0 ∷ 0 ∷ 16 ∷ 0 ∷ 0 ∷ 0 ∷ 1 ∷ 2 ∷ 59 ∷ 0 ∷ 0 ∷ 0 ∷ 1 ∷ 0 ∷ 0
    ∷ 0 ∷ 4 ∷ 3 ∷ 2 ∷ 1 ∷ 8 ∷ 7 ∷ 6 ∷ 5 ∷ 64 ∷ 0 ∷ 0 ∷ 0 ∷ 15 ∷ 0 ∷ 0 ∷ 1 ∷ 0 ∷ 0 ∷ 0 ∷ 0 ∷ 0 ∷ 0
    ∷ 16 ∷ 1 ∷ 0 ∷ 0 ∷ 0 ∷ 0 ∷ 0 ∷ 0 ∷ 32 ∷ 1 ∷ 0 ∷ 0 ∷ 0 ∷ 0 ∷ 0 ∷ 0 ∷ 1 ∷ 2 ∷ 1 ∷ 4 ∷ 3 ∷ 0 ∷ 0
    ∷ 2 ∷ 0 ∷ 0 ∷ 0 ∷ 0 ∷ 0 ∷ 2 ∷ 16 ∷ 2 ∷ 0 ∷ 0 ∷ 0 ∷ 0 ∷ 0 ∷ 4 ∷ 32 ∷ 2 ∷ 0 ∷ 0 ∷ 0 ∷ 0 ∷ 0
    ∷ 128 ∷ 0 ∷ 5 ∷ 0 ∷ 6 ∷ 0 ∷ 16 ∷ 0 ∷ 3 ∷ 0 ∷ 0 ∷ 0 ∷ 0 ∷ 0 ∷ 0 ∷ 16 ∷ 3 ∷ 0 ∷ 0 ∷ 0 ∷ 0 ∷ 0
    ∷ 0 ∷ 32 ∷ 3 ∷ 0 ∷ 0 ∷ 0 ∷ 0 ∷ 0 ∷ 64 ∷ 0 ∷ 7 ∷ 0 ∷ 8 ∷ 0 ∷ 0 ∷ 0 ∷ 4 ∷ 0 ∷ 0 ∷ 0 ∷ 0 ∷ 0 ∷ 0
    ∷ 16 ∷ 4 ∷ 0 ∷ 0 ∷ 0 ∷ 0 ∷ 0 ∷ 0 ∷ 32 ∷ 4 ∷ 0 ∷ 0 ∷ 0 ∷ 0 ∷ 0 ∷ 32 ∷ 0 ∷ 9 ∷ 0 ∷ 10 ∷ 0 ∷ 221
    ∷ 204 ∷ 187 ∷ 170 ∷ 3 ∷ 100 ∷ 0 ∷ 0 ∷ 0 ∷ 200 ∷ 0 ∷ 0 ∷ 0 ∷ 181 ∷ 12 ∷ 64 ∷ 85 ∷ 231 ∷ 232
    ∷ 12 ∷ 218 ∷ []

-- and those of the oldest version, but for its deflates, too
abbrev oldest : List ℕ
oldest =
    86 ∷ 66 ∷ 83 ∷ 84 ∷ 65 ∷ 84 ∷ 69 ∷ 0 ∷ 2 ∷ 0 ∷ 0 ∷ 0 ∷ 191 ∷ 0 ∷ 0 ∷ 0 ∷ 0 ∷ 8 ∷ 0 ∷ 1 ∷ 0 ∷ 0
    ∷ 0 ∷ 0 ∷ 59 ∷ 0 ∷ 0 ∷ 0 ∷ 1 ∷ 0 ∷ 0 ∷ 0 ∷ 16 ∷ 0 ∷ 0 ∷ 0 ∷ 1 ∷ 2 ∷ 59 ∷ 0 ∷ 0 ∷ 0 ∷ 1 ∷ 0 ∷ 0
    ∷ 0 ∷ 4 ∷ 3 ∷ 2 ∷ 1 ∷ 8 ∷ 7 ∷ 6 ∷ 5 ∷ 64 ∷ 0 ∷ 0 ∷ 0 ∷ 15 ∷ 0 ∷ 0 ∷ 1 ∷ 0 ∷ 0 ∷ 0 ∷ 0 ∷ 0 ∷ 0
    ∷ 16 ∷ 1 ∷ 0 ∷ 0 ∷ 0 ∷ 0 ∷ 0 ∷ 0 ∷ 32 ∷ 1 ∷ 0 ∷ 0 ∷ 0 ∷ 0 ∷ 0 ∷ 0 ∷ 1 ∷ 2 ∷ 1 ∷ 4 ∷ 3 ∷ 0 ∷ 0
    ∷ 2 ∷ 0 ∷ 0 ∷ 0 ∷ 0 ∷ 0 ∷ 2 ∷ 16 ∷ 2 ∷ 0 ∷ 0 ∷ 0 ∷ 0 ∷ 0 ∷ 4 ∷ 32 ∷ 2 ∷ 0 ∷ 0 ∷ 0 ∷ 0 ∷ 0
    ∷ 128 ∷ 0 ∷ 5 ∷ 0 ∷ 6 ∷ 0 ∷ 16 ∷ 0 ∷ 3 ∷ 0 ∷ 0 ∷ 0 ∷ 0 ∷ 0 ∷ 0 ∷ 16 ∷ 3 ∷ 0 ∷ 0 ∷ 0 ∷ 0 ∷ 0
    ∷ 0 ∷ 32 ∷ 3 ∷ 0 ∷ 0 ∷ 0 ∷ 0 ∷ 0 ∷ 64 ∷ 0 ∷ 7 ∷ 0 ∷ 8 ∷ 0 ∷ 0 ∷ 0 ∷ 4 ∷ 0 ∷ 0 ∷ 0 ∷ 0 ∷ 0 ∷ 0
    ∷ 16 ∷ 4 ∷ 0 ∷ 0 ∷ 0 ∷ 0 ∷ 0 ∷ 0 ∷ 32 ∷ 4 ∷ 0 ∷ 0 ∷ 0 ∷ 0 ∷ 0 ∷ 32 ∷ 0 ∷ 9 ∷ 0 ∷ 10 ∷ 0 ∷ 221
    ∷ 204 ∷ 187 ∷ 170 ∷ 26 ∷ 95 ∷ 150 ∷ 105 ∷ 145 ∷ 250 ∷ 25 ∷ 32 ∷ []

written : saved_bytes saved ≡ bytes
unfolding u16_bytes u32_bytes u64_bytes checksum
written = refl

-- the device without hints, and without deflates that are held, too
abbrev without_hints : Saved → Saved
without_hints s = record s {
  device = record s.device {
    settings = record s.device.settings { discards_hints = 0 };
    hint = ring 0 0 0 0 0 0;
    round = record { shown = 0; last = 0; opened = 0 };
  };
}

abbrev without : Saved → Saved
without s = record {
  device = record (without_hints s).device {
    settings = record s.device.settings { holds_deflates = 0; discards_hints = 0 };
  };
  held = record { statistics = 64; deflate = 0; pages = 0 };
}

written_before : older_bytes saved ≡ older
unfolding u16_bytes u32_bytes u64_bytes checksum
written_before = refl

written_at_first : oldest_bytes saved ≡ oldest
unfolding u16_bytes u32_bytes u64_bytes checksum
written_at_first = refl

read : saved_in bytes ≡ saved
unfolding u16_at u32_at u64_at
read = refl

back : restored bytes ≡ Ok saved
unfolding u16_at u32_at u64_at checksum lib.Count.ones
back = refl

read_before : older_in older ≡ without_hints saved
unfolding u16_at u32_at u64_at
read_before = refl

read_at_first : oldest_in oldest ≡ without saved
unfolding u16_at u32_at u64_at
read_at_first = refl

back_before : restored older ≡ Ok (without_hints saved)
unfolding u16_at u32_at u64_at checksum lib.Count.ones
back_before = refl

back_at_first : restored oldest ≡ Ok (without saved)
unfolding u16_at u32_at u64_at checksum lib.Count.ones
back_at_first = refl

-- ---- a round, each of its numbers another one

abbrev a_round : Round
a_round = record { shown = 0x1020304; last = 0x5060708; opened = 9 }

round_bytes : in_a_row (round_parts a_round) [] ≡ 4 ∷ 3 ∷ 2 ∷ 1 ∷ 8 ∷ 7 ∷ 6 ∷ 5 ∷ 9 ∷ []
unfolding u32_bytes
round_bytes = refl

round_read : round_at (255 ∷ 4 ∷ 3 ∷ 2 ∷ 1 ∷ 8 ∷ 7 ∷ 6 ∷ 5 ∷ 9 ∷ 255 ∷ []) 1 ≡ a_round
unfolding u32_at
round_read = refl

-- ---- what a device of an older version has nothing of: each of these alone is something

hints_nothing : HintsNothing (without_hints saved).device
hints_nothing = record { setting = refl; ring = refl; round = refl }

abbrev bare : Device
bare = (without_hints saved).device

hints_something : (HintsNothing (record bare { settings = record bare.settings { discards_hints = 1 } }) → ⊥)
    × (HintsNothing (record bare { hint = record bare.hint { table = 1 } }) → ⊥)
    × (HintsNothing (record bare { round = record bare.round { last = 2 } }) → ⊥)
hints_something = (
  λ h. omega (arith, h.setting),
  λ h. omega (arith, ap (λ (r : Virtqueue). r.table) h.ring),
  λ h. omega (arith, ap (λ (r : Round). r.last) h.round),
)

-- ---- what a device may be: each of these alone makes it impossible

abbrev with_device : (Device → Device) → Saved
with_device change = record saved { device = change saved.device }

abbrev holding : ℕ → ℕ → ℕ → Saved
holding statistics deflate pages =
    record saved { held = record { statistics = statistics; deflate = deflate; pages = pages } }

-- a deflate is held that isn't to be
abbrev without_setting : Saved
without_setting =
    with_device (λ d. record d { settings = record d.settings { holds_deflates = 0 } })

abbrev six : Virtqueue
six = ring 0x10000 0x11000 0x12000 6 0 0

impossible : map can_be (
    saved ∷ holding 65 100 200 ∷ holding 64 129 200 ∷ holding 64 100 0x100001 ∷ holding 64 0 1 ∷ without_setting ∷ with_device (λ d. record d { inflate = six })
    ∷ with_device (λ d. record d { deflate = six })
    ∷ with_device (λ d. record d { statistics = record d.statistics { table = 1 } })
    ∷ with_device (λ d. record d { report = six }) ∷ with_device (λ d. record d { hint = six })
    ∷ with_device (λ d. record d { round = record d.round { opened = 2 } })
    ∷ with_device (λ d. record d { round = record d.round { shown = 0x1020306 } })
    ∷ with_device (λ d. record d { round = record d.round { last = 0x1020306 } })
    ∷ with_device (λ d. record d { round = record d.round { shown = 0 } }) ∷ with_device (λ d. record d { status = 31 })
    ∷ with_device (λ d. record d { features = 0x10000003c })
    ∷ with_device (λ d. record d { settings = record d.settings { memory_end = 0x100000000000 } })
    ∷ with_device (λ d. record d {
      features = 0x10000002b;
      settings = record d.settings { offered = 0x10000002b };
    }) ∷ []
    ) ≡ true ∷ false ∷ false ∷ false ∷ false ∷ false ∷ false ∷ false ∷ false ∷ false ∷ false ∷ false ∷ false ∷ false
    ∷ false ∷ false ∷ false ∷ false ∷ false ∷ []
unfolding lib.Count.ones
impossible = refl

-- ---- bytes that aren't restored, by what is wrong with them

-- a byte less or more, another length in the header, a wrong checksum, and an impossible device with a
-- right one
not_restored : map restored (
    take 15 bytes ∷ take 239 bytes ∷ (bytes ++ 0 ∷ []) ∷ (take 12 bytes ++ 239 ∷ drop 13 bytes)
    ∷ (take 182 bytes ++ 171 ∷ drop 183 bytes) ∷ saved_bytes (holding 65 100 200) ∷ []
    ) ≡ Err BadLength ∷ Err BadLength ∷ Err BadLength ∷ Err BadLength ∷ Err BadSum ∷ Err Impossible ∷ []
unfolding u16_bytes u32_bytes u64_bytes u16_at u32_at u64_at checksum lib.Count.ones
not_restored = refl

-- of the older versions: a newer one's length, or bytes of it under the other's number
not_restored_before : map restored (
    take 199 older ∷ (older ++ take 40 older) ∷ (take 8 bytes ++ 3 ∷ drop 9 bytes)
    ∷ (take 8 older ++ 4 ∷ drop 9 older) ∷ (take 8 older ++ 2 ∷ drop 9 older)
    ∷ (take 182 older ++ 171 ∷ drop 183 older) ∷ (take 8 older ++ 5 ∷ drop 9 older)
    ∷ older_bytes (holding 65 100 200) ∷ []
    ) ≡ Err BadLength ∷ Err BadLength ∷ Err BadLength ∷ Err BadLength ∷ Err BadLength ∷ Err BadSum
    ∷ Err OtherVersion ∷ Err Impossible ∷ []
unfolding u16_bytes u32_bytes u64_bytes u16_at u32_at u64_at checksum lib.Count.ones
not_restored_before = refl

not_restored_at_first : map restored (
    take 190 oldest ∷ (oldest ++ take 9 oldest) ∷ (take 8 older ++ 2 ∷ drop 9 older)
    ∷ (take 8 oldest ++ 3 ∷ drop 9 oldest) ∷ (take 182 oldest ++ 171 ∷ drop 183 oldest)
    ∷ (take 8 oldest ++ 1 ∷ drop 9 oldest) ∷ oldest_bytes (holding 65 0 0) ∷ []
    ) ≡ Err BadLength ∷ Err BadLength ∷ Err BadLength ∷ Err BadLength ∷ Err BadSum
    ∷ Err OtherVersion ∷ Err Impossible ∷ []
unfolding u16_bytes u32_bytes u64_bytes u16_at u32_at u64_at checksum lib.Count.ones
not_restored_at_first = refl

-- and nothing of deflates: none is held, nor may be
abbrev holds_nothing : Saved
holds_nothing = record saved {
  device = record saved.device { settings = record (saved.device.settings) { holds_deflates = 0 } };
  held = record saved.held { deflate = 0; pages = 0 };
}

deflates_nothing : HoldsNoDeflate holds_nothing
deflates_nothing = record { setting = refl; deflate = refl; pages = refl }

deflates_something : (HoldsNoDeflate (record holds_nothing { device = saved.device }) → ⊥)
    × (HoldsNoDeflate (record holds_nothing { held = record holds_nothing.held { deflate = 1 } }) → ⊥)
    × (HoldsNoDeflate (record holds_nothing { held = record holds_nothing.held { pages = 1 } }) → ⊥)
deflates_something = (
  λ h. omega (arith, h.setting),
  λ h. omega (arith, h.deflate),
  λ h. omega (arith, h.pages),
)
