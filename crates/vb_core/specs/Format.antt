-- The bytes of a saved device. Numbers are little-endian (as in VIRTIO 1.1, 1.4), and nothing is
-- between them.
use Rattle.std.specs.Prelude.{ℕ, ◌+◌, ◌*◌, ◌%◌, ◌^◌, ◌<◌, List, [], ◌∷◌, ◌++◌, slice_index, take}
use Rattle.std.specs.Prelude.{drop, bit_xor, ◌≡◌, ◌⊎◌, ◌==◌, if◌then◌else◌, length}
use Rattle.std.specs.List.{fold}
use Rattle.std.specs.Int.{w16, w32, w64, from_le_bytes, to_le_bytes}
use Rattle.vb_core.specs.declared.settings.Settings.{Settings}
use Rattle.vb_core.specs.declared.ring.Virtqueue.{Virtqueue}
use Rattle.vb_core.specs.declared.device.Device.{Device}
use Rattle.vb_core.specs.declared.saved.Saved.{Saved}
use Rattle.vb_core.specs.declared.format.TheConstants.{MAGIC, FORMAT_VERSION, SAVED_LENGTH}
use Rattle.vb_core.specs.declared.format.TheConstants.{OLDER_VERSION, OLDER_LENGTH}
use Rattle.vb_core.specs.declared.format.TheConstants.{OLDEST_VERSION, OLDEST_LENGTH}
use Rattle.vb_core.specs.Rings.{no_ring}
use Rattle.vb_core.specs.Hints.{no_round}
use Rattle.vb_core.specs.declared.hints.Round.{Round}

-- ---- numbers

unfoldable pub u16_bytes : ℕ → List ℕ
u16_bytes n = to_le_bytes w16 n

unfoldable pub u32_bytes : ℕ → List ℕ
u32_bytes n = to_le_bytes w32 n

unfoldable pub u64_bytes : ℕ → List ℕ
u64_bytes n = to_le_bytes w64 n

-- the numbers that are so far after the start
unfoldable pub u16_at : List ℕ → ℕ → ℕ
u16_at bytes at = from_le_bytes w16 (take 2 (drop at bytes))

unfoldable pub u32_at : List ℕ → ℕ → ℕ
u32_at bytes at = from_le_bytes w32 (take 4 (drop at bytes))

unfoldable pub u64_at : List ℕ → ℕ → ℕ
u64_at bytes at = from_le_bytes w64 (take 8 (drop at bytes))

-- ---- what is saved, part by part

abbrev pub header_parts : ℕ → ℕ → List (List ℕ)
header_parts version len = u64_bytes MAGIC ∷ u32_bytes version ∷ u32_bytes len ∷ []

abbrev pub settings_parts : Settings → List (List ℕ)
settings_parts s =
    u64_bytes s.memory_end ∷ u64_bytes s.offered ∷ u32_bytes s.reserved_pages
    ∷ (s.needs_must_tell ∷ []) ∷ (s.skips_bad_pages ∷ []) ∷ []

abbrev pub ring_parts : Virtqueue → List (List ℕ)
ring_parts r =
    u64_bytes r.table ∷ u64_bytes r.avail ∷ u64_bytes r.used
    ∷ u16_bytes r.size ∷ u16_bytes r.next_avail ∷ u16_bytes r.next_used ∷ []

abbrev pub device_parts : Device → ℕ → List (List ℕ)
device_parts d held =
    settings_parts d.settings
    ++ (u64_bytes d.features ∷ u32_bytes d.target ∷ u32_bytes d.actual ∷ u32_bytes held
    ∷ (d.status ∷ []) ∷ [])
    ++ ring_parts d.inflate ++ ring_parts d.deflate
    ++ ring_parts d.statistics ++ ring_parts d.report ++ (u32_bytes d.poison ∷ [])

-- parts in a row, and more after them
abbrev pub in_a_row : List (List ℕ) → List ℕ → List ℕ
in_a_row [] more = more
in_a_row (part ∷ parts) more = part ++ in_a_row parts more

-- what is held of deflates, or may be, which the oldest version doesn't say
abbrev pub hold_parts : Saved → List (List ℕ)
hold_parts s =
    (s.device.settings.holds_deflates ∷ []) ∷ u32_bytes s.held.deflate ∷ u32_bytes s.held.pages ∷ []

abbrev pub round_parts : Round → List (List ℕ)
round_parts r = u32_bytes r.shown ∷ u32_bytes r.last ∷ (r.opened ∷ []) ∷ []

-- the queue of hints, its round, and whether hints are discarded, which no older version says
abbrev pub hint_parts : Device → List (List ℕ)
hint_parts d = ring_parts d.hint ++ round_parts d.round ++ ((d.settings.discards_hints ∷ []) ∷ [])

abbrev pub saved_parts : Saved → List (List ℕ)
saved_parts s =
    header_parts FORMAT_VERSION SAVED_LENGTH ++ device_parts s.device s.held.statistics
    ++ hold_parts s ++ hint_parts s.device

-- the same in the version before it
abbrev pub older_parts : Saved → List (List ℕ)
older_parts s =
    header_parts OLDER_VERSION OLDER_LENGTH ++ device_parts s.device s.held.statistics
    ++ hold_parts s

-- the same in the oldest version
abbrev pub oldest_parts : Saved → List (List ℕ)
oldest_parts s =
    header_parts OLDEST_VERSION OLDEST_LENGTH ++ device_parts s.device s.held.statistics

-- all but the checksum
abbrev pub body : Saved → List ℕ
body s = in_a_row (saved_parts s) []

-- FNV-1a with 64 bits
unfoldable pub checksum : List ℕ → ℕ
checksum bytes =
    fold (λ sum byte. (bit_xor sum byte * 0x100000001b3) % 2 ^ 64) 0xcbf29ce484222325 bytes

-- parts in a row, and their checksum
abbrev pub with_sum : List (List ℕ) → List ℕ
with_sum parts = in_a_row parts (u64_bytes (checksum (in_a_row parts [])))

-- the bytes of a saved device
abbrev pub saved_bytes : Saved → List ℕ
saved_bytes s = with_sum (saved_parts s)

-- those of the version before it
abbrev pub older_bytes : Saved → List ℕ
older_bytes s = with_sum (older_parts s)

-- those of the oldest version
abbrev pub oldest_bytes : Saved → List ℕ
oldest_bytes s = with_sum (oldest_parts s)

-- it neither holds a deflate nor may, as each device of the oldest version
pub record HoldsNoDeflate (s : Saved) : Type 0 where
  pub setting : s.device.settings.holds_deflates ≡ 0
  pub deflate : s.held.deflate ≡ 0
  pub pages : s.held.pages ≡ 0

-- it has no queue of hints, no round has begun, and hints are kept, as of each device of the
-- versions before
pub record HintsNothing (d : Device) : Type 0 where
  pub setting : d.settings.discards_hints ≡ 0
  pub ring : d.hint ≡ no_ring
  pub round : d.round ≡ no_round

-- these bytes are what was saved of it, by this version or one of those before
abbrev pub WasSaved : List ℕ → Saved → Type 0
WasSaved bytes s =
    (bytes ≡ saved_bytes s)
    ⊎ (((bytes ≡ older_bytes s) × HintsNothing s.device)
    ⊎ ((bytes ≡ oldest_bytes s) × (HoldsNoDeflate s × HintsNothing s.device)))

-- ---- what bytes say

abbrev pub settings_at : List ℕ → ℕ → Settings
settings_at bytes at = record {
  memory_end = u64_at bytes at;
  offered = u64_at bytes (at + 8);
  reserved_pages = u32_at bytes (at + 16);
  needs_must_tell = slice_index bytes (at + 20);
  skips_bad_pages = slice_index bytes (at + 21);
  holds_deflates = 0;
  discards_hints = 0;
}

abbrev pub ring_at : List ℕ → ℕ → Virtqueue
ring_at bytes at = record {
  table = u64_at bytes at;
  avail = u64_at bytes (at + 8);
  used = u64_at bytes (at + 16);
  size = u16_at bytes (at + 24);
  next_avail = u16_at bytes (at + 26);
  next_used = u16_at bytes (at + 28);
}

-- a device of the oldest version
abbrev pub oldest_in : List ℕ → Saved
oldest_in bytes = record {
  device = record {
    settings = settings_at bytes 16;
    features = u64_at bytes 38;
    target = u32_at bytes 46;
    actual = u32_at bytes 50;
    inflate = ring_at bytes 59;
    deflate = ring_at bytes 89;
    statistics = ring_at bytes 119;
    hint = no_ring;
    report = ring_at bytes 149;
    poison = u32_at bytes 179;
    round = no_round;
    status = slice_index bytes 58;
  };
  held = record { statistics = u32_at bytes 54; deflate = 0; pages = 0 };
}

abbrev pub with_holds : ℕ → Settings → Settings
with_holds n s = record s { holds_deflates = n }

-- a device of the version before this one, which says more after that
abbrev pub older_in : List ℕ → Saved
older_in bytes = record {
  device = record (oldest_in bytes).device {
    settings = with_holds (slice_index bytes 183) (settings_at bytes 16);
  };
  held = record {
    statistics = u32_at bytes 54;
    deflate = u32_at bytes 184;
    pages = u32_at bytes 188;
  };
}

abbrev pub round_at : List ℕ → ℕ → Round
round_at bytes at = record {
  shown = u32_at bytes at;
  last = u32_at bytes (at + 4);
  opened = slice_index bytes (at + 8);
}

abbrev pub with_discards : ℕ → Settings → Settings
with_discards n s = record s { discards_hints = n }

-- a device of this version, which says more after that
abbrev pub saved_in : List ℕ → Saved
saved_in bytes = record (older_in bytes) {
  device = record (older_in bytes).device {
    settings = with_discards (slice_index bytes 231) (older_in bytes).device.settings;
    hint = ring_at bytes 192;
    round = round_at bytes 222;
  };
}

-- the device of any version
abbrev pub state_in : List ℕ → Saved
state_in bytes =
    if length bytes == OLDEST_LENGTH then oldest_in bytes
    else if length bytes == OLDER_LENGTH then older_in bytes
    else saved_in bytes

-- ---- numbers that fit their fields

pub record FitsSettings (s : Settings) : Type 0 where
  pub memory_end : s.memory_end < 2 ^ 64
  pub offered : s.offered < 2 ^ 64
  pub reserved_pages : s.reserved_pages < 2 ^ 32
  pub needs_must_tell : s.needs_must_tell < 256
  pub skips_bad_pages : s.skips_bad_pages < 256

pub record FitsRing (r : Virtqueue) : Type 0 where
  pub table : r.table < 2 ^ 64
  pub avail : r.avail < 2 ^ 64
  pub used : r.used < 2 ^ 64
  pub size : r.size < 65536
  pub next_avail : r.next_avail < 65536
  pub next_used : r.next_used < 65536

-- what is held of deflates, or may be
pub record FitsHolds (s : Saved) : Type 0 where
  pub setting : s.device.settings.holds_deflates < 256
  pub deflate : s.held.deflate < 2 ^ 32
  pub pages : s.held.pages < 2 ^ 32

pub record FitsRound (r : Round) : Type 0 where
  pub shown : r.shown < 2 ^ 32
  pub last : r.last < 2 ^ 32
  pub opened : r.opened < 256

pub record FitsSaved (s : Saved) : Type 0 where
  pub settings : FitsSettings s.device.settings
  pub features : s.device.features < 2 ^ 64
  pub target : s.device.target < 2 ^ 32
  pub actual : s.device.actual < 2 ^ 32
  pub inflate : FitsRing s.device.inflate
  pub deflate : FitsRing s.device.deflate
  pub statistics : FitsRing s.device.statistics
  pub hint : FitsRing s.device.hint
  pub report : FitsRing s.device.report
  pub poison : s.device.poison < 2 ^ 32
  pub round : FitsRound s.device.round
  pub discards_hints : s.device.settings.discards_hints < 256
  pub status : s.device.status < 256
  pub statistics_held : s.held.statistics < 2 ^ 32
  pub holds : FitsHolds s
