-- A device is saved and restored.
use Rattle.std.proofs.Common.{◌≡◌, ℕ, ◌+◌, ◌^◌, ◌<◌, ◌≤◌, List, [], ◌∷◌, ◌++◌, length, get_or, drop}
use Rattle.std.proofs.Common.{refl, ◌∙◌, ap, arith, lit<}
use Rattle.vb_core.specs.declared.format.TheConstants.{MAGIC}
use Rattle.vb_core.specs.declared.format.TheConstants.{HOLD_AT, HINT_AT}
use Rattle.vb_core.specs.declared.{device.Device.Device, hints.Round.Round}
use Rattle.vb_core.specs.{Rings.no_ring, Hints.no_round}
use Rattle.vb_core.specs.declared.format.TheConstants.{VERSION_AT, LENGTH_AT, CHECKSUM_AT}
use Rattle.vb_core.specs.Format.{u32_bytes, u64_bytes, u32_at, u64_at, in_a_row, settings_parts}
use Rattle.vb_core.specs.Format.{header_parts, device_parts, hold_parts, ring_parts, round_parts, hint_parts}
use Rattle.vb_core.specs.Format.{settings_at, ring_at, round_at, oldest_in, older_in, saved_in, with_holds, with_discards}
use Rattle.vb_core.specs.Format.{FitsHolds, FitsRound}
use Rattle.vb_core.{specs.Format.{FitsSettings, FitsRing, FitsSaved}, proofs.Numbers.AreBytes}
use Rattle.vb_core.proofs.Numbers.{u16_then, u32_then, u64_then, byte_then, u16_again, u32_again}
use Rattle.vb_core.{proofs.Numbers.{u64_again, byte_again}, specs.declared.ring.Virtqueue.Virtqueue}
use Rattle.vb_core.specs.declared.{settings.Settings.Settings, saved.Saved.Saved}

-- ---- what was written is read

ring_then : (r : Virtqueue) (more bytes : List ℕ) (p : ℕ) → FitsRing r → drop p bytes
    ≡ in_a_row (ring_parts r) more → (ring_at bytes p ≡ r) × (drop (p + 30) bytes ≡ more)
ring_then r more bytes p f e = let a = u64_then r.table _ bytes p (p + 8) f.table refl e in
    let b = u64_then r.avail _ bytes (p + 8) (p + 16) f.avail (omega arith) a.1 in
    let c = u64_then r.used _ bytes (p + 16) (p + 24) f.used (omega arith) b.1 in
    let d = u16_then r.size _ bytes (p + 24) (p + 26) f.size (omega arith) c.1 in
    let g = u16_then r.next_avail _ bytes (p + 26) (p + 28) f.next_avail (omega arith) d.1 in
    let h = u16_then r.next_used _ bytes (p + 28) (p + 30) f.next_used (omega arith) g.1 in
    (rw (a.0, b.0, c.0, d.0, g.0, h.0), h.1)

round_then : (r : Round) (more bytes : List ℕ) (p : ℕ) → FitsRound r → drop p bytes
    ≡ in_a_row (round_parts r) more → (round_at bytes p ≡ r) × (drop (p + 9) bytes ≡ more)
round_then r more bytes p f e = let a = u32_then r.shown _ bytes p (p + 4) f.shown refl e in
    let b = u32_then r.last _ bytes (p + 4) (p + 8) f.last (omega arith) a.1 in
    let c = byte_then r.opened _ bytes (p + 8) (p + 9) (omega arith) b.1 in
    (rw (a.0, b.0, c.0), c.1)

-- but for what the oldest version doesn't say
settings_then : (s : Settings) (more bytes : List ℕ) (p : ℕ) → FitsSettings s → drop p bytes
    ≡ in_a_row (settings_parts s) more
    → (settings_at bytes p ≡ with_holds 0 (with_discards 0 s)) × (drop (p + 22) bytes ≡ more)
settings_then s more bytes p f e =
    let a = u64_then s.memory_end _ bytes p (p + 8) f.memory_end refl e in
    let b = u64_then s.offered _ bytes (p + 8) (p + 16) f.offered (omega arith) a.1 in
    let c = u32_then s.reserved_pages _ bytes (p + 16) (p + 20) f.reserved_pages (omega arith)
    b.1 in
    let d = byte_then s.needs_must_tell _ bytes (p + 20) (p + 21) (omega arith) c.1 in
    let g = byte_then s.skips_bad_pages _ bytes (p + 21) (p + 22) (omega arith) d.1 in
    (rw (a.0, b.0, c.0, d.0, g.0), g.1)

-- ---- what is read is what was written

then : (part : List ℕ) (x y z : List ℕ) → x ≡ part ++ y → y ≡ z → x ≡ part ++ z
then part x y z e f = e ∙ ap (λ (xs : List ℕ). part ++ xs) f

pub row : (parts : List (List ℕ)) (x y z : List ℕ) → x ≡ in_a_row parts y → y ≡ z → x ≡ in_a_row parts z
row parts x y z e f = e ∙ ap (λ (xs : List ℕ). in_a_row parts xs) f

ring_again : (bytes : List ℕ) (p : ℕ) → AreBytes bytes → p + 30 ≤ length bytes
    → drop p bytes ≡ in_a_row (ring_parts (ring_at bytes p)) (drop (p + 30) bytes)
ring_again bytes p all l = grind (arith, u64_again, u16_again)

settings_again : (bytes : List ℕ) (p : ℕ) → AreBytes bytes → p + 22 ≤ length bytes
    → drop p bytes ≡ in_a_row (settings_parts (settings_at bytes p)) (drop (p + 22) bytes)
settings_again bytes p all l = then _ _ _ _ (u64_again bytes p (p + 8) all refl (omega arith))
    (then _ _ _ _ (u64_again bytes (p + 8) (p + 16) all (omega arith) (omega arith))
    (then _ _ _ _ (u32_again bytes (p + 16) (p + 20) all (omega arith) (omega arith))
    (then (get_or bytes (p + 20) 0 ∷ []) _ _ _
    (byte_again bytes (p + 20) (p + 21) (omega arith) (omega arith))
    (byte_again bytes (p + 21) (p + 22) (omega arith) (omega arith)))))

-- ---- both, of all that is saved

-- what a saved device was in the oldest version
abbrev pub oldest_of : Saved → Saved
oldest_of s = record {
  device = record s.device {
    settings = with_holds 0 (with_discards 0 s.device.settings);
    hint = no_ring;
    round = no_round;
  };
  held = record { statistics = s.held.statistics; deflate = 0; pages = 0 };
}

-- what it was in the version before
abbrev pub older_of : Saved → Saved
older_of s = record s {
  device = record s.device {
    settings = with_discards 0 s.device.settings;
    hint = no_ring;
    round = no_round;
  };
}

-- the parts that all versions have, of this version and length
abbrev pub first_parts : ℕ → ℕ → Saved → List (List ℕ)
first_parts version len s = header_parts version len ++ device_parts s.device s.held.statistics

-- what bytes say that begin as a saved device of a version
pub record Says (version len : ℕ) (bytes : List ℕ) (s : Saved) (more : List ℕ) : Type 0 where
  pub magic : u64_at bytes 0 ≡ MAGIC
  pub version_told : u32_at bytes VERSION_AT ≡ version
  pub length_told : u32_at bytes LENGTH_AT ≡ len
  pub saved : oldest_in bytes ≡ oldest_of s
  pub behind : drop HOLD_AT bytes ≡ more

pub says : (version len : ℕ) (s : Saved) (more bytes : List ℕ) → version < 2 ^ 32 → len < 2 ^ 32
    → FitsSaved s → bytes ≡ in_a_row (first_parts version len s) more
    → Says version len bytes s more
says version len s more bytes low short f e = let d = s.device in
    let a = u64_then MAGIC _ bytes 0 8 (lit< tt) refl e in
    let b = u32_then version _ bytes 8 12 low refl a.1 in
    let c = u32_then len _ bytes 12 16 short refl b.1 in
    let t = settings_then d.settings _ bytes 16 f.settings c.1 in
    let g = u64_then d.features _ bytes 38 46 f.features refl t.1 in
    let h = u32_then d.target _ bytes 46 50 f.target refl g.1 in
    let i = u32_then d.actual _ bytes 50 54 f.actual refl h.1 in
    let j = u32_then s.held.statistics _ bytes 54 58 f.statistics_held refl i.1 in
    let k = byte_then d.status _ bytes 58 59 refl j.1 in
    let l = ring_then d.inflate _ bytes 59 f.inflate k.1 in
    let m = ring_then d.deflate _ bytes 89 f.deflate l.1 in
    let n = ring_then d.statistics _ bytes 119 f.statistics m.1 in
    let o = ring_then d.report _ bytes 149 f.report n.1 in
    let q = u32_then d.poison _ bytes 179 183 f.poison refl o.1 in grind arith

-- what comes after that, but in the oldest version
pub holds_then : (s : Saved) (more bytes : List ℕ) → FitsHolds s
    → drop HOLD_AT bytes ≡ in_a_row (hold_parts s) more
    → (get_or bytes 183 0 ≡ s.device.settings.holds_deflates) × (u32_at bytes 184 ≡ s.held.deflate)
    × (u32_at bytes 188 ≡ s.held.pages) × (drop HINT_AT bytes ≡ more)
holds_then s more bytes f e =
    let a = byte_then s.device.settings.holds_deflates _ bytes 183 184 refl e in
    let b = u32_then s.held.deflate _ bytes 184 188 f.deflate refl a.1 in
    let c = u32_then s.held.pages _ bytes 188 192 f.pages refl b.1 in (a.0, b.0, c.0, c.1)

-- and after that, in this version alone
pub hints_then : (d : Device) (more bytes : List ℕ) → FitsRing d.hint → FitsRound d.round
    → drop HINT_AT bytes ≡ in_a_row (hint_parts d) more
    → (ring_at bytes 192 ≡ d.hint) × (round_at bytes 222 ≡ d.round)
    × (get_or bytes 231 0 ≡ d.settings.discards_hints) × (drop CHECKSUM_AT bytes ≡ more)
hints_then d more bytes f g e = let a = ring_then d.hint _ bytes 192 f e in
    let b = round_then d.round _ bytes 222 g a.1 in
    let c = byte_then d.settings.discards_hints _ bytes 231 232 refl b.1 in (a.0, b.0, c.0, c.1)

-- bytes with a good header are what is saved of what they say, and more
pub row_again : (version len : ℕ) (bytes : List ℕ) → AreBytes bytes → 183 ≤ length bytes
    → u64_at bytes 0 ≡ MAGIC → u32_at bytes VERSION_AT ≡ version → u32_at bytes LENGTH_AT ≡ len
    → bytes ≡ in_a_row (first_parts version len (oldest_in bytes)) (drop HOLD_AT bytes)
row_again version len bytes all l m v c = then _ _ _ _ (u64_again bytes 0 8 all refl (omega arith)
    ∙ ap (λ (n : ℕ). u64_bytes n ++ drop 8 bytes) m) (then _ _ _ _
    (u32_again bytes 8 12 all refl (omega arith) ∙ ap (λ (n : ℕ). u32_bytes n ++ drop 12 bytes) v)
    (then _ _ _ _ (u32_again bytes 12 16 all refl (omega arith)
    ∙ ap (λ (n : ℕ). u32_bytes n ++ drop 16 bytes) c)
    (row (settings_parts (settings_at bytes 16)) _ _ _ (settings_again bytes 16 all (omega arith))
    (then _ _ _ _ (u64_again bytes 38 46 all refl (omega arith))
    (then _ _ _ _ (u32_again bytes 46 50 all refl (omega arith))
    (then _ _ _ _ (u32_again bytes 50 54 all refl (omega arith))
    (then _ _ _ _ (u32_again bytes 54 58 all refl (omega arith))
    (then (get_or bytes 58 0 ∷ []) _ _ _ (byte_again bytes 58 59 refl (omega arith))
    (row (ring_parts (ring_at bytes 59)) _ _ _ (ring_again bytes 59 all (omega arith))
    (row (ring_parts (ring_at bytes 89)) _ _ _ (ring_again bytes 89 all (omega arith))
    (row (ring_parts (ring_at bytes 119)) _ _ _ (ring_again bytes 119 all (omega arith))
    (row (ring_parts (ring_at bytes 149)) _ _ _ (ring_again bytes 149 all (omega arith))
    (u32_again bytes 179 183 all refl (omega arith))))))))))))))

pub holds_again : (bytes : List ℕ) → AreBytes bytes → 192 ≤ length bytes
    → drop HOLD_AT bytes ≡ in_a_row (hold_parts (older_in bytes)) (drop HINT_AT bytes)
holds_again bytes all l =
    then (get_or bytes 183 0 ∷ []) _ _ _ (byte_again bytes 183 184 refl (omega arith))
    (then _ _ _ _ (u32_again bytes 184 188 all refl (omega arith))
    (u32_again bytes 188 192 all refl (omega arith)))

round_again : (bytes : List ℕ) (p : ℕ) → AreBytes bytes → p + 9 ≤ length bytes
    → drop p bytes ≡ in_a_row (round_parts (round_at bytes p)) (drop (p + 9) bytes)
round_again bytes p all l = then _ _ _ _ (u32_again bytes p (p + 4) all refl (omega arith))
    (then _ _ _ _ (u32_again bytes (p + 4) (p + 8) all (omega arith) (omega arith))
    (byte_again bytes (p + 8) (p + 9) (omega arith) (omega arith)))

pub hints_again : (bytes : List ℕ) → AreBytes bytes → 232 ≤ length bytes
    → drop HINT_AT bytes ≡ in_a_row (hint_parts (saved_in bytes).device) (drop CHECKSUM_AT bytes)
hints_again bytes all l =
    row (ring_parts (ring_at bytes 192)) _ _ _ (ring_again bytes 192 all (omega arith))
    (row (round_parts (round_at bytes 222)) _ _ _ (round_again bytes 222 all (omega arith))
    (byte_again bytes 231 232 refl (omega arith)))
