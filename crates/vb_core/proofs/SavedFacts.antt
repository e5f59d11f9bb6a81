-- Worked facts of saved devices: their bytes, the states that calls lead to, and those that none
-- do.
use Rattle.std.specs.{List.range_with_len, Prelude.{Some, None, Err}}
use Rattle.std.proofs.Common.{◌≡◌, ℕ, true, false, [], ◌∷◌, map, refl, count_by, replicate}
use Rattle.vb_core.specs.Saved.{is_status, are_agreed, is_blank, has_moved, is_ring, is_held}
use Rattle.vb_core.specs.Saved.{is_poison, is_round, save_denial, is_version, length_of, is_length}
use Rattle.vb_core.specs.declared.format.TheConstants.{SAVED_LENGTH, CHECKSUM_AT, HEADER_LENGTH}
use Rattle.vb_core.specs.declared.format.TheConstants.{OLDER_VERSION, OLDER_LENGTH, HOLD_AT, HINT_AT}
use Rattle.vb_core.specs.declared.format.TheConstants.{OLDEST_VERSION, OLDEST_LENGTH}
use Rattle.vb_core.specs.declared.format.TheConstants.{CHECKSUM_LENGTH}
use Rattle.vb_core.specs.declared.saved.StateDenial.TheVariants.{BadLength, NotAState, Impossible}
use Rattle.vb_core.specs.declared.{device.Device.Device, saved.StateDenial.TheVariants.OtherVersion}
use Rattle.vb_core.specs.declared.{ring.Virtqueue.Virtqueue, settings.Settings.Settings}
use Rattle.vb_core.specs.{Devices.new_device, Rings.no_ring, Held.nothing_held, declared.saved.Saved.Saved}
use Rattle.vb_core.specs.declared.kinds.Kind.TheVariants.{Inflate, Deflate, Statistics, Hint, Report}
use Rattle.vb_core.specs.declared.format.TheConstants.{FORMAT_VERSION, VERSION_AT, LENGTH_AT, MAGIC}
use Rattle.vb_core.specs.{Format.{u16_bytes, u64_bytes, u32_at, u64_at, checksum}, Saved.restored}
use lib.Count

-- ---- bytes

places_are : FORMAT_VERSION ∷ VERSION_AT ∷ LENGTH_AT ∷ HEADER_LENGTH ∷ HOLD_AT ∷ HINT_AT
    ∷ CHECKSUM_AT ∷ CHECKSUM_LENGTH ∷ SAVED_LENGTH ∷ []
    ≡ 4 ∷ 8 ∷ 12 ∷ 16 ∷ 183 ∷ 192 ∷ 232 ∷ 8 ∷ 240 ∷ []
places_are = refl

before_it : OLDER_VERSION ∷ OLDER_LENGTH ∷ OLDEST_VERSION ∷ OLDEST_LENGTH ∷ [] ≡ 3 ∷ 200 ∷ 2 ∷ 191 ∷ []
before_it = refl

-- versions that are read, and how long they are
versions : map is_version (0 ∷ 1 ∷ 2 ∷ 3 ∷ 4 ∷ 5 ∷ []) ≡ false ∷ false ∷ true ∷ true ∷ true ∷ false ∷ []
versions = refl

lengths : map length_of (2 ∷ 3 ∷ 4 ∷ []) ≡ 191 ∷ 200 ∷ 240 ∷ []
lengths = refl

are_lengths : map is_length (190 ∷ 191 ∷ 199 ∷ 200 ∷ 201 ∷ 239 ∷ 240 ∷ 241 ∷ [])
    ≡ false ∷ true ∷ false ∷ true ∷ false ∷ false ∷ true ∷ false ∷ []
are_lengths = refl

-- the text VBSTATE, and a 0
it_begins_so : u64_bytes MAGIC ≡ 86 ∷ 66 ∷ 83 ∷ 84 ∷ 65 ∷ 84 ∷ 69 ∷ 0 ∷ []
unfolding u64_bytes
it_begins_so = refl

low_byte_first : u16_bytes 0x0201 ≡ 1 ∷ 2 ∷ []
unfolding u16_bytes
low_byte_first = refl

-- FNV-1a of nothing, of "a" and of "foobar"
checksums : checksum [] ∷ checksum (97 ∷ []) ∷ checksum (102 ∷ 111 ∷ 111 ∷ 98 ∷ 97 ∷ 114 ∷ []) ∷ []
    ≡ 0xcbf29ce484222325 ∷ 0xaf63dc4c8601ec8c ∷ 0x85944171f73967e8 ∷ []
unfolding checksum
checksums = refl

too_short : restored [] ≡ Err BadLength
too_short = refl

of_something_else : restored (1 ∷ 0 ∷ 0 ∷ 0 ∷ 0 ∷ 0 ∷ 0 ∷ 0 ∷ 0 ∷ 0 ∷ 0 ∷ 0 ∷ 0 ∷ 0 ∷ 0 ∷ 0 ∷ [])
    ≡ Err NotAState
unfolding u64_at
of_something_else = refl

-- the first version had 187 bytes, and no poison_val
of_the_first_version : restored (86
    ∷ 66 ∷ 83 ∷ 84 ∷ 65 ∷ 84 ∷ 69 ∷ 0 ∷ 1 ∷ 0 ∷ 0 ∷ 0 ∷ 187 ∷ 0 ∷ 0 ∷ 0 ∷ []) ≡ Err OtherVersion
unfolding u32_at u64_at
of_the_first_version = refl

-- ---- statuses: none but the steps in their order, with FAILED or without, and a broken rule

statuses : map is_status (0 ∷ 1 ∷ 3 ∷ 11 ∷ 15 ∷ 79 ∷ 128 ∷ 129 ∷ 131 ∷ 139 ∷ 143 ∷ 207 ∷ [])
    ≡ true ∷ true ∷ true ∷ true ∷ true ∷ true ∷ true ∷ true ∷ true ∷ true ∷ true ∷ true ∷ []
statuses = refl

no_others : count_by is_status (range_with_len 0 256) ≡ 12
no_others = refl

-- ---- a device at its steps

abbrev settings : Settings
settings = record {
  memory_end = 0x1000000;
  offered = 0x100000023;
  reserved_pages = 16;
  needs_must_tell = 1;
  skips_bad_pages = 0;
  holds_deflates = 1;
  discards_hints = 1;
}

abbrev at_step : ℕ → ℕ → Device
at_step status features = record (new_device settings) { status = status; features = features }

-- features: none early, of those offered, and with FEATURES_OK what it asks for
features_agreed : map are_agreed
    (at_step 0 0 ∷ at_step 1 0 ∷ at_step 3 2 ∷ at_step 131 0 ∷ at_step 11 0x100000001
    ∷ at_step 15 0x100000023 ∷ []) ≡ true ∷ true ∷ true ∷ true ∷ true ∷ true ∷ []
features_agreed = refl

features_not_agreed : map are_agreed
    (at_step 1 1 ∷ at_step 129 2 ∷ at_step 3 4 ∷ at_step 11 1 ∷ at_step 11 0x100000000
    ∷ at_step 15 0x100000005 ∷ []) ≡ false ∷ false ∷ false ∷ false ∷ false ∷ false ∷ []
features_not_agreed = refl

abbrev ring : ℕ → Virtqueue
ring moved = record {
  table = 0x10000;
  avail = 0x11000;
  used = 0x12000;
  size = 64;
  next_avail = moved;
  next_used = 0;
}

-- no place, and what isn't none
blank : map is_blank (no_ring ∷ record no_ring { table = 1 } ∷ record no_ring { avail = 1 }
    ∷ record no_ring { used = 1 } ∷ record no_ring { size = 1 } ∷ record no_ring { next_avail = 1 }
    ∷ record no_ring { next_used = 1 } ∷ []) ≡ true ∷ false ∷ false ∷ false ∷ false ∷ false ∷ false ∷ []
blank = refl

moved : map has_moved (no_ring ∷ ring 0 ∷ ring 5 ∷ record (ring 0) { next_used = 5 } ∷ [])
    ≡ false ∷ false ∷ true ∷ true ∷ []
moved = refl

-- queues of inflates: at any step, and moved only once features are agreed on
inflates : map (is_ring Inflate) (at_step 0 0 ∷ record (at_step 0 0) { inflate = ring 0 }
    ∷ record (at_step 11 0x100000001) { inflate = ring 0 } ∷ record (at_step 11 0x100000001) { inflate = ring 5 }
    ∷ record (at_step 15 0x100000001) { inflate = ring 5 } ∷ []) ≡ true ∷ true ∷ true ∷ true ∷ true ∷ []
unfolding lib.Count.ones
inflates = refl

not_inflates : map (is_ring Inflate) (record (at_step 3 0x100000001) { inflate = ring 5 }
    ∷ record (at_step 15 0x100000001) { inflate = record (ring 0) { table = 0x10008 } }
    ∷ record (at_step 15 0x100000001) { inflate = record (ring 0) { size = 63 } }
    ∷ record (at_step 15 0x100000001) { inflate = record (ring 0) { used = 0xffffe0 } }
    ∷ record (at_step 15 0x100000001) { inflate = record (ring 0) { size = 0 } } ∷ [])
    ≡ false ∷ false ∷ false ∷ false ∷ false ∷ []
unfolding lib.Count.ones
not_inflates = refl

-- of statistics: not before features, not unless offered, and moved only with the feature
statistics : map (is_ring Statistics) (record (at_step 3 0) { statistics = ring 0 }
    ∷ record (at_step 15 0x100000001) { statistics = ring 0 }
    ∷ record (at_step 15 0x100000003) { statistics = ring 5 } ∷ []) ≡ true ∷ true ∷ true ∷ []
unfolding lib.Count.ones
statistics = refl

not_statistics : is_ring Statistics (record (at_step 1 0) { statistics = ring 0 })
    ∷ is_ring Statistics (record (at_step 11 0x100000001) { statistics = ring 5 })
    ∷ is_ring Statistics (record (at_step 15 0x100000001) { statistics = ring 5 }) ∷ is_ring Report
    (record (at_step 15 0x100000001) {
      report = ring 0;
      settings = record settings { offered = 0x100000003 };
    }) ∷ [] ≡ false ∷ false ∷ false ∷ false ∷ []
unfolding lib.Count.ones
not_statistics = refl

abbrev holding : ℕ → ℕ → ℕ → Saved
holding status features held = record {
  device = record (at_step status features) { statistics = ring 0 };
  held = record { statistics = held; deflate = 0; pages = 0 };
}

held_heads : map (is_held Statistics) (holding 3 0 0 ∷ holding 15 0x100000003 1
    ∷ holding 15 0x100000003 64 ∷ holding 79 0x100000003 64 ∷ []) ≡ true ∷ true ∷ true ∷ true ∷ []
held_heads = refl

not_held : map (is_held Statistics) (holding 11 0x100000003 1
    ∷ holding 15 0x100000001 1 ∷ holding 15 0x100000003 65 ∷ []) ≡ false ∷ false ∷ false ∷ []
not_held = refl

-- a deflate of n pages is held, or none
abbrev asking : ℕ → ℕ → ℕ → Saved
asking status held pages = record {
  device = record (at_step status 0x100000001) { deflate = ring 0 };
  held = record { statistics = 0; deflate = held; pages = pages };
}

held_deflates : map (is_held Deflate) (asking 3 0 0 ∷ asking 15 1 0 ∷ asking 15 64 256 ∷ asking 15 64 0x100000 ∷ asking 79 1 1 ∷ [])
    ≡ true ∷ true ∷ true ∷ true ∷ true ∷ []
held_deflates = refl

-- of a larger memory, as many pages as it has
abbrev of_memory : ℕ → Saved → Saved
of_memory end s = record s { device = record s.device { settings = record settings { memory_end = end } } }

held_of_all : map (λ pages. is_held Deflate (of_memory 0x200000000 (asking 15 1 pages)))
    (0x100001 ∷ 0x200000 ∷ 0x200001 ∷ []) ≡ true ∷ true ∷ false ∷ []
held_of_all = refl

-- not before the driver is done, of no head of the queue, of more pages than a request names, pages
-- of none, and where deflates aren't held
not_held_deflates : map (is_held Deflate) (asking 11 1 1 ∷ asking 15 65 1 ∷ asking 15 1 0x100001 ∷ asking 15 0 1
    ∷ record (asking 15 1 1) {
      device = record (asking 15 1 1).device { settings = record settings { holds_deflates = 0 } };
    } ∷ []) ≡ false ∷ false ∷ false ∷ false ∷ false ∷ []
not_held_deflates = refl

-- ---- poison_val

poisons : is_poison (at_step 0 0)
    ∷ is_poison (record (at_step 3 0) { settings = record settings { offered = 0x100000011 }; poison = 7 })
    ∷ [] ≡ true ∷ true ∷ []
poisons = refl

-- nothing is written there unless it is offered
no_poison : is_poison (record (at_step 15 0x100000001) { poison = 7 }) ≡ false
no_poison = refl

-- ---- rounds of hints

abbrev hinting : ℕ → ℕ → ℕ → ℕ → ℕ → Device
hinting status features shown last opened = record (at_step status features) {
  settings = record settings { offered = 0x10000002b };
  round = record { shown = shown; last = last; opened = opened };
}

-- none began; one is shown, and one is open; STOP and DONE, before a round and after one, at any status
rounds : map is_round (hinting 0 0 0 0 0 ∷ hinting 15 0x100000009 2 2 0 ∷ hinting 15 0x100000009 7 7 1
    ∷ hinting 79 0x100000009 7 7 1 ∷ hinting 15 0x100000009 0 7 0 ∷ hinting 15 0x100000009 1 7 0
    ∷ hinting 0 0 1 0 0 ∷ hinting 3 0 0 7 0 ∷ []) ≡ replicate 8 true
rounds = refl

-- not before the driver is done, nor without the feature, nor of another id than the last; no id is 1;
-- STOP and DONE are never open, and open is 0 or 1
no_rounds : map is_round (hinting 11 0x100000009 2 2 0 ∷ hinting 15 0x100000001 2 2 0
    ∷ hinting 15 0x100000009 3 2 0 ∷ hinting 15 0x100000009 2 3 0 ∷ hinting 15 0x100000009 0 1 0
    ∷ hinting 15 0x100000009 0 7 1 ∷ hinting 15 0x100000009 1 7 1 ∷ hinting 15 0x100000009 7 7 2
    ∷ record (hinting 0 0 0 7 0) { settings = settings } ∷ []) ≡ replicate 9 false
no_rounds = refl

-- its queue moves with the feature alone, and has no place unless it is offered
hints : map (is_ring Hint) (record (hinting 15 0x100000009 0 0 0) { hint = ring 5 }
    ∷ record (hinting 15 0x100000001 0 0 0) { hint = ring 0 }
    ∷ record (hinting 15 0x100000001 0 0 0) { hint = ring 5 }
    ∷ record (at_step 15 0x100000001) { hint = ring 0 } ∷ []) ≡ true ∷ true ∷ false ∷ false ∷ []
unfolding lib.Count.ones
hints = refl

-- ---- what is saved

abbrev poisoned : Saved
poisoned = record { device = record (at_step 3 0) { poison = 7 }; held = nothing_held }

saved_or_not : save_denial (holding 15 0x100000003 64) 240
    ∷ save_denial (holding 15 0x100000003 64) 239 ∷ save_denial (holding 15 0x100000003 65) 240
    ∷ save_denial (asking 15 1 0x100001) 240 ∷ save_denial poisoned 240 ∷ []
    ≡ None ∷ Some BadLength ∷ Some Impossible ∷ Some Impossible ∷ Some Impossible ∷ []
unfolding lib.Count.ones
saved_or_not = refl
