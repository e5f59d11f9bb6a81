-- The configuration space (VIRTIO 1.1, 5.5.4; poison_val: VIRTIO 1.2, 5.5.4).
use Rattle.std.specs.Prelude.{ℕ, ◌+◌, ◌-◌, Bool, not, true, false, ◌==◌, ◌&&◌, ◌||◌, nat_le, List}
use Rattle.std.specs.Prelude.{◌++◌, length}
use Rattle.std.specs.Prelude.{take, drop, if◌then◌else◌}
use Rattle.std.specs.Int.{w32, to_le_bytes, from_le_bytes}
use Rattle.vb_core.specs.declared.device.Device.{Device}
use Rattle.vb_core.specs.declared.config.TheConstants.{ACTUAL_AT, POISON_AT, FIELD_BYTES}
use Rattle.vb_core.specs.declared.hints.TheConstants.{STOP}
use Rattle.vb_core.specs.declared.kinds.Kind.{Kind}
use Rattle.vb_core.specs.declared.kinds.Kind.TheVariants.{Inflate, Deflate, Statistics, Hint}
use Rattle.vb_core.specs.declared.kinds.Kind.TheVariants.{Report}
use Rattle.vb_core.specs.Settings.{page_poison, free_page_hint, discards_hints}

-- What is in poison_val: 0 where PAGE_POISON isn't offered.
abbrev pub shown_poison : Device → ℕ
shown_poison d = if page_poison d.settings.offered then d.poison else 0

-- What is in free_page_hint_cmd_id (VIRTIO 1.2, 5.5.6.6): STOP where FREE_PAGE_HINT isn't offered.
abbrev pub shown_id : Device → ℕ
shown_id d = if free_page_hint d.settings.offered then d.round.shown else STOP

-- num_pages, actual, free_page_hint_cmd_id, and poison_val.
abbrev pub config_bytes : Device → List ℕ
config_bytes d =
    to_le_bytes w32 d.target ++ to_le_bytes w32 d.actual
    ++ to_le_bytes w32 (shown_id d) ++ to_le_bytes w32 (shown_poison d)

-- n bytes from an offset on cover the field that begins there whole.
abbrev pub covers : ℕ → ℕ → ℕ → Bool
covers offset len field = nat_le offset field && nat_le (field + FIELD_BYTES) (offset + len)

-- A write of n bytes at this offset writes poison_val, as one does that covers it where PAGE_POISON
-- is offered.
abbrev pub takes_poison : ℕ → ℕ → Device → Bool
takes_poison offset len d = page_poison d.settings.offered && covers offset len POISON_AT

-- It covers no field that a driver may write.
abbrev pub config_denies : ℕ → ℕ → Device → Bool
config_denies offset len d = not (covers offset len ACTUAL_AT) && not (takes_poison offset len d)

-- The number that 4 of these bytes are, after n.
abbrev pub word_from : List ℕ → ℕ → ℕ
word_from bytes skipped = from_le_bytes w32 (take FIELD_BYTES (drop skipped bytes))

-- The device with the fields written that these bytes at this offset cover, and no other changed.
abbrev pub with_written : ℕ → List ℕ → Device → Device
with_written offset bytes d = record d {
  actual =
      if covers offset (length bytes) ACTUAL_AT then word_from bytes (ACTUAL_AT - offset)
      else d.actual;
  poison =
      if takes_poison offset (length bytes) d then word_from bytes (POISON_AT - offset)
      else d.poison;
}

-- The pages of a report keep what is in them: the driver negotiated PAGE_POISON, and its free pages
-- hold something else than zeros (VIRTIO 1.2, 5.5.4).
abbrev pub keeps_reports : Device → Bool
keeps_reports d = page_poison d.features && not (d.poison == 0)

-- The free pages that a chain of the kind names keep what is in them: those of a report where
-- reports do, and those of a hint there and where the settings don't discard hints.
abbrev pub keeps_free : Kind → Device → Bool
keeps_free Inflate d = false
keeps_free Deflate d = false
keeps_free Statistics d = false
keeps_free Hint d = keeps_reports d || not (discards_hints d.settings)
keeps_free Report d = keeps_reports d
