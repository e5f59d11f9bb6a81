-- Where memory of regions ends, what of it is memory, and which queues lie in it, worked out.
use Rattle.std.proofs.Common.{◌≡◌, refl, arith, true, false, [], ◌∷◌, Some, None}
use Rattle.vb_core.specs.{declared.settings.Settings.Settings, Devices.{new_device, placed}}
use Rattle.vb_core.specs.Held.{nothing_held}
use Rattle.vb_monitor.specs.Places.{memory_end_of, is_memory, AreMemory, HasMemory, balloon_over}
use Rattle.vb_monitor.specs.{Places.{may_be_memory, ending_with}, Balloons.may_tell}
use Rattle.vb_monitor.specs.{Counts.others, declared.cuts.Cut.Cut, Accesses.{Full, Release}}
use Rattle.vb_monitor.specs.{Accesses.Discard}
use Rattle.vb_monitor.specs.declared.{regions.Region.Region, balloon.Balloon.Balloon}

-- pages 0 to 20, and, one page on, pages 22 to 31
abbrev low : Region
low = record { guest = 0; length = 0x15000; in_file = 0 }

abbrev high : Region
high = record { guest = 0x16000; length = 0xa000; in_file = 0x100000 }

-- ---- where memory ends

the_last_ends_it : memory_end_of (low ∷ high ∷ []) ≡ Some 0x20000
the_last_ends_it = refl

in_any_order : memory_end_of (high ∷ low ∷ []) ≡ Some 0x20000
in_any_order = refl

half_a_page : memory_end_of (low ∷ record high { length = 0x800 } ∷ []) ≡ None
half_a_page = refl

-- ---- what is memory

last_of_the_first : is_memory (low ∷ high ∷ []) 0x14fff ≡ true
last_of_the_first = refl

in_the_hole : is_memory (low ∷ high ∷ []) 0x15000 ≡ false
in_the_hole = refl

not_over_a_hole : ¬ AreMemory (low ∷ high ∷ []) 0x14ffc 8
not_over_a_hole h = let e : false ≡ true = h 0x15000 (omega arith) (omega arith) in absurd cc

no_table_in_a_hole : ¬ HasMemory (low ∷ high ∷ []) (placed 0x15000 0x100 0x200 8)
no_table_in_a_hole h = let e : false ≡ true = h.table 0x15000 (omega arith) (omega arith) in absurd cc

no_end_in_a_hole : ¬ HasMemory (low ∷ high ∷ []) (placed 0 0x100 0x14ffc 8)
no_end_in_a_hole h = let e : false ≡ true = h.used 0x15000 (omega arith) (omega arith) in absurd cc

-- ---- balloons over regions

abbrev settings : Settings
settings = record {
  memory_end = 0;
  offered = 0x100000027;
  reserved_pages = 0;
  needs_must_tell = 0;
  skips_bad_pages = 0;
  holds_deflates = 0;
  discards_hints = 0;
}

abbrev balloon : Balloon
balloon = record { device = new_device (record settings { memory_end = 0x20000 }); held = nothing_held }

-- of settings that had another end, just that one is changed
other_end : ending_with (record settings { memory_end = 0x15000; reserved_pages = 16 }) (low ∷ high ∷ []) ≡
    record settings { memory_end = 0x20000; reserved_pages = 16 }
other_end = refl

-- no balloon is over what isn't whole pages, though its settings have an end
over_half_a_page : balloon_over (record settings { memory_end = 0x20000 }) (record low { length = 0x800 } ∷ []) ≡ None
over_half_a_page = refl

ends_with_them : balloon_over settings (low ∷ high ∷ []) ≡ Some balloon
ends_with_them = refl

ends_as_said : balloon_over (record settings { memory_end = 0x8000 }) (low ∷ []) ≡
    Some (record { device = new_device (record settings { memory_end = 0x8000 }); held = nothing_held })
ends_as_said = refl

no_regions : balloon_over settings [] ≡ Some (record { device = new_device settings; held = nothing_held })
no_regions = refl

no_page_and_a_half : may_be_memory settings (record low { length = 0x1800 } ∷ []) ≡ false
no_page_and_a_half = refl

nothing_told_before : may_tell balloon.device ≡ false
nothing_told_before = refl

told_once_ready : may_tell (record (balloon.device) { status = 15 }) ≡ true
told_once_ready = refl

-- ---- how many accesses

abbrev page : Cut
page = record { region = 0; offset = 0; in_file = 0; length = 0x1000 }

discards_are_left_out : others (Full ∷ Discard page ∷ Discard page ∷ Release ∷ []) ≡ 2
discards_are_left_out = refl

none_at_all : others [] ≡ 0
none_at_all = refl
