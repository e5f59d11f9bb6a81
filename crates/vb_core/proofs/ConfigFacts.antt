-- The configuration space and PAGE_POISON, worked out.
use Rattle.std.proofs.Common.{◌≡◌, refl, ℕ, Bool, true, false, List, [], ◌∷◌, map, take, drop, replicate}
use Rattle.std.specs.Prelude.{Some, None}
use Rattle.vb_status.specs.declared.bits.StatusFault.TheVariants.{FeatureNotOffered, OutOfOrder}
use Rattle.vb_core.specs.declared.{device.Device.Device, settings.TheConstants.{PAGE_POISON, FREE_PAGE_HINT}}
use Rattle.vb_core.{proofs.Examples.offering, specs.{Devices.new_device, Statuses.negotiate_denial}}
use Rattle.vb_core.specs.Settings.{are_settings, known_features, page_poison, free_page_hint, without_later}
use Rattle.vb_core.specs.declared.kinds.Kind.{Kind, TheVariants.{Inflate, Deflate, Statistics, Hint, Report}}
use Rattle.vb_core.specs.Config.{config_bytes, config_denies, with_written, keeps_reports, keeps_free}

-- with PAGE_POISON, and without it
abbrev poisons : Device
poisons = record (new_device (offering 0x100000031)) { target = 258; actual = 1; poison = 0xaabbccdd }

abbrev other : Device
other = record (new_device (offering 0x100000027)) { target = 258; actual = 1; poison = 0xaabbccdd }

-- ---- reads

all_read : config_bytes poisons ≡
    2 ∷ 1 ∷ 0 ∷ 0 ∷ 1 ∷ 0 ∷ 0 ∷ 0 ∷ 0 ∷ 0 ∷ 0 ∷ 0 ∷ 0xdd ∷ 0xcc ∷ 0xbb ∷ 0xaa ∷ []
all_read = refl

zeros_unless_offered : config_bytes other ≡
    2 ∷ 1 ∷ 0 ∷ 0 ∷ 1 ∷ 0 ∷ 0 ∷ 0 ∷ 0 ∷ 0 ∷ 0 ∷ 0 ∷ 0 ∷ 0 ∷ 0 ∷ 0 ∷ []
zeros_unless_offered = refl

-- an id, STOP and DONE where FREE_PAGE_HINT is offered, and else STOP
abbrev showing : ℕ → ℕ → Device
showing offered id = record (new_device (offering offered)) { round = record { shown = id; last = 7; opened = 0 } }

ids_read : map (λ id. take 4 (drop 8 (config_bytes (showing 0x100000008 id)))) (0x1020304 ∷ 1 ∷ 0 ∷ [])
    ≡ (4 ∷ 3 ∷ 2 ∷ 1 ∷ []) ∷ (1 ∷ 0 ∷ 0 ∷ 0 ∷ []) ∷ (0 ∷ 0 ∷ 0 ∷ 0 ∷ []) ∷ []
ids_read = refl

no_id_read : take 4 (drop 8 (config_bytes (showing 0x100000037 0x1020304))) ≡ 0 ∷ 0 ∷ 0 ∷ 0 ∷ []
no_id_read = refl

-- ---- writes: the fields that the bytes cover whole, each beginning at an offset and having a length

abbrev denied_of : Device → List (ℕ × ℕ) → List Bool
denied_of d writes = map (λ w. config_denies w.0 w.1 d) writes

-- actual or poison_val alone; both, as where the whole configuration is handed over; and with bytes round them
taken : denied_of poisons ((4, 4) ∷ (12, 4) ∷ (0, 16) ∷ (4, 12) ∷ (0, 8) ∷ (3, 5) ∷ (4, 11) ∷ (5, 11) ∷ (8, 8)
    ∷ (12, 5) ∷ (0, 17) ∷ (0, 100000) ∷ []) ≡ replicate 12 false
taken = refl

-- a field that is covered but for a byte isn't, nor are two halves of two
halves_denied : denied_of poisons ((4, 3) ∷ (0, 7) ∷ (5, 3) ∷ (5, 4) ∷ (5, 10) ∷ (6, 8) ∷ (12, 3) ∷ (8, 7)
    ∷ (13, 3) ∷ (13, 4) ∷ (13, 1000) ∷ []) ≡ replicate 11 true
halves_denied = refl

-- nor is num_pages, what is between the fields or past them, or nothing at all, at any offset
others_denied : denied_of poisons ((0, 4) ∷ (8, 4) ∷ (16, 4) ∷ (16, 100000) ∷ (4294967292, 4) ∷ (4294967295, 16)
    ∷ (4294967295, 9223372036854775807) ∷ (0, 0) ∷ (4, 0) ∷ (12, 0) ∷ []) ≡ replicate 10 true
others_denied = refl

-- poison_val isn't there unless it is offered
denied_unless_offered : denied_of other ((12, 4) ∷ (5, 11) ∷ (8, 8) ∷ (12, 1000) ∷ []) ≡ replicate 4 true
denied_unless_offered = refl

actual_unless_offered : denied_of other ((4, 4) ∷ (0, 16) ∷ (4, 12) ∷ []) ≡ replicate 3 false
actual_unless_offered = refl

abbrev all_four : List ℕ
all_four = 1 ∷ 2 ∷ 3 ∷ 4 ∷ 5 ∷ 6 ∷ 0 ∷ 0 ∷ 9 ∷ 10 ∷ 11 ∷ 12 ∷ 0xaa ∷ 0 ∷ 0 ∷ 1 ∷ 17 ∷ []

both_written : with_written 0 all_four poisons ≡ record poisons { actual = 1541; poison = 0x10000aa }
both_written = refl

-- from within num_pages on, and from actual's end on
both_from_three : with_written 3 (drop 3 all_four) poisons ≡ with_written 0 all_four poisons
both_from_three = refl

poison_from_eight : with_written 8 (drop 8 all_four) poisons ≡ record poisons { poison = 0x10000aa }
poison_from_eight = refl

actual_is : with_written 4 (2 ∷ 1 ∷ 0 ∷ 1 ∷ []) poisons ≡ record poisons { actual = 0x1000102 }
actual_is = refl

poison_is : with_written 12 (0xaa ∷ 0 ∷ 0 ∷ 1 ∷ []) poisons ≡ record poisons { poison = 0x10000aa }
poison_is = refl

-- half a field stays as it was, beside one that is written
poison_half_covered : with_written 0 (take 15 all_four) poisons ≡ record poisons { actual = 1541 }
poison_half_covered = refl

actual_half_covered : with_written 5 (drop 5 all_four) poisons ≡ record poisons { poison = 0x10000aa }
actual_half_covered = refl

unless_offered : with_written 0 all_four other ≡ record other { actual = 1541 }
unless_offered = refl

-- ---- the feature

one_bit : PAGE_POISON ∷ FREE_PAGE_HINT ∷ known_features ∷ without_later 0x10000003f
    ∷ without_later 0x100000027 ∷ [] ≡ 16 ∷ 8 ∷ 0x10000003f ∷ 0x100000027 ∷ 0x100000027 ∷ []
one_bit = refl

tested : map page_poison (16 ∷ 0x100000037 ∷ 0 ∷ 15 ∷ 32 ∷ 0x100000027 ∷ [])
    ≡ true ∷ true ∷ false ∷ false ∷ false ∷ false ∷ []
tested = refl

tested_hints : map free_page_hint (8 ∷ 0x10000003f ∷ 0 ∷ 7 ∷ 16 ∷ 0x100000037 ∷ [])
    ≡ true ∷ true ∷ false ∷ false ∷ false ∷ false ∷ []
tested_hints = refl

may_be_offered : map (λ offered. are_settings (offering offered)) (0x100000010
    ∷ 0x10000003f ∷ 0x100000008 ∷ 16 ∷ 8 ∷ 0x100000040 ∷ []) ≡ true ∷ true ∷ true ∷ false ∷ false ∷ false ∷ []
may_be_offered = refl

abbrev negotiating : Device → Device
negotiating d = record d { status = 3 }

negotiated : map (λ wanted. negotiate_denial wanted (negotiating poisons))
    (0 ∷ 16 ∷ 0x100000031 ∷ 0x100000010 ∷ []) ≡ None ∷ None ∷ None ∷ None ∷ []
negotiated = refl

not_negotiated : negotiate_denial 0x100000010 (negotiating other)
    ∷ negotiate_denial 0x100000012 (negotiating poisons)
    ∷ negotiate_denial 0x100000018 (negotiating poisons) ∷ negotiate_denial 16 poisons ∷ []
    ≡ Some FeatureNotOffered ∷ Some FeatureNotOffered ∷ Some FeatureNotOffered ∷ Some OutOfOrder ∷ []
not_negotiated = refl

-- ---- what a report's pages keep

kept : keeps_reports (record poisons { features = 0x100000031 })
    ∷ keeps_reports (record poisons { features = 0x100000010; poison = 1 }) ∷ [] ≡ true ∷ true ∷ []
kept = refl

-- zeros are what a discarded page reads as; and a driver that didn't negotiate says nothing
discarded : keeps_reports (record poisons { features = 0x100000031; poison = 0 })
    ∷ keeps_reports (record poisons { features = 0x100000021 })
    ∷ keeps_reports (new_device (offering 0x100000031)) ∷ [] ≡ false ∷ false ∷ false ∷ []
discarded = refl

-- ---- what free pages keep, by kind

abbrev kinds : List Kind
kinds = Inflate ∷ Deflate ∷ Statistics ∷ Hint ∷ Report ∷ []

-- the driver's poison_val, and whether the settings discard hints
abbrev keeping : ℕ → ℕ → Device
keeping poison discards = record poisons {
  settings = record (offering 0x100000039) { discards_hints = discards };
  features = 0x100000039;
  poison = poison;
}

free_kept : map (λ kind. keeps_free kind (keeping 7 0)) kinds ∷ map (λ kind. keeps_free kind (keeping 7 1)) kinds
    ∷ map (λ kind. keeps_free kind (keeping 0 0)) kinds ∷ []
    ≡ (false ∷ false ∷ false ∷ true ∷ true ∷ []) ∷ (false ∷ false ∷ false ∷ true ∷ true ∷ [])
    ∷ (false ∷ false ∷ false ∷ true ∷ false ∷ []) ∷ []
free_kept = refl

-- with no poison to keep, where the settings discard hints, by any number but 0
free_discarded : map (λ kind. keeps_free kind (keeping 0 1)) kinds
    ∷ map (λ kind. keeps_free kind (keeping 0 255)) kinds ∷ []
    ≡ replicate 5 false ∷ replicate 5 false ∷ []
free_discarded = refl
