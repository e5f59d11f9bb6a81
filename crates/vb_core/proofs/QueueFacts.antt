-- Queues, entries and registers of a device, worked out.
use Rattle.std.proofs.Common.{◌≡◌, refl, ap, arith, ℕ, true, false, List, [], ◌∷◌, Some, None}
use Rattle.std.proofs.Common.{map, ◌++◌}
use Rattle.vb_core.specs.declared.device.Denial.TheVariants.{NoQueue, BadArgument, NotReady}
use Rattle.vb_core.specs.{declared.statistics.Statistic.Statistic, declared.device.Device.Device}
use Rattle.vb_core.specs.{Kinds.kind_of, declared.device.Denial.TheVariants.{NeedsReset, Misplaced}}
use Rattle.vb_core.specs.{Statistics.{AreFigures, figure_at, statistics_denial}, Statuses.after_write}
use Rattle.vb_core.specs.declared.kinds.Kind.TheVariants.{Inflate, Deflate, Statistics, Hint, Report}
use Rattle.vb_core.specs.Devices.{placed, queue_denial, call_denial, place_denial}
use Rattle.vb_core.{proofs.Examples.{settings, fresh, ready}, specs.Using.use_denial}
use Rattle.vb_core.specs.Rings.{is_size, is_part, has_place, with_taken, with_used, used_entry}

-- ---- places

-- powers of two from 1 to 1,024 are sizes; 2,048 are too many, and 0, 3 and 768 no power of two
sizes : map is_size (1 ∷ 2 ∷ 256 ∷ 512 ∷ 1024 ∷ []) ≡ true ∷ true ∷ true ∷ true ∷ true ∷ []
unfolding lib.Count.ones
sizes = refl

no_sizes : map is_size (0 ∷ 3 ∷ 768 ∷ 2048 ∷ []) ≡ false ∷ false ∷ false ∷ false ∷ []
unfolding lib.Count.ones
no_sizes = refl

-- the last 16 bytes, one more, and a misaligned place
parts : is_part 4096 4080 16 16 ∷ is_part 4096 4080 16 17 ∷ is_part 4096 8 16 16 ∷ []
    ≡ true ∷ false ∷ false ∷ []
parts = refl

-- a used ring of eight descriptors has 70 bytes: no byte fewer is enough
places : map (λ end. has_place end (placed 0 256 512 8)) (582 ∷ 581 ∷ []) ≡ true ∷ false ∷ []
unfolding lib.Count.ones
places = refl

-- and an available ring of them 22, and a table 128, where these lie last
others_last : map (λ end. has_place end (placed 0 512 256 8)) (534 ∷ 533 ∷ [])
    ++ map (λ end. has_place end (placed 512 0 256 8)) (640 ∷ 639 ∷ []) ≡ true ∷ false ∷ true ∷ false ∷ []
unfolding lib.Count.ones
others_last = refl

-- to 16 bytes, 2 and 4
aligned : map (λ at. has_place 4096 (placed at 512 1024 8)) (16 ∷ 8 ∷ [])
    ++ map (λ at. has_place 4096 (placed 0 at 1024 8)) (514 ∷ 513 ∷ [])
    ++ map (λ at. has_place 4096 (placed 0 512 at 8)) (1028 ∷ 1026 ∷ [])
    ≡ true ∷ false ∷ true ∷ false ∷ true ∷ false ∷ []
unfolding lib.Count.ones
aligned = refl

-- ---- refusals, and which comes first

-- none; a queue without a place, and one without its feature; a broken rule comes before that, the
-- status before the place, and the settings before the status
queues_refused : queue_denial Inflate ready ∷ queue_denial Deflate ready
    ∷ queue_denial Report (record ready { features = 0x100000003 })
    ∷ queue_denial Report (record ready { features = 0x100000003; status = 79 })
    ∷ queue_denial Report (record ready { status = 75 })
    ∷ queue_denial Inflate (record ready { settings = record settings { memory_end = 17592186044416 }; status = 0 })
    ∷ [] ≡ None ∷ Some Misplaced ∷ Some NoQueue ∷ Some NeedsReset ∷ Some NotReady ∷ Some BadArgument ∷ []
unfolding lib.Count.ones
queues_refused = refl

kind_first : call_denial Report false false fresh ≡ Some NoQueue
kind_first = refl

-- a place is given before DRIVER_OK, and not after it
places_refused : map (place_denial Inflate (placed 0 256 512 8)) (ready ∷ record ready { status = 11 } ∷ [])
    ≡ Some BadArgument ∷ None ∷ []
unfolding lib.Count.ones
places_refused = refl

-- ---- entries

wraps : with_taken (record (placed 0 256 512 8) { next_avail = 65535 }) ≡ placed 0 256 512 8
wraps = refl

-- the tenth element of eight, in the second place
tenth : used_entry (record (placed 0 256 512 8) { next_used = 9 }) 5
    ≡ record { element_at = 524; index_at = 514; id = 5; length = 0; index = 10 }
tenth = refl

-- the last place of 1,024, and the first one after it
last_places : map (λ n. (used_entry (record (placed 0 0x8000 0x9000 1024) { next_used = n }) 5).element_at)
    (1023 ∷ 1024 ∷ 65535 ∷ []) ≡ 0xaffc ∷ 0x9004 ∷ 0xaffc ∷ []
last_places = refl

-- the index after the last one, and after the first
indices : (used_entry (record (placed 0 256 512 8) { next_used = 65535 }) 5).index
    ∷ (with_used (placed 0 256 512 8)).next_used ∷ [] ≡ 0 ∷ 1 ∷ []
indices = refl

-- a head, and the first number that is none
heads : map (λ head. use_denial Inflate head ready) (7 ∷ 8 ∷ []) ≡ None ∷ Some BadArgument ∷ []
unfolding lib.Count.ones
heads = refl

-- in the largest ring 1,000 is one, and in one of half its size it isn't
heads_of : ℕ → Device
heads_of size = record ready { inflate = placed 0 0x8000 0x9000 size }

large_heads : map (λ size. use_denial Inflate 1000 (heads_of size)) (1024 ∷ 512 ∷ [])
    ≡ None ∷ Some BadArgument ∷ []
unfolding lib.Count.ones heads_of
large_heads = refl

last_heads : map (λ head. use_denial Inflate head (heads_of 1024)) (1023 ∷ 1024 ∷ [])
    ≡ None ∷ Some BadArgument ∷ []
unfolding lib.Count.ones heads_of
last_heads = refl

-- ---- numbers of queues

-- reports are third without statistics, and fourth with them
numbered : kind_of 0x100000020 2 ∷ kind_of 0x100000022 3 ∷ kind_of 0x100000020 3 ∷ []
    ≡ Some Report ∷ Some Report ∷ None ∷ []
numbered = refl

-- hints come before reports, and after statistics
hints_numbered : map (kind_of 0x10000002a) (2 ∷ 3 ∷ 4 ∷ 5 ∷ []) ++ map (kind_of 0x100000028) (2 ∷ 3 ∷ 4 ∷ [])
    ++ map (kind_of 0x100000008) (2 ∷ 3 ∷ []) ≡ Some Statistics ∷ Some Hint ∷ Some Report ∷ None
    ∷ Some Hint ∷ Some Report ∷ None ∷ Some Hint ∷ None ∷ []
hints_numbered = refl

-- ---- registers

-- a reset forgets all but the target, and the id of the last round
reset : after_write 0 (record ready {
  target = 9;
  actual = 4;
  poison = 7;
  round = record { shown = 5; last = 5; opened = 1 };
}) ≡ record fresh { target = 9; round = record { shown = 0; last = 5; opened = 0 } }
reset = refl

acknowledged : after_write 1 fresh ≡ record fresh { status = 1 }
acknowledged = refl

-- ---- figures

abbrev ten : List ℕ
ten = 4 ∷ 0 ∷ 7 ∷ 1 ∷ 0 ∷ 0 ∷ 0 ∷ 0 ∷ 0 ∷ 0 ∷ []

figures : map (figure_at (ten ++ 5 ∷ 1 ∷ 8 ∷ 0 ∷ 0 ∷ 0 ∷ 0 ∷ 0 ∷ 0 ∷ 0 ∷ [])) (0 ∷ 1 ∷ [])
    ≡ record { tag = 4; value = 263 } ∷ record { tag = 261; value = 8 } ∷ []
figures = refl

abbrev zeros : Statistic
zeros = record { tag = 0; value = 0 }

-- another value, another tag, and no figure
another_value : AreFigures ten (record { tag = 4; value = 7 } ∷ []) → ⊥
another_value are = omega (arith, ap (λ (s : Statistic). s.value) (are 0 zeros (omega arith)))

another_tag : AreFigures ten (record { tag = 5; value = 263 } ∷ []) → ⊥
another_tag are = omega (arith, ap (λ (s : Statistic). s.tag) (are 0 zeros (omega arith)))

no_figure : AreFigures ten [] → ⊥
no_figure are = omega (arith, ap (λ (s : Statistic). s.tag) (are 0 zeros (omega arith)))

-- one figure wants room for one
rooms : map (λ room. statistics_denial 10 room (record ready { statistics = placed 0 256 512 8 }))
    (0 ∷ 1 ∷ []) ≡ Some BadArgument ∷ None ∷ []
unfolding lib.Count.ones
rooms = refl
