-- Queues that start at an index, and stop, worked out: what they are, and each refusal in its order.
use Rattle.std.proofs.Common.{◌≡◌, refl, ℕ, true, false, [], ◌∷◌, map, ◌++◌, Some, None}
use Rattle.vb_core.specs.declared.device.Denial.TheVariants.{NoQueue, BadArgument, NotReady}
use Rattle.vb_core.specs.declared.device.Denial.TheVariants.{NeedsReset, Misplaced}
use Rattle.vb_core.specs.declared.kinds.Kind.TheVariants.{Inflate, Deflate, Statistics, Report}
use Rattle.vb_core.specs.declared.{starting.QueueStart.QueueStart, device.Device.Device}
use Rattle.vb_core.specs.{Starting.{started, may_have_queues, start_denial, stop_denial}, Devices.placed}
use Rattle.vb_core.{specs.Rings.no_ring, proofs.Examples.{settings, fresh, ready}}

abbrev at : ℕ → QueueStart
at next = record { table = 0; avail = 256; used = 512; size = 8; next = next }

-- both counts are the index, and from 0 on it is a place
counted : started (at 7) ≡ record (placed 0 256 512 8) { next_avail = 7; next_used = 7 }
counted = refl

from_nothing : started (at 0) ≡ placed 0 256 512 8
from_nothing = refl

-- from FEATURES_OK on, whether DRIVER_OK is set or not; not once the driver has given up
statuses : map may_have_queues (0 ∷ 1 ∷ 3 ∷ 11 ∷ 15 ∷ 75 ∷ 79 ∷ 131 ∷ 139 ∷ 143 ∷ [])
    ≡ false ∷ false ∷ false ∷ true ∷ true ∷ true ∷ true ∷ false ∷ false ∷ false ∷ []
statuses = refl

abbrev starting : Device → Device
starting d = record d { status = 11 }

-- ---- starts, at any index, beside queues that run

starts : map (start_denial Inflate (started (at 65535))) (ready ∷ starting ready ∷ starting (record ready { inflate = no_ring }) ∷ [])
    ++ map (λ kind. start_denial kind (started (at 5)) (record ready { features = 0x100000023 }))
    (Inflate ∷ Deflate ∷ Statistics ∷ Report ∷ []) ≡ None ∷ None ∷ None ∷ None ∷ None ∷ None ∷ None ∷ []
unfolding lib.Count.ones
starts = refl

-- ---- refusals: each, where those before it don't hold, and those after it do

abbrev nowhere : QueueStart
nowhere = record (at 5) { size = 7 }

refused : map (start_denial Statistics (started nowhere))
    (record fresh { settings = record settings { memory_end = 0x100000000000 } }
    ∷ fresh ∷ record fresh { status = 3 } ∷ record fresh { status = 203 } ∷ record fresh { status = 79 }
    ∷ record fresh { status = 15 } ∷ record ready { features = 0x100000021 } ∷ ready ∷ [])
    ≡ Some BadArgument ∷ Some NotReady ∷ Some NotReady ∷ Some NotReady ∷ Some NeedsReset ∷ Some NoQueue
    ∷ Some NoQueue ∷ Some Misplaced ∷ []
unfolding lib.Count.ones
refused = refl

-- a used ring of eight descriptors has 70 bytes, and memory one fewer
past_the_end : map (λ used. start_denial Inflate (started (record (at 5) { used = used })) ready)
    (262072 ∷ 262076 ∷ 514 ∷ []) ≡ None ∷ Some Misplaced ∷ Some Misplaced ∷ []
unfolding lib.Count.ones
past_the_end = refl

-- ---- stops: whatever the status is, a queue that has a place

stops : map (stop_denial Inflate) (ready ∷ record ready { status = 0 } ∷ record ready { status = 207 } ∷ [])
    ≡ None ∷ None ∷ None ∷ []
stops = refl

not_there : stop_denial Deflate ready ∷ stop_denial Inflate (record ready { inflate = no_ring }) ∷ []
    ≡ Some Misplaced ∷ Some Misplaced ∷ []
not_there = refl
