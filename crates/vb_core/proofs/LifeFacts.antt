-- A device as it is made, its rings, and what each kind's queue is refused for, worked out.
use Rattle.std.specs.Prelude.{Option, Some, None, take}
use Rattle.std.proofs.Common.{◌≡◌, ℕ, true, false, List, [], ◌∷◌, map, refl}
use Rattle.vb_core.specs.declared.device.{Device.Device, Denial.{Denial, TheVariants.{NoQueue, Misplaced}}}
use Rattle.vb_core.specs.declared.kinds.Kind.{Kind, TheVariants.{Inflate, Deflate, Statistics, Hint, Report}}
use Rattle.vb_core.specs.declared.ring.Virtqueue.{Virtqueue}
use Rattle.vb_core.specs.{Ballooned.{puts_in, pages_with_bits}, Kinds.{queue_of, kinds}, Name.is_request}
use Rattle.vb_core.specs.Devices.{placed, ring_of, with_ring, with_one_taken, needing_reset}
use Rattle.vb_core.specs.Devices.{queue_denial, place_denial}
use Rattle.vb_core.{proofs.Examples.{settings, fresh}, specs.Rings.{with_taken, with_used}}
use lib.Count

abbrev all : List Kind
all = Inflate ∷ Deflate ∷ Statistics ∷ Hint ∷ Report ∷ []

-- ---- as it is made

abbrev nowhere : Virtqueue
nowhere = record { table = 0; avail = 0; used = 0; size = 0; next_avail = 0; next_used = 0 }

made : fresh ≡ record {
  settings = settings;
  features = 0;
  target = 0;
  actual = 0;
  inflate = nowhere;
  deflate = nowhere;
  statistics = nowhere;
  hint = nowhere;
  report = nowhere;
  poison = 0;
  round = record { shown = 0; last = 0; opened = 0 };
  status = 0;
}
made = refl

-- ---- rings, one of each kind

abbrev ring : ℕ → Virtqueue
ring size = record {
  table = 4096;
  avail = 8192;
  used = 12288;
  size = size;
  next_avail = 0;
  next_used = 0;
}

abbrev five : Device
five = record fresh {
  inflate = ring 2;
  deflate = ring 4;
  statistics = ring 8;
  hint = ring 128;
  report = ring 16;
}

placed_so : placed 4096 8192 12288 8 ≡ ring 8
placed_so = refl

its_own : map (λ kind. (ring_of kind five).size) all ≡ 2 ∷ 4 ∷ 8 ∷ 128 ∷ 16 ∷ []
its_own = refl

put : map (λ kind. with_ring kind (ring 32) five) all
    ≡ record five { inflate = ring 32 } ∷ record five { deflate = ring 32 }
    ∷ record five { statistics = ring 32 } ∷ record five { hint = ring 32 }
    ∷ record five { report = ring 32 } ∷ []
put = refl

taken : with_one_taken Statistics five ≡ record five { statistics = record (ring 8) { next_avail = 1 } }
taken = refl

counted : with_taken (record (ring 8) { next_avail = 7; next_used = 3 })
    ∷ with_used (record (ring 8) { next_avail = 7; next_used = 3 }) ∷ []
    ≡ record (ring 8) { next_avail = 8; next_used = 3 }
    ∷ record (ring 8) { next_avail = 7; next_used = 4 } ∷ []
counted = refl

-- DEVICE_NEEDS_RESET is 64
broken : map (λ status. needing_reset (record five { status = status })) (15 ∷ 79 ∷ [])
    ≡ record five { status = 79 } ∷ record five { status = 79 } ∷ []
broken = refl

-- ---- what each kind's queue is for

numbers : map queue_of all ≡ 0 ∷ 1 ∷ 2 ∷ 3 ∷ 4 ∷ []
numbers = refl

-- without gaps, by what was negotiated
in_order : map kinds (0x100000000 ∷ 0x100000002 ∷ 0x100000020 ∷ 0x100000022 ∷ 0x100000008 ∷ 0x10000002a ∷ [])
    ≡ (Inflate ∷ Deflate ∷ []) ∷ (Inflate ∷ Deflate ∷ Statistics ∷ [])
    ∷ (Inflate ∷ Deflate ∷ Report ∷ []) ∷ (Inflate ∷ Deflate ∷ Statistics ∷ Report ∷ [])
    ∷ (Inflate ∷ Deflate ∷ Hint ∷ []) ∷ all ∷ []
in_order = refl

requests : map is_request all ≡ true ∷ true ∷ false ∷ false ∷ false ∷ []
requests = refl

puts : map puts_in all ≡ true ∷ false ∷ false ∷ false ∷ false ∷ []
puts = refl

-- ---- queues and features: statistics want feature 2, hints 8, and reports 32

abbrev with_features : ℕ → ℕ → Device
with_features status features = record five { status = status; features = features }

abbrev denials : Device → List (Option Denial)
denials d = map (λ kind. queue_denial kind d) all

no_more : denials (with_features 15 0x100000000) ≡ None ∷ None ∷ Some NoQueue ∷ Some NoQueue ∷ Some NoQueue ∷ []
unfolding lib.Count.ones
no_more = refl

statistics_too : denials (with_features 15 0x100000002) ≡ None ∷ None ∷ None ∷ Some NoQueue ∷ Some NoQueue ∷ []
unfolding lib.Count.ones
statistics_too = refl

reports_too : denials (with_features 15 0x100000020) ≡ None ∷ None ∷ Some NoQueue ∷ Some NoQueue ∷ None ∷ []
unfolding lib.Count.ones
reports_too = refl

hints_too : denials (with_features 15 0x100000008) ≡ None ∷ None ∷ Some NoQueue ∷ None ∷ Some NoQueue ∷ []
unfolding lib.Count.ones
hints_too = refl

-- a place is refused for the same
places : map (λ kind. place_denial kind (ring 8) (with_features 11 0x100000002)) all
    ≡ None ∷ None ∷ None ∷ Some NoQueue ∷ Some NoQueue ∷ []
unfolding lib.Count.ones
places = refl

-- a table at an odd address, and one past the end of memory
misplaced : map (λ table. place_denial Inflate (placed table 8192 12288 8) (with_features 11 0)) (1 ∷ 262144 ∷ [])
    ≡ Some Misplaced ∷ Some Misplaced ∷ []
unfolding lib.Count.ones
misplaced = refl

-- ---- the pages that a set of one word has bits for

sixty_four : take 2 (pages_with_bits 1) ≡ 0 ∷ 1 ∷ []
sixty_four = refl
