-- What calls move and leave of a driver, worked out.
use Rattle.std.proofs.Common.{◌≡◌, true, false, [], ◌∷◌, map, refl, ap, arith, ◌++◌}
use Rattle.{std.specs.Prelude.{Some, None, replicate}, vb_ring.specs.declared.layout.Layout.Layout}
use Rattle.vb_model.specs.{declared.places.PlaceCounts.PlaceCounts, Pages.block_at}
use Rattle.vb_model.specs.declared.places.Place.TheVariants.{Reserved, Free, Used, Giving}
use Rattle.vb_model.specs.declared.places.Place.TheVariants.{Lent, Taking, Stranded, Reporting}
use Rattle.vb_virtio.specs.declared.refusals.Refusal.TheVariants.{BadOrder, NotHeld, NotReady}
use Rattle.vb_virtio.specs.declared.refusals.Refusal.TheVariants.{BadCpu, NoPages, RingBroken}
use Rattle.{vb_ram.specs.Part.no_part, vb_driver.specs.Requests.{numbers_extent, stranded_first}}
use Rattle.vb_driver.specs.{State.{IsQueue, given_away, figures_of, pages_named}, Places.is_at}
use Rattle.vb_driver.specs.State.{room, fresh_side, AreRequests, DriverState, fresh_driver}
use Rattle.vb_driver.specs.{Areas.{refusal_of, is_free_block, is_covered}, Reaps.after_refusal}
use Rattle.vb_driver.specs.Reaps.{places_after, with_actual, next_of, pages_sent, without_request}
use Rattle.vb_driver.specs.{Coding.{buffer_of, statistics_buffer}, Unchanged.AreCountsOf}
use Rattle.vb_driver.specs.{Places.{number_of, first_place, AreLentBits}, Requests.figures_extent}
use Rattle.vb_pages.specs.declared.fault.PageFault.TheVariants.{BadOrder as OrderTooLarge}
use Rattle.vb_pages.specs.declared.fault.PageFault.TheVariants.{BadCpu as NoSuchCpu}
use Rattle.vb_pages.specs.declared.fault.PageFault.TheVariants.{NoPages as NoFreeBlock}
use Rattle.vb_pages.specs.declared.fault.PageFault.TheVariants.{NotHeld as NoSuchBlock}

-- ---- places

numbers : map number_of (Reserved ∷ Free ∷ Used ∷ Giving ∷ Lent ∷ Taking ∷ Stranded ∷ Reporting ∷ [])
    ≡ 0 ∷ 1 ∷ 2 ∷ 3 ∷ 4 ∷ 5 ∷ 6 ∷ 7 ∷ []
numbers = refl

at_its_own : map (λ place. is_at place place)
    (Reserved ∷ Free ∷ Used ∷ Giving ∷ Lent ∷ Taking ∷ Stranded ∷ Reporting ∷ []) ≡ replicate 8 true
at_its_own = refl

at_no_other : map (is_at Lent) (Reserved ∷ Free ∷ Used ∷ Giving ∷ Taking ∷ Stranded ∷ Reporting ∷ [])
    ≡ replicate 7 false
at_no_other = refl

first : map (first_place 2) (0 ∷ 1 ∷ 2 ∷ []) ≡ Reserved ∷ Reserved ∷ Free ∷ []
first = refl

-- a page has one word of bits, and just a lent one has a bit that is 1
no_lent_bits : (AreLentBits (Free ∷ []) [] → ⊥) × (AreLentBits (Free ∷ []) (0 ∷ 0 ∷ []) → ⊥)
    × (AreLentBits (Free ∷ []) (1 ∷ []) → true ≡ false)
    × (AreLentBits (Lent ∷ []) (0 ∷ []) → false ≡ true)
no_lent_bits = (
  λ bits. omega (arith, bits.fewest),
  λ bits. omega (arith, bits.fewest),
  λ bits. bits.tells 0 0 (omega arith),
  λ bits. bits.tells 0 0 (omega arith),
)

counted : (c : PlaceCounts) → AreCountsOf c (Free ∷ [] ++ replicate 2 Used ++ replicate 3 Giving
    ++ replicate 4 Lent ++ replicate 5 Taking ++ replicate 6 Stranded ++ replicate 7 Reporting)
    → (c.free ≡ 1) × (c.used ≡ 2) × (c.giving ≡ 3) × (c.lent ≡ 4) × (c.taking ≡ 5)
    × (c.stranded ≡ 6) × (c.reporting ≡ 7)
counted c are =
    (are.free, are.used, are.giving, are.lent, are.taking, are.stranded, are.reporting)

-- ---- what is in memory: 4 bytes a number, 1024 a request, in pages 4 to 7 and 8 to 11

buffers : buffer_of 4 0 1 ∷ buffer_of 4 5 256 ∷ statistics_buffer ∷ []
    ≡ record { addr = 16384; len = 4; flags = 0; next = 0 }
    ∷ record { addr = 21504; len = 1024; flags = 0; next = 0 }
    ∷ record { addr = 49152; len = 20; flags = 0; next = 0 } ∷ []
buffers = refl

extents : numbers_extent 4 5 2 ∷ figures_extent ∷ []
    ≡ record { page = 5; from = 1024; to = 1032 } ∷ record { page = 12; from = 0; to = 20 } ∷ []
extents = refl

-- ---- a queue has its own number, and its ring lies in that one's pages

numbered : (fresh_driver 64 8 1).inflate.number ∷ (fresh_driver 64 8 1).deflate.number ∷ []
    ≡ 0 ∷ 1 ∷ []
numbered = refl

by_no_other_number : IsQueue (fresh_side 0 8) 1 8 → ⊥
by_no_other_number queue = omega (arith, queue.number)

in_no_other_pages : AreRequests (record (fresh_side 0 8) { number = 1 }) → ⊥
in_no_other_pages side = omega (arith, ap (λ (l : Layout). l.table) side.layout)

-- ---- a driver with pages at all places, of which a deflate names two and an inflate one

abbrev pub busy : DriverState
busy = record (fresh_driver 64 8 1) {
  places = Reserved ∷ Free ∷ Used ∷ Giving ∷ Lent ∷ Taking ∷ Taking ∷ Stranded ∷ Reporting ∷ [];
  areas = record { areas = false ∷ true ∷ false ∷ []; lists = [] ∷ []; reserved = 1 };
  inflate = record (fresh_driver 64 8 1).inflate { sent = [] ∷ (3 ∷ []) ∷ [] };
  deflate = record (fresh_driver 64 8 1).deflate { sent = (5 ∷ 6 ∷ []) ∷ [] };
  report = record (fresh_driver 64 8 1).report { blocks = block_at 8 0 ∷ [] };
  features = 1;
}

counts : given_away busy ∷ pages_named busy.deflate ∷ room busy ∷ (figures_of busy).free
    ∷ (figures_of busy).total ∷ [] ≡ 3 ∷ 2 ∷ 8 ∷ 4096 ∷ 262144 ∷ []
counts = refl

strands : stranded_first busy 5 ∷ stranded_first busy 0 ∷ [] ≡ (7 ∷ []) ∷ [] ∷ []
strands = refl

sent : pages_sent 0 1 busy ∷ pages_sent 1 0 busy ∷ pages_sent 4 0 busy ∷ pages_sent 0 0 busy ∷ []
    ≡ (3 ∷ []) ∷ (5 ∷ 6 ∷ []) ∷ (8 ∷ []) ∷ [] ∷ []
sent = refl

moved : map (λ q. places_after q (5 ∷ []) (record busy { places = Used ∷ Used ∷ Used ∷ Used ∷ Used ∷ Taking ∷ [] }))
    (0 ∷ 1 ∷ 4 ∷ [])
    ≡ (Used ∷ Used ∷ Used ∷ Used ∷ Used ∷ Lent ∷ []) ∷ (Used ∷ Used ∷ Used ∷ Used ∷ Used ∷ Free ∷ [])
    ∷ (Used ∷ Used ∷ Used ∷ Used ∷ Used ∷ Free ∷ []) ∷ []
moved = refl

-- a guest that doesn't tell the host has the pages of a deflate already
stays : places_after 1 (0 ∷ []) (record busy { places = Used ∷ []; features = 0 }) ≡ Used ∷ []
stays = refl

forgets : (without_request 0 1 busy).inflate.sent ∷ (without_request 1 0 busy).inflate.sent ∷ []
    ≡ ([] ∷ [] ∷ []) ∷ ([] ∷ (3 ∷ []) ∷ []) ∷ []
forgets = refl

tells : (with_actual busy).actual ≡ 3
tells = refl

-- ---- refusals and areas

faults : map refusal_of (OrderTooLarge ∷ NoSuchCpu ∷ NoFreeBlock ∷ NoSuchBlock ∷ [])
    ≡ BadOrder ∷ BadCpu ∷ NoPages ∷ NotHeld ∷ []
faults = refl

gives_up : (after_refusal RingBroken (record no_part { status = 15 })).status
    ∷ (after_refusal NotReady (record no_part { status = 15 })).status ∷ [] ≡ 143 ∷ 15 ∷ []
gives_up = refl

said : next_of (Some (record { head = 2; pages = 5 })) ∷ next_of None ∷ [] ≡ Some 2 ∷ None ∷ []
said = refl

blocks : is_free_block (false ∷ false ∷ true ∷ true ∷ []) (block_at 2 1)
    ∷ is_free_block (false ∷ true ∷ true ∷ true ∷ []) (block_at 1 1)
    ∷ is_free_block (false ∷ false ∷ true ∷ true ∷ []) (block_at 0 2) ∷ is_covered 3 (block_at 2 1 ∷ [])
    ∷ is_covered 4 (block_at 2 1 ∷ []) ∷ [] ≡ true ∷ false ∷ false ∷ true ∷ false ∷ []
blocks = refl
