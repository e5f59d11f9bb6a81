-- One chain that is served over memory that a device owns, worked out.
use Rattle.std.proofs.Common.{◌≡◌, ◌∙◌, refl, ap, arith, ℕ, List, [], ◌∷◌, length, take, Option, Some}
use Rattle.std.proofs.Common.{None, Ok, Err, true, false}
use Rattle.vb_core.specs.declared.kinds.Kind.TheVariants.{Inflate, Deflate, Hint, Report}
use Rattle.vb_core.specs.declared.{runs.Run.Run, settings.Settings.Settings}
use Rattle.vb_core.specs.declared.device.{Device.Device, Denial.Denial}
use Rattle.vb_core.specs.declared.device.Denial.TheVariants.{Broken, NotReady, NeedsReset}
use Rattle.vb_core.specs.Devices.{new_device, placed}
use Rattle.vb_monitor.specs.Regions.{spot}
use Rattle.vb_served.specs.Store.{Store, with_figures}
use Rattle.vb_chain.specs.declared.fault.ChainFault.{ChainFault}
use Rattle.vb_ram.specs.Pages.{byte_at}
use Rattle.vb_core.specs.declared.ring.Virtqueue.{Virtqueue}
use Rattle.vb_monitor.specs.declared.outcome.Outcome.{Outcome}
use Rattle.vb_served.specs.One.{all_of, byte, head_in, descriptor_in, Discards, Settles, Leaves}
use Rattle.vb_monitor.specs.Chains.{told_if, tells_pages}
use Rattle.vb_served.specs.One.{NamesOne, HoldsBuffer, BreaksRule, HearsId}
use Rattle.vb_served.proofs.StoreFacts.{Same, old, cut, without}

-- ---- all of memory

two_pages : all_of 2 ≡ record { guest = 0; length = 0x2000; in_file = 0 } ∷ []
two_pages = refl

the_last_bytes : spot (all_of 2) 0x1ffe 2 ≡ Some (record { region = 0; offset = 0x1ffe })
the_last_bytes = refl

past_them : spot (all_of 2) 0x1fff 2 ≡ None
past_them = refl

-- ---- what is discarded

one_after_the_other : Discards old (cut 0x2000 0x1000 ∷ cut 0x1000 0x1000 ∷ [])
    (without None (3 ∷ 9 ∷ []))
one_after_the_other = (
  without None (3 ∷ 9 ∷ []),
  (refl, refl, refl, refl),
  (
    without None (3 ∷ 9 ∷ []),
    (refl, refl, refl, refl),
    refl,
  ),
)

none_is_discarded : Discards old [] (without None (3 ∷ 9 ∷ [])) → ⊥
none_is_discarded h = let e : Same 2 1 = ap (λ (s : Store). length s.loose) h in omega arith

-- ---- what becomes of a chain

abbrev settings : Settings
settings = record {
  memory_end = 0x3000;
  offered = 0x100000027;
  reserved_pages = 1;
  needs_must_tell = 0;
  skips_bad_pages = 0;
  holds_deflates = 0;
  discards_hints = 0;
}

abbrev ready : Device
ready = record (new_device settings) {
  features = 0x100000027;
  status = 15;
  inflate = placed 0 0x100 0x200 8;
  deflate = placed 0 0x100 0x200 8;
  report = placed 0 0x100 0x200 8;
}

abbrev page_2 : Run
page_2 = record { first = 2; count = 1 }

abbrev page_1 : Run
page_1 = record { first = 1; count = 1 }

-- an inflate's page loses its frame before the element is written, a deflate's keeps it
an_inflate : (why : Option Denial) (after : Device) (new : Store)
    (h : Settles Inflate 3 (page_2 ∷ []) ready after why old new) →
    h.between.loose ≡ 3 ∷ 9 ∷ []
an_inflate why after new h =
    let (next, lost, same) = h.discards in ap (λ (s : Store). s.loose) same ∙ lost.1

a_deflate : (why : Option Denial) (after : Device) (new : Store)
    (h : Settles Deflate 3 (page_2 ∷ []) ready after why old new) →
    h.between ≡ record old { ballooned = false ∷ false ∷ false ∷ [] }
a_deflate why after new h = h.discards

-- a page is ballooned once its inflate is served
ballooned_then : (why : Option Denial) (after : Device) (new : Store)
    (h : Settles Inflate 3 (page_1 ∷ []) ready after why old new) →
    new.ballooned ≡ false ∷ true ∷ true ∷ []
ballooned_then why after new h =
    let (next, lost, same) = h.discards in h.gives.index.ballooned ∙ (h.gives.long.ballooned
    ∙ (h.gives.id.ballooned ∙ (ap (λ (s : Store). s.ballooned) same ∙ lost.2)))

-- the element is the first of the ring, of this head, and no frame is lost by it
its_element : (why : Option Denial) (after : Device) (new : Store)
    (h : Settles Inflate 3 [] ready after why old new) → new.loose ≡ 3 ∷ []
its_element why after new h =
    h.gives.index.loose ∙ h.gives.long.loose ∙ h.gives.id.loose
    ∙ ap (λ (s : Store). s.loose) h.discards

ends_with_no_reason : (after : Device) (new : Store) →
    Settles Inflate 3 [] ready after (Some NotReady) old new → ⊥
ends_with_no_reason after new h = let e = h.ends in absurd cc

counts_the_element : (why : Option Denial) (new : Store) →
    Settles Inflate 3 [] ready ready why old new → ⊥
counts_the_element why new h =
    let e : Same 0 1 = ap (λ (d : Device). d.inflate.next_used) h.device in omega arith

-- the first runs, as many as were named
first_runs_alone : (why : Option Denial) (after : Device) (new : Store)
    (h : NamesOne Inflate 3 (page_1 ∷ page_2 ∷ []) ready after why old new
    (Ok (record { runs = 1; pages = 1; skipped = 0 }))) → h.between.loose ≡ 3 ∷ []
first_runs_alone why after new h =
    let (next, lost, same) = h.discards in ap (λ (s : Store). s.loose) same ∙ lost.1

a_broken_rule : NamesOne Inflate 3 [] ready ready (Some NotReady) old old (Err NotReady)
a_broken_rule = record { ends = refl; device = refl; memory = refl }

for_another_reason : NamesOne Inflate 3 [] ready ready (Some NeedsReset) old old (Err NotReady) → ⊥
for_another_reason h = let e = h.ends in absurd cc

nothing_is_left : Leaves ready ready None None old old
nothing_is_left = record { ends = refl; device = refl; memory = refl }

a_frame_is_lost : Leaves ready ready None None old (without None (3 ∷ 9 ∷ [])) → ⊥
a_frame_is_lost h =
    let e : Same 2 1 = ap (λ (s : Store). length s.loose) h.memory in omega arith

another_device : Leaves ready (record ready { target = 9 }) None None old old → ⊥
another_device h = let e : Same 9 0 = ap (λ (d : Device). d.target) h.device in omega arith

-- ---- reports and statistics

-- the pages of its runs, as many as were named, lose their frames, and aren't ballooned by it
its_frame_goes : (why : Option Denial) (after : Device) (new : Store)
    (h : Settles Report 3 (page_2 ∷ []) ready after why old new) → h.between.loose ≡ 3 ∷ 9 ∷ []
its_frame_goes why after new h =
    let (next, lost, same) = h.discards in ap (λ (s : Store). s.loose) same ∙ lost.1

it_is_not_ballooned : (why : Option Denial) (after : Device) (new : Store)
    (h : Settles Report 3 (page_1 ∷ []) ready after why old new) →
    new.ballooned ≡ false ∷ false ∷ true ∷ []
it_is_not_ballooned why after new h =
    let (next, lost, same) = h.discards in h.gives.index.ballooned ∙ (h.gives.long.ballooned
    ∙ (h.gives.id.ballooned ∙ (ap (λ (s : Store). s.ballooned) same ∙ lost.2)))

-- a device that keeps the pages of reports discards none of them
kept : (why : Option Denial) (after : Device) (new : Store)
    (h : Settles Report 3 (page_2 ∷ []) (record ready { features = 0x100000037; poison = 1 }) after
    why old new) → h.between ≡ old
kept why after new h = h.discards

counts_the_report : (why : Option Denial) (new : Store) →
    Settles Report 3 (page_2 ∷ []) ready ready why old new → ⊥
counts_the_report why new h =
    let e : Same 0 1 = ap (λ (d : Device). d.report.next_used) h.device in omega arith

-- hinted pages of an open round lose their frames where the settings discard hints, and aren't
-- ballooned by it
abbrev hinting : Device
hinting = record ready {
  settings = record settings { discards_hints = 1 };
  hint = placed 0 0x100 0x200 8;
  round = record { shown = 2; last = 2; opened = 1 };
}

abbrev closed : Device
closed = record hinting { round = record hinting.round { opened = 0 } }

-- what a hint of one page of this device comes to
abbrev HintsOne : Device → Device → Option Denial → Store → Type 0
HintsOne d after why new = NamesOne Hint 3 (page_2 ∷ []) d after why old new
    (told_if (tells_pages Hint d) (Ok (record { runs = 1; pages = 1; skipped = 0 })))

its_hinted_frame_goes : (why : Option Denial) (after : Device) (new : Store)
    (h : HintsOne hinting after why new) → h.between.loose ≡ 3 ∷ 9 ∷ []
its_hinted_frame_goes why after new h =
    let (next, lost, same) = h.discards in ap (λ (s : Store). s.loose) same ∙ lost.1

kept_by_settings : (why : Option Denial) (after : Device) (new : Store)
    (h : HintsOne (record hinting { settings = settings }) after why new) → h.between ≡ old
kept_by_settings why after new h = h.discards

kept_of_no_round : (why : Option Denial) (after : Device) (new : Store)
    (h : HintsOne closed after why new) → h.between ≡ old
kept_of_no_round why after new h = h.discards

-- its id opens a round, and another one closes it; both are given back, and no frame is lost
an_id : (why : Option Denial) (after : Device) (new : Store) (h : HearsId 3 2 closed after why old new) →
    (after.round.opened ≡ 1) × (after.hint.next_avail ≡ 1) × (after.hint.next_used ≡ 1)
    × (new.loose ≡ 3 ∷ [])
an_id why after new h = (
  ap (λ (d : Device). d.round.opened) h.device,
  ap (λ (d : Device). d.hint.next_avail) h.device,
  ap (λ (d : Device). d.hint.next_used) h.device,
  h.gives.index.loose ∙ (h.gives.long.loose ∙ h.gives.id.loose),
)

another_id : (why : Option Denial) (after : Device) (new : Store)
    (h : HearsId 3 0 hinting after why old new) → after.round.opened ≡ 0
another_id why after new h = ap (λ (d : Device). d.round.opened) h.device

-- a buffer of one figure: it is taken and held, and its figure is known; no frame is lost
abbrev twenty : List ℕ
twenty = 4 ∷ 0 ∷ 20 ∷ 0 ∷ 0 ∷ 0 ∷ 0 ∷ 0 ∷ 0 ∷ 0 ∷ []

a_buffer : (after : Device) (outcome : Outcome) (new : Store)
    (h : HoldsBuffer 3 twenty ready after outcome old new) →
    (new ≡ with_figures (take 1 h.figures) old) × (outcome.tally.held ≡ Some (record { head = 3; pages = 0 }))
    × (after.statistics.next_avail ≡ 1) × (after.statistics.next_used ≡ 0)
a_buffer after outcome new h = (
  h.told,
  h.held,
  ap (λ (d : Device). d.statistics.next_avail) h.device,
  ap (λ (d : Device). d.statistics.next_used) h.device,
)

not_taken : (outcome : Outcome) (new : Store) → HoldsBuffer 3 twenty ready ready outcome old new → ⊥
not_taken outcome new h =
    let e : Same 0 1 = ap (λ (d : Device). d.statistics.next_avail) h.device in omega arith

-- ---- what memory says

-- a rule that is broken leaves a device that needs a reset
a_wrong_chain : (fault : ChainFault) (after : Device) (why : Option Denial) (new : Store) →
    BreaksRule fault ready after why old new →
    (why ≡ Some (Broken fault)) × (after ≡ record ready { status = 79 }) × (new ≡ old)
a_wrong_chain fault after why new h = (h.ends, h.device, h.memory)

-- by the bytes of page 0: those of the entry, of two bytes, the lowest first
abbrev ring : Virtqueue
ring = placed 0 0 0x200 8

a_head : head_in (byte old) (record ring { next_avail = 65534 }) ≡ 0
unfolding byte_at
a_head = refl

its_descriptor : descriptor_in (byte old) ring 0
    ≡ record { addr = 0x605; len = 0; flags = 0; next = 0 }
unfolding byte_at
its_descriptor = refl
