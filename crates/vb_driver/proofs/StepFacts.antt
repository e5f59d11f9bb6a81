-- What the records of a driver's calls say of one state: the answer, and what is left.
use Rattle.std.proofs.Common.{◌≡◌, false, [], ◌∷◌, ap, ◌+◌, ◌<◌, List, ℕ, true}
use Rattle.std.specs.Prelude.{Option, Some, None, Result, Ok, Err, Bool, IsTrue, length}
use Rattle.std.specs.List.{list_all}
use Rattle.vb_pages.specs.PageState.{AllocatesBlock, TakesFree}
use Rattle.vb_pages.specs.declared.fault.PageFault.TheVariants.{NoPages as NoFreeBlock}
use Rattle.vb_model.specs.declared.places.Place.TheVariants.{Reserved, Free, Used, Giving, Lent}
use Rattle.vb_model.specs.declared.places.Place.TheVariants.{Taking, Stranded, Reporting}
use Rattle.vb_virtio.specs.declared.refusals.Refusal.{Refusal}
use Rattle.vb_virtio.specs.FirstRefusal.{refusal_in}
use Rattle.vb_virtio.specs.declared.refusals.Refusal.TheVariants.{NoFeature, NoFrame}
use Rattle.vb_virtio.specs.declared.refusals.Refusal.TheVariants.{VersionMissing, NoPages, NoQueue}
use Rattle.vb_virtio.specs.declared.refusals.Refusal.TheVariants.{NotHeld, Nothing, RingBroken}
use Rattle.vb_virtio.specs.declared.refusals.Refusal.TheVariants.{AlreadyUp, BadCpu}
use Rattle.vb_virtio.specs.Tests.{AllDistinct}
use Rattle.vb_virtio.specs.Layout.{is_ring_page}
use Rattle.vb_model.specs.Pages.{block_at, is_free, place_of, placed}
use Rattle.vb_ring.{specs.Ends.{after_take, used_answer}, specs.Meaning.{Shows, Tracks}}
use Rattle.vb_ring.{specs.Calls.TakesUsedBy, specs.Numbers.numbers, specs.Layout.layout_of}
use Rattle.vb_ram.{specs.Pages.Pages, specs.Part.{Part, no_part}}
use Rattle.vb_driver.{specs.declared.answers.Posted.Posted, specs.Areas.{areas_with, areas_without}}
use Rattle.vb_driver.specs.declared.answers.Reaped.{Reaped}
use Rattle.vb_driver.specs.State.{page_state, figures_of, DriverState}
use Rattle.vb_driver.{specs.State.{fresh_statistics, IsDriver}, specs.Coding.AreZeroed}
use Rattle.vb_driver.specs.Calls.{AllocatesBy, FreesBy, InflatesBy, DeflatesBy, ReportsBy, ReapsBy}
use Rattle.vb_driver.specs.Calls.{Reports, PostsReport, Unchanged, PostsBuffer, emptied, IsNewRing}
use Rattle.vb_driver.specs.Calls.{FillsBy, InitsBy, ResetsBy, DeflatesOnOomBy, Posts, AsksBack}
use Rattle.vb_driver.specs.Calls.{NegotiatesBy}
use Rattle.vb_driver.{specs.Calls.{FirstBuffer, with_nothing_out}, proofs.DriverFacts.busy}

abbrev up : Part
up = record no_part { status = 15 }

-- ---- pages of the guest's own

allocates : (d2 : DriverState) → AllocatesBy busy d2 0 0 (Ok 1)
    → (d2 ≡ record busy {
      places = Reserved ∷ Used ∷ Used ∷ Giving ∷ Lent ∷ Taking ∷ Taking ∷ Stranded ∷ Reporting ∷ [];
      held = block_at 1 0 ∷ [];
      areas = d2.areas;
    }) × AllocatesBlock (page_state busy) 0 0 (Ok 1) (page_state d2)
allocates d2 by = (by.state, by.areas)

allocates_a_used_page : (d2 : DriverState) → AllocatesBy busy d2 0 0 (Ok 2) → ⊥
allocates_a_used_page d2 by = (let wrong : false ≡ true = by.free in absurd cc)

allocates_none : (d2 : DriverState) → (AllocatesBy busy d2 0 4 (Err NoPages)
    → (d2 ≡ record busy { areas = d2.areas })
    × AllocatesBlock (page_state busy) 0 4 (Err NoFreeBlock) (page_state d2))
    × (AllocatesBy busy d2 5 0 (Err BadCpu) → page_state d2 ≡ page_state busy)
    × (FreesBy {T = Bool} busy d2 0 2 0 (Err NotHeld) → d2 ≡ busy)
allocates_none d2 = (λ by. (by.refused, by.areas), λ by. by.areas, λ by. by.refused)

frees : (d2 : DriverState) → FreesBy (record busy { held = block_at 2 0 ∷ [] }) d2 0 2 0 (Ok true)
    → d2 ≡ record busy {
      places = Reserved ∷ Free ∷ Free ∷ Giving ∷ Lent ∷ Taking ∷ Taking ∷ Stranded ∷ Reporting ∷ [];
      areas = record busy.areas { lists = (2 ∷ []) ∷ [] };
    }
frees d2 by = by.state

-- ---- requests: n pages, of these places, and the device's part stays

offers : (m1 m2 : Pages) (p2 : Part) (d2 : DriverState) (posted : Posted)
    → InflatesBy m1 m2 (record up { target = 4 }) p2 busy d2 2 (Ok posted)
    → (others : List ℕ) × IsTrue (list_all (λ page. is_free (place_of busy.places page)) others)
    × AllDistinct others × (1 + length others ≡ 2)
    × Posts m1 m2 busy.inflate d2.inflate 4 (7 ∷ others) posted.head × (posted.pages ≡ 2)
    × (p2 ≡ record up { target = 4 }) × (d2 ≡ record busy {
      places = placed (7 ∷ others) Giving busy.places;
      areas = d2.areas;
      inflate = d2.inflate;
    }) × TakesFree (page_state busy) others (page_state d2)
offers m1 m2 p2 d2 posted by =
    let it = by.offers in
    (it.others, it.free, it.distinct, it.enough, it.posts, it.pages, it.part, it.state, it.areas)

asks_back : (m1 m2 : Pages) (p2 : Part) (d2 : DriverState) (posted : Posted)
    → DeflatesBy m1 m2 up p2 busy d2 5 (Ok posted)
    → (posted.pages ≡ 1) × (p2 ≡ up) × Posts m1 m2 busy.deflate d2.deflate 8 (4 ∷ []) posted.head
    × (d2 ≡ record busy {
      places = placed (4 ∷ []) Taking busy.places;
      deflate = d2.deflate;
    })
asks_back m1 m2 p2 d2 posted by = (by.asks.pages, by.asks.part, by.asks.posts, by.asks.state)

-- a guest that doesn't tell the host has them at once
has_at_once : (m1 m2 : Pages) (p2 : Part) (d2 : DriverState) (posted : Posted)
    → DeflatesBy m1 m2 up p2 (record busy { features = 0 }) d2 5 (Ok posted)
    → d2.places ≡ placed (4 ∷ []) Free busy.places
has_at_once m1 m2 p2 d2 posted by = ap (λ (d : DriverState). d.places) by.asks.state

reports : (m1 m2 : Pages) (p2 : Part) (d2 : DriverState) (posted : Posted)
    → Reports m1 m2 up p2 busy d2 (block_at 1 0 ∷ []) posted
    → PostsReport m1 m2 busy.report d2.report (block_at 1 0 ∷ []) × (posted.head ≡ 0)
    × (posted.pages ≡ 1) × (p2 ≡ up) × (d2 ≡ record busy {
      places = placed (1 ∷ []) Reporting busy.places;
      areas = areas_without (1 ∷ []) busy.areas;
      report = d2.report;
    })
reports m1 m2 p2 d2 posted is = (is.posts, is.head, is.pages, is.part, is.state)

moves_at_any_target : (m1 m2 : Pages) (p1 p2 : Part) (d2 : DriverState) (posted : Posted)
    → (DeflatesOnOomBy m1 m2 p1 p2 busy d2 5 (Ok posted) → AsksBack m1 m2 p1 p2 busy d2 1 posted)
    × (ReportsBy m1 m2 p1 p2 busy d2 0 (Ok posted) → Reports m1 m2 p1 p2 busy d2 [] posted)
moves_at_any_target m1 m2 p1 p2 d2 posted = (λ by. by.asks, λ by. by.reports)

-- ---- a reap: the request's pages are lent, and the device is told how many are given away

reaps : (m1 m2 : Pages) (p2 : Part) (d2 : DriverState)
    → ReapsBy m1 m2 up p2 busy d2 0 (Ok (Some (record { head = 1; pages = 1 })))
    → (m2 ≡ m1) × (p2 ≡ record up { actual = d2.actual })
    × (d2 ≡ record busy {
      places = Reserved ∷ Free ∷ Used ∷ Lent ∷ Lent ∷ Taking ∷ Taking ∷ Stranded ∷ Reporting ∷ [];
      inflate = record {
        number = 0;
        ring = after_take busy.inflate.ring (Ok (Some 1));
        sent = [] ∷ [] ∷ [];
      };
      actual = 4;
    })
reaps m1 m2 p2 d2 by = (by.mem, by.reaps.part, by.reaps.state)

reaps_no_other : (m1 m2 : Pages) (p2 : Part) (d2 : DriverState) (n : ℕ)
    → (ReapsBy m1 m2 up p2 busy d2 0 (Ok (Some (record { head = 1; pages = n }))) → n ≡ 1)
    × (ReapsBy m1 m2 up p2 busy d2 0 (Ok (Some (record { head = n; pages = 0 }))) → n < 16)
reaps_no_other m1 m2 p2 d2 n = (λ by. by.reaps.pages, λ by. by.reaps.small)

reaps_none : (m1 m2 : Pages) (p2 : Part) (d2 : DriverState)
    → ReapsBy m1 m2 up p2 busy d2 0 (Ok None)
    → (m2 ≡ m1) × (p2 ≡ up) × (d2 ≡ busy) × (used_answer m1 busy.inflate.ring ≡ Ok None)
    × TakesUsedBy m1 busy.inflate.ring d2.inflate.ring (used_answer m1 busy.inflate.ring)
reaps_none m1 m2 p2 d2 by = (by.mem, by.reaps.0, by.reaps.1, by.next, by.ring)

-- ---- statistics, and a driver's life

fills_an_unused_buffer : (m1 m2 : Pages) (p2 : Part) (d2 : DriverState)
    → FillsBy m1 m2 up p2 busy d2 (Ok false)
    → (used_answer m1 busy.statistics ≡ Ok None) × Unchanged m1 m2 up p2 busy d2
fills_an_unused_buffer m1 m2 p2 d2 by = (by.fills.unused, by.fills.unchanged)

fills : (m1 m2 : Pages) (p2 : Part) (d2 : DriverState) → FillsBy m1 m2 up p2 busy d2 (Ok true)
    → (used_answer m1 busy.statistics ≡ Ok (Some 0)) × (p2 ≡ up)
    × (d2 ≡ record busy { statistics = d2.statistics })
    × TakesUsedBy m1 busy.statistics (emptied busy.statistics) (Ok (Some 0))
    × PostsBuffer m1 m2 (emptied busy.statistics) d2.statistics (figures_of busy)
fills m1 m2 p2 d2 by =
    let it = by.fills in (it.used, it.part, it.state, it.takes, it.posts)

-- a driver that gives up says so (128 + 2 + 1)
gives_up : (m1 m2 : Pages) (p2 : Part) (d2 : DriverState)
    → InitsBy {T = Bool} m1 m2 (record no_part { target = 9 }) p2 busy d2 1 (Err VersionMissing)
    → (m2 ≡ m1) × (p2 ≡ record no_part { status = 131; features = 1; target = 9 })
    × (d2 ≡ record (with_nothing_out busy) { features = 1 })
gives_up m1 m2 p2 d2 by = (by.refused.mem, by.refused.part, by.refused.driver)

starts : (m1 m2 : Pages) (p2 : Part) (d2 : DriverState)
    → InitsBy m1 m2 (record up { target = 9; actual = 3 }) p2 busy d2 7 (Ok true)
    → (p2 ≡ record no_part { status = 15; features = 7; target = 9 })
    × (d2 ≡ record (with_nothing_out busy) { statistics = d2.statistics; features = 7 })
    × IsNewRing m2 d2.inflate.ring × IsNewRing m2 d2.deflate.ring × IsNewRing m2 d2.report.ring
    × (zeroed : Pages) × AreZeroed m1 zeroed (is_ring_page 8)
    × IsNewRing zeroed (fresh_statistics 8)
    × PostsBuffer zeroed m2 (fresh_statistics 8) d2.statistics (figures_of busy)
starts m1 m2 p2 d2 by =
    let it = by.starts in
    (it.part, it.driver, it.inflate, it.deflate, it.report, it.zeroed, it.rings, it.statistics, it.buffer)

new_rings : (m1 m2 : Pages) (d2 : DriverState)
    → (FirstBuffer false m1 m2 busy d2 → (m2 ≡ m1) × (d2.statistics ≡ fresh_statistics 8))
    × (IsNewRing m2 (fresh_statistics 8)
    → Shows m2 (layout_of 2 8) 8 [] [] × Tracks m2 (fresh_statistics 8) [] [] 0)
new_rings m1 m2 d2 = (λ first. first, λ ring. (ring.shows, ring.tracks))

resets : (m1 m2 : Pages) (p2 : Part) (d2 : DriverState)
    → ResetsBy m1 m2 (record up { target = 9 }) p2 busy d2
    → IsDriver busy × (m2 ≡ m1) × (p2 ≡ record no_part { target = 9 })
    × (d2 ≡ record (with_nothing_out busy) {
      places = Reserved ∷ Free ∷ Used ∷ Stranded ∷ Stranded ∷ Stranded ∷ Stranded ∷ Stranded ∷ Free
          ∷ [];
      areas = areas_with (8 ∷ []) busy.areas;
      features = 0;
    })
resets m1 m2 p2 d2 by = (by.driver, by.mem, by.part, by.state)

-- ---- refusals: each is of a driver, and what is refused leaves nothing changed

abbrev Refuses : {T : Type 0} → Result T Refusal → Refusal → Type 0
Refuses result why = IsDriver busy × (refusal_in result ≡ Some why)

refuse : (m1 m2 : Pages) (p2 : Part) (d2 : DriverState) (posted : Result Posted Refusal)
    (r : Result Bool Refusal) (number : Result ℕ Refusal) (reaped : Result (Option Reaped) Refusal)
    → ((InflatesBy m1 m2 up p2 busy d2 0 posted → Refuses posted Nothing)
    × (DeflatesBy m1 m2 up p2 busy d2 0 posted → Refuses posted Nothing)
    × (DeflatesOnOomBy m1 m2 up p2 busy d2 9 posted → Refuses posted NoFeature))
    × ((ReportsBy m1 m2 up p2 busy d2 0 posted → Refuses posted NoFeature)
    × (AllocatesBy busy d2 5 0 number → Refuses number BadCpu)
    × (FreesBy busy d2 0 2 0 r → Refuses r NotHeld))
    × (ReapsBy m1 m2 up p2 busy d2 2 reaped → Refuses reaped NoQueue)
    × (FillsBy m1 m2 up p2 busy d2 r → Refuses r NoFeature)
    × (InitsBy m1 m2 up p2 busy d2 1 r → Refuses r AlreadyUp)
unfolding numbers
refuse m1 m2 p2 d2 posted r number reaped = (
  (λ by. (by.driver, by.refusal), λ by. (by.driver, by.refusal), λ by. (by.driver, by.refusal)),
  (λ by. (by.driver, by.refusal), λ by. (by.driver, by.refusal), λ by. (by.driver, by.refusal)),
  λ by. (by.driver, by.refusal),
  λ by. (by.driver, by.refusal),
  λ by. (by.driver, by.refusal),
)

leave : (m1 m2 : Pages) (p1 p2 : Part) (d1 d2 : DriverState)
    → ((InflatesBy m1 m2 p1 p2 d1 d2 0 (Err Nothing) → Unchanged m1 m2 p1 p2 d1 d2)
    × (DeflatesBy m1 m2 p1 p2 d1 d2 0 (Err Nothing) → Unchanged m1 m2 p1 p2 d1 d2)
    × (DeflatesOnOomBy m1 m2 p1 p2 d1 d2 0 (Err Nothing) → Unchanged m1 m2 p1 p2 d1 d2)
    × (ReportsBy m1 m2 p1 p2 d1 d2 0 (Err NoFeature) → Unchanged m1 m2 p1 p2 d1 d2))
    × (InitsBy {T = Bool} m1 m2 p1 p2 d1 d2 1 (Err AlreadyUp) → Unchanged m1 m2 p1 p2 d1 d2)
    × (InitsBy {T = Bool} m1 m2 p1 p2 d1 d2 1 (Err NoFrame) → Unchanged m1 m2 p1 p2 d1 d2)
leave m1 m2 p1 p2 d1 d2 = (
  (λ by. by.refused, λ by. by.refused, λ by. by.refused, λ by. by.refused),
  λ by. by.refused,
  λ by. by.refused,
)

gives_up_on_a_ring : (m1 m2 : Pages) (p2 : Part) (d2 : DriverState)
    → (ReapsBy m1 m2 up p2 busy d2 0 (Err RingBroken) → (d2 ≡ busy) × (p2 ≡ record up { status = 143 }))
    × (FillsBy m1 m2 up p2 busy d2 (Err RingBroken)
    → (m2 ≡ m1) × (p2 ≡ record up { status = 143 }) × (d2 ≡ busy))
gives_up_on_a_ring m1 m2 p2 d2 =
    (λ by. (by.refused, by.failed), λ by. (by.refused.mem, by.refused.part, by.refused.driver))

-- ---- features alone: the device is reset, and asked for them

negotiates : (m1 m2 : Pages) (p2 : Part) (d2 : DriverState)
    → NegotiatesBy m1 m2 (record up { target = 9; actual = 3 }) p2 (record busy { actual = 3 }) d2 7
    (Ok true)
    → (m2 ≡ m1) × (p2 ≡ record no_part { status = 11; features = 7; target = 9 })
    × (d2 ≡ record (with_nothing_out busy) { features = 7 })
negotiates m1 m2 p2 d2 by = (by.agrees.mem, by.agrees.part, by.agrees.driver)

negotiates_none : (m1 m2 : Pages) (p1 p2 : Part) (d2 : DriverState) (r : Result Bool Refusal)
    → (NegotiatesBy m1 m2 p1 p2 busy d2 1 r → refusal_in r ≡ Some VersionMissing)
    × (NegotiatesBy {T = Bool} m1 m2 up p2 busy d2 1 (Err VersionMissing)
    → (m2 ≡ m1) × (p2 ≡ record no_part { status = 131; features = 1 })
    × (d2 ≡ record (with_nothing_out busy) { features = 1 }))
negotiates_none m1 m2 p1 p2 d2 r =
    (λ by. by.refusal, λ by. (by.refused.mem, by.refused.part, by.refused.driver))
