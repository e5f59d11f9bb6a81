-- Worked facts of free blocks, allocations, and page reports.
use Rattle.std.proofs.Common.{Bool, List, [], arith, false, map, refl, replicate, true, ℕ, ◌++◌}
use Rattle.std.{proofs.Common.{◌∷◌, ◌≡◌}, specs.Prelude.{None, Option, Some, drop, ◌*◌}}
use Rattle.std.specs.List.{flat_map, range_with_len}
use Rattle.vb_model.proofs.PostingFacts.{just_posted}
use Rattle.vb_virtio.specs.Queues.{Reporting_free, Request}
use Rattle.vb_virtio.specs.declared.refusals.Refusal.TheVariants.{NoFeature, NoPages, NotHeld}
use Rattle.vb_virtio.specs.declared.refusals.Refusal.TheVariants.{NotReady, Nothing, QueueFull}
use Rattle.vb_virtio.specs.FirstRefusal.{first_refusal}
use Rattle.vb_virtio.specs.declared.refusals.Refusal.{Refusal}
use Rattle.vb_model.proofs.Samples.{PerformsJustSo, StepsJustSo, config, down, ready, request}
use Rattle.vb_model.specs.Pages.{Block, all_free, blocks_at, is_free, is_maximal, is_wholly_free}
use Rattle.vb_model.specs.Pages.{maximal_free_blocks, place_of}
use Rattle.vb_model.specs.declared.places.Place.TheVariants.{Free as FreePlace, Giving, Lent, Used}
use Rattle.vb_model.specs.declared.places.Place.TheVariants.{Reporting, Reserved, Stranded, Taking}
use Rattle.vb_model.proofs.Samples.{without_reporting}
use Rattle.vb_model.specs.declared.calls.Call.TheVariants.{Alloc, Free, Reap, Report, Reset}
use Rattle.vb_model.specs.declared.replies.Reply.TheVariants.{Done, NotUsed, Page, Posted, Reaped}
use Rattle.vb_model.specs.Refusals.{causes, refusal_of, reported_blocks}
use Rattle.vb_model.specs.Guest.{Guest}
use Rattle.vb_model.specs.Requests.{IsLeastHead, Requests, no_requests}
use Rattle.vb_model.specs.{Guest.fresh, Step.{HonestStep}, declared.calls.Call.Call}
use Rattle.vb_model.specs.declared.places.Place.{Place}

abbrev block : ℕ → ℕ → Block
block start order = record { start = start; order = order }

-- ---- maximal free blocks: aligned, of order at most 9, wholly free, in no larger such block

-- a hole at page 21: the blocks round it, each at a multiple of its size
abbrev hole : List Place
hole = replicate 16 Reserved ++ (replicate 5 FreePlace ++ (Used ∷ replicate 10 FreePlace))

-- four free pages in a row, but no block of four: they begin at 18
abbrev askew : List Place
askew = replicate 18 Reserved ++ (replicate 4 FreePlace ++ replicate 10 Used)

free_blocks : map maximal_free_blocks (all_free 16 64 ∷ all_free 16 128 ∷ hole ∷ askew
    -- a page at any other place is in no free block
    ∷ (Reserved ∷ Used ∷ Giving ∷ Lent ∷ Taking ∷ Stranded ∷ Reporting ∷ FreePlace ∷ [])
    ∷ replicate 32 Lent ∷ (FreePlace ∷ FreePlace ∷ []) ∷ all_free 16 1024 ∷ [])
    ≡ (block 16 4 ∷ block 32 5 ∷ []) ∷ (block 16 4 ∷ block 32 5 ∷ block 64 6 ∷ [])
    ∷ (block 16 2 ∷ block 20 0 ∷ block 22 1 ∷ block 24 3 ∷ []) ∷ (block 18 1 ∷ block 20 1 ∷ [])
    ∷ (block 7 0 ∷ []) ∷ [] ∷ (block 0 1 ∷ [])
    ∷ (block 16 4 ∷ block 32 5 ∷ block 64 6 ∷ block 128 7 ∷ block 256 8 ∷ block 512 9 ∷ []) ∷ []
free_blocks = refl

-- 512 pages are the largest block, however many more are free
orders : map (λ b. b.order) (blocks_at 7) ≡ 0 ∷ 1 ∷ 2 ∷ 3 ∷ 4 ∷ 5 ∷ 6 ∷ 7 ∷ 8 ∷ 9 ∷ []
orders = refl

abbrev is_maximal_free : List Place → Block → Bool
is_maximal_free places b = is_maximal (λ page. is_free (place_of places page)) b

-- beside another, below the largest, and in a larger one
maximal_ones : is_maximal_free (all_free 16 2048) (block 1024 9)
    ∷ is_maximal_free (all_free 16 1024) (block 256 8)
    ∷ is_maximal_free (all_free 16 1024) (block 512 8) ∷ [] ≡ true ∷ true ∷ false ∷ []
maximal_ones = refl

-- a block past the last page isn't free
past_the_last_page : is_wholly_free (all_free 16 64) (block 64 0) ≡ false
past_the_last_page = refl

-- ---- allocations

-- any wholly free block of the order is held from then on, among the others by rising start
abbrev holding : List Block → List Place → Guest
holding held places = record ready {
  held = held;
  places = replicate 16 Reserved ++ (places ++ replicate 40 FreePlace);
}

allocated : HonestStep
    (holding (block 16 0 ∷ block 22 1 ∷ []) (Used ∷ replicate 5 FreePlace ++ (Used ∷ Used ∷ [])))
    (Alloc 0 1) [] (Page 18) (holding (block 16 0 ∷ block 18 1 ∷ block 22 1 ∷ [])
    (Used ∷ FreePlace ∷ Used ∷ Used ∷ FreePlace ∷ FreePlace ∷ Used ∷ Used ∷ []))
allocated = (refl, (18, refl, refl, refl))

-- a block that goes back is free, and the others are held still
freed : StepsJustSo (holding (block 16 0 ∷ block 18 1 ∷ block 22 1 ∷ [])
    (Used ∷ FreePlace ∷ Used ∷ Used ∷ FreePlace ∷ FreePlace ∷ Used ∷ Used ∷ [])) (Free 0 18 1) []
    Done (holding (block 16 0 ∷ block 22 1 ∷ [])
    (Used ∷ replicate 5 FreePlace ++ (Used ∷ Used ∷ [])))
freed = ((refl, (refl, refl)), λ reply new s. s.1)

-- a block has to be free as a whole, at a multiple of its size; the last page is one too
allocations : refusal_of (record ready { places = replicate 63 Used ++ (FreePlace ∷ []) })
    (Alloc 0 0)
    ∷ map (refusal_of (record ready { places = askew })) (Alloc 0 1 ∷ Alloc 0 2 ∷ []) ≡ None ∷ None
    ∷ Some NoPages ∷ []
allocations = refl

-- the same start with another order, or the same order at another start, isn't held
just_that_block : map (refusal_of (holding (block 16 0 ∷ block 18 1 ∷ []) []))
    (Free 0 18 0 ∷ Free 0 16 1 ∷ Free 0 18 1 ∷ []) ≡ Some NotHeld ∷ Some NotHeld ∷ None ∷ []
just_that_block = refl

-- ---- reports

-- the first maximal free blocks of order 4 or more that start at or after a page, at most as many
-- as the queue has descriptors
abbrev narrow : Guest
narrow = record (fresh (record config { pages = 128; queue_size = 2 }) 0)
    { status = 15; features = 0x100000027 }

just_two_blocks : map (reported_blocks narrow) (0 ∷ 17 ∷ 64 ∷ 65 ∷ [])
    ≡ (block 16 4 ∷ block 32 5 ∷ []) ∷ (block 32 5 ∷ block 64 6 ∷ []) ∷ (block 64 6 ∷ []) ∷ [] ∷ []
just_two_blocks = refl

-- a hole at page 37 leaves blocks of orders 4, 3, 2, 0, 1 and 4: just those of order 4 are offered
abbrev holed : Guest
holed = record ready {
  places = replicate 16 Reserved ++ (replicate 21 FreePlace ++ (Used ∷ replicate 26 FreePlace));
}

no_small_blocks : reported_blocks holed 0 ≡ block 16 4 ∷ block 48 4 ∷ []
no_small_blocks = refl

-- at most 16, however large the queue is, of 17 free blocks of 16 pages with 16 used pages before
-- each
abbrev striped : Guest
striped = record ready {
  config = record config { pages = 1024; queue_size = 128 };
  places = replicate 16 Reserved
      ++ flat_map (λ k. replicate 16 Used ++ replicate 16 FreePlace) (range_with_len 0 17);
}

sixteen_blocks : map (λ b. b.start) (reported_blocks striped 0)
    ≡ map (λ k. 32 * k) (range_with_len 1 16)
sixteen_blocks = refl

-- the reply counts pages, and these pages are reporting, named by the new request
abbrev forty_eight : Request
forty_eight = request 0 (range_with_len 16 48) 0

abbrev reporting : Guest
reporting = record ready {
  places = replicate 16 Reserved ++ replicate 48 Reporting;
  report = record { posted = forty_eight ∷ []; taken = []; done = [] };
}

abbrev two_out : Requests
two_out = record { posted = request 1 [] 0 ∷ []; taken = request 0 [] 0 ∷ []; done = [] }

no_head_out : IsLeastHead no_requests 0
no_head_out = record { new = refl; least = λ h l. absurd (omega arith) }

reported : StepsJustSo ready (Report 0) [] (Posted 0 48) reporting
reported = (
  (refl, (0, no_head_out, refl, refl)),
  λ reply new s. just_posted Reporting_free (range_with_len 16 48) 48 ready 0 no_head_out reply new s.1,
)

reported_from_17 : StepsJustSo ready (Report 17) [] (Posted 0 32) (record ready {
  places = replicate 16 Reserved ++ (replicate 16 FreePlace ++ replicate 32 Reporting);
  report = record { posted = request 0 (range_with_len 32 32) 0 ∷ []; taken = []; done = [] };
})
reported_from_17 = (
  (refl, (0, no_head_out, refl, refl)),
  λ reply new s. just_posted Reporting_free (range_with_len 32 32) 32 ready 0 no_head_out reply new s.1,
)

-- heads of other kinds don't matter
least_head_of_reports : StepsJustSo (record ready { inflate = two_out; deflate = two_out })
    (Report 0) [] (Posted 0 48) (record reporting { inflate = two_out; deflate = two_out })
least_head_of_reports = (
  (refl, (0, no_head_out, refl, refl)),
  λ reply new s. just_posted Reporting_free (range_with_len 16 48) 48
      (record ready { inflate = two_out; deflate = two_out }) 0 no_head_out reply new s.1,
)

-- not ready before no feature before queue full before nothing; one report at a time, in whatever
-- stage it is, and requests of other kinds don't count
reports_in_order : map (λ (g, from). refusal_of g (Report from))
    ((record down { report = reporting.report }, 64)
    ∷ (record without_reporting { report = reporting.report }, 64) ∷ (reporting, 64)
    ∷ (record ready { report = record { posted = []; taken = forty_eight ∷ []; done = [] } }, 0)
    ∷ (record ready { report = record { posted = []; taken = []; done = forty_eight ∷ [] } }, 0)
    ∷ (ready, 33) ∷ (record ready { features = 32 }, 0)
    ∷ (record ready { inflate = reporting.report; deflate = reporting.report }, 0) ∷ [])
    ≡ Some NotReady ∷ Some NoFeature ∷ Some QueueFull ∷ Some QueueFull ∷ Some QueueFull
    ∷ Some Nothing ∷ None ∷ None ∷ []
reports_in_order = refl

-- a reaped report's pages are free again, and so are those of a report that is reset
reaped_report : PerformsJustSo (Reap 4)
    (record reporting { report = record { posted = []; taken = []; done = forty_eight ∷ [] } }) []
    (Reaped 0 48) ready
reaped_report = ((refl, (refl, refl)), λ reply new s. s.1)

reset_report : StepsJustSo reporting Reset [] Done down
reset_report = ((refl, (refl, refl)), λ reply new s. s.1)

not_used_report : PerformsJustSo (Reap 4) reporting [] NotUsed reporting
not_used_report = ((refl, (refl, refl)), λ reply new s. s.1)

abbrev behind_no_queue : Guest → Call → Option Refusal
behind_no_queue g call = first_refusal (drop 1 (causes g call))

-- a reap of queue 4: readiness, then the feature
reap_without_reporting : map (λ g. behind_no_queue g (Reap 4))
    (without_reporting ∷ down ∷ record ready { features = 32 } ∷ []) ≡ Some NoFeature
    ∷ Some NotReady ∷ None ∷ []
reap_without_reporting = refl
