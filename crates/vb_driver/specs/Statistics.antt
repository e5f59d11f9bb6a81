-- What a driver does with the statistics buffer (VIRTIO 1.1, 5.5.6.3).
use Rattle.std.specs.Prelude.{◌≡◌, ◌≢◌, ℕ, ◌<◌, ◌∷◌, Some, None, Result, Ok, IfOk, IfErr, MatchBool}
use Rattle.std.specs.Prelude.{Bool, ◌*◌}
use Rattle.vb_virtio.specs.declared.layout.TheConstants.{STATISTICS_PAGE, STATISTIC_SIZE}
use Rattle.vb_virtio.specs.declared.refusals.Refusal.{Refusal}
use Rattle.vb_virtio.specs.Limits.{page_size}
use Rattle.vb_virtio.specs.FirstRefusal.{first_refusal}
use Rattle.vb_model.specs.Requests.{Figures}
use Rattle.vb_ram.specs.Pages.{Pages, SameIn}
use Rattle.vb_ram.specs.Part.{Part}
use Rattle.vb_chain.specs.Table.{descriptor_at}
use Rattle.vb_ring.specs.Ends.{DriverEnd, after_add, after_take, used_answer}
use Rattle.vb_ring.specs.Calls.{TakesUsedBy}
use Rattle.vb_ring.specs.Frame.{SameOutside}
use Rattle.vb_driver.specs.Coding.{AreFigures, SameButPages}
use Rattle.vb_driver.specs.State.{DriverState, IsDriver, figures_of}
use Rattle.vb_driver.specs.Answers.{refusal_in, stats_causes}
use Rattle.vb_driver.specs.Unchanged.{Unchanged}
use Rattle.vb_driver.specs.Requests.{Announces, written_of, figures_extent}
use Rattle.vb_driver.specs.Reaps.{after_refusal}

-- The statistics buffer goes out with these figures: it has descriptor 0, and its head, 0, is
-- published. Nothing else of memory has changed.
pub record PostsBuffer (m1 m2 : Pages) (r1 r2 : DriverEnd) (figures : Figures) : Type 0 where
  pub state : r2 ≡ after_add r1 1 (Ok 0)
  pub coded : AreFigures m2 r1.layout.table figures
  pub beyond : SameIn m1 m2 STATISTICS_PAGE (2 * STATISTIC_SIZE) page_size
  pub descriptors : (i : ℕ) → i < r1.size → i ≢ 0
      → descriptor_at m2 r1.layout.table i ≡ descriptor_at m1 r1.layout.table i
  pub announces : Announces m1 m2 r1 r2 0
  pub rest : SameButPages m1 m2 r1.layout STATISTICS_PAGE
  pub outside : SameOutside m1 m2 (figures_extent ∷ written_of r1)

-- The driver's end of the queue of statistics, once it has seen that the buffer was used.
abbrev pub emptied : DriverEnd → DriverEnd
emptied ring = after_take ring (Ok (Some 0))

-- The buffer was used, and goes out with the figures of now.
pub record Refills (m1 m2 : Pages) (p1 p2 : Part) (d1 d2 : DriverState) : Type 0 where
  pub used : used_answer m1 d1.statistics ≡ Ok (Some 0)
  pub takes : TakesUsedBy m1 d1.statistics (emptied d1.statistics) (Ok (Some 0))
  pub posts : PostsBuffer m1 m2 (emptied d1.statistics) d2.statistics (figures_of d1)
  pub part : p2 ≡ p1
  pub state : d2 ≡ record d1 { statistics = d2.statistics }

-- The buffer wasn't used, and nothing is changed.
pub record WasntUsed (m1 m2 : Pages) (p1 p2 : Part) (d1 d2 : DriverState) : Type 0 where
  pub unused : used_answer m1 d1.statistics ≡ Ok None
  pub unchanged : Unchanged m1 m2 p1 p2 d1 d2

pub record FillsBy (m1 m2 : Pages) (p1 p2 : Part) (d1 d2 : DriverState)
    (result : Result Bool Refusal) : Type 0 where
  pub driver : IsDriver d1
  pub refusal : refusal_in result ≡ first_refusal (stats_causes m1 p1 d1)
  pub refused : IfErr result (λ refusal. Unchanged m1 m2 (after_refusal refusal p1) p2 d1 d2)
  pub fills : IfOk result (λ filled. MatchBool filled
      (Refills m1 m2 p1 p2 d1 d2) (WasntUsed m1 m2 p1 p2 d1 d2))
