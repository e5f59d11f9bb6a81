-- The kinds of queues, and their numbers (VIRTIO 1.1, 5.5.2; VIRTIO 1.2, 5.5.2).
use Rattle.std.specs.Prelude.{ℕ, Bool, not, List, [], ◌∷◌, ◌++◌, if◌then◌else◌, Option, slice_get}
use Rattle.vb_virtio.specs.declared.layout.TheConstants.{INFLATE_QUEUE, DEFLATE_QUEUE}
use Rattle.vb_virtio.specs.declared.layout.TheConstants.{STATISTICS_QUEUE, REPORT_QUEUE}
use Rattle.vb_virtio.specs.Features.{stats_vq, reporting}
use Rattle.vb_virtio.specs.Queues.{lacks_feature}
use Rattle.vb_core.specs.declared.kinds.Kind.{Kind}
use Rattle.vb_core.specs.declared.kinds.Kind.TheVariants.{Inflate, Deflate, Statistics, Hint}
use Rattle.vb_core.specs.declared.kinds.Kind.TheVariants.{Report}
use Rattle.vb_core.specs.declared.kinds.TheConstants.{HINT_QUEUE}
use Rattle.vb_core.specs.Settings.{free_page_hint}

-- The number of a kind's queue where queues have fixed numbers.
abbrev pub queue_of : Kind → ℕ
queue_of Inflate = INFLATE_QUEUE
queue_of Deflate = DEFLATE_QUEUE
queue_of Statistics = STATISTICS_QUEUE
queue_of Hint = HINT_QUEUE
queue_of Report = REPORT_QUEUE

-- These features leave the kind's queue out.
abbrev pub lacks : ℕ → Kind → Bool
lacks features Hint = not (free_page_hint features)
lacks features kind = lacks_feature features (queue_of kind)

-- The queues that there are with these features, in their order.
abbrev pub kinds : ℕ → List Kind
kinds features =
    Inflate ∷ Deflate ∷
    ((if stats_vq features then Statistics ∷ [] else [])
    ++ (if free_page_hint features then Hint ∷ [] else [])
    ++ (if reporting features then Report ∷ [] else []))

-- Queues are numbered without gaps.
abbrev pub kind_of : ℕ → ℕ → Option Kind
kind_of features number = slice_get (kinds features) number
