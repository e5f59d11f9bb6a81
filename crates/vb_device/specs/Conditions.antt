-- What the calls on a device are refused for before they look at guest memory: the tables of the
-- definitions, with the device's own values.
use Rattle.std.specs.Prelude.{ℕ, Bool, length, Option, is_some, slice_get}
use Rattle.vb_virtio.specs.declared.refusals.Refusal.{Refusal}
use Rattle.vb_virtio.specs.Queues.{Request}
use Rattle.vb_virtio.specs.FirstRefusal.{first_refusal}
use Rattle.vb_virtio.specs.Status.{work_causes}
use Rattle.vb_virtio.specs.declared.layout.TheConstants.{STATISTICS_QUEUE}
use Rattle.vb_model.specs.Guest.{is_ballooned}
use Rattle.vb_model.specs.Tables.{Negotiated, take_causes, serve_causes}
use Rattle.vb_model.specs.Tables.{finish_causes}
use Rattle.vb_model.specs.Tables.{sweep_causes, ask_causes}
use Rattle.vb_ram.specs.Part.{Part}
use Rattle.vb_device.specs.Queues.{queue_part}

-- The taken chain of this number, from 0, on a queue.
abbrev pub taken_at : ℕ → ℕ → Part → Option Request
taken_at q index part = slice_get (queue_part q part).taken index

abbrev pub negotiated : Part → Negotiated
negotiated part = record { status = part.status; features = part.features }

abbrev pub take_refusal : ℕ → Part → Option Refusal
take_refusal q part =
    first_refusal (take_causes q (negotiated part) (length (queue_part q part).taken))

abbrev pub work_refusal : Part → Option Refusal
work_refusal part = first_refusal (work_causes part.status)

-- Where its pages are to be visited first, or aren't.
abbrev pub use_refusal : Bool → ℕ → ℕ → Part → Option Refusal
use_refusal visits q index part =
    first_refusal (finish_causes q (negotiated part) visits (taken_at q index part))

abbrev pub finish_refusal : ℕ → ℕ → Part → Option Refusal
finish_refusal q index part = use_refusal part.paced q index part

abbrev pub serve_refusal : ℕ → Part → Option Refusal
serve_refusal q part =
    first_refusal (serve_causes q (negotiated part) (length (queue_part q part).taken))

abbrev pub ask_refusal : Part → Option Refusal
ask_refusal part =
    first_refusal (ask_causes part.status (is_some (taken_at STATISTICS_QUEUE 0 part)))

abbrev pub sweep_refusal : ℕ → Part → Option Refusal
sweep_refusal page part =
    first_refusal (sweep_causes (negotiated part) (is_ballooned part.ballooned page))
