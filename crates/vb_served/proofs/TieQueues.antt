-- What a notice makes of a queue is what a device takes and uses.
use Rattle.std.proofs.Common.{◌≡◌, ◌∙◌, sym, refl, ◌*◌, ◌<◌, List}
use Rattle.std.proofs.Common.{length, Some, None, Ok}
use Rattle.vb_ram.specs.{Part.Part}
use Rattle.vb_chain.specs.declared.{pieces.Piece.Piece}
use Rattle.vb_request.specs.{Request.request_length, Statistics.statistics_length}
use Rattle.vb_core.specs.declared.kinds.Kind.{Kind}
use Rattle.vb_core.specs.declared.kinds.Kind.TheVariants.{Inflate, Deflate, Statistics, Hint, Report}
use Rattle.vb_core.specs.declared.{device.{Device.Device}, settings.TheConstants.MEMORY_LIMIT}
use Rattle.vb_core.specs.{Kinds.queue_of, Devices.ring_of}
use Rattle.vb_device.specs.Queues.{next_available}
use Rattle.vb_monitor.specs.declared.outcome.Outcome.{Outcome}
use Rattle.vb_monitor.specs.Chains.{memory_end}
use Rattle.vb_served.specs.{Store.Store, Tied.IsServedAlike}
use Rattle.vb_served.specs.One.{byte, head_in, NextGives, ServesChain, ServesNext}
use Rattle.vb_served.specs.One.{Denied, Jumped, NoneThere, Broke, Found}
use Rattle.vb_served.proofs.TakeLemmas.{takes_jump, takes_fault}
use Rattle.vb_served.proofs.TieLemmas.{IsTie, found_so, fault_so, none_tied, broken_tied}
use Rattle.vb_served.proofs.{TieRequests.{tie_inflate, tie_deflate}, TieStatistics.tie_statistics}
use Rattle.vb_served.proofs.TieReports.{tie_report}

chain_tied : (kind : Kind) (d1 d2 : Device) (outcome : Outcome) (s t : Store) (p1 : Part)
    (pieces : List Piece) → IsTie kind d1 p1 s → 4096 * length s.mem < MEMORY_LIMIT →
    next_available (queue_of kind) s.mem p1 ≡ Ok (Some (head_in (byte s) (ring_of kind d1))) →
    NextGives (byte s) (ring_of kind d1) (memory_end d1) pieces →
    ServesChain kind (head_in (byte s) (ring_of kind d1)) pieces d1 d2 outcome s t →
    IsServedAlike kind d1 d2 outcome s t p1
chain_tied Inflate d1 d2 outcome s t p1 pieces tie small next gives did =
    tie_inflate d1 d2 outcome s t p1 pieces (request_length pieces) tie next gives refl did
chain_tied Deflate d1 d2 outcome s t p1 pieces tie small next gives did =
    tie_deflate d1 d2 outcome s t p1 pieces (request_length pieces) tie next gives refl did
chain_tied Statistics d1 d2 outcome s t p1 pieces tie small next gives did =
    tie_statistics d1 d2 outcome s t p1 pieces (statistics_length pieces) tie next gives refl did
chain_tied Hint d1 d2 outcome s t p1 pieces tie small next gives did =
    absurd (let none = tie.may_take in cc)
chain_tied Report d1 d2 outcome s t p1 pieces tie small next gives did =
    tie_report d1 d2 outcome s t p1 pieces tie next small gives did

-- of each kind, where the queue isn't refused and none of its chains is taken
pub served_alike : (kind : Kind) (d1 d2 : Device) (outcome : Outcome) (s t : Store) (p1 : Part) →
    IsTie kind d1 p1 s → 4096 * length s.mem < MEMORY_LIMIT →
    ServesNext kind d1 d2 outcome s t → IsServedAlike kind d1 d2 outcome s t p1
served_alike kind d1 d2 outcome s t p1 tie small (Denied why e left) =
    absurd (let bad : None ≡ Some why = sym tie.open_so ∙ e in cc)
served_alike kind d1 d2 outcome s t p1 tie small (Jumped fault open_so e left) =
    broken_tied kind d1 d2 outcome s t p1 fault tie
    (takes_jump (queue_of kind) s.mem p1 fault tie.may_take (found_so kind d1 p1 s _ tie e)) left
served_alike kind d1 d2 outcome s t p1 tie small (NoneThere open_so e left) =
    none_tied kind d1 d2 outcome s t p1 tie (found_so kind d1 p1 s _ tie e) left
served_alike kind d1 d2 outcome s t p1 tie small (Broke fault open_so e gives left) =
    broken_tied kind d1 d2 outcome s t p1 fault tie
    (takes_fault (queue_of kind) (head_in (byte s) (ring_of kind d1)) s.mem p1 fault tie.may_take
    (found_so kind d1 p1 s _ tie e) (fault_so kind d1 p1 s fault tie gives)) left
served_alike kind d1 d2 outcome s t p1 tie small (Found pieces open_so e gives did) =
    chain_tied kind d1 d2 outcome s t p1 pieces tie small (found_so kind d1 p1 s _ tie e) gives did
